-- Words of 64 bits read as signed numbers, in two's complement.
use Rattle.std.specs.Prelude.{ℕ, ℤ}
use Rattle.std.specs.Int.{w64}
use Rattle.std.proofs.Common.{to_z, of_z}

-- the number that a word means
abbrev pub signed : ℕ → ℤ
signed w = to_z w64 w

-- the word of a number
abbrev pub word : ℤ → ℕ
word z = of_z w64 z
