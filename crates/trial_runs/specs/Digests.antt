-- FNV-1a digests, 64 bits wide.
use Rattle.std.specs.Prelude.{ℕ, ◌*◌, ◌%◌, ◌^◌, bit_xor}

-- the digest with one number more
abbrev pub mixed : ℕ → ℕ → ℕ
mixed digest n = bit_xor digest n * 1099511628211 % 2 ^ 64
