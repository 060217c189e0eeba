-- The record in the middle of a leaf.
use Rattle.std.proofs.Common.{◌≡◌, ℕ, zero, suc, ◌<◌, List, [], ◌∷◌, length, get_or, ap, arith}
use Rattle.messages.specs.declared.entry.Entry.{Entry}
use Rattle.tree.specs.Operations.{key_at}

-- the key of the record that stands at a place
pub key_there : (xs : List (Entry ℕ)) (i : ℕ) (x : Entry ℕ) → i < length xs → x ≡ get_or xs i x → x.key ≡ key_at i xs
key_there [] i x h e = absurd (omega (arith, h))
key_there (y ∷ xs) zero x h e = ap (λ z. z.key) e
key_there (y ∷ xs) (suc i) x h e = key_there xs i x (omega (arith, h)) e
