-- Fields that are written one behind the other.
use Rattle.std.proofs.Common.{◌≡◌, ℕ, ◌+◌, ◌-◌, ◌≤◌, List, ◌++◌, length, take, drop, sym, ap, ◌∙◌, arith, length-append, length-drop}
use borrow.Rule.Slice.PartMut.{put_mid}
use Rattle.std.proofs.lemmas.List.{length-take-le, take_all}
use Rattle.std.proofs.lemmas.Slice.{take-put_mid}

-- the first a bytes of a row of 32 are `front`
pub record Begun (a : ℕ) (row front : List ℕ) : Type 0 where
  pub long : length row ≡ 32
  pub begins : take a row ≡ front

-- k bytes more
pub field : (a k : ℕ) (row front old new : List ℕ) → a + k ≤ 32 → Begun a row front → old ≡ new → length new ≡ k → Begun (a + k) (put_mid a k row old) (front ++ new)
field a k row front old new within b e wide =
    let size : length old ≡ k = ap length e ∙ wide in
    let rest : length (drop k (drop a row)) ≡ 32 - a - k = length-drop k (drop a row) ∙ ap (λ n. n - k) (length-drop a row ∙ ap (λ n. n - a) b.long) in
    let head : length (take a row) ≡ a = length-take-le a row (omega (arith, b.long)) in
    record {
      long = length-append (take a row) (old ++ drop k (drop a row)) ∙ ap (λ n. length (take a row) + n) (length-append old (drop k (drop a row))) ∙ omega (arith, head, size, rest);
      begins = take-put_mid a k row old (a + k) (omega (arith, size)) (omega (arith, b.long)) ∙ (λ i. b.begins i ++ e i);
    }

-- all 32 bytes
pub whole : (row front : List ℕ) → Begun 32 row front → row ≡ front
whole row front b = sym (take_all 32 row (omega (arith, b.long))) ∙ b.begins
