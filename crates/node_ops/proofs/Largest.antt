-- The largest of numbers told by their places, from the last place to the first.
use Rattle.std.proofs.Common.{◌≡◌, ℕ, suc, ◌+◌, ◌-◌, ◌<◌, ◌≤◌, true, false, leb, List, ◌∷◌, map, get_or, refl, ap, ◌∙◌, ⊎_elim, arith}
use Rattle.std.specs.List.{range_with_len}
use Rattle.std.proofs.lemmas.Bool.{cases_lt}
use Rattle.std.proofs.lemmas.Bool.Decides.{nat_tests}
use Rattle.tree.specs.Update.{largest}

-- the numbers from place j on
abbrev pub from : (ℕ → ℕ) → ℕ → ℕ → List ℕ
from f n j = map f (range_with_len j (n - j))

pub from_more : (f : ℕ → ℕ) (n j : ℕ) → j < n → from f n j ≡ f j ∷ from f n (j + 1)
from_more f n j h = let e : n - j ≡ suc (n - (j + 1)) = omega arith in ap (λ k. map f (range_with_len j k)) e

-- what is known of the numbers from place j on: the place of the largest, and that number
abbrev pub Best : (ℕ → ℕ) → ℕ → ℕ → ℕ → ℕ → Type 0
Best f n j best most = (j ≤ n) × (best ≡ j + largest (from f n j)) × (most ≡ get_or (from f n j) (largest (from f n j)) 0) × (j < n → best < n)

-- no number is left past the last
pub best_none : (f : ℕ → ℕ) (n j : ℕ) → j ≡ n → Best f n j j 0
best_none f n j last =
    let gone : n - j ≡ 0 = omega arith in
    rw gone (omega arith, omega arith, refl, λ inside. inside)

-- the number at place j is no smaller than those after it
pub best_here : (f : ℕ → ℕ) (n j k best most p : ℕ) → k ≡ j + 1 → Best f n k best most → p ≡ f j → most ≤ p → Best f n j j p
best_here f n j k best most p next b is le =
    let t : leb (get_or (from f n (j + 1)) (largest (from f n (j + 1))) 0) (f j) ≡ true = let e = rw next at b.2 in grind (arith, nat_tests) in
    rw (from_more f n j (omega arith), t) (omega arith, omega arith, is, λ inside. inside)

-- it is smaller than one after it
pub best_after : (f : ℕ → ℕ) (n j k best most p : ℕ) → k ≡ j + 1 → Best f n k best most → p ≡ f j → p < most → Best f n j best most
best_after f n j k best most p next b is lt =
    let below : best < n = ⊎_elim
    (λ (more : k < n). b.3 more)
    (λ (none : n ≤ k). let gone : n - k ≡ 0 = omega arith in let zero_most : most ≡ 0 = rw gone at b.2 in absurd (omega arith))
    (cases_lt k n) in
    let e = rw next at b.2 in
    let i = rw next at b.1 in
    let t : leb (get_or (from f n (j + 1)) (largest (from f n (j + 1))) 0) (f j) ≡ false = grind (arith, nat_tests) in
    rw (from_more f n j (omega arith), t) (omega arith, omega arith, e, λ inside. below)

-- all numbers are passed
pub best_all : (f : ℕ → ℕ) (n m j best most : ℕ) → j ≡ 0 → n ≡ m → Best f n j best most → best ≡ largest (map f (range_with_len 0 m))
best_all f n m j best most first same b =
    let all : n - j ≡ m = omega arith in
    let is : best ≡ 0 + largest (map f (range_with_len 0 m)) = b.1 ∙ (λ i. first i + largest (map f (range_with_len (first i) (all i)))) in
    omega (arith, is)
