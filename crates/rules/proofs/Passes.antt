-- One row more in a pass over a table of entries.
use Rattle.std.proofs.Common.{◌≡◌, ℕ, suc, ◌+◌, ◌-◌, ◌<◌, Bool, true, false, ◌&&◌, ltb, leb, List, map, drop, sym, refl, ap, ◌∙◌, add-one, arith}
use Rattle.std.proofs.Math.Bool.{and_assoc}
use Rattle.rows.specs.Coding.{Coding}
use Rattle.rows.specs.Tables.{values_of, all_rows}
use Rattle.rules.specs.Keys.{rising, rows_in_order}

-- the tests of one row come to the front
tests_first : (o a b k r s : Bool) → (o && ((a && (b && r)) && (k && s))) ≡ (((o && (a && b)) && k) && (r && s))
tests_first false a b k r s = refl
tests_first true false b k r s = refl
tests_first true true false k r s = refl
tests_first true true true k true s = refl
tests_first true true true true false s = refl
tests_first true true true false false s = refl

module _ {X : Type 0} (c : Coding X) (n i : ℕ) (rest tail : List ℕ) (less : i < n) (next : tail ≡ drop c.size rest) where
  one_left : n - i ≡ suc (n - (i + 1))
  one_left = omega arith

  pub order_more : (key : X → ℕ) (test : List ℕ → Bool) (low high k : ℕ) (all o fits known : Bool) → k ≡ key (c.decode rest) → fits ≡ (leb low k && ltb k high) → known ≡ test rest → all ≡ (o && rows_in_order c key test low high (n - i) rest) → all ≡ (((o && fits) && known) && rows_in_order c key test (k + 1) high (n - (i + 1)) tail)
  order_more key test low high k all o fits known ek ef en inv =
      let left = n - (i + 1) in
      let x = key (c.decode rest) in
      let r = rising (suc x) high (map key (values_of c left (drop c.size rest))) in
      let s = all_rows test c.size left (drop c.size rest) in
      inv ∙ ap (λ m. o && rows_in_order c key test low high m rest) one_left ∙ tests_first o (leb low x) (ltb x high) (test rest) r s
      ∙ sym ((λ j. ((o && (ef ∙ (λ h. leb low (ek h) && ltb (ek h) high)) j) && en j) && rows_in_order c key test ((add-one k ∙ ap suc ek) j) high left (next j)))

  pub exact_more : (test : List ℕ → Bool) (all o exact : Bool) → exact ≡ test rest → all ≡ (o && all_rows test c.size (n - i) rest) → all ≡ ((o && exact) && all_rows test c.size (n - (i + 1)) tail)
  exact_more test all o exact ee inv =
      let left = n - (i + 1) in
      inv ∙ ap (λ m. o && all_rows test c.size m rest) one_left ∙ sym (and_assoc o (test rest) (all_rows test c.size left (drop c.size rest)))
      ∙ sym (λ j. (o && ee j) && all_rows test c.size left (next j))
