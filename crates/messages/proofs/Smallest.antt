-- The messages of a span lie together where keys rise.
use Rattle.std.proofs.Common.{◌≡◌, ℕ, suc, ◌-◌, ◌<◌, ◌≤◌, min, false, ltb, leb, List, [], ◌∷◌, take, drop, filter, sym, refl, ap, ◌∙◌, ⊎_elim, arith}
use Rattle.std.proofs.lemmas.List.{take-take, take_all, length-take}
use Rattle.std.proofs.lemmas.Bool.{and_right, lt-ltb, le-ltb, le-leb, lt-leb, cases_lt}
use Rattle.messages.specs.BatchLaw.{in_span, BatchIsSmallest}
use Rattle.messages.specs.Lists.{Within, below, most_moving, pending}
use Rattle.messages.proofs.Places.{below_none}
use Rattle.messages.specs.declared.entry.Entry.{Entry}
use Rattle.messages.specs.declared.message.Message.{Message}

none_inside : (low high from upto : ℕ) (xs : List (Entry Message)) → Within from upto xs → high ≤ from → filter (in_span low high) xs ≡ []
none_inside low high from upto [] w h = refl
none_inside low high from upto (x ∷ xs) w h =
    let rest = none_inside low high (suc x.key) upto xs w.2 (omega (arith, w.0)) in
    let out : in_span low high x ≡ false = and_right (leb low x.key) (ltb x.key high) (le-ltb x.key high (omega (arith, w.0))) in
    rw out rest

minus_zero : (n : ℕ) → n - 0 ≡ n
minus_zero n = omega arith

-- the run from the place of low up to the place of high is what lies in the span
run : (low high from upto : ℕ) (xs : List (Entry Message)) → Within from upto xs → take (pending low high xs) (drop (below low xs) xs) ≡ filter (in_span low high) xs
run low high from upto [] w = refl
run low high from upto (x ∷ xs) w =
    let k = x.key in
    let a = below low xs in
    let b = below high xs in
    let ih = run low high (suc k) upto xs w.2 in
    ⊎_elim
    (λ (l : k < low). ⊎_elim
    (λ (h : k < high).
    let z : suc b - suc a ≡ b - a = omega arith in
    rw (lt-ltb k low l, lt-ltb k high h, lt-leb low k l) (ap (λ n. take n (drop a xs)) z ∙ ih))
    (λ (h : high ≤ k).
    let z : 0 - suc a ≡ 0 = omega arith in
    rw (lt-ltb k low l, le-ltb k high h, lt-leb low k l) (ap (λ n. take n (drop a xs)) z ∙ sym (none_inside low high (suc k) upto xs w.2 (omega arith))))
    (cases_lt k high))
    (λ (l : low ≤ k).
    let none : a ≡ 0 = below_none low (suc k) upto xs w.2 (omega arith) in
    ⊎_elim
    (λ (h : k < high).
    rw (le-ltb k low l, lt-ltb k high h, le-leb low k l)
    (ap (λ n. take n (x ∷ xs)) (minus_zero (suc b)) ∙ ap (λ n. x ∷ n) (ap (λ n. take n xs) (sym (minus_zero b)) ∙ rw none at ih)))
    (λ (h : high ≤ k). rw (le-ltb k low l, le-ltb k high h, le-leb low k l) (sym (none_inside low high (suc k) upto xs w.2 (omega arith))))
    (cases_lt k high))
    (cases_lt k low)

take_min : {X : Type 0} (n m : ℕ) (xs : List X) → take (min m n) xs ≡ take m (take n xs)
take_min n m xs = ⊎_elim
    (λ (h : n < m). let e : min m n ≡ n = omega arith in ap (λ k. take k xs) e ∙ sym (take_all m (take n xs) (rw length-take (omega arith))))
    (λ (h : m ≤ n). let e : min m n ≡ m = omega arith in ap (λ k. take k xs) e ∙ sym (take-take m n xs (omega arith)))
    (cases_lt n m)

pub smallest : BatchIsSmallest
smallest from upto low high xs w = take_min (pending low high xs) most_moving (drop (below low xs) xs) ∙ ap (take most_moving) (run low high from upto xs w)
