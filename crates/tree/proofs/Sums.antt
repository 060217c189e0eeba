-- Sums over blocks, after one or two writes and blocks added at the end.
use Rattle.std.proofs.Common.{◌≡◌, ℕ, zero, suc, ◌+◌, ◌<◌, ◌≤◌, ◌≢◌, List, [], ◌∷◌, ◌++◌, length, get_or, set, refl, ap, arith, length-set, get_or-set_other}
use Rattle.tree.proofs.Wear.{Shape, total}

pub total_append : (f : Shape → ℕ) (xs ys : List Shape) → total f (xs ++ ys) ≡ total f xs + total f ys
unfolding total
total_append f [] ys = omega arith
total_append f (x ∷ xs) ys = let h = total_append f xs ys in omega arith

pub total_set : (f : Shape → ℕ) (xs : List Shape) (i : ℕ) (y d : Shape) → i < length xs
    → total f (set xs i y) + f (get_or xs i d) ≡ total f xs + f y
unfolding total
total_set f [] i y d h = absurd (omega arith)
total_set f (x ∷ xs) zero y d h = omega arith
total_set f (x ∷ xs) (suc i) y d h = let e = total_set f xs i y d (omega arith) in omega arith

pub total_le : (f g : Shape → ℕ) → ((x : Shape) → f x ≤ g x) → (xs : List Shape) → total f xs ≤ total g xs
unfolding total
total_le f g h [] = omega arith
total_le f g h (x ∷ xs) = let e = total_le f g h xs in omega (arith, h x)

pub total_same : (f g h : Shape → ℕ) → ((x : Shape) → f x + g x ≡ h x) → (xs : List Shape) → total f xs + total g xs ≡ total h xs
unfolding total
total_same f g h e [] = omega arith
total_same f g h e (x ∷ xs) = let i = total_same f g h e xs in omega (arith, e x)

pub total_one : (xs : List Shape) → total (λ x. 1) xs ≡ length xs
unfolding total
total_one [] = refl
total_one (x ∷ xs) = let e = total_one xs in omega arith

-- two writes at different places, and blocks added
pub total_two : (f : Shape → ℕ) (xs : List Shape) (p c : ℕ) (x y d : Shape) (zs : List Shape) → p < length xs → c < length xs → c ≢ p
    → total f (set (set xs p x) c y ++ zs) + (f (get_or xs p d) + f (get_or xs c d)) ≡ total f xs + (f x + f y + total f zs)
total_two f xs p c x y d zs hp hc ne =
    let a = total_append f (set (set xs p x) c y) zs in
    let b = total_set f (set xs p x) c y d (simp length-set hc) in
    let e = total_set f xs p x d hp in
    let g : f (get_or (set xs p x) c d) ≡ f (get_or xs c d) = ap f (get_or-set_other xs p c x d ne) in
    omega arith
