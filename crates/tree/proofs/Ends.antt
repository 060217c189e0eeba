-- The bounds that follow from what is kept.
use Rattle.std.proofs.Common.{◌≡◌, ℕ, zero, suc, ◌+◌, ◌-◌, ◌*◌, ◌^◌, ◌<◌, ◌≤◌, ◌≢◌, List, [], ◌∷◌, length, get_or, refl, ap, ◌∙◌, mul-le-mul_left, arith}
use Rattle.std.specs.List.{AllByRecursion}
use Rattle.tree.proofs.Wear.{Shape, State, Worn, bulk, bulk_of, children_at, children_of, height, inner, inner_of, one_at, same, shape, total}
use Rattle.tree.proofs.Sums.{total_le, total_same, total_one}
use Rattle.tree.proofs.Keeps.{Inv, Full, Tail}

same_le : (l : ℕ) → 120 * same l 0 ≤ 120
same_le zero = omega arith
same_le (suc l) = omega arith

leaves_bulk : (x : Shape) → 120 * one_at 0 x ≤ bulk x
leaves_bulk x = go x.level x.load
  where
    go : (l m : ℕ) → 120 * same l 0 ≤ bulk_of l m
    go zero m = omega arith
    go (suc l) m = omega arith

leaf_or_inner : (x : Shape) → one_at 0 x + inner x ≡ 1
leaf_or_inner x = go x.level
  where
    go : (l : ℕ) → same l 0 + inner_of l ≡ 1
    go zero = refl
    go (suc l) = refl

scaled : (a : ℕ) (f : Shape → ℕ) (xs : List Shape) → total (λ x. a * f x) xs ≡ a * total f xs
unfolding total
scaled a f [] = omega arith
scaled a f (x ∷ xs) = let e = scaled a f xs in omega arith

-- every node but the root is full
full_all : (xs : List Shape) → AllByRecursion Full xs → 4 * total inner xs ≤ total children_of xs
unfolding total
full_all [] a = omega arith
full_all (x ∷ xs) a = let e = full_all xs a.1 in omega (arith, a.0)

full_at : (k : ℕ) (xs : List Shape) → AllByRecursion Full xs → 4 * total (one_at (suc k)) xs ≤ total (children_at (suc k)) xs
unfolding total
full_at k [] a = omega arith
full_at k (x ∷ xs) a = let e = full_at k xs a.1 in omega (arith, go x.level x.children a.0)
  where
    go : (l q : ℕ) → 4 * inner_of l ≤ q → 4 * same l (suc k) ≤ same l (suc k) * q
    go zero q h = omega arith
    go (suc l) q h = omega (arith, mul-le-mul_left (same l k) h)

forks : (xs : List Shape) → 0 < length xs → Tail xs → 4 * total inner xs + (get_or xs 0 (shape 0 0 0)).children ≤ total children_of xs + 4
unfolding total
forks [] h t = absurd (omega arith)
forks (r ∷ xs) h t = let e = full_all xs t in omega (arith, go r.level)
  where
    go : (l : ℕ) → inner_of l ≤ 1
    go zero = omega arith
    go (suc l) = omega arith

-- at a level below the root's
fan : (k : ℕ) (xs : List Shape) → 0 < length xs → Tail xs → same (get_or xs 0 (shape 0 0 0)).level (suc k) ≡ 0
    → 4 * total (one_at (suc k)) xs ≤ total (children_at (suc k)) xs
unfolding total
fan k [] h t e = absurd (omega arith)
fan k (r ∷ xs) h t e = let f = full_at k xs t in omega arith

-- at the root's level
fan_root : (k : ℕ) (xs : List Shape) → 0 < length xs → (get_or xs 0 (shape 0 0 0)).level ≡ suc k
    → (get_or xs 0 (shape 0 0 0)).children ≤ total (children_at (suc k)) xs
unfolding total
fan_root k [] h e = absurd (omega arith)
fan_root k (r ∷ xs) h e = let f : same r.level (suc k) * r.children ≡ 1 * r.children = ap (λ x. x * r.children) (ap (λ x. same x (suc k)) e ∙ same_self k) in omega arith
  where
    same_self : (k : ℕ) → same (suc k) (suc k) ≡ 1
    same_self zero = refl
    same_self (suc k) = same_self k

same_other : (m n : ℕ) → m ≢ n → same m n ≡ 0
same_other zero zero h = absurd (h refl)
same_other zero (suc n) h = refl
same_other (suc m) zero h = refl
same_other (suc m) (suc n) h = same_other m n (λ e. h (ap suc e))

-- the number of nodes j levels below the root's children
wide : (s : State) → Inv s → 2 ≤ height s → (j k : ℕ) → j + suc k ≡ height s → 2 * 4 ^ j ≤ total (one_at k) s.blocks
wide s i h2 zero k e =
    let h : height s ≡ suc k = omega arith in
    omega (arith, fan_root k s.blocks i.some h, i.tiers k, i.root_children₂ h2)
wide s i h2 (suc j) k e =
    let w = wide s i h2 j (suc k) (omega arith) in
    let z : same (height s) (suc k) ≡ 0 = same_other (height s) (suc k) (omega arith) in
    let f = fan k s.blocks i.some i.full z in
    omega (arith, i.tiers k)

pub ends : (s : State) → Inv s → Worn s
ends s i =
    let b = total_le (λ x. 120 * one_at 0 x) bulk leaves_bulk s.blocks in
    let c = scaled 120 (one_at 0) s.blocks in
    let n = total_same (one_at 0) inner (λ x. 1) leaf_or_inner s.blocks in
    let l = total_one s.blocks in
    let f = forks s.blocks i.some i.full in
    record {
      pace = omega arith;
      tall = λ h. omega (arith, wide s i h (height s - 1) 0 (omega arith));
      room = omega arith;
    }
