-- What every counted step keeps.
use Rattle.std.proofs.Common.{◌≡◌, ℕ, zero, suc, ◌+◌, ◌-◌, ◌*◌, ◌<◌, ◌≤◌, ◌≢◌, ◌⊎◌, List, [], ◌∷◌, ◌++◌, length, get_or, set, sym, refl, ap, ◌∙◌, subst, inl, inr, ⊎_elim, mul-le-mul_left, arith, length-append, length-set}
use Rattle.std.specs.List.{AllByRecursion}
use Rattle.std.proofs.ByRecursion.{All-append, All-set, All-get_or}
use Rattle.std.proofs.lemmas.List.{append-nil}
use Rattle.tree.proofs.Wear.{Pair, Shape, State, Step, after_cut, after_join, after_move, after_split, at, bulk, bulk_of, children_at, children_of, height, inner, inner_of, one_at, same, shape, start, total, weight}
use Rattle.tree.proofs.Wear.Step.{cut, join, split_inner, split_leaf, move}
use Rattle.tree.proofs.Sums.{total_append, total_set, total_two}

-- an inner node has at least 4 children
abbrev pub Full : Shape → Type 0
Full n = 4 * inner n ≤ n.children

-- so have all but the root
abbrev pub Tail : List Shape → Type 0
Tail [] = Unit {0}
Tail (r ∷ xs) = AllByRecursion Full xs

-- what every step keeps, for the height h and q children of the root
pub record Keeps (h q : ℕ) (s : State) : Type 0 where
  -- there is a root, and it is no leaf
  pub some : 0 < length s.blocks
  pub high : 1 ≤ h
  pub root_children : 1 ≤ q
  pub root_children₂ : 2 ≤ h → 2 ≤ q
  -- 16 for each move, and what messages still have to fall, are paid for by the height for each update
  pub pace : 16 * s.moves + total weight s.blocks ≤ s.updates * h
  -- each update adds at most 1 to the loads, where a leaf counts at least 120
  pub growth : total bulk s.blocks ≤ s.updates + 120
  -- each block but the root is a child once
  pub kin : total children_of s.blocks + 1 ≡ length s.blocks
  -- the nodes of a level are the children of the level above it, or the root
  pub tiers : (k : ℕ) → total (children_at (suc k)) s.blocks + same h k ≡ total (one_at k) s.blocks
  pub full : Tail s.blocks
  -- a write for each move and for each block beyond the first two
  pub written : s.writes + 2 ≡ s.moves + length s.blocks

abbrev pub Inv : State → Type 0
Inv s = Keeps (height s) (at s 0).children s

pub inv_start : Inv start
unfolding total
inv_start =
    record {
      some = omega arith;
      high = omega arith;
      root_children = omega arith;
      root_children₂ = λ h. absurd (omega arith);
      pace = omega arith;
      growth = omega arith;
      kin = omega arith;
      tiers = elim [ zero ↦ refl | suc k ↦ omega arith ];
      full = omega arith;
      written = omega arith;
    }

from_root : (s : State) (r : Shape) → at s 0 ≡ r → Keeps r.level r.children s → Inv s
from_root s r e k = subst (λ (x : Shape). Keeps x.level x.children s) (sym e) k

bulk_inner : (l m : ℕ) → 0 < l → bulk_of l m ≡ m
bulk_inner zero m h = absurd (omega arith)
bulk_inner (suc l) m h = refl

inner_inner : (l : ℕ) → 0 < l → inner_of l ≡ 1
inner_inner zero h = absurd (omega arith)
inner_inner (suc l) h = refl

-- ---- the cut
total_cut : (f : Shape → ℕ) (s : State) (m₁ m₂ : ℕ) → 0 < length s.blocks
    → total f (after_cut s m₁ m₂).blocks + f (at s 0)
    ≡ total f s.blocks + (f (shape (suc (height s)) 0 2) + (f (shape (height s) m₁ 4) + f (shape (height s) m₂ 4)))
unfolding total
total_cut f s m₁ m₂ h =
    let a = total_append f (set s.blocks 0 (shape (suc (height s)) 0 2)) (shape (height s) m₁ 4 ∷ shape (height s) m₂ 4 ∷ []) in
    let b = total_set f s.blocks 0 (shape (suc (height s)) 0 2) (shape 0 0 0) h in
    omega arith

root_one : (xs : List Shape) (y : Shape) (zs : List Shape) → 0 < length xs → get_or (set xs 0 y ++ zs) 0 (shape 0 0 0) ≡ y
root_one [] y zs h = absurd (omega arith)
root_one (x ∷ xs) y zs h = refl

root_set : (xs : List Shape) (y : Shape) → 0 < length xs → get_or (set xs 0 y) 0 (shape 0 0 0) ≡ y
root_set [] y h = absurd (omega arith)
root_set (x ∷ xs) y h = refl

tail_one : (xs : List Shape) (y : Shape) (zs : List Shape) → 0 < length xs → Tail xs → AllByRecursion Full zs → Tail (set xs 0 y ++ zs)
tail_one [] y zs h t a = absurd (omega arith)
tail_one (x ∷ xs) y zs h t a = All-append Full xs zs t a

tail_set : (xs : List Shape) (y : Shape) → Tail xs → Tail (set xs 0 y)
tail_set [] y t = t
tail_set (x ∷ xs) y t = t

-- p is the root, or it is full as all others
tail_two : (xs : List Shape) (p c : ℕ) (x y : Shape) (zs : List Shape) → 0 < length xs → p < length xs → 0 < c → Tail xs
    → (Full (get_or xs p (shape 0 0 0)) → Full x) → Full y → AllByRecursion Full zs → Tail (set (set xs p x) c y ++ zs)
tail_two [] p c x y zs h hp hc t fx fy fz = absurd (omega arith)
tail_two (r ∷ xs) p zero x y zs h hp hc t fx fy fz = absurd (omega arith)
tail_two (r ∷ xs) zero (suc c) x y zs h hp hc t fx fy fz = All-append Full (set xs c y) zs (All-set Full xs c y fy t) fz
tail_two (r ∷ xs) (suc p) (suc c) x y zs h hp hc t fx fy fz =
    All-append Full (set (set xs p x) c y) zs
    (All-set Full (set xs p x) c y fy (All-set Full xs p x (fx (All-get_or Full xs p (shape 0 0 0) (omega arith) t)) t)) fz

inv_cut : (s : State) (m₁ m₂ : ℕ) → (at s 0).children ≡ 8 → m₁ + m₂ ≡ (at s 0).load → Inv s → Inv (after_cut s m₁ m₂)
inv_cut s m₁ m₂ e8 em i =
    let len : length (after_cut s m₁ m₂).blocks ≡ length s.blocks + 2 = simp (length-append, length-set) in
    let b : (m : ℕ) → bulk_of (height s) m ≡ m = λ m. bulk_inner (height s) m i.high in
    let n : inner_of (height s) ≡ 1 = inner_inner (height s) i.high in
    from_root (after_cut s m₁ m₂) (shape (suc (height s)) 0 2) (root_one s.blocks _ _ i.some)
    record {
      some = omega arith;
      high = omega arith;
      root_children = omega arith;
      root_children₂ = λ h. omega arith;
      pace = omega (arith, total_cut weight s m₁ m₂ i.some, ap (λ x. height s * x) em);
      growth = omega (arith, total_cut bulk s m₁ m₂ i.some, b m₁, b m₂, b (at s 0).load);
      kin = omega (arith, total_cut children_of s m₁ m₂ i.some);
      tiers = λ k. omega (
        arith,
        total_cut (children_at (suc k)) s m₁ m₂ i.some,
        total_cut (one_at k) s m₁ m₂ i.some,
        i.tiers k,
        ap (λ x. same (height s) (suc k) * x) e8,
      );
      full = tail_one s.blocks _ _ i.some i.full (omega arith);
      written = omega arith;
    }

-- ---- the join
inv_join : (s : State) (m : ℕ) → m ≤ (at s 0).load + 1 → Inv s → Inv (after_join s m)
inv_join s m le i =
    let len : length (after_join s m).blocks ≡ length s.blocks = simp length-set in
    let b : (m : ℕ) → bulk_of (height s) m ≡ m = λ m. bulk_inner (height s) m i.high in
    let t : (f : Shape → ℕ) → total f (after_join s m).blocks + f (at s 0) ≡ total f s.blocks + f (shape (height s) m (at s 0).children)
    = λ f. total_set f s.blocks 0 (shape (height s) m (at s 0).children) (shape 0 0 0) i.some in
    from_root (after_join s m) (shape (height s) m (at s 0).children) (root_set s.blocks _ i.some)
    record {
      some = omega arith;
      high = omega arith;
      root_children = omega arith;
      root_children₂ = i.root_children₂;
      pace = omega (arith, t weight, mul-le-mul_left (height s) le);
      growth = omega (arith, t bulk, b m, b (at s 0).load);
      kin = omega (arith, t children_of);
      tiers = λ k. omega (arith, t (children_at (suc k)), t (one_at k), i.tiers k);
      full = tail_set s.blocks _ i.full;
      written = omega arith;
    }

-- ---- a parent and its child written, blocks added
apart : (s : State) (p c : ℕ) → Pair s p c → c ≢ p
apart s p c h e = let l : (at s c).level ≡ (at s p).level = ap (λ x. (at s x).level) e in omega (arith, h.below)

root_two : (xs : List Shape) (p c : ℕ) (x y : Shape) (zs : List Shape) → 0 < length xs → 0 < c
    → ((p ≡ 0) × (get_or (set (set xs p x) c y ++ zs) 0 (shape 0 0 0) ≡ x))
    ⊎ (get_or (set (set xs p x) c y ++ zs) 0 (shape 0 0 0) ≡ get_or xs 0 (shape 0 0 0))
root_two [] p c x y zs h hc = absurd (omega arith)
root_two (r ∷ xs) p zero x y zs h hc = absurd (omega arith)
root_two (r ∷ xs) zero (suc c) x y zs h hc = inl (refl, refl)
root_two (r ∷ xs) (suc p) (suc c) x y zs h hc = inr refl

module _ (s : State) (p c m₁ k₁ m₂ k₂ : ℕ) (pc : Pair s p c) (i : Inv s) where
  total_split : (f : Shape → ℕ) → total f (after_split s p c m₁ k₁ m₂ k₂).blocks + (f (at s p) + f (at s c))
      ≡ total f s.blocks + (f (shape (at s p).level (at s p).load ((at s p).children + 1)) + f (shape (at s c).level m₁ k₁) + f (shape (at s c).level m₂ k₂))
  unfolding total
  total_split f =
      let a = total_two f s.blocks p c (shape (at s p).level (at s p).load ((at s p).children + 1)) (shape (at s c).level m₁ k₁) (shape 0 0 0)
      (shape (at s c).level m₂ k₂ ∷ []) pc.p_in pc.c_in (apart s p c pc) in
      omega arith

  -- q is what the root's children come to
  keeps_split : (q : ℕ) → (at s 0).children ≤ q → m₁ + m₂ ≡ (at s c).load → k₁ + k₂ ≡ (at s c).children
      → bulk_of (at s c).level m₁ + bulk_of (at s c).level m₂ ≡ bulk_of (at s c).level (at s c).load
      → 4 * inner_of (at s c).level ≤ k₁ → 4 * inner_of (at s c).level ≤ k₂
      → Keeps (height s) q (after_split s p c m₁ k₁ m₂ k₂)
  keeps_split q q₁ em ek eb f₁ f₂ =
      let len : length (after_split s p c m₁ k₁ m₂ k₂).blocks ≡ length s.blocks + 1 = simp (length-append, length-set) in
      let lv = pc.below in
      let bp = bulk_inner (at s p).level (at s p).load (omega arith) in
      let sp : (k : ℕ) → same (at s p).level (suc k) ≡ same (at s c).level k = λ k. ap (λ x. same x (suc k)) lv in
      let ks : (k : ℕ) → same (at s c).level k * (at s c).children ≡ same (at s c).level k * k₁ + same (at s c).level k * k₂
      = λ k. ap (λ x. same (at s c).level k * x) (sym ek) ∙ omega arith in
      record {
        some = omega arith;
        high = i.high;
        root_children = omega (arith, i.root_children);
        root_children₂ = λ h. omega (arith, i.root_children₂ h);
        pace = omega (arith, total_split weight, i.pace, ap (λ x. (at s c).level * x) em);
        growth = omega (arith, total_split bulk, i.growth);
        kin = omega (arith, total_split children_of, i.kin);
        tiers = λ k. omega (arith, total_split (children_at (suc k)), total_split (one_at k), i.tiers k, sp k, ks (suc k));
        full = tail_two s.blocks p c _ _ _ i.some pc.p_in pc.c_low i.full (λ f. omega arith) f₁ (f₂, tt);
        written = omega (arith, i.written);
      }

  inv_split : m₁ + m₂ ≡ (at s c).load → k₁ + k₂ ≡ (at s c).children
      → bulk_of (at s c).level m₁ + bulk_of (at s c).level m₂ ≡ bulk_of (at s c).level (at s c).load
      → 4 * inner_of (at s c).level ≤ k₁ → 4 * inner_of (at s c).level ≤ k₂
      → Inv (after_split s p c m₁ k₁ m₂ k₂)
  inv_split em ek eb f₁ f₂ =
      ⊎_elim
      (λ e. let z : at s p ≡ at s 0 = ap (λ b. at s b) e.0 in
      let zk : (at s p).children ≡ (at s 0).children = ap (λ (b : Shape). b.children) z in
      from_root _ (shape (at s p).level (at s p).load ((at s p).children + 1)) e.1
      (subst (λ l. Keeps l ((at s p).children + 1) (after_split s p c m₁ k₁ m₂ k₂)) (sym (ap (λ (b : Shape). b.level) z))
      (keeps_split ((at s p).children + 1) (omega arith) em ek eb f₁ f₂)))
      (λ e. from_root _ (at s 0) e (keeps_split (at s 0).children (omega arith) em ek eb f₁ f₂))
      (root_two s.blocks p c _ _ _ i.some pc.c_low)

bulk_half : (l m₁ m₂ n : ℕ) → l ≡ 0 → m₁ + m₂ ≡ n → 120 ≤ m₁ → 120 ≤ m₂ → bulk_of l m₁ + bulk_of l m₂ ≡ bulk_of l n
bulk_half zero m₁ m₂ n e em h₁ h₂ = omega arith
bulk_half (suc l) m₁ m₂ n e em h₁ h₂ = absurd (omega arith)

bulk_halves : (l m₁ m₂ n : ℕ) → 0 < l → m₁ + m₂ ≡ n → bulk_of l m₁ + bulk_of l m₂ ≡ bulk_of l n
bulk_halves zero m₁ m₂ n h em = absurd (omega arith)
bulk_halves (suc l) m₁ m₂ n h em = em

bulk_more : (l m n : ℕ) → m ≤ n + 16 → bulk_of l m ≤ bulk_of l n + 16
bulk_more zero m n h = omega arith
bulk_more (suc l) m n h = h

inner_leaf : (l : ℕ) → l ≡ 0 → inner_of l ≡ 0
inner_leaf zero h = refl
inner_leaf (suc l) h = absurd (omega arith)

-- ---- the move
lower : (l n : ℕ) → 16 ≤ n → suc l * (n - 16) + (16 * l + 16) ≡ suc l * n
lower l n h = let e : n ≡ n - 16 + 16 = omega arith in omega (arith, ap (λ x. l * x) e)

tail_at : (xs : List Shape) (c : ℕ) → Tail xs → 0 < c → c < length xs → Full (get_or xs c (shape 0 0 0))
tail_at [] c t h hc = absurd (omega arith)
tail_at (r ∷ xs) zero t h hc = absurd (omega arith)
tail_at (r ∷ xs) (suc c) t h hc = All-get_or Full xs c (shape 0 0 0) (omega arith) t

module _ (s : State) (p c m : ℕ) (pc : Pair s p c) (has : 16 ≤ (at s p).load) (le : m ≤ (at s c).load + 16) (i : Inv s) where
  total_move : (f : Shape → ℕ) → total f (after_move s p c m).blocks + (f (at s p) + f (at s c))
      ≡ total f s.blocks + (f (shape (at s p).level ((at s p).load - 16) (at s p).children) + f (shape (at s c).level m (at s c).children))
  unfolding total
  total_move f =
      let a = total_two f s.blocks p c (shape (at s p).level ((at s p).load - 16) (at s p).children) (shape (at s c).level m (at s c).children) (shape 0 0 0)
      [] pc.p_in pc.c_in (apart s p c pc) in
      omega (arith, simp append-nil at a)

  keeps_move : Keeps (height s) (at s 0).children (after_move s p c m)
  keeps_move =
      let len : length (after_move s p c m).blocks ≡ length s.blocks = simp length-set in
      let lv = pc.below in
      let bp = bulk_inner (at s p).level (at s p).load (omega arith) in
      let bq = bulk_inner (at s p).level ((at s p).load - 16) (omega arith) in
      let bc = bulk_more (at s c).level m (at s c).load le in
      let w₁ : (at s p).level * ((at s p).load - 16) + (16 * (at s c).level + 16) ≡ (at s p).level * (at s p).load
      = rw lv (lower (at s c).level (at s p).load has) in
      let w₂ = mul-le-mul_left (at s c).level le in
      record {
        some = omega (arith, i.some);
        high = i.high;
        root_children = i.root_children;
        root_children₂ = i.root_children₂;
        pace = omega (arith, total_move weight, i.pace);
        growth = omega (arith, total_move bulk, i.growth);
        kin = omega (arith, total_move children_of, i.kin);
        tiers = λ k. omega (arith, total_move (children_at (suc k)), total_move (one_at k), i.tiers k);
        full = rw append-nil at (tail_two s.blocks p c (shape (at s p).level ((at s p).load - 16) (at s p).children) (shape (at s c).level m (at s c).children) [] i.some pc.p_in pc.c_low i.full (λ f. f)
            (tail_at s.blocks c i.full pc.c_low pc.c_in) tt);
        written = omega (arith, i.written);
      }

  inv_move : Inv (after_move s p c m)
  inv_move =
      ⊎_elim
      (λ e. let z : at s p ≡ at s 0 = ap (λ b. at s b) e.0 in
      from_root _ (shape (at s p).level ((at s p).load - 16) (at s p).children) (rw append-nil at e.1)
      (subst (λ (r : Shape). Keeps r.level r.children (after_move s p c m)) (sym z) keeps_move))
      (λ e. from_root _ (at s 0) (rw append-nil at e) keeps_move)
      (root_two s.blocks p c (shape (at s p).level ((at s p).load - 16) (at s p).children) (shape (at s c).level m (at s c).children) [] i.some pc.c_low)

pub inv_step : (s t : State) → Step s t → Inv s → Inv t
inv_step s t (cut m₁ m₂ e8 em) i = inv_cut s m₁ m₂ e8 em i
inv_step s t (join m le) i = inv_join s m le i
inv_step s t (split_inner p c m₁ m₂ pc hl e8 em) i =
    let n = inner_inner (at s c).level hl in
    inv_split s p c m₁ 4 m₂ 4 pc i em (sym e8) (bulk_halves (at s c).level m₁ m₂ (at s c).load hl em) (omega arith) (omega arith)
inv_step s t (split_leaf p c m₁ m₂ pc hl e0 h em h₁ h₂) i =
    let n = inner_leaf (at s c).level hl in
    inv_split s p c m₁ 0 m₂ 0 pc i em (sym e0) (bulk_half (at s c).level m₁ m₂ (at s c).load hl em h₁ h₂) (omega arith) (omega arith)
inv_step s t (move p c m pc has le) i = inv_move s p c m pc has le i
