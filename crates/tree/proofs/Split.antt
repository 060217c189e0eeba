-- A split leaves a tree, and what it says of every key.
use Rattle.std.proofs.Common.{◌≡◌, ℕ, zero, suc, ◌+◌, ◌^◌, ◌<◌, ◌≤◌, false, ltb, ◌≢◌, ◌⊎◌, List, [], ◌∷◌, length, get_or, set, None, Option, sym, refl, ap, ◌∙◌, subst, inl, inr, ⊎_elim, arith, length-append, length-set, get_or-set_other, get_or-set_same}
use Rattle.std.proofs.lemmas.Bool.{cases_lt, cases_eq, lt-ltb, le-ltb}
use Rattle.std.proofs.lemmas.List.{get_or_append_left, get_or_at}
use Rattle.messages.specs.Algebra.{Algebra}
use Rattle.messages.specs.Lists.{Within, find}
use Rattle.tree.proofs.Reached.{CanSplit}
use Rattle.tree.specs.Lookup.{acts, look, lookup}
use Rattle.tree.specs.Nodes.{Node, child, no_node, node, pick}
use Rattle.tree.specs.Operations.{insert, split, with_new_child}
use Rattle.tree.specs.Shape.{In, Child, Children, Sound, Tree}
use Rattle.tree.proofs.Frames.{Took, Part, children_part, children_same, children_some, place_same, Place, child_same, part_wider, part_child, in_or_out, sound_same}
use Rattle.tree.proofs.Move.{inner_sound, took}

-- ---- the children of the parent, at a key
-- j is the place of c among the children
pick_low : (a : List Node) (l low high : ℕ) (cs ps : List ℕ) (j q n k : ℕ) → Children a l low high cs ps → j < length cs → low ≤ k
    → In k (node a (get_or cs j 0)).frame → k < q → (node a (get_or cs j 0)).frame.low < q → q < (node a (get_or cs j 0)).frame.high
    → pick (insert (suc j) n cs) (insert j q ps) k ≡ get_or cs j 0
pick_low a l low high [] ps j q n k h hj p i b u v = absurd h
pick_low a l low high (c ∷ []) [] zero q n k h hj p i b u v = rw (lt-ltb k q b)
pick_low a l low high (c ∷ []) [] (suc j) q n k h hj p i b u v = absurd (omega arith)
pick_low a l low high (c ∷ d ∷ cs) [] j q n k h hj p i b u v = absurd h
pick_low a l low high (c ∷ cs) (r ∷ ps) zero q n k h hj p i b u v = rw (lt-ltb k q b)
pick_low a l low high (c ∷ cs) (r ∷ ps) (suc j) q n k h hj p i b u v =
    let w = children_part a l r high r cs ps j h.1 (omega arith) (omega arith) in
    let g : ltb k r ≡ false = le-ltb k r (omega (arith, w.above, i.low)) in
    rw g (pick_low a l r high cs ps j q n k h.1 (omega arith) (omega (arith, w.above, i.low)) i b u v)

pick_high : (a : List Node) (l low high : ℕ) (cs ps : List ℕ) (j q n k : ℕ) → Children a l low high cs ps → j < length cs → low ≤ k
    → In k (node a (get_or cs j 0)).frame → q ≤ k → (node a (get_or cs j 0)).frame.low < q → q < (node a (get_or cs j 0)).frame.high
    → pick (insert (suc j) n cs) (insert j q ps) k ≡ n
pick_high a l low high [] ps j q n k h hj p i b u v = absurd h
pick_high a l low high (c ∷ []) [] zero q n k h hj p i b u v = rw (le-ltb k q b)
pick_high a l low high (c ∷ []) [] (suc j) q n k h hj p i b u v = absurd (omega arith)
pick_high a l low high (c ∷ d ∷ cs) [] j q n k h hj p i b u v = absurd h
pick_high a l low high (c ∷ cs) (r ∷ ps) zero q n k h hj p i b u v = rw (le-ltb k q b, lt-ltb k r (omega (arith, h.0.upto, i.high)))
pick_high a l low high (c ∷ cs) (r ∷ ps) (suc j) q n k h hj p i b u v =
    let w = children_part a l r high r cs ps j h.1 (omega arith) (omega arith) in
    let g : ltb k r ≡ false = le-ltb k r (omega (arith, w.above, i.low)) in
    rw g (pick_high a l r high cs ps j q n k h.1 (omega arith) (omega (arith, w.above, i.low)) i b u v)

pick_else : (a : List Node) (l low high : ℕ) (cs ps : List ℕ) (j q n k : ℕ) → Children a l low high cs ps → j < length cs → low ≤ k → k < high
    → (In k (node a (get_or cs j 0)).frame → ⊥) → (node a (get_or cs j 0)).frame.low < q → q < (node a (get_or cs j 0)).frame.high
    → pick (insert (suc j) n cs) (insert j q ps) k ≡ pick cs ps k
pick_else a l low high [] ps j q n k h hj p b i u v = absurd h
pick_else a l low high (c ∷ []) [] zero q n k h hj p b i u v = absurd (i record { low = omega (arith, h.from); high = omega (arith, h.upto) })
pick_else a l low high (c ∷ []) [] (suc j) q n k h hj p b i u v = absurd (omega arith)
pick_else a l low high (c ∷ d ∷ cs) [] j q n k h hj p b i u v = absurd h
pick_else a l low high (c ∷ cs) (r ∷ ps) zero q n k h hj p b i u v =
    ⊎_elim
    (λ g. absurd (i record { low = omega (arith, h.0.from); high = omega (arith, h.0.upto) }))
    (λ g. rw (le-ltb k q (omega (arith, h.0.upto)), le-ltb k r g))
    (cases_lt k r)
pick_else a l low high (c ∷ cs) (r ∷ ps) (suc j) q n k h hj p b i u v =
    ⊎_elim
    (λ g. rw (lt-ltb k r g))
    (λ g. rw (le-ltb k r g) (pick_else a l r high cs ps j q n k h.1 (omega arith) g b i u v))
    (cases_lt k r)

-- the children of the parent after the split: all but c stand where they stood
children_split : (a a' : List Node) (l low high : ℕ) (cs ps : List ℕ) (j q n : ℕ) → Children a l low high cs ps → j < length cs → length a ≤ length a'
    → ((d : ℕ) → d ≢ get_or cs j 0 → Part a l d low high → Place (node a' d).frame (node a d).frame)
    → Child a' l (get_or cs j 0) (node a (get_or cs j 0)).frame.low q → Child a' l n q (node a (get_or cs j 0)).frame.high
    → Children a' l low high (insert (suc j) n cs) (insert j q ps)
children_split a a' l low high [] ps j q n h hj e f y z = absurd h
children_split a a' l low high (c ∷ []) [] zero q n h hj e f y z =
    (subst (λ x. Child a' l c x q) h.from y, subst (λ x. Child a' l n q x) h.upto z)
children_split a a' l low high (c ∷ []) [] (suc j) q n h hj e f y z = absurd (omega arith)
children_split a a' l low high (c ∷ d ∷ cs) [] j q n h hj e f y z = absurd h
children_split a a' l low high (c ∷ cs) (r ∷ ps) zero q n h hj e f y z = (
  subst (λ x. Child a' l c x q) h.0.from y,
  (
    subst (λ x. Child a' l n q x) h.0.upto z,
    children_same a a' l r high r cs ps e (omega arith) (λ d pt. f d
        (λ g. let u : (node a d).frame.low ≡ (node a c).frame.low = ap (λ x. (node a x).frame.low) g in
        omega (arith, pt.above, h.0.from, h.0.nonempty))
        (part_wider a l d r high low (omega (arith, h.0.nonempty)) pt)) h.1,
  ),
)
children_split a a' l low high (c ∷ cs) (r ∷ ps) (suc j) q n h hj e f y z =
    let w = children_part a l r high r cs ps j h.1 (omega arith) (omega arith) in
    let s = children_some a l r high cs ps h.1 in (
      child_same a a' l c low r e (f c
          (λ g. let u : (node a c).frame.low ≡ (node a (get_or cs j 0)).frame.low = ap (λ x. (node a x).frame.low) g in
          omega (arith, w.above, h.0.from, h.0.nonempty))
          (part_child a l c low r low high h.0 (omega arith) (omega arith))) h.0,
      children_split a a' l r high cs ps j q n h.1 (omega arith) e
          (λ d g pt. f d g (part_wider a l d r high low (omega (arith, h.0.nonempty)) pt)) y z,
    )

module _ (a : List Node) (t : Tree a) (p j c q l : ℕ) (y z : Node) (m : CanSplit a p j c q y z) (pl : (node a p).frame.level ≡ suc l) where
  is_sound : Within (node a p).frame.low (node a p).frame.high (node a p).messages
      × Children a l (node a p).frame.low (node a p).frame.high (node a p).frame.children (node a p).frame.pivots
  is_sound = inner_sound a l _ (node a p) pl (t.sound p m.p_in)

  pub part : Part a l c (node a p).frame.low (node a p).frame.high
  part = subst (λ x. Part a l x (node a p).frame.low (node a p).frame.high) m.is
      (children_part a l _ _ _ (node a p).frame.children (node a p).frame.pivots j is_sound.1 m.j_in (omega arith))

  c≢p : c ≢ p
  c≢p e = let z : (node a c).frame.level ≡ (node a p).frame.level = ap (λ x. (node a x).frame.level) e in omega (arith, part.level_is)

  pub len : length (split a p j c q y z) ≡ length a + 1
  len = simp (length-append, length-set)

  at_old : (b : ℕ) → b < length a → node (split a p j c q y z) b ≡ node (set (set a p (with_new_child j q (length a) (node a p))) c y) b
  at_old b h = get_or_append_left (set (set a p (with_new_child j q (length a) (node a p))) c y) (z ∷ []) no_node b (simp length-set h)

  pub at_c : node (split a p j c q y z) c ≡ y
  at_c = at_old c part.inside ∙ get_or-set_same _ c _ no_node (simp length-set part.inside)

  pub at_p : node (split a p j c q y z) p ≡ with_new_child j q (length a) (node a p)
  at_p = at_old p m.p_in ∙ get_or-set_other _ c p _ no_node (λ e. c≢p (sym e)) ∙ get_or-set_same a p _ no_node m.p_in

  pub at_else : (b : ℕ) → b < length a → b ≢ c → b ≢ p → node (split a p j c q y z) b ≡ node a b
  at_else b h e f = at_old b h ∙ get_or-set_other _ c b _ no_node e ∙ get_or-set_other a p b _ no_node f

  pub at_new : node (split a p j c q y z) (length a) ≡ z
  at_new = get_or_at (set (set a p (with_new_child j q (length a) (node a p))) c y) z [] no_node (length a) (simp length-set)

  -- all but c stand where they stood
  stays : (b : ℕ) → b < length a → b ≢ c → Place (node (split a p j c q y z) b).frame (node a b).frame
  stays b h e = ⊎_elim
      (λ f. rw f (rw at_p (record { level_is = refl; from = refl; upto = refl })))
      (λ f. place_same _ _ (ap (λ (x : Node). x.frame) (at_else b h e f)))
      (cases_eq b p)

  -- c is a child of no other
  lone : (b k : ℕ) → b < length a → (node a b).frame.level ≡ suc l → In k (node a b).frame → In k (node a c).frame → b ≡ p
  lone b k hb e h i = t.apart b p k hb m.p_in (omega arith) h (record { low = omega (arith, part.above, i.low); high = omega (arith, part.under, i.high) })

  -- ---- the split leaves a tree
  longer : length a ≤ length (split a p j c q y z)
  longer = omega (arith, len)

  child_c : Child (split a p j c q y z) l c (node a c).frame.low q
  child_c =
      record {
        inside = omega (arith, len, part.inside);
        not_root = part.not_root;
        level_is = ap (λ (x : Node). x.frame.level) at_c ∙ m.halves.level_y ∙ part.level_is;
        from = ap (λ (x : Node). x.frame.low) at_c ∙ m.halves.low_y;
        upto = ap (λ (x : Node). x.frame.high) at_c ∙ m.halves.high_y;
        nonempty = m.halves.over;
      }

  child_new : Child (split a p j c q y z) l (length a) q (node a c).frame.high
  child_new =
      record {
        inside = omega (arith, len);
        not_root = t.has_root;
        level_is = ap (λ (x : Node). x.frame.level) at_new ∙ m.halves.level_z ∙ part.level_is;
        from = ap (λ (x : Node). x.frame.low) at_new ∙ m.halves.low_z;
        upto = ap (λ (x : Node). x.frame.high) at_new ∙ m.halves.high_z;
        nonempty = m.halves.under;
      }

  sound_p : Sound (split a p j c q y z) (suc l) (with_new_child j q (length a) (node a p))
  sound_p = (
    is_sound.0,
    children_split a (split a p j c q y z) l _ _ (node a p).frame.children (node a p).frame.pivots j q (length a) is_sound.1 m.j_in longer
        (λ d n pt. stays d pt.inside (λ f. n (f ∙ sym m.is)))
        (rw m.is child_c) (rw m.is child_new),
  )

  -- a half's children are no c
  half_same : (x : Node) → Sound a (node a c).frame.level x → Sound (split a p j c q y z) (node a c).frame.level x
  half_same x s = sound_same a (split a p j c q y z) (node a c).frame.level x longer
      (λ e d f pt. stays d pt.inside (λ g. let w : (node a d).frame.level ≡ (node a c).frame.level = ap (λ x. (node a x).frame.level) g in omega (arith, pt.level_is))) s

  else_same : (b : ℕ) → b < length a → b ≢ p → Sound (split a p j c q y z) (node a b).frame.level (node a b)
  else_same b h n = sound_same a (split a p j c q y z) (node a b).frame.level (node a b) longer
      (λ e d f pt. stays d pt.inside (λ g.
      let w : (node a d).frame.level ≡ (node a c).frame.level = ap (λ x. (node a x).frame.level) g in
      let u : (node a d).frame.low ≡ (node a c).frame.low = ap (λ x. (node a x).frame.low) g in
      n (lone b (node a c).frame.low h (omega (arith, pt.level_is, part.level_is))
      (record { low = omega (arith, pt.above); high = omega (arith, pt.under, pt.nonempty) })
      (record { low = omega arith; high = omega (arith, part.nonempty) }))))
      (t.sound b h)

  sound_after : (b : ℕ) → b < length (split a p j c q y z) → Sound (split a p j c q y z) (node (split a p j c q y z) b).frame.level (node (split a p j c q y z) b)
  sound_after b h = ⊎_elim
      (λ e. rw e (rw at_c (subst (λ i. Sound (split a p j c q y z) i y) (sym m.halves.level_y) (half_same y m.halves.sound_y))))
      (λ e. ⊎_elim
      (λ f. rw f (rw at_p (subst (λ i. Sound (split a p j c q y z) i (with_new_child j q (length a) (node a p))) (sym pl) sound_p)))
      (λ f. ⊎_elim
      (λ g. rw (at_else b g e f) (else_same b g f))
      (λ g. let w : b ≡ length a = omega (arith, len) in rw w (rw at_new (subst (λ i. Sound (split a p j c q y z) i z) (sym m.halves.level_z) (half_same z m.halves.sound_z))))
      (cases_lt b (length a)))
      (cases_eq b p))
      (cases_eq b c)

  -- the block that a block comes from
  record Origin (b : ℕ) : Type 0 where
    old : ℕ
    inside : old < length a
    level_is : (node (split a p j c q y z) b).frame.level ≡ (node a old).frame.level
    has : (k : ℕ) → In k (node (split a p j c q y z) b).frame → In k (node a old).frame
    tag : ((b ≡ old) × (old ≢ c)) ⊎ ((old ≡ c) × (((b ≡ c) × ((k : ℕ) → In k (node (split a p j c q y z) b).frame → k < q))
        ⊎ ((b ≡ length a) × ((k : ℕ) → In k (node (split a p j c q y z) b).frame → q ≤ k))))

  low_of : (b d : ℕ) → b ≡ d → (node (split a p j c q y z) b).frame.low ≡ (node (split a p j c q y z) d).frame.low
  low_of b d e = ap (λ x. (node (split a p j c q y z) x).frame.low) e

  high_of : (b d : ℕ) → b ≡ d → (node (split a p j c q y z) b).frame.high ≡ (node (split a p j c q y z) d).frame.high
  high_of b d e = ap (λ x. (node (split a p j c q y z) x).frame.high) e

  origin : (b : ℕ) → b < length (split a p j c q y z) → Origin b
  origin b h = ⊎_elim
      (λ e. record {
        old = c;
        inside = part.inside;
        level_is = ap (λ x. (node (split a p j c q y z) x).frame.level) e ∙ child_c.level_is ∙ sym part.level_is;
        has = λ k i. let u = low_of b c e in let v = high_of b c e in
            record { low = omega (arith, i.low, child_c.from); high = omega (arith, i.high, child_c.upto, m.halves.under) };
        tag = inr (refl, inl (e, λ k i. let v = high_of b c e in omega (arith, i.high, child_c.upto)));
      })
      (λ e. ⊎_elim
      (λ g. let s = stays b g e in record {
        old = b;
        inside = g;
        level_is = s.level_is;
        has = λ k i. record { low = omega (arith, i.low, s.from); high = omega (arith, i.high, s.upto) };
        tag = inl (refl, e);
      })
      (λ g. let w : b ≡ length a = omega (arith, len) in record {
        old = c;
        inside = part.inside;
        level_is = ap (λ x. (node (split a p j c q y z) x).frame.level) w ∙ child_new.level_is ∙ sym part.level_is;
        has = λ k i. let u = low_of b (length a) w in let v = high_of b (length a) w in
            record { low = omega (arith, i.low, child_new.from, m.halves.over); high = omega (arith, i.high, child_new.upto) };
        tag = inr (refl, inr (w, λ k i. let u = low_of b (length a) w in omega (arith, i.low, child_new.from)));
      })
      (cases_lt b (length a)))
      (cases_eq b c)

  origin_pos : (b : ℕ) → 0 < b → (o : Origin b) → 0 < o.old
  origin_pos b g o = ⊎_elim (λ f. omega (arith, f.0)) (λ f. omega (arith, f.0, part.not_root)) o.tag

  apart_after : (b d k : ℕ) → b < length (split a p j c q y z) → d < length (split a p j c q y z)
      → (node (split a p j c q y z) b).frame.level ≡ (node (split a p j c q y z) d).frame.level
      → In k (node (split a p j c q y z) b).frame → In k (node (split a p j c q y z) d).frame → b ≡ d
  apart_after b d k hb hd e i i' = go o.tag o'.tag
    where
      o : Origin b
      o = origin b hb

      o' : Origin d
      o' = origin d hd

      same : o.old ≡ o'.old
      same = t.apart o.old o'.old k o.inside o'.inside (sym o.level_is ∙ e ∙ o'.level_is) (o.has k i) (o'.has k i')

      go : ((b ≡ o.old) × (o.old ≢ c)) ⊎ ((o.old ≡ c) × (((b ≡ c) × ((k : ℕ) → In k (node (split a p j c q y z) b).frame → k < q))
          ⊎ ((b ≡ length a) × ((k : ℕ) → In k (node (split a p j c q y z) b).frame → q ≤ k))))
          → ((d ≡ o'.old) × (o'.old ≢ c)) ⊎ ((o'.old ≡ c) × (((d ≡ c) × ((k : ℕ) → In k (node (split a p j c q y z) d).frame → k < q))
          ⊎ ((d ≡ length a) × ((k : ℕ) → In k (node (split a p j c q y z) d).frame → q ≤ k)))) → b ≡ d
      go (inl f) (inl g) = f.0 ∙ same ∙ sym g.0
      go (inl f) (inr g) = absurd (f.1 (same ∙ g.0))
      go (inr f) (inl g) = absurd (g.1 (sym same ∙ f.0))
      go (inr f) (inr g) = both f.1 g.1
        where
          both : ((b ≡ c) × ((k : ℕ) → In k (node (split a p j c q y z) b).frame → k < q))
              ⊎ ((b ≡ length a) × ((k : ℕ) → In k (node (split a p j c q y z) b).frame → q ≤ k))
              → ((d ≡ c) × ((k : ℕ) → In k (node (split a p j c q y z) d).frame → k < q))
              ⊎ ((d ≡ length a) × ((k : ℕ) → In k (node (split a p j c q y z) d).frame → q ≤ k)) → b ≡ d
          both (inl x) (inl y) = x.0 ∙ sym y.0
          both (inl x) (inr y) = absurd (omega (arith, x.1 k i, y.1 k i'))
          both (inr x) (inl y) = absurd (omega (arith, x.1 k i, y.1 k i'))
          both (inr x) (inr y) = x.0 ∙ sym y.0

  pub split_tree : Tree (split a p j c q y z)
  split_tree =
      let n : 0 ≢ c = λ z. omega (arith, part.not_root) in
      let s = stays 0 t.has_root n in
      record {
        has_root = omega (arith, len);
        root_from_zero = s.from ∙ t.root_from_zero;
        root_to_end = s.upto ∙ t.root_to_end;
        root_inner = omega (arith, t.root_inner, s.level_is);
        root_highest = λ b h g. let o = origin b h in omega (arith, o.level_is, s.level_is, t.root_highest o.old o.inside (origin_pos b g o));
        sound = sound_after;
        apart = apart_after;
      }

  module _ (K : Algebra) where
    abbrev Under : ℕ → Node → ℕ → Option ℕ
    Under i x k = acts K k x.messages (look K i (split a p j c q y z) (child x.frame k) k)

    pub record Says (i b k : ℕ) : Type 0 where
      pub else : b ≢ c → look K i (split a p j c q y z) b k ≡ look K i a b k
      pub low : b ≡ c → k < q → look K i (split a p j c q y z) c k ≡ look K i a c k
      pub high : b ≡ c → q ≤ k → look K i (split a p j c q y z) (length a) k ≡ look K i a c k

    under_p : (i k : ℕ) → In k (node a p).frame → Took a i (child (node a p).frame k) k → i ≡ l → Says i (child (node a p).frame k) k
        → look K (suc i) (split a p j c q y z) p k ≡ look K (suc i) a p k
    under_p i k h tk e ih =
        let d = child (node a p).frame k in
        let A : ℕ → Option ℕ = λ b. acts K k (node a p).messages (look K i (split a p j c q y z) b k) in
        let u : (node a (get_or (node a p).frame.children j 0)).frame.low < q = rw m.is m.halves.over in
        let v : q < (node a (get_or (node a p).frame.children j 0)).frame.high = rw m.is m.halves.under in
        ap (λ (x : Node). Under i x k) at_p ∙ ⊎_elim
        (λ o. let s : d ≡ c = t.apart d c k tk.inside part.inside (omega (arith, tk.level_is, part.level_is)) tk.has o in
        let o' : In k (node a (get_or (node a p).frame.children j 0)).frame = rw m.is o in
        ⊎_elim
        (λ g. ap A (pick_low a l _ _ (node a p).frame.children (node a p).frame.pivots j q (length a) k is_sound.1 m.j_in h.low o' g u v ∙ m.is)
        ∙ ap (acts K k (node a p).messages) (ih.low s g ∙ ap (λ x. look K i a x k) (sym s)))
        (λ g. ap A (pick_high a l _ _ (node a p).frame.children (node a p).frame.pivots j q (length a) k is_sound.1 m.j_in h.low o' g u v)
        ∙ ap (acts K k (node a p).messages) (ih.high s g ∙ ap (λ x. look K i a x k) (sym s)))
        (cases_lt k q))
        (λ o. ap A (pick_else a l _ _ (node a p).frame.children (node a p).frame.pivots j q (length a) k is_sound.1 m.j_in h.low h.high
        (λ r. o (rw m.is at r)) u v)
        ∙ ap (acts K k (node a p).messages) (ih.else (λ s. o (subst (λ x. In k (node a x).frame) s tk.has))))
        (in_or_out k (node a c).frame)

    says : (i b k : ℕ) → b < length a → (node a b).frame.level ≡ i → In k (node a b).frame → Says i b k
    says zero b k hb e h =
        record {
          else = λ n. ap (λ (x : Node). find k x.records) (at_else b hb n
              (λ f. let z : (node a b).frame.level ≡ (node a p).frame.level = ap (λ x. (node a x).frame.level) f in omega arith));
          low = λ f g. ap (λ (x : Node). find k x.records) at_c
              ∙ (m.halves.says_y K k None (subst (λ x. (node a x).frame.low ≤ k) f h.low) g).0;
          high = λ f g. ap (λ (x : Node). find k x.records) at_new
              ∙ (m.halves.says_z K k None g (subst (λ x. k < (node a x).frame.high) f h.high)).0;
        }
    says (suc i) b k hb e h =
        let d = child (node a b).frame k in
        let tk = took a t i b k hb e h in
        let ih = says i d k tk.inside tk.level_is tk.has in
        -- of c
        let ihc : b ≡ c → look K i (split a p j c q y z) (child (node a c).frame k) k ≡ look K i a (child (node a c).frame k) k = λ f.
        subst (λ x. look K i (split a p j c q y z) (child (node a x).frame k) k ≡ look K i a (child (node a x).frame k) k) f
        (ih.else (λ g. let z : (node a d).frame.level ≡ (node a c).frame.level = ap (λ x. (node a x).frame.level) g in
        let w : (node a b).frame.level ≡ (node a c).frame.level = ap (λ x. (node a x).frame.level) f in
        omega (arith, tk.level_is))) in
        record {
          else = λ n. ⊎_elim
              (λ f. let w : (node a b).frame.level ≡ (node a p).frame.level = ap (λ x. (node a x).frame.level) f in
              subst (λ x. look K (suc i) (split a p j c q y z) x k ≡ look K (suc i) a x k) (sym f)
              (under_p i k (subst (λ x. In k (node a x).frame) f h) (subst (λ x. Took a i (child (node a x).frame k) k) f tk) (omega arith)
              (subst (λ x. Says i (child (node a x).frame k) k) f ih)))
              (λ f. ap (λ (x : Node). Under i x k) (at_else b hb n f) ∙ ap (acts K k (node a b).messages) (ih.else (λ g.
              let w : (node a c).frame.level ≡ i = subst (λ x. (node a x).frame.level ≡ i) g tk.level_is in
              f (lone b k hb (omega (arith, part.level_is)) h (subst (λ x. In k (node a x).frame) g tk.has)))))
              (cases_eq b p);
          low = λ f g. let s = m.halves.says_y K k (look K i (split a p j c q y z) (child y.frame k) k) (subst (λ x. (node a x).frame.low ≤ k) f h.low) g in
              ap (λ (x : Node). Under i x k) at_c ∙ s.1
              ∙ ap (λ x. acts K k (node a c).messages (look K i (split a p j c q y z) x k)) s.2 ∙ ap (acts K k (node a c).messages) (ihc f);
          high = λ f g. let s = m.halves.says_z K k (look K i (split a p j c q y z) (child z.frame k) k) g (subst (λ x. k < (node a x).frame.high) f h.high) in
              ap (λ (x : Node). Under i x k) at_new ∙ s.1
              ∙ ap (λ x. acts K k (node a c).messages (look K i (split a p j c q y z) x k)) s.2 ∙ ap (acts K k (node a c).messages) (ihc f);
        }

    pub split_lookup : (k : ℕ) → k < 2 ^ 32 → lookup K (split a p j c q y z) k ≡ lookup K a k
    split_lookup k h =
        let n : 0 ≢ c = λ z. omega (arith, part.not_root) in
        ap (λ l. look K l (split a p j c q y z) 0 k) (stays 0 t.has_root n).level_is
        ∙ (says (node a 0).frame.level 0 k t.has_root refl (record { low = omega (arith, t.root_from_zero); high = omega (arith, t.root_to_end) })).else n
