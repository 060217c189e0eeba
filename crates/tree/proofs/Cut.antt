-- A cut of the root and a join leave a tree, and what it says of keys is as it must be.
use Rattle.std.proofs.Common.{◌≡◌, ℕ, zero, suc, ◌+◌, ◌-◌, ◌^◌, ◌<◌, ◌≤◌, cond, ltb, List, [], ◌∷◌, length, get_or, set, None, sym, refl, ap, ◌∙◌, subst, ⊎_elim, arith, length-append, length-set, get_or-set_other, get_or-set_same}
use Rattle.std.proofs.lemmas.Bool.{cases_lt, cases_eq, lt-ltb, le-ltb}
use Rattle.std.proofs.lemmas.List.{get_or_append_left, get_or_at, get_or-append_right}
use Rattle.messages.specs.Algebra.{Algebra}
use Rattle.messages.specs.Lists.{entry, find, join_in}
use Rattle.messages.specs.declared.message.Message.{Message}
use Rattle.tree.proofs.Reached.{Halved}
use Rattle.tree.specs.Lookup.{acts, look, lookup}
use Rattle.tree.specs.Nodes.{Frame, Node, child, no_node, node}
use Rattle.tree.specs.Operations.{cut, joined, new_root, with_message}
use Rattle.tree.specs.Shape.{In, Child, Sound, Tree}
use Rattle.tree.proofs.Lists.{within_join, acts_join}
use Rattle.tree.proofs.Frames.{sound_same, place_same, Place}
use Rattle.tree.proofs.Move.{inner_sound, took}

module _ (a : List Node) (t : Tree a) (q : ℕ) (y z : Node) (m : Halved a q (node a 0) y z) where
  pub len : length (cut a q y z) ≡ length a + 2
  len = simp (length-append, length-set)

  pub at_root : node (cut a q y z) 0 ≡ new_root q (length a) (node a 0)
  at_root = get_or_append_left (set a 0 (new_root q (length a) (node a 0))) (y ∷ z ∷ []) no_node 0 (simp length-set t.has_root) ∙ get_or-set_same a 0 _ no_node t.has_root

  pub at_old : (b : ℕ) → b < length a → 0 < b → node (cut a q y z) b ≡ node a b
  at_old b h g = get_or_append_left (set a 0 (new_root q (length a) (node a 0))) (y ∷ z ∷ []) no_node b (simp length-set h) ∙ get_or-set_other a 0 b _ no_node (omega arith)

  pub at_y : node (cut a q y z) (length a) ≡ y
  at_y = get_or_at (set a 0 (new_root q (length a) (node a 0))) y (z ∷ []) no_node (length a) (simp length-set)

  pub at_z : node (cut a q y z) (suc (length a)) ≡ z
  at_z = get_or-append_right (set a 0 (new_root q (length a) (node a 0))) (y ∷ z ∷ []) (length a) (suc (length a)) no_node (simp length-set) (omega arith)
      ∙ ap (λ i. get_or (y ∷ z ∷ []) i no_node) (let e : suc (length a) - length a ≡ 1 = omega arith in e)

  stays : (b : ℕ) → b < length a → 0 < b → Place (node (cut a q y z) b).frame (node a b).frame
  stays b h g = place_same _ _ (ap (λ (x : Node). x.frame) (at_old b h g))

  longer : length a ≤ length (cut a q y z)
  longer = omega (arith, len)

  -- ---- what is said after the cut
  module _ (K : Algebra) where
    says : (i b k : ℕ) → b < length a → 0 < b → (node a b).frame.level ≡ i → In k (node a b).frame → look K i (cut a q y z) b k ≡ look K i a b k
    says zero b k hb g e h = ap (λ (x : Node). find k x.records) (at_old b hb g)
    says (suc i) b k hb g e h =
        let tk = took a t i b k hb e h in
        ap (λ (x : Node). acts K k x.messages (look K i (cut a q y z) (child x.frame k) k)) (at_old b hb g)
        ∙ ap (acts K k (node a b).messages) (says i (child (node a b).frame k) k tk.inside tk.not_root tk.level_is tk.has)

    root_low : (i k : ℕ) → (node a 0).frame.level ≡ i → In k (node a 0).frame → k < q → look K i (cut a q y z) (length a) k ≡ look K i a 0 k
    root_low zero k e h g = ap (λ (x : Node). find k x.records) at_y ∙ (m.says_y K k None h.low g).0
    root_low (suc i) k e h g =
        let tk = took a t i 0 k t.has_root e h in
        let s = m.says_y K k (look K i (cut a q y z) (child y.frame k) k) h.low g in
        ap (λ (x : Node). acts K k x.messages (look K i (cut a q y z) (child x.frame k) k)) at_y ∙ s.1
        ∙ ap (λ d. acts K k (node a 0).messages (look K i (cut a q y z) d k)) s.2
        ∙ ap (acts K k (node a 0).messages) (says i (child (node a 0).frame k) k tk.inside tk.not_root tk.level_is tk.has)

    root_high : (i k : ℕ) → (node a 0).frame.level ≡ i → In k (node a 0).frame → q ≤ k → look K i (cut a q y z) (suc (length a)) k ≡ look K i a 0 k
    root_high zero k e h g = ap (λ (x : Node). find k x.records) at_z ∙ (m.says_z K k None g h.high).0
    root_high (suc i) k e h g =
        let tk = took a t i 0 k t.has_root e h in
        let s = m.says_z K k (look K i (cut a q y z) (child z.frame k) k) g h.high in
        ap (λ (x : Node). acts K k x.messages (look K i (cut a q y z) (child x.frame k) k)) at_z ∙ s.1
        ∙ ap (λ d. acts K k (node a 0).messages (look K i (cut a q y z) d k)) s.2
        ∙ ap (acts K k (node a 0).messages) (says i (child (node a 0).frame k) k tk.inside tk.not_root tk.level_is tk.has)

    pub cut_lookup : (k : ℕ) → k < 2 ^ 32 → lookup K (cut a q y z) k ≡ lookup K a k
    cut_lookup k h =
        let i : In k (node a 0).frame = record { low = omega (arith, t.root_from_zero); high = omega (arith, t.root_to_end) } in
        ap (λ (x : Node). look K x.frame.level (cut a q y z) 0 k) at_root
        ∙ ap (λ (x : Node). acts K k x.messages (look K (node a 0).frame.level (cut a q y z) (child x.frame k) k)) at_root
        ∙ ⊎_elim
        (λ g. ap (λ d. look K (node a 0).frame.level (cut a q y z) d k) (let e : cond (ltb k q) (length a) (suc (length a)) ≡ length a = rw (lt-ltb k q g) in e)
        ∙ root_low (node a 0).frame.level k refl i g)
        (λ g. ap (λ d. look K (node a 0).frame.level (cut a q y z) d k) (let e : cond (ltb k q) (length a) (suc (length a)) ≡ suc (length a) = rw (le-ltb k q g) in e)
        ∙ root_high (node a 0).frame.level k refl i g)
        (cases_lt k q)

  -- ---- the cut leaves a tree
  kept : (i : ℕ) (x : Node) → Sound a i x → Sound (cut a q y z) i x
  kept i x s = sound_same a (cut a q y z) i x longer (λ e d f pt. stays d pt.inside pt.not_root) s

  child_y : Child (cut a q y z) (node a 0).frame.level (length a) (node a 0).frame.low q
  child_y =
      record {
        inside = omega (arith, len);
        not_root = t.has_root;
        level_is = ap (λ (x : Node). x.frame.level) at_y ∙ m.level_y;
        from = ap (λ (x : Node). x.frame.low) at_y ∙ m.low_y;
        upto = ap (λ (x : Node). x.frame.high) at_y ∙ m.high_y;
        nonempty = m.over;
      }

  child_z : Child (cut a q y z) (node a 0).frame.level (suc (length a)) q (node a 0).frame.high
  child_z =
      record {
        inside = omega (arith, len);
        not_root = omega arith;
        level_is = ap (λ (x : Node). x.frame.level) at_z ∙ m.level_z;
        from = ap (λ (x : Node). x.frame.low) at_z ∙ m.low_z;
        upto = ap (λ (x : Node). x.frame.high) at_z ∙ m.high_z;
        nonempty = m.under;
      }

  -- the four sorts of blocks
  data Sort (b : ℕ) : Type 0 where
    root : b ≡ 0 → Sort b
    old : b < length a → 0 < b → Sort b
    low : b ≡ length a → Sort b
    high : b ≡ suc (length a) → Sort b

  sort : (b : ℕ) → b < length (cut a q y z) → Sort b
  sort zero h = root refl
  sort (suc b) h = ⊎_elim (λ g. old g (omega arith)) (λ g. ⊎_elim (λ e. low (sym e)) (λ e. high (omega (arith, len))) (cases_eq (length a) (suc b))) (cases_lt (suc b) (length a))

  sound_after : (b : ℕ) → Sort b → Sound (cut a q y z) (node (cut a q y z) b).frame.level (node (cut a q y z) b)
  sound_after b (root e) = rw e (rw at_root (tt, (child_y, child_z)))
  sound_after b (old h g) = rw (at_old b h g) (kept (node a b).frame.level (node a b) (t.sound b h))
  sound_after b (low e) = rw e (rw at_y (subst (λ i. Sound (cut a q y z) i y) (sym m.level_y) (kept (node a 0).frame.level y m.sound_y)))
  sound_after b (high e) = rw e (rw at_z (subst (λ i. Sound (cut a q y z) i z) (sym m.level_z) (kept (node a 0).frame.level z m.sound_z)))

  -- what is known of a block of each sort; `rank` tells the sorts apart by level, and a key the halves
  abbrev Known : (b : ℕ) → Sort b → Type 0
  Known b (root e) = (node (cut a q y z) b).frame.level ≡ suc (node a 0).frame.level
  Known b (old h g) = Place (node (cut a q y z) b).frame (node a b).frame × ((node a b).frame.level < (node a 0).frame.level)
  Known b (low e) = ((node (cut a q y z) b).frame.level ≡ (node a 0).frame.level) × ((node (cut a q y z) b).frame.high ≡ q)
  Known b (high e) = ((node (cut a q y z) b).frame.level ≡ (node a 0).frame.level) × ((node (cut a q y z) b).frame.low ≡ q)

  known : (b : ℕ) (s : Sort b) → Known b s
  known b (root e) = rw e (ap (λ (x : Node). x.frame.level) at_root)
  known b (old h g) = (stays b h g, t.root_highest b h g)
  known b (low e) = rw e (child_y.level_is, child_y.upto)
  known b (high e) = rw e (child_z.level_is, child_z.from)

  apart_after : (b d k : ℕ) (s : Sort b) (r : Sort d) → Known b s → Known d r → (node (cut a q y z) b).frame.level ≡ (node (cut a q y z) d).frame.level
      → In k (node (cut a q y z) b).frame → In k (node (cut a q y z) d).frame → b ≡ d
  apart_after b d k (root e) (root f) u v l i j = e ∙ sym f
  apart_after b d k (root e) (old h g) u v l i j = absurd (omega (arith, v.0.level_is))
  apart_after b d k (root e) (low f) u v l i j = absurd (omega arith)
  apart_after b d k (root e) (high f) u v l i j = absurd (omega arith)
  apart_after b d k (old h g) (root f) u v l i j = absurd (omega (arith, u.0.level_is))
  apart_after b d k (old h g) (old h' g') u v l i j = t.apart b d k h h' (sym u.0.level_is ∙ l ∙ v.0.level_is)
      (record { low = omega (arith, i.low, u.0.from); high = omega (arith, i.high, u.0.upto) })
      (record { low = omega (arith, j.low, v.0.from); high = omega (arith, j.high, v.0.upto) })
  apart_after b d k (old h g) (low f) u v l i j = absurd (omega (arith, u.0.level_is))
  apart_after b d k (old h g) (high f) u v l i j = absurd (omega (arith, u.0.level_is))
  apart_after b d k (low e) (root f) u v l i j = absurd (omega arith)
  apart_after b d k (low e) (old h g) u v l i j = absurd (omega (arith, v.0.level_is))
  apart_after b d k (low e) (low f) u v l i j = e ∙ sym f
  apart_after b d k (low e) (high f) u v l i j = absurd (omega (arith, i.high, j.low))
  apart_after b d k (high e) (root f) u v l i j = absurd (omega arith)
  apart_after b d k (high e) (old h g) u v l i j = absurd (omega (arith, v.0.level_is))
  apart_after b d k (high e) (low f) u v l i j = absurd (omega (arith, i.low, j.high))
  apart_after b d k (high e) (high f) u v l i j = e ∙ sym f

  top_after : (b : ℕ) (s : Sort b) → Known b s → 0 < b → (node (cut a q y z) b).frame.level < suc (node a 0).frame.level
  top_after b (root e) u h = absurd (omega arith)
  top_after b (old h g) u h' = omega (arith, u.0.level_is)
  top_after b (low e) u h = omega arith
  top_after b (high e) u h = omega arith

  pub cut_tree : Tree (cut a q y z)
  cut_tree =
      let r : (node (cut a q y z) 0).frame.level ≡ suc (node a 0).frame.level = ap (λ (x : Node). x.frame.level) at_root in
      record {
        has_root = omega (arith, len);
        root_from_zero = ap (λ (x : Node). x.frame.low) at_root ∙ t.root_from_zero;
        root_to_end = ap (λ (x : Node). x.frame.high) at_root ∙ t.root_to_end;
        root_inner = omega arith;
        root_highest = λ b h g. omega (arith, top_after b (sort b h) (known b (sort b h)) g);
        sound = λ b h. sound_after b (sort b h);
        apart = λ b d k h g. apart_after b d k (sort b h) (sort d g) (known b (sort b h)) (known d (sort d g));
      }

-- ---- the join
module _ (K : Algebra) (a : List Node) (t : Tree a) (k₀ : ℕ) (msg : Message) (h₀ : k₀ < 2 ^ 32) where
  pub join_at_root : node (joined K k₀ msg a) 0 ≡ with_message K k₀ msg (node a 0)
  join_at_root = get_or-set_same a 0 _ no_node t.has_root

  pub join_at_else : (b : ℕ) → 0 < b → node (joined K k₀ msg a) b ≡ node a b
  join_at_else b g = get_or-set_other a 0 b _ no_node (omega arith)

  pub join_len : length (joined K k₀ msg a) ≡ length a
  join_len = simp length-set

  join_stays : (b : ℕ) → (node (joined K k₀ msg a) b).frame ≡ (node a b).frame
  join_stays zero = ap (λ (x : Node). x.frame) join_at_root
  join_stays (suc b) = ap (λ (x : Node). x.frame) (join_at_else (suc b) (omega arith))

  join_says : (i b k : ℕ) → b < length a → 0 < b → (node a b).frame.level ≡ i → In k (node a b).frame → look K i (joined K k₀ msg a) b k ≡ look K i a b k
  join_says zero b k hb g e h = ap (λ (x : Node). find k x.records) (join_at_else b g)
  join_says (suc i) b k hb g e h =
      let tk = took a t i b k hb e h in
      ap (λ (x : Node). acts K k x.messages (look K i (joined K k₀ msg a) (child x.frame k) k)) (join_at_else b g)
      ∙ ap (acts K k (node a b).messages) (join_says i (child (node a b).frame k) k tk.inside tk.not_root tk.level_is tk.has)

  join_root : (i k : ℕ) → (node a 0).frame.level ≡ suc i → k < 2 ^ 32
      → look K (suc i) (joined K k₀ msg a) 0 k ≡ acts K k (entry k₀ msg ∷ []) (look K (suc i) a 0 k)
  join_root i k e h =
      let o : In k (node a 0).frame = record { low = omega (arith, t.root_from_zero); high = omega (arith, t.root_to_end) } in
      let tk = took a t i 0 k t.has_root e o in
      ap (λ (x : Node). acts K k x.messages (look K i (joined K k₀ msg a) (child x.frame k) k)) join_at_root
      ∙ ap (acts K k (join_in K k₀ msg (node a 0).messages)) (join_says i (child (node a 0).frame k) k tk.inside tk.not_root tk.level_is tk.has)
      ∙ acts_join K k₀ k _ _ msg (node a 0).messages _ (inner_sound a i _ (node a 0) e (t.sound 0 t.has_root)).0

  pub join_lookup : (k : ℕ) → k < 2 ^ 32 → lookup K (joined K k₀ msg a) k ≡ acts K k (entry k₀ msg ∷ []) (lookup K a k)
  join_lookup k h = go (node a 0).frame.level refl t.root_inner
    where
      go : (i : ℕ) → (node a 0).frame.level ≡ i → 0 < i → lookup K (joined K k₀ msg a) k ≡ acts K k (entry k₀ msg ∷ []) (lookup K a k)
      go zero e g = absurd (omega arith)
      go (suc i) e g =
          ap (λ l. look K l (joined K k₀ msg a) 0 k) (ap (λ (f : Frame). f.level) (join_stays 0) ∙ e) ∙ join_root i k e h
          ∙ ap (λ l. acts K k (entry k₀ msg ∷ []) (look K l a 0 k)) (sym e)

  join_sound : (b i : ℕ) → b < length a → (node a b).frame.level ≡ i → Sound (joined K k₀ msg a) i (node (joined K k₀ msg a) b)
  join_sound zero zero h e = absurd (omega (arith, t.root_inner))
  join_sound zero (suc i) h e =
      let s = inner_sound a i _ (node a 0) e (t.sound 0 h) in
      rw join_at_root (sound_same a (joined K k₀ msg a) (suc i) (with_message K k₀ msg (node a 0)) (omega (arith, join_len)) (λ e d f pt. place_same _ _ (join_stays d))
      (within_join K k₀ _ _ msg (node a 0).messages (omega (arith, t.root_from_zero)) (omega (arith, t.root_to_end)) s.0, s.1))
  join_sound (suc b) i h e =
      rw (join_at_else (suc b) (omega arith)) (sound_same a (joined K k₀ msg a) i (node a (suc b)) (omega (arith, join_len)) (λ e d f pt. place_same _ _ (join_stays d))
      (subst (λ x. Sound a x (node a (suc b))) e (t.sound (suc b) h)))

  pub join_tree : Tree (joined K k₀ msg a)
  join_tree =
      record {
        has_root = omega (arith, join_len, t.has_root);
        root_from_zero = ap (λ (f : Frame). f.low) (join_stays 0) ∙ t.root_from_zero;
        root_to_end = ap (λ (f : Frame). f.high) (join_stays 0) ∙ t.root_to_end;
        root_inner = omega (arith, t.root_inner, ap (λ (f : Frame). f.level) (join_stays 0));
        root_highest = λ b h g. omega (arith, t.root_highest b (omega (arith, join_len)) g, ap (λ (f : Frame). f.level) (join_stays 0), ap (λ (f : Frame). f.level) (join_stays b));
        sound = λ b h. join_sound b _ (omega (arith, join_len)) (sym (ap (λ (f : Frame). f.level) (join_stays b)));
        apart = λ b d k hb hd e p q. t.apart b d k (omega (arith, join_len)) (omega (arith, join_len))
            (sym (ap (λ (f : Frame). f.level) (join_stays b)) ∙ e ∙ ap (λ (f : Frame). f.level) (join_stays d))
            (subst (In k) (join_stays b) p) (subst (In k) (join_stays d) q);
      }
