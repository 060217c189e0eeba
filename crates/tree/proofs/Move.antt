-- A move leaves a tree, and what it says of every key.
use Rattle.std.proofs.Common.{◌≡◌, ℕ, zero, suc, ◌^◌, ◌<◌, ◌≢◌, List, length, Option, sym, refl, ap, ◌∙◌, subst, ⊎_elim, arith, length-set, get_or-set_other, get_or-set_same}
use Rattle.std.proofs.lemmas.Bool.{cases_lt, cases_eq}
use Rattle.messages.specs.Algebra.{Algebra}
use Rattle.messages.specs.Lists.{Within, find, rest}
use Rattle.tree.proofs.Reached.{CanMove}
use Rattle.tree.specs.Lookup.{acts, look, lookup}
use Rattle.tree.specs.Nodes.{Frame, Node, child, no_node, node}
use Rattle.tree.specs.Operations.{absorb, absorb_messages, absorb_records, moved, moving_batch, without_batch}
use Rattle.tree.specs.Shape.{In, Children, Sound, Tree}
use Rattle.tree.proofs.Lists.{acts_under, acts_over, within_rest, within_batch, acts_rest, within_joins, acts_joins, within_acts_in, find_acts_in}
use Rattle.tree.proofs.Frames.{Took, children_took, Part, children_part, children_same, place_same}

-- what a node at a level above 0 has
pub inner_sound : (a : List Node) (l m : ℕ) (n : Node) → m ≡ suc l → Sound a m n
    → Within n.frame.low n.frame.high n.messages × Children a l n.frame.low n.frame.high n.frame.children n.frame.pivots
inner_sound a l m n e s = rw e at s

pub leaf_sound : (a : List Node) (m : ℕ) (n : Node) → m ≡ 0 → Sound a m n → Within n.frame.low n.frame.high n.records
leaf_sound a m n e s = rw e at s

-- the child of a sound node that takes a key of its span
pub took : (a : List Node) (t : Tree a) (l b k : ℕ) → b < length a → (node a b).frame.level ≡ suc l → In k (node a b).frame
    → Took a l (child (node a b).frame k) k
took a t l b k hb e i =
    children_took a l _ _ (node a b).frame.children (node a b).frame.pivots k (inner_sound a l _ (node a b) e (t.sound b hb)).1 i.low i.high

module _ (K : Algebra) (a : List Node) (t : Tree a) (p j c l : ℕ) (m : CanMove a p j c) (pl : (node a p).frame.level ≡ suc l) where
  is_sound : Within (node a p).frame.low (node a p).frame.high (node a p).messages
      × Children a l (node a p).frame.low (node a p).frame.high (node a p).frame.children (node a p).frame.pivots
  is_sound = inner_sound a l _ (node a p) pl (t.sound p m.p_in)

  pub part : Part a l c (node a p).frame.low (node a p).frame.high
  part = subst (λ x. Part a l x (node a p).frame.low (node a p).frame.high) m.is
      (children_part a l _ _ _ (node a p).frame.children (node a p).frame.pivots j is_sound.1 m.j_in (omega arith))

  c≢p : c ≢ p
  c≢p e = let z : (node a c).frame.level ≡ (node a p).frame.level = ap (λ x. (node a x).frame.level) e in omega (arith, part.level_is)

  pub at_c : node (moved K a p c) c ≡ absorb K (moving_batch a p c) (node a c)
  at_c = get_or-set_same _ c _ no_node (simp length-set part.inside)

  pub at_p : node (moved K a p c) p ≡ without_batch (node a c).frame.low (node a c).frame.high (node a p)
  at_p = get_or-set_other _ c p _ no_node (λ e. c≢p (sym e)) ∙ get_or-set_same a p _ no_node m.p_in

  pub at_else : (b : ℕ) → b ≢ c → b ≢ p → node (moved K a p c) b ≡ node a b
  at_else b e f = get_or-set_other _ c b _ no_node e ∙ get_or-set_other a p b _ no_node f

  stays : (b : ℕ) → (node (moved K a p c) b).frame ≡ (node a b).frame
  stays b = ⊎_elim
      (λ e. rw e (ap (λ (x : Node). x.frame) at_c))
      (λ e. ⊎_elim (λ f. rw f (ap (λ (x : Node). x.frame) at_p)) (λ f. ap (λ (x : Node). x.frame) (at_else b e f)) (cases_eq b p))
      (cases_eq b c)

  pub len : length (moved K a p c) ≡ length a
  len = simp length-set

  -- what moves, and what it leaves
  in_batch : Within (node a c).frame.low (node a c).frame.high (moving_batch a p c)
  in_batch = within_batch K _ _ _ _ (node a p).messages is_sound.0 m.pending

  outside : (k : ℕ) (o : Option ℕ) → (In k (node a c).frame → ⊥) → acts K k (moving_batch a p c) o ≡ o
  outside k o n = ⊎_elim
      (λ h. acts_under K k _ _ (moving_batch a p c) o in_batch h)
      (λ h. ⊎_elim (λ g. absurd (n record { low = h; high = g })) (λ g. acts_over K k _ _ (moving_batch a p c) o in_batch g) (cases_lt k (node a c).frame.high))
      (cases_lt k (node a c).frame.low)

  -- the step of a look, after the move, from a block whose node is known
  abbrev Under : ℕ → Node → ℕ → Option ℕ
  Under i x k = acts K k x.messages (look K i (moved K a p c) (child x.frame k) k)

  -- what the tree under a block says after the move: c says what the messages that came make of what it said, all others the same
  abbrev Says : ℕ → ℕ → ℕ → Type 0
  Says i b k =
      (b ≢ c → look K i (moved K a p c) b k ≡ look K i a b k) × (b ≡ c → look K i (moved K a p c) b k ≡ acts K k (moving_batch a p c) (look K i a b k))

  leaf_c : (k : ℕ) → (node a c).frame.level ≡ 0 → look K 0 (moved K a p c) c k ≡ acts K k (moving_batch a p c) (look K 0 a c k)
  leaf_c k e =
      ap (λ (x : Node). find k x.records) at_c ∙ ap (λ z. find k (absorb_records K z (node a c).records (moving_batch a p c))) e
      ∙ find_acts_in K k _ _ (node a c).records (moving_batch a p c) (leaf_sound a _ (node a c) e (t.sound c part.inside)) in_batch

  inner_c : (i k : ℕ) → (node a c).frame.level ≡ suc i
      → look K i (moved K a p c) (child (node a c).frame k) k ≡ look K i a (child (node a c).frame k) k
      → look K (suc i) (moved K a p c) c k ≡ acts K k (moving_batch a p c) (look K (suc i) a c k)
  inner_c i k e ih =
      ap (λ (x : Node). Under i x k) at_c
      ∙ ap (λ z. acts K k (absorb_messages K z (node a c).messages (moving_batch a p c)) (look K i (moved K a p c) (child (node a c).frame k) k)) e
      ∙ acts_joins K k _ _ (node a c).messages (moving_batch a p c) _ (inner_sound a i _ (node a c) e (t.sound c part.inside)).0 in_batch
      ∙ ap (λ o. acts K k (moving_batch a p c) (acts K k (node a c).messages o)) ih

  inner_p : (i k : ℕ) → Says i (child (node a p).frame k) k → ((child (node a p).frame k ≢ c) → In k (node a c).frame → ⊥)
      → look K (suc i) (moved K a p c) p k ≡ look K (suc i) a p k
  inner_p i k ih out =
      let d = child (node a p).frame k in
      let r : (o : Option ℕ) → acts K k (rest (node a c).frame.low (node a c).frame.high (node a p).messages) (acts K k (moving_batch a p c) o) ≡ acts K k (node a p).messages o
      = λ o. acts_rest K _ _ _ _ (node a p).messages is_sound.0 m.pending k o in
      ap (λ (x : Node). Under i x k) at_p ∙ ⊎_elim
      (λ f. ap (acts K k (rest (node a c).frame.low (node a c).frame.high (node a p).messages)) (ih.1 f) ∙ r (look K i a d k))
      (λ f. ap (acts K k (rest (node a c).frame.low (node a c).frame.high (node a p).messages)) (ih.0 f ∙ sym (outside k (look K i a d k) (out f))) ∙ r (look K i a d k))
      (cases_eq d c)

  says : (i b k : ℕ) → b < length a → (node a b).frame.level ≡ i → In k (node a b).frame → Says i b k
  says zero b k hb e h = (
    λ n. ap (λ (x : Node). find k x.records) (at_else b n (λ f. let z : (node a b).frame.level ≡ (node a p).frame.level = ap (λ x. (node a x).frame.level) f in absurd (omega arith))),
    λ f. subst (λ x. look K 0 (moved K a p c) x k ≡ acts K k (moving_batch a p c) (look K 0 a x k)) (sym f) (leaf_c k (subst (λ x. (node a x).frame.level ≡ 0) f e)),
  )
  says (suc i) b k hb e h =
      let d = child (node a b).frame k in
      let tk = took a t i b k hb e h in
      let ih = says i d k tk.inside tk.level_is tk.has in (
        λ n. ⊎_elim
            (λ f. let tp = subst (λ x. Took a i (child (node a x).frame k) k) f tk in
            let z : (node a b).frame.level ≡ (node a p).frame.level = ap (λ x. (node a x).frame.level) f in
            subst (λ x. look K (suc i) (moved K a p c) x k ≡ look K (suc i) a x k) (sym f)
            (inner_p i k (subst (λ x. Says i (child (node a x).frame k) k) f ih)
            (λ g q. g (t.apart _ c k tp.inside part.inside (omega (arith, tp.level_is, part.level_is)) tp.has q))))
            (λ f. ap (λ (x : Node). Under i x k) (at_else b n f) ∙ ap (acts K k (node a b).messages) (ih.0 (λ g.
            let q : In k (node a c).frame = subst (λ x. In k (node a x).frame) g tk.has in
            let z : (node a c).frame.level ≡ i = subst (λ x. (node a x).frame.level ≡ i) g tk.level_is in
            f (t.apart b p k hb m.p_in (omega (arith, part.level_is)) h (record { low = omega (arith, part.above, q.low); high = omega (arith, part.under, q.high) })))))
            (cases_eq b p),
        λ f. subst (λ x. look K (suc i) (moved K a p c) x k ≡ acts K k (moving_batch a p c) (look K (suc i) a x k)) (sym f)
            (inner_c i k (subst (λ x. (node a x).frame.level ≡ suc i) f e)
            (subst (λ x. look K i (moved K a p c) (child (node a x).frame k) k ≡ look K i a (child (node a x).frame k) k) f
            (ih.0 (λ g. let z : (node a d).frame.level ≡ (node a c).frame.level = ap (λ x. (node a x).frame.level) g in
            let y : (node a b).frame.level ≡ (node a c).frame.level = ap (λ x. (node a x).frame.level) f in
            omega (arith, tk.level_is))))),
      )

  -- the root is no child
  root_else : 0 ≢ c
  root_else z = omega (arith, part.not_root)

  pub move_lookup : (k : ℕ) → k < 2 ^ 32 → lookup K (moved K a p c) k ≡ lookup K a k
  move_lookup k h =
      ap (λ (f : Frame). look K f.level (moved K a p c) 0 k) (stays 0)
      ∙ (says (node a 0).frame.level 0 k t.has_root refl (record { low = omega (arith, t.root_from_zero); high = omega (arith, t.root_to_end) })).0 root_else

  -- the move leaves a tree
  children_after : (b i : ℕ) → b < length a → (node a b).frame.level ≡ suc i
      → Children (moved K a p c) i (node a b).frame.low (node a b).frame.high (node a b).frame.children (node a b).frame.pivots
  children_after b i h e = children_same a (moved K a p c) i _ _ (node a b).frame.low (node a b).frame.children (node a b).frame.pivots (omega (arith, len)) (omega arith) (λ d _. place_same _ _ (stays d)) (inner_sound a i _ (node a b) e (t.sound b h)).1

  sound_c : (i : ℕ) → (node a c).frame.level ≡ i → Sound (moved K a p c) i (absorb K (moving_batch a p c) (node a c))
  sound_c zero e =
      subst (λ z. Within (node a c).frame.low (node a c).frame.high (absorb_records K z (node a c).records (moving_batch a p c))) (sym e)
      (within_acts_in K _ _ (node a c).records (moving_batch a p c) (leaf_sound a _ (node a c) e (t.sound c part.inside)) in_batch)
  sound_c (suc i) e = (
    subst (λ z. Within (node a c).frame.low (node a c).frame.high (absorb_messages K z (node a c).messages (moving_batch a p c))) (sym e)
        (within_joins K _ _ (node a c).messages (moving_batch a p c) (inner_sound a i _ (node a c) e (t.sound c part.inside)).0 in_batch),
    children_after c i part.inside e,
  )

  sound_p : (i : ℕ) → (node a p).frame.level ≡ i → Sound (moved K a p c) i (without_batch (node a c).frame.low (node a c).frame.high (node a p))
  sound_p zero e = absurd (omega arith)
  sound_p (suc i) e = (within_rest K _ _ _ _ (node a p).messages is_sound.0 m.pending, children_after p i m.p_in e)

  sound_else : (b i : ℕ) → b < length a → (node a b).frame.level ≡ i → Sound (moved K a p c) i (node a b)
  sound_else b zero h e = leaf_sound a _ (node a b) e (t.sound b h)
  sound_else b (suc i) h e = ((inner_sound a i _ (node a b) e (t.sound b h)).0, children_after b i h e)

  sound_after : (b : ℕ) → b < length a → Sound (moved K a p c) (node a b).frame.level (node (moved K a p c) b)
  sound_after b h = ⊎_elim
      (λ e. rw e (rw at_c (sound_c _ refl)))
      (λ e. ⊎_elim (λ f. rw f (rw at_p (sound_p _ refl))) (λ f. rw (at_else b e f) (sound_else b _ h refl)) (cases_eq b p))
      (cases_eq b c)

  pub move_tree : Tree (moved K a p c)
  move_tree =
      record {
        has_root = omega (arith, len, t.has_root);
        root_from_zero = ap (λ (f : Frame). f.low) (stays 0) ∙ t.root_from_zero;
        root_to_end = ap (λ (f : Frame). f.high) (stays 0) ∙ t.root_to_end;
        root_inner = omega (arith, t.root_inner, ap (λ (f : Frame). f.level) (stays 0));
        root_highest = λ b h g. omega (arith, t.root_highest b (omega (arith, len)) g, ap (λ (f : Frame). f.level) (stays 0), ap (λ (f : Frame). f.level) (stays b));
        sound = λ b h. subst (λ (f : Frame). Sound (moved K a p c) f.level (node (moved K a p c) b)) (sym (stays b)) (sound_after b (omega (arith, len)));
        apart = λ b d k hb hd e p q. t.apart b d k (omega (arith, len)) (omega (arith, len))
            (sym (ap (λ (f : Frame). f.level) (stays b)) ∙ e ∙ ap (λ (f : Frame). f.level) (stays d))
            (subst (In k) (stays b) p) (subst (In k) (stays d) q);
      }
