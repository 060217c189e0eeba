-- An update is made of operations, keeps all sizes, and writes what is counted.
use Rattle.std.proofs.Common.{◌≡◌, ℕ, zero, suc, ◌+◌, ◌-◌, ◌^◌, ◌<◌, ◌≤◌, Bool, true, false, cond, eqb, ltb, ◌≢◌, List, ◌∷◌, length, take, drop, sym, refl, ap, ◌∙◌, subst, inl, inr, ⊎_elim, arith, length-append, length-drop, length-set, length-take}
use Rattle.std.proofs.lemmas.List.Edits.{length-insert, get_or-insert_below, get_or-insert_at}
use Rattle.std.proofs.lemmas.Bool.{cases_lt, cases_eq, ltb-true, ltb-false, eqb-true, eqb-false}
use Rattle.tree.proofs.Move as mv
use Rattle.tree.proofs.Split as sp
use Rattle.tree.proofs.Cut as ct
use Rattle.messages.specs.Algebra.{Algebra}
use Rattle.messages.specs.Lists.{below, entry}
use Rattle.messages.proofs.Places.{below_length}
use Rattle.messages.specs.declared.entry.Entry.{Entry}
use Rattle.messages.specs.declared.message.Message.{Message}
use Rattle.tree.proofs.Reached.{CanMove, CanSplit, ChildAt, Full, Reached}
use Rattle.tree.specs.Nodes.{Node, node}
use Rattle.tree.specs.Operations.{absorb, cut_root, insert, joined, lower_half, moved, moving_batch, split_child, split_key, upper_half, with_new_child}
use Rattle.tree.specs.Shape.{AllSized, Sized, Tree}
use Rattle.tree.specs.Update.{after_step, busiest_child, busiest_place, full_at, is_full, pending_for, raised, run_steps, step_writes, target, update, upper_goes_on, writes, prepared}
use Rattle.tree.proofs.Reached.Reached.{join as r_join, move as r_move, part as r_part, rise as r_rise}
use Rattle.tree.proofs.Frames.{Part, children_part}
use Rattle.tree.proofs.Lengths.{length_join, length_joins, length_acts, length_rest, length_batch, length_raised, crowded, below_mono}
use Rattle.tree.proofs.Invariants.{level_up, splits, root_halved, tree}

-- all nodes but the current one have their sizes
abbrev pub Rest : List Node → ℕ → Type 0
Rest a p = (b : ℕ) → b < length a → b ≢ p → Sized 256 8 b (node a b)

-- the same node under other bounds
pub sized_as : (m c m' c' b : ℕ) (x : Node) → Sized m c b x → length x.messages ≤ m' → length x.frame.children ≤ c' → Sized m' c' b x
sized_as m c m' c' b x s ms cs = record { messages_le = ms; records_le = s.records_le; children_le = cs; leaf = s.leaf; bare = s.bare; inner = s.inner }

-- a node of at most 7 children has at most 8
pub one_more : (b : ℕ) (x : Node) → Sized 256 7 b x → Sized 256 8 b x
one_more b x s = sized_as 256 7 256 8 b x s s.messages_le (omega (arith, s.children_le))

-- a node that takes 16 messages
pub absorbed : (K : Algebra) (bs : List (Entry Message)) (b l : ℕ) (x : Node) → x.frame.level ≡ l → length bs ≡ 16 → Sized 256 7 b x → (l ≡ 0 → length x.records ≤ 240)
    → Sized 272 7 b (absorb K bs x)
absorbed K bs b zero x e n s r =
    record {
      messages_le = rw e (omega (arith, s.messages_le));
      records_le = rw e (omega (arith, length_acts K x.records bs, r refl));
      children_le = s.children_le;
      leaf = s.leaf;
      bare = λ g. rw e (s.bare g);
      inner = s.inner;
    }
absorbed K bs b (suc l) x e n s r =
    record {
      messages_le = rw e (omega (arith, length_joins K x.messages bs, s.messages_le));
      records_le = rw e s.records_le;
      children_le = s.children_le;
      leaf = s.leaf;
      bare = λ g. absurd (omega arith);
      inner = s.inner;
    }

module _ (K : Algebra) (a : List Node) (t : Tree a) (p j c l : ℕ) (m : CanMove a p j c) (pl : (node a p).frame.level ≡ suc l)
    (others : Rest a p) (sp : Sized 272 8 p (node a p)) (sc : Sized 256 7 c (node a c)) (room : l ≡ 0 → length (node a c).records ≤ 240) where
  pub moved_rest : Rest (moved K a p c) c
  moved_rest b h n = ⊎_elim
      (λ e. subst (λ x. Sized 256 8 x (node (moved K a p c) x)) (sym e) (rw (mv.at_p K a t p j c l m pl) (record {
        messages_le = omega (arith, sp.messages_le, length_rest (node a c).frame.low (node a c).frame.high (node a p).messages (omega (arith, m.pending, below_length (node a c).frame.high (node a p).messages)));
        records_le = sp.records_le;
        children_le = sp.children_le;
        leaf = sp.leaf;
        bare = λ g. absurd (omega arith);
        inner = sp.inner;
      })))
      (λ e. rw (mv.at_else K a t p j c l m pl b n e) (others b (omega (arith, mv.len K a t p j c l m pl)) e))
      (cases_eq b p)

  pub moved_here : Sized 272 7 c (node (moved K a p c) c)
  moved_here = rw (mv.at_c K a t p j c l m pl) (absorbed K (moving_batch a p c) c l (node a c) (mv.part K a t p j c l m pl).level_is
      (length_batch (node a c).frame.low (node a c).frame.high (node a p).messages (omega (arith, m.pending, below_length (node a c).frame.high (node a p).messages))) sc room)

  pub moved_level : (node (moved K a p c) c).frame.level ≡ l
  moved_level = ap (λ (x : Node). x.frame.level) (mv.at_c K a t p j c l m pl) ∙ (mv.part K a t p j c l m pl).level_is

-- ---- a split
pub halved_sized : (lvl b d e : ℕ) (x : Node) → x.frame.level ≡ lvl → Full x → Sized 256 8 b x
    → (Sized 256 7 d (lower_half lvl x) × Sized 256 7 e (upper_half lvl x)) × ((lvl ≡ 0 → length (lower_half lvl x).records ≤ 240) × (lvl ≡ 0 → length (upper_half lvl x).records ≤ 240))
halved_sized zero b d e x lv (inl f) s = (
  (
    record {
      messages_le = s.messages_le;
      records_le = simp length-take (omega (arith, s.records_le));
      children_le = omega (arith, f.1);
      leaf = λ _. f.1;
      bare = λ g. s.bare g;
      inner = λ g. absurd (omega arith);
    },
    record {
      messages_le = s.messages_le;
      records_le = simp length-drop (omega (arith, s.records_le));
      children_le = omega (arith, f.1);
      leaf = λ _. f.1;
      bare = λ g. s.bare g;
      inner = λ g. absurd (omega arith);
    },
  ),
  (λ _. simp length-take (omega (arith, s.records_le)), λ _. simp length-drop (omega (arith, s.records_le, f.2))),
)
halved_sized zero b d e x lv (inr f) s = absurd (omega (arith, f.0))
halved_sized (suc l) b d e x lv (inl f) s = absurd (omega (arith, f.0))
halved_sized (suc l) b d e x lv (inr f) s =
    let k₁ : length (take 4 x.frame.children) ≡ 4 = simp length-take (omega (arith, f.1)) in
    let k₂ : length (drop 4 x.frame.children) ≡ 4 = simp length-drop (omega (arith, f.1)) in (
      (
        record {
          messages_le = simp length-take (omega (arith, s.messages_le));
          records_le = s.records_le;
          children_le = omega arith;
          leaf = λ g. absurd (omega (arith, f.0));
          bare = λ g. absurd (omega (arith, f.0));
          inner = λ _ _. omega arith;
        },
        record {
          messages_le = simp length-drop (omega (arith, s.messages_le));
          records_le = s.records_le;
          children_le = omega arith;
          leaf = λ g. absurd (omega (arith, f.0));
          bare = λ g. absurd (omega (arith, f.0));
          inner = λ _ _. omega arith;
        },
      ),
      (λ g. absurd (omega arith), λ g. absurd (omega arith)),
    )

module _ (a : List Node) (t : Tree a) (p j c l : ℕ) (u : ChildAt a p j c) (pl : (node a p).frame.level ≡ suc l) (f : Full (node a c))
    (others : Rest a p) (s₀ : Sized 272 7 p (node a p)) where
  abbrev pub Q : ℕ
  Q = split_key (node a c).frame.level (node a c)

  abbrev pub Y : Node
  Y = lower_half (node a c).frame.level (node a c)

  abbrev pub Z : Node
  Z = upper_half (node a c).frame.level (node a c)

  pub S : CanSplit a p j c Q Y Z
  S = splits a t p j c u f

  pub P : Part a l c (node a p).frame.low (node a p).frame.high
  P = sp.part a t p j c Q l Y Z S pl

  pub c≢p : c ≢ p
  c≢p e = let z : (node a c).frame.level ≡ (node a p).frame.level = ap (λ x. (node a x).frame.level) e in omega (arith, P.level_is)

  pub halves : (Sized 256 7 c Y × Sized 256 7 (length a) Z) × (((node a c).frame.level ≡ 0 → length Y.records ≤ 240) × ((node a c).frame.level ≡ 0 → length Z.records ≤ 240))
  halves = halved_sized (node a c).frame.level c c (length a) (node a c) refl f (others c P.inside c≢p)

  pub new_p : node (split_child a p j c) p ≡ with_new_child j Q (length a) (node a p)
  new_p = sp.at_p a t p j c Q l Y Z S pl

  pub new_c : node (split_child a p j c) c ≡ Y
  new_c = sp.at_c a t p j c Q l Y Z S pl

  pub new_n : node (split_child a p j c) (length a) ≡ Z
  new_n = sp.at_new a t p j c Q l Y Z S pl

  pub split_rest : Rest (split_child a p j c) p
  split_rest b h n = ⊎_elim
      (λ e. subst (λ x. Sized 256 8 x (node (split_child a p j c) x)) (sym e) (rw new_c (one_more c Y halves.0.0)))
      (λ e. ⊎_elim
      (λ g. rw (sp.at_else a t p j c Q l Y Z S pl b g e n) (others b g n))
      (λ g. let w : b ≡ length a = omega (arith, sp.len a t p j c Q l Y Z S pl) in
      subst (λ x. Sized 256 8 x (node (split_child a p j c) x)) (sym w) (rw new_n (one_more (length a) Z halves.0.1)))
      (cases_lt b (length a)))
      (cases_eq b c)

  pub more_children : length (insert (suc j) (length a) (node a p).frame.children) ≡ length (node a p).frame.children + 1
  more_children = length-insert (node a p).frame.children (suc j) (length a) u.j_in

  pub split_here : Sized 272 8 p (node (split_child a p j c) p)
  split_here = rw new_p (record {
    messages_le = s₀.messages_le;
    records_le = s₀.records_le;
    children_le = omega (arith, more_children, s₀.children_le);
    leaf = λ g. absurd (omega arith);
    bare = λ g. absurd (omega arith);
    inner = λ g h. omega (arith, more_children, s₀.inner u.inner h);
  })

  pub split_level : (node (split_child a p j c) p).frame.level ≡ suc l
  split_level = ap (λ (x : Node). x.frame.level) new_p ∙ pl

  -- the half that goes on, with 16 messages pending
  module _ (many : 37 ≤ pending_for a (node a p).messages c) where
    pub between : (below (node a c).frame.low (node a p).messages ≤ below Q (node a p).messages) × (below Q (node a p).messages ≤ below (node a c).frame.high (node a p).messages)
    between = (below_mono _ _ (node a p).messages (omega (arith, S.halves.over)), below_mono _ _ (node a p).messages (omega (arith, S.halves.under)))

    pub low_moves : ltb (below Q (node a p).messages - below (node a c).frame.low (node a p).messages) (below (node a c).frame.high (node a p).messages - below Q (node a p).messages) ≡ false
        → CanMove (split_child a p j c) p j c
    low_moves e =
        let q = ltb-false _ _ e in
        record {
          p_in = omega (arith, u.p_in, sp.len a t p j c Q l Y Z S pl);
          j_in = rw new_p (omega (arith, more_children, u.j_in));
          is = rw new_p (get_or-insert_below (node a p).frame.children (suc j) (length a) 0 j (omega arith) u.j_in ∙ u.is);
          inner = omega (arith, split_level);
          pending = rw (new_p, new_c) (rw (S.halves.low_y, S.halves.high_y) (omega (arith, between.0, between.1)));
        }

    pub high_moves : ltb (below Q (node a p).messages - below (node a c).frame.low (node a p).messages) (below (node a c).frame.high (node a p).messages - below Q (node a p).messages) ≡ true
        → CanMove (split_child a p j c) p (suc j) (length a)
    high_moves e =
        record {
          p_in = omega (arith, u.p_in, sp.len a t p j c Q l Y Z S pl);
          j_in = rw new_p (omega (arith, more_children, u.j_in));
          is = rw new_p (get_or-insert_at (node a p).frame.children (suc j) (length a) 0 u.j_in);
          inner = omega (arith, split_level);
          pending = rw (new_p, new_n) (rw (S.halves.low_z, S.halves.high_z) (omega (arith, between.0, between.1, ltb-true _ _ e)));
        }

-- ---- a step
pub full_true : (l : ℕ) (x : Node) → x.frame.level ≡ l → (l ≡ 0 → length x.frame.children ≡ 0) → full_at l x ≡ true → Full x
full_true zero x e k f = inl (e, k refl, ltb-true _ _ f)
full_true (suc l) x e k f = inr (omega arith, eqb-true _ _ f)

pub full_false : (l b : ℕ) (x : Node) → x.frame.level ≡ l → Sized 256 8 b x → full_at l x ≡ false → Sized 256 7 b x × (l ≡ 0 → length x.records ≤ 240)
full_false zero b x e s f =
    (sized_as 256 8 256 7 b x s s.messages_le (omega (arith, s.leaf e)), λ _. ltb-false _ _ f)
full_false (suc l) b x e s f =
    (sized_as 256 8 256 7 b x s s.messages_le (omega (arith, s.children_le, eqb-false _ _ f)), λ z. absurd (omega arith))

-- what holds when p is the current node, of level l
pub record Going (K : Algebra) (h : List (Entry Message)) (l : ℕ) (a : List Node) (p : ℕ) : Type 0 where
  pub moves : ℕ
  pub reached : Reached K a h moves
  pub others : Rest a p
  pub here : Sized 272 7 p (node a p)
  pub inside : p < length a
  pub level_is : (node a p).frame.level ≡ l

module _ (K : Algebra) (h : List (Entry Message)) (l : ℕ) (a : List Node) (p : ℕ) (g : Going K h (suc l) a p) (big : 256 < length (node a p).messages) where
  pub tr : Tree a
  tr = tree K a h g.moves g.reached

  pub cr : (busiest_place a p < length (node a p).frame.children) × (37 ≤ pending_for a (node a p).messages (busiest_child a p))
  cr =
      let s = mv.inner_sound a l _ (node a p) g.level_is (tr.sound p g.inside) in
      crowded a l _ _ (node a p).frame.children (node a p).frame.pivots (node a p).messages s.1 s.0 g.here.children_le big

  pub un : ChildAt a p (busiest_place a p) (busiest_child a p)
  un = record { p_in = g.inside; j_in = cr.0; is = refl; inner = omega (arith, g.level_is) }

  pub pt : Part a l (busiest_child a p) (node a p).frame.low (node a p).frame.high
  pt = children_part a l _ _ (node a p).frame.low (node a p).frame.children (node a p).frame.pivots (busiest_place a p)
      (mv.inner_sound a l _ (node a p) g.level_is (tr.sound p g.inside)).1 cr.0 (omega arith)

  pub child≢p : busiest_child a p ≢ p
  child≢p e = let z : (node a (busiest_child a p)).frame.level ≡ (node a p).frame.level = ap (λ x. (node a x).frame.level) e in omega (arith, pt.level_is, g.level_is)

  pub sized_child : Sized 256 8 (busiest_child a p) (node a (busiest_child a p))
  sized_child = g.others (busiest_child a p) pt.inside child≢p

  pub roomy : Sized 272 8 p (node a p)
  roomy = sized_as 272 7 272 8 p (node a p) g.here g.here.messages_le (omega (arith, g.here.children_le))

  pub plain : is_full (node a (busiest_child a p)) ≡ false → Going K h l (moved K a p (busiest_child a p)) (busiest_child a p)
  plain e =
      let c = busiest_child a p in
      let j = busiest_place a p in
      let ff = full_false (node a c).frame.level c (node a c) refl sized_child e in
      let room : l ≡ 0 → length (node a c).records ≤ 240 = λ z. ff.1 (pt.level_is ∙ z) in
      let m : CanMove a p j c = record { p_in = g.inside; j_in = cr.0; is = refl; inner = un.inner; pending = omega (arith, cr.1) } in
      record {
        moves = g.moves + 1;
        reached = r_move p j c m g.reached;
        others = moved_rest K a tr p j c l m g.level_is g.others roomy ff.0 room;
        here = moved_here K a tr p j c l m g.level_is g.others roomy ff.0 room;
        inside = omega (arith, mv.len K a tr p j c l m g.level_is, pt.inside);
        level_is = moved_level K a tr p j c l m g.level_is g.others roomy ff.0 room;
      }

  module _ (e : is_full (node a (busiest_child a p)) ≡ true) where
    pub fu : Full (node a (busiest_child a p))
    fu = full_true (node a (busiest_child a p)).frame.level (node a (busiest_child a p)) refl sized_child.leaf e

    -- the nodes after the split
    abbrev pub A : List Node
    A = split_child a p (busiest_place a p) (busiest_child a p)

    pub rA : Reached K A h g.moves
    rA = r_part p (busiest_place a p) (busiest_child a p) un fu g.reached

    pub tA : Tree A
    tA = tree K A h g.moves rA

    pub lA : (node A p).frame.level ≡ suc l
    lA = split_level a tr p (busiest_place a p) (busiest_child a p) l un g.level_is fu g.others g.here

    pub len_A : length A ≡ length a + 1
    len_A = simp (length-append, length-set)

    pub after : (j c : ℕ) → CanMove A p j c → Sized 256 7 c (node A c) → (l ≡ 0 → length (node A c).records ≤ 240) → c < length A → Going K h l (moved K A p c) c
    after j c m sc room c_in =
        let oA = split_rest a tr p (busiest_place a p) (busiest_child a p) l un g.level_is fu g.others g.here in
        let hA = split_here a tr p (busiest_place a p) (busiest_child a p) l un g.level_is fu g.others g.here in
        record {
          moves = g.moves + 1;
          reached = r_move p j c m rA;
          others = moved_rest K A tA p j c l m lA oA hA sc room;
          here = moved_here K A tA p j c l m lA oA hA sc room;
          inside = omega (arith, mv.len K A tA p j c l m lA);
          level_is = moved_level K A tA p j c l m lA oA hA sc room;
        }

    pub split_on : (b : Bool) → upper_goes_on a p (busiest_child a p) ≡ b → Going K h l (moved K A p (cond b (length a) (busiest_child a p))) (cond b (length a) (busiest_child a p))
    split_on true f =
        let hs = halves a tr p (busiest_place a p) (busiest_child a p) l un g.level_is fu g.others g.here in
        let at = new_n a tr p (busiest_place a p) (busiest_child a p) l un g.level_is fu g.others g.here in
        after (suc (busiest_place a p)) (length a) (high_moves a tr p (busiest_place a p) (busiest_child a p) l un g.level_is fu g.others g.here cr.1 f)
        (rw at hs.0.1) (λ z. rw at (hs.1.1 (pt.level_is ∙ z))) (omega (arith, len_A))
    split_on false f =
        let hs = halves a tr p (busiest_place a p) (busiest_child a p) l un g.level_is fu g.others g.here in
        let at = new_c a tr p (busiest_place a p) (busiest_child a p) l un g.level_is fu g.others g.here in
        after (busiest_place a p) (busiest_child a p) (low_moves a tr p (busiest_place a p) (busiest_child a p) l un g.level_is fu g.others g.here cr.1 f)
        (rw at hs.0.0) (λ z. rw at (hs.1.0 (pt.level_is ∙ z))) (omega (arith, len_A, pt.inside))

    split_count : (b : Bool) (f : upper_goes_on a p (busiest_child a p) ≡ b) → (split_on b f).moves ≡ g.moves + 1
    unfolding split_on after
    split_count true f = refl
    split_count false f = refl

  pub step_ok : (s : Going K h l (after_step K a p) (target a p))
      × (s.moves + length (after_step K a p) ≡ g.moves + length a + (cond (is_full (node a (busiest_child a p))) 1 0 + 1))
  unfolding plain
  step_ok = go (is_full (node a (busiest_child a p))) refl
    where
      go : (b : Bool) → is_full (node a (busiest_child a p)) ≡ b
          → (s : Going K h l (moved K (cond b (split_child a p (busiest_place a p) (busiest_child a p)) a) p (cond b (cond (upper_goes_on a p (busiest_child a p)) (length a) (busiest_child a p)) (busiest_child a p)))
          (cond b (cond (upper_goes_on a p (busiest_child a p)) (length a) (busiest_child a p)) (busiest_child a p)))
          × (s.moves + length (moved K (cond b (split_child a p (busiest_place a p) (busiest_child a p)) a) p (cond b (cond (upper_goes_on a p (busiest_child a p)) (length a) (busiest_child a p)) (busiest_child a p)))
          ≡ g.moves + length a + (cond b 1 0 + 1))
      go true e = (
        split_on e (upper_goes_on a p (busiest_child a p)) refl,
        (let n : length (moved K (split_child a p (busiest_place a p) (busiest_child a p)) p (cond (upper_goes_on a p (busiest_child a p)) (length a) (busiest_child a p))) ≡ length a + 1 = simp (length-set, length-append) in
            omega (arith, split_count e (upper_goes_on a p (busiest_child a p)) refl)),
      )
      go false e = (plain e, (let n : length (moved K a p (busiest_child a p)) ≡ length a = simp length-set in omega arith))

  -- at least a full batch is pending for the block that messages go to
  pub step_pending : below (node (prepared a p) (target a p)).frame.low (node (prepared a p) p).messages + 16 ≤ below (node (prepared a p) (target a p)).frame.high (node (prepared a p) p).messages
  step_pending = go (is_full (node a (busiest_child a p))) refl (upper_goes_on a p (busiest_child a p)) refl
    where
      go : (b : Bool) → is_full (node a (busiest_child a p)) ≡ b → (u : Bool) → upper_goes_on a p (busiest_child a p) ≡ u
          → below (node (cond b (split_child a p (busiest_place a p) (busiest_child a p)) a) (cond b (cond u (length a) (busiest_child a p)) (busiest_child a p))).frame.low (node (cond b (split_child a p (busiest_place a p) (busiest_child a p)) a) p).messages + 16
          ≤ below (node (cond b (split_child a p (busiest_place a p) (busiest_child a p)) a) (cond b (cond u (length a) (busiest_child a p)) (busiest_child a p))).frame.high (node (cond b (split_child a p (busiest_place a p) (busiest_child a p)) a) p).messages
      go false e u f = omega (arith, cr.1)
      go true e true f = (high_moves a tr p (busiest_place a p) (busiest_child a p) l un g.level_is (fu e) g.others g.here cr.1 f).pending
      go true e false f = (low_moves a tr p (busiest_place a p) (busiest_child a p) l un g.level_is (fu e) g.others g.here cr.1 f).pending

-- ---- all steps
-- w blocks were written on the way to a, from a state with as many moves and blocks as `sum` says
pub record Done (K : Algebra) (h : List (Entry Message)) (sum w : ℕ) (a : List Node) : Type 0 where
  pub moves : ℕ
  pub reached : Reached K a h moves
  pub sized : AllSized a
  pub tally : moves + length a ≡ sum + w

pub settled : (K : Algebra) (h : List (Entry Message)) (l : ℕ) (a : List Node) (p : ℕ) (g : Going K h l a p) → length (node a p).messages ≤ 256 → Done K h (g.moves + length a) 0 a
settled K h l a p g le =
    record {
      moves = g.moves;
      reached = g.reached;
      sized = λ b i. ⊎_elim
          (λ e. subst (λ x. Sized 256 8 x (node a x)) (sym e)
          (sized_as 272 7 256 8 p (node a p) g.here le (omega (arith, g.here.children_le))))
          (λ e. g.others b i e)
          (cases_eq b p);
      tally = omega arith;
    }

-- the writes of the steps but the current node's own
abbrev pub below_writes : Algebra → ℕ → List Node → ℕ → ℕ
below_writes K zero a p = 0
below_writes K (suc l) a p =
    cond (ltb 256 (length (node a p).messages)) (cond (is_full (node a (busiest_child a p))) 1 0 + 1 + below_writes K l (after_step K a p) (target a p)) 0

pub own_writes : (K : Algebra) (l : ℕ) (a : List Node) (p own : ℕ) → step_writes K l a p own ≡ own + below_writes K l a p
own_writes K zero a p own = omega arith
own_writes K (suc l) a p own = let h = own_writes K l (after_step K a p) (target a p) 1 in grind arith

pub steps_ok : (K : Algebra) (h : List (Entry Message)) (l : ℕ) (a : List Node) (p : ℕ) (g : Going K h l a p) → Done K h (g.moves + length a) (below_writes K l a p) (run_steps K l a p)
steps_ok K h zero a p g = settled K h 0 a p g (omega (arith, g.here.bare g.level_is))
steps_ok K h (suc l) a p g = go (ltb 256 (length (node a p).messages)) refl (λ s. steps_ok K h l (after_step K a p) (target a p) s)
  where
    go : (b : Bool) → ltb 256 (length (node a p).messages) ≡ b
        → ((s : Going K h l (after_step K a p) (target a p)) → Done K h (s.moves + length (after_step K a p)) (below_writes K l (after_step K a p) (target a p)) (run_steps K l (after_step K a p) (target a p)))
        → Done K h (g.moves + length a) (cond b (cond (is_full (node a (busiest_child a p))) 1 0 + 1 + below_writes K l (after_step K a p) (target a p)) 0)
        (cond b (run_steps K l (after_step K a p) (target a p)) a)
    go true e ih =
        let s = step_ok K h l a p g (ltb-true _ _ e) in
        let d = ih s.0 in
        record { moves = d.moves; reached = d.reached; sized = d.sized; tally = omega (arith, d.tally, s.1) }
    go false e ih = settled K h (suc l) a p g (ltb-false _ _ e)

-- ---- an update
pub cut_sized : (a : List Node) → Tree a → AllSized a → length (node a 0).frame.children ≡ 8 → AllSized (cut_root a)
cut_sized a t s e8 b h =
    let (l, e) = level_up (node a 0).frame.level t.root_inner in
    let H = root_halved a t e8 in
    let hs = halved_sized (suc l) 0 (length a) (suc (length a)) (node a 0) e (inr (t.root_inner, e8)) (s 0 t.has_root) in
    ⊎_elim
    (λ z. subst (λ x. Sized 256 8 x (node (cut_root a) x)) (sym z) (rw (ct.at_root a t _ _ _ H) (record {
      messages_le = omega arith;
      records_le = omega arith;
      children_le = omega arith;
      leaf = λ g. absurd (omega arith);
      bare = λ g. refl;
      inner = λ g o. absurd (omega arith);
    })))
    (λ (z : b ≢ 0). ⊎_elim
    (λ (g : b < length a). rw (ct.at_old a t _ _ _ H b g (omega arith)) (s b g))
    (λ (g : length a ≤ b). ⊎_elim
    (λ w. subst (λ x. Sized 256 8 x (node (cut_root a) x)) (sym w) (rw (ct.at_y a t _ _ _ H) (one_more (length a) _ hs.0.0)))
    (λ (w : b ≢ length a). let w' : b ≡ suc (length a) = omega (arith, ct.len a t _ _ _ H) in
    subst (λ x. Sized 256 8 x (node (cut_root a) x)) (sym w') (rw (ct.at_z a t _ _ _ H) (one_more (suc (length a)) _ hs.0.1)))
    (cases_eq b (length a)))
    (cases_lt b (length a)))
    (cases_eq b 0)

pub raised_ok : (K : Algebra) (h : List (Entry Message)) (n : ℕ) (a : List Node) → Reached K a h n → AllSized a
    → Reached K (raised a) h n × (AllSized (raised a) × (length (node (raised a) 0).frame.children ≤ 7))
raised_ok K h n a r s = go (eqb (length (node a 0).frame.children) 8) refl
  where
    t : Tree a
    t = tree K a h n r

    go : (b : Bool) → eqb (length (node a 0).frame.children) 8 ≡ b
        → Reached K (cond b (cut_root a) a) h n × (AllSized (cond b (cut_root a) a) × (length (node (cond b (cut_root a) a) 0).frame.children ≤ 7))
    go true e = (
      r_rise (eqb-true _ _ e) r,
      (
        cut_sized a t s (eqb-true _ _ e),
        (let k = ap (λ (x : Node). length x.frame.children) (ct.at_root a t _ _ _ (root_halved a t (eqb-true _ _ e))) in omega (arith, k)),
      ),
    )
    go false e = (r, (s, omega (arith, eqb-false _ _ e, (s 0 t.has_root).children_le)))

-- the root with the message, as the current node
pub starts : (K : Algebra) (a : List Node) (h : List (Entry Message)) (n k : ℕ) (m : Message) → k < 2 ^ 32 → Reached K a h n → AllSized a
    → Going K (entry k m ∷ h) (node (raised a) 0).frame.level (joined K k m (raised a)) 0
starts K a h n k m lt r s =
    let o = raised_ok K h n a r s in
    let b = raised a in
    let t = tree K b h n o.0 in
    let root = o.1.0 0 t.has_root in
    let ln = length_join K k m (node b 0).messages in
    record {
      moves = n;
      reached = r_join k m lt o.0;
      others = λ d i e. rw (ct.join_at_else K b t k m lt d (omega arith)) (o.1.0 d (omega (arith, ct.join_len K b t k m lt)));
      here = rw (ct.join_at_root K b t k m lt) (record {
        messages_le = omega (arith, root.messages_le);
        records_le = root.records_le;
        children_le = o.1.1;
        leaf = root.leaf;
        bare = λ g. absurd (omega (arith, t.root_inner));
        inner = root.inner;
      });
      inside = omega (arith, ct.join_len K b t k m lt, t.has_root);
      level_is = ap (λ (x : Node). x.frame.level) (ct.join_at_root K b t k m lt);
    }

-- an update is made of operations, keeps all sizes, and writes what is counted
pub updated : (K : Algebra) (a : List Node) (h : List (Entry Message)) (n k : ℕ) (m : Message) → k < 2 ^ 32 → Reached K a h n → AllSized a
    → Done K (entry k m ∷ h) (n + length a) (writes K k m a) (update K k m a)
unfolding starts
updated K a h n k m lt r s =
    let b = raised a in
    let t = tree K b h n (raised_ok K h n a r s).0 in
    let d = steps_ok K (entry k m ∷ h) (node b 0).frame.level (joined K k m b) 0 (starts K a h n k m lt r s) in
    record {
      moves = d.moves;
      reached = d.reached;
      sized = d.sized;
      tally = omega (arith, d.tally, length_raised a, ct.join_len K b t k m lt, own_writes K (node b 0).frame.level (joined K k m b) 0 0);
    }
