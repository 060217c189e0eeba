-- A step on blocks that hold a tree is the step of the tree.
use Rattle.std.proofs.Common.{◌≡◌, ℕ, suc, ◌+◌, ◌%◌, ◌^◌, ◌<◌, ◌≤◌, Bool, true, false, cond, ◌≢◌, List, length, sym, refl, ap, ◌∙◌, subst, ⊎_elim, arith, length-append, length-set}
use Rattle.std.proofs.lemmas.Bool.{cases_lt, cases_eq, cond-true}
use Rattle.blocks.specs.Media.{most_blocks}
use Rattle.blocks.specs.declared.state.State.TheVariants.{Sound}
use Rattle.messages.specs.Algebra.{Algebra}
use Rattle.messages.specs.Lists.{batch}
use Rattle.messages.specs.declared.entry.Entry.{Entry}
use Rattle.messages.specs.declared.message.Message.{Message}
use Rattle.plan.specs.Codes.{Code}
use Rattle.plan.specs.Images.{Image, Try, bind, save, image_read, image_written}
use Rattle.plan.specs.Images.Try.{done}
use Rattle.plan.specs.Steps.{Step, fetch_child, child_block, split_if_full, parted_parent, carried, step}
use Rattle.tree.specs.Nodes.{Node, node}
use Rattle.tree.specs.Operations.{absorb, lower_half, moved, split_child, upper_half, without_batch}
use Rattle.tree.specs.Shape.{Children, Tree}
use Rattle.tree.specs.Update.{after_step, busiest_child, busiest_place, is_full, target, upper_goes_on}
use Rattle.tree.proofs.Move as mv
use Rattle.tree.proofs.Split as sp
use Rattle.tree.proofs.Update as up
use Rattle.tree.proofs.Update.{Going}
use Rattle.tree.proofs.Plain.{all_plain}
use Rattle.tree.proofs.Reached.{CanMove, ChildAt}
use Rattle.bridge.specs.Stored.{most_levels, WordsFit, FitsBlock, RoundTrip}
use Rattle.bridge.specs.Work.{AllSound, Work}
use Rattle.bridge.proofs.Children.{busiest_is, child_then}
use Rattle.bridge.proofs.Good.{good_below}
use Rattle.bridge.proofs.Outcomes.{Ends, bind_ends, save_then}
use Rattle.bridge.proofs.Words.{lower_half_fits, upper_half_fits, without_batch_fits, absorb_fits}
use Rattle.bridge.proofs.Working.{read_more, write_more, wrote}

-- all nodes but the root and those of p and q stand in their blocks
pub record Holding {F : Type 0} (C : Code F) (d : Image) (a : List Node) (p q : ℕ) : Type 0 where
  pub in_blocks : (b : ℕ) → b < length a → 0 < b → b ≢ p → b ≢ q → d.bytes b ≡ C.encode (node a b)
  pub words_fit : (b : ℕ) → b < length a → WordsFit (node a b)

-- a step from p to c that led to the tree a: u tree writes, and from the image d on r reads and w writes, to blocks below n
pub record After {F : Type 0} (C : Code F) (d : Image) (u r w n : ℕ) (a : List Node) (p c : ℕ) (s : Step) : Type 0 where
  pub next_is : s.next ≡ length a
  pub writes_are : s.writes ≡ u
  pub parent_is : s.parent ≡ node a p
  pub child_is : s.child ≡ node a c
  pub block_is : s.block ≡ c
  pub span_fits : (node a c).frame.high ≤ 2 ^ 32
  pub holding : Holding C s.image a p c
  pub work : Work d s.image r w n

-- ---- the move
module _ {F : Type 0} (C : Code F) (a : List Node) (t : Tree a) (p j c l : ℕ) (m : CanMove a p j c) (level_is : (node a p).frame.level ≡ suc l) where
  abbrev K : Algebra
  K = C.algebra

  at_c : node (moved K a p c) c ≡ absorb K (batch (node a c).frame.low (node a c).frame.high (node a p).messages) (node a c)
  at_c = mv.at_c K a t p j c l m level_is

  at_p : node (moved K a p c) p ≡ without_batch (node a c).frame.low (node a c).frame.high (node a p)
  at_p = mv.at_p K a t p j c l m level_is

  length_is : length (moved K a p c) ≡ length a
  length_is = mv.len K a t p j c l m level_is

  moved_fit : ((b : ℕ) → b < length a → WordsFit (node a b)) → (b : ℕ) → b < length a → WordsFit (node (moved K a p c) b)
  moved_fit fit b i = ⊎_elim
      (λ e. subst (λ x. WordsFit (node (moved K a p c) x)) (sym e) (subst WordsFit (sym at_c) (absorb_fits K _ _ (node a p) (node a c) (fit p m.p_in) (fit c (subst (λ x. x < length a) e i)))))
      (λ (o : b ≢ c). ⊎_elim
      (λ e. subst (λ x. WordsFit (node (moved K a p c) x)) (sym e) (subst WordsFit (sym at_p) (without_batch_fits _ _ (node a p) (fit p m.p_in))))
      (λ (n : b ≢ p). subst WordsFit (sym (mv.at_else K a t p j c l m level_is b o n)) (fit b i))
      (cases_eq b p))
      (cases_eq b c)

  pub after_move : (d : Image) (u r w n : ℕ) (s : Step) → After C d u r w n a p c s → After C d u r w n (moved K a p c) p c (carried C s)
  after_move d u r w n s x = record {
    next_is = x.next_is ∙ sym length_is;
    writes_are = x.writes_are;
    parent_is = (λ i. without_batch (x.child_is i).frame.low (x.child_is i).frame.high (x.parent_is i)) ∙ sym at_p;
    child_is = (λ i. absorb K (batch (x.child_is i).frame.low (x.child_is i).frame.high (x.parent_is i).messages) (x.child_is i)) ∙ sym at_c;
    block_is = x.block_is;
    span_fits = omega (arith, ap (λ (y : Node). y.frame.high) at_c, x.span_fits);
    holding = record {
      in_blocks = λ b i pos o q. x.holding.in_blocks b (omega (arith, length_is)) pos o q ∙ ap C.encode (sym (mv.at_else K a t p j c l m level_is b q o));
      words_fit = λ b i. moved_fit x.holding.words_fit b (omega (arith, length_is));
    };
    work = x.work;
  }

-- ---- what a step takes
pub length_step : (K : Algebra) (a : List Node) (p : ℕ) → length (after_step K a p) ≡ length a + cond (is_full (node a (busiest_child a p))) 1 0
length_step K a p = simp length-set (go (is_full (node a (busiest_child a p))))
  where
    go : (b : Bool) → length (cond b (split_child a p (busiest_place a p) (busiest_child a p)) a) ≡ length a + cond b 1 0
    go true = simp (length-append, length-set)
    go false = omega arith

-- the child at place j of x is read, split if it is full, and given a batch
abbrev step_at : {F : Type 0} → Code F → Image → ℕ → ℕ → Node → ℕ → Try Step
step_at C d next u x j = bind (fetch_child C d next x j) (λ g. bind (split_if_full C g.image next u x j g.child (child_block x j)) (λ s. done (carried C s)))

-- a step whose split left the other half in the image i
abbrev split_step : ℕ → ℕ → Node → Node → ℕ → Image → Step
split_step next u parent child block i = record { image = i; next = next + 1; writes = (u + 1) % 2 ^ 64; parent = parent; child = child; block = block }

-- ---- a step from p, of level l + 1, in the tree a, which the image e holds but for p. All is inside the first n blocks of the image d that work began with
module _ {F : Type 0} (C : Code F) (T : RoundTrip C) (d : Image) (n : ℕ) (inside : n ≤ d.size) (numbers_fit : n ≤ most_blocks) (h : List (Entry Message)) (l : ℕ) (level_fits : l ≤ most_levels)
    (a : List Node) (p : ℕ) (g : Going C.algebra h (suc l) a p) (big : 256 < length (node a p).messages) (span_fits : (node a p).frame.high ≤ 2 ^ 32)
    (room : length (after_step C.algebra a p) ≤ n) (e : Image) (u r w : ℕ) (st : Holding C e a p p) (k : Work d e r w n) where
  -- the child that the step goes to, and its place
  abbrev c : ℕ
  c = busiest_child a p

  abbrev j : ℕ
  j = busiest_place a p

  t : Tree a
  t = up.tr C.algebra h l a p g big

  un : ChildAt a p j c
  un = up.un C.algebra h l a p g big

  children : Children a l (node a p).frame.low (node a p).frame.high (node a p).frame.children (node a p).frame.pivots
  children = (mv.inner_sound a l _ (node a p) g.level_is (t.sound p g.inside)).1

  c_inside : c < length a
  c_inside = (up.pt C.algebra h l a p g big).inside

  c_not_root : 0 < c
  c_not_root = (up.pt C.algebra h l a p g big).not_root

  c≢p : c ≢ p
  c≢p = up.child≢p C.algebra h l a p g big

  taken : length a ≤ n
  taken = omega (arith, length_step C.algebra a p, room)

  c_taken : c < n
  c_taken = omega (arith, c_inside, taken)

  sound : (b : ℕ) → b < n → AllSound d → e.state b ≡ Sound
  sound b i s = k.stays_sound s b (omega (arith, k.size_kept))

  child_fits : FitsBlock a c
  child_fits = record {
    below_root = c_not_root;
    breaks_no_rule = good_below a t c c_inside c_not_root (all_plain C.algebra a h g.moves g.reached c c_inside) (up.sized_child C.algebra h l a p g big);
    words_fit = st.words_fit c c_inside;
    level_fits = omega (arith, (up.pt C.algebra h l a p g big).level_is);
    span_fits = omega (arith, (up.pt C.algebra h l a p g big).under);
    numbers_fit = omega (arith, taken);
  }

  -- without a split
  whole : is_full (node a c) ≡ false → After C d u (r + 1) (w + 0) n (moved C.algebra a p c) p c (carried C (record { image = image_read e; next = length a; writes = u; parent = node a p; child = node a c; block = c }))
  whole f =
      let cr = up.cr C.algebra h l a p g big in
      let m : CanMove a p j c = record { p_in = g.inside; j_in = cr.0; is = refl; inner = omega (arith, g.level_is); pending = omega (arith, cr.1) } in
      after_move C a t p j c l m g.level_is d u (r + 1) (w + 0) n _ (record {
        next_is = refl;
        writes_are = refl;
        parent_is = refl;
        child_is = refl;
        block_is = refl;
        span_fits = child_fits.span_fits;
        holding = record { in_blocks = λ b i pos o q. st.in_blocks b i pos o o; words_fit = st.words_fit };
        work = subst (λ x. Work d (image_read e) (r + 1) x n) (omega arith) (read_more d e r w n k);
      })

  -- with a split
  module _ (f : is_full (node a c) ≡ true) where
    -- the tree after it, and the halves
    abbrev A : List Node
    A = split_child a p j c

    abbrev Y : Node
    Y = lower_half (node a c).frame.level (node a c)

    abbrev Z : Node
    Z = upper_half (node a c).frame.level (node a c)

    tA : Tree A
    tA = up.tA C.algebra h l a p g big f

    length_A : length A ≡ length a + 1
    length_A = up.len_A C.algebra h l a p g big f

    new_p : node A p ≡ parted_parent (node a p) j (node a c) (length a)
    new_p = up.new_p a t p j c l un g.level_is (up.fu C.algebra h l a p g big f) g.others g.here

    new_c : node A c ≡ Y
    new_c = up.new_c a t p j c l un g.level_is (up.fu C.algebra h l a p g big f) g.others g.here

    new_n : node A (length a) ≡ Z
    new_n = up.new_n a t p j c l un g.level_is (up.fu C.algebra h l a p g big f) g.others g.here

    new_else : (b : ℕ) → b < length a → b ≢ c → b ≢ p → node A b ≡ node a b
    new_else b i o q = sp.at_else a t p j c _ l _ _ (up.S a t p j c l un g.level_is (up.fu C.algebra h l a p g big f) g.others g.here) g.level_is b i o q

    words_A : (b : ℕ) → b < length A → WordsFit (node A b)
    words_A b i = ⊎_elim
        (λ z. subst (λ x. WordsFit (node A x)) (sym z) (subst WordsFit (sym new_c) (lower_half_fits _ (node a c) (st.words_fit c c_inside))))
        (λ (o : b ≢ c). ⊎_elim
        (λ z. subst (λ x. WordsFit (node A x)) (sym z) (subst WordsFit (sym new_p) (record { messages_fit = (st.words_fit p g.inside).messages_fit; records_fit = (st.words_fit p g.inside).records_fit })))
        (λ (q : b ≢ p). ⊎_elim
        (λ (v : b < length a). subst WordsFit (sym (new_else b v o q)) (st.words_fit b v))
        (λ (v : length a ≤ b).
        let z : b ≡ length a = omega (arith, length_A) in
        subst (λ x. WordsFit (node A x)) (sym z) (subst WordsFit (sym new_n) (upper_half_fits _ (node a c) (st.words_fit c c_inside))))
        (cases_lt b (length a)))
        (cases_eq b p))
        (cases_eq b c)

    -- blocks that are as before
    old : (b : ℕ) → b < length a → 0 < b → b ≢ c → b ≢ p → e.bytes b ≡ C.encode (node A b)
    old b i pos o q = st.in_blocks b i pos q q ∙ ap C.encode (sym (new_else b i o q))

    taken_A : length a < n
    taken_A = omega (arith, length_step C.algebra a p, cond-true {A = ℕ} (is_full (node a c)) 1 0 f, room)

    -- the upper half goes on, and the lower is written
    higher : upper_goes_on a p c ≡ true
        → Ends (AllSound d) (bind (bind (save (image_read e) c (C.encode Y)) (λ i. done (split_step (length a) u (parted_parent (node a p) j (node a c) (length a)) Z (length a) i)))
        (λ s. done (carried C s)))
        (After C d ((u + 1) % 2 ^ 64) (r + 1) (w + 1) n (moved C.algebra A p (length a)) p (length a))
    higher v =
        let m = up.high_moves a t p j c l un g.level_is (up.fu C.algebra h l a p g big f) g.others g.here (up.cr C.algebra h l a p g big).1 v in
        let H = (up.S a t p j c l un g.level_is (up.fu C.algebra h l a p g big f) g.others g.here).halves in
        let s = split_step (length a) u (parted_parent (node a p) j (node a c) (length a)) Z (length a) (image_written (image_read e) c (C.encode Y)) in
        bind_ends (AllSound d) _ _ (λ x. s ≡ x) _
        (save_then (AllSound d) (image_read e) c (omega (arith, k.size_kept, c_taken)) (sound c c_taken) (C.encode Y) _ (λ x. s ≡ x) refl)
        (λ x is. subst (λ x. After C d ((u + 1) % 2 ^ 64) (r + 1) (w + 1) n (moved C.algebra A p (length a)) p (length a) (carried C x)) is
        (after_move C A tA p (suc j) (length a) l m (up.lA C.algebra h l a p g big f) d ((u + 1) % 2 ^ 64) (r + 1) (w + 1) n s (record {
          next_is = sym length_A;
          writes_are = refl;
          parent_is = sym new_p;
          child_is = sym new_n;
          block_is = refl;
          span_fits = omega (arith, ap (λ (y : Node). y.frame.high) new_n, H.high_z, child_fits.span_fits);
          holding = record {
            in_blocks = λ b i pos o q. wrote C (image_read e) c b Y (node A b) (λ z. sym new_c ∙ ap (node A) (sym z)) (λ (z : b ≢ c). old b (omega (arith, length_A)) pos z o);
            words_fit = words_A;
          };
          work = write_more d (image_read e) (r + 1) w n (read_more d e r w n k) c (C.encode Y) c_not_root c_taken;
        })))

    -- the lower half goes on, and the upper is written
    lower : upper_goes_on a p c ≡ false
        → Ends (AllSound d) (bind (bind (save (image_read e) (length a) (C.encode Z)) (λ i. done (split_step (length a) u (parted_parent (node a p) j (node a c) (length a)) Y c i)))
        (λ s. done (carried C s)))
        (After C d ((u + 1) % 2 ^ 64) (r + 1) (w + 1) n (moved C.algebra A p c) p c)
    lower v =
        let m = up.low_moves a t p j c l un g.level_is (up.fu C.algebra h l a p g big f) g.others g.here (up.cr C.algebra h l a p g big).1 v in
        let H = (up.S a t p j c l un g.level_is (up.fu C.algebra h l a p g big f) g.others g.here).halves in
        let s = split_step (length a) u (parted_parent (node a p) j (node a c) (length a)) Y c (image_written (image_read e) (length a) (C.encode Z)) in
        bind_ends (AllSound d) _ _ (λ x. s ≡ x) _
        (save_then (AllSound d) (image_read e) (length a) (omega (arith, k.size_kept, taken_A)) (sound (length a) taken_A) (C.encode Z) _ (λ x. s ≡ x) refl)
        (λ x is. subst (λ x. After C d ((u + 1) % 2 ^ 64) (r + 1) (w + 1) n (moved C.algebra A p c) p c (carried C x)) is
        (after_move C A tA p j c l m (up.lA C.algebra h l a p g big f) d ((u + 1) % 2 ^ 64) (r + 1) (w + 1) n s (record {
          next_is = sym length_A;
          writes_are = refl;
          parent_is = sym new_p;
          child_is = sym new_c;
          block_is = refl;
          span_fits = omega (arith, ap (λ (y : Node). y.frame.high) new_c, H.high_y, H.under, child_fits.span_fits);
          holding = record {
            in_blocks = λ b i pos o q. wrote C (image_read e) (length a) b Z (node A b) (λ z. sym new_n ∙ ap (node A) (sym z)) (λ (z : b ≢ length a). old b (omega (arith, length_A)) pos q o);
            words_fit = words_A;
          };
          work = write_more d (image_read e) (r + 1) w n (read_more d e r w n k) (length a) (C.encode Z) (omega (arith, c_inside)) taken_A;
        })))

  abbrev pub Stepped : Step → Type 0
  Stepped = After C d (cond (is_full (node a c)) ((u + 1) % 2 ^ 64) u) (r + 1) (w + cond (is_full (node a c)) 1 0) n (after_step C.algebra a p) p (target a p)

  pub step_ends : Ends (AllSound d) (step C e (length a) u (node a p)) Stepped
  step_ends =
      subst (λ i. Ends (AllSound d) (step_at C e (length a) u (node a p) i) Stepped) (sym (busiest_is a l (node a p) children))
      (child_then a l (node a p) children C T (AllSound d) e j g.level_is (up.cr C.algebra h l a p g big).0 child_fits (st.in_blocks c c_inside c_not_root c≢p c≢p)
      (omega (arith, k.size_kept, c_taken)) (sound c c_taken) (λ x. bind (split_if_full C x.image (length a) u (node a p) j x.child c) (λ s. done (carried C s))) Stepped
      (go (is_full (node a c)) refl (upper_goes_on a p c) refl))
    where
      go : (b : Bool) → is_full (node a c) ≡ b → (v : Bool) → upper_goes_on a p c ≡ v
          → Ends (AllSound d) (bind (cond b
          (cond v
          (bind (save (image_read e) c (C.encode (lower_half (node a c).frame.level (node a c)))) (λ i. done (split_step (length a) u (parted_parent (node a p) j (node a c) (length a)) (upper_half (node a c).frame.level (node a c)) (length a) i)))
          (bind (save (image_read e) (length a) (C.encode (upper_half (node a c).frame.level (node a c)))) (λ i. done (split_step (length a) u (parted_parent (node a p) j (node a c) (length a)) (lower_half (node a c).frame.level (node a c)) c i))))
          (done (record { image = image_read e; next = length a; writes = u; parent = node a p; child = node a c; block = c }))) (λ s. done (carried C s)))
          (After C d (cond b ((u + 1) % 2 ^ 64) u) (r + 1) (w + cond b 1 0) n (moved C.algebra (cond b (split_child a p j c) a) p (cond b (cond v (length a) c) c)) p (cond b (cond v (length a) c) c))
      go false f v q = whole f
      go true f true q = higher f q
      go true f false q = lower f q
