-- All steps on blocks that hold a tree are the steps of the tree.
use Rattle.std.proofs.Common.{◌≡◌, ℕ, zero, suc, ◌+◌, ◌-◌, ◌%◌, ◌^◌, ◌<◌, ◌≤◌, Bool, true, false, cond, ltb, List, [], ◌∷◌, length, set, sym, refl, ap, ◌∙◌, subst, arith, length-append, length-set, get_or-set_other}
use Rattle.std.proofs.lemmas.List.{get_or_append_left, get_or-set_same}
use Rattle.std.proofs.lemmas.Bool.{cond_both, ltb-true}
use Rattle.blocks.specs.Media.{most_blocks}
use Rattle.messages.specs.Algebra.{Algebra}
use Rattle.messages.specs.declared.entry.Entry.{Entry}
use Rattle.messages.specs.declared.message.Message.{Message}
use Rattle.plan.specs.Codes.{Code}
use Rattle.plan.specs.Images.{Image, Try, bind, save, image_written}
use Rattle.plan.specs.Images.Try.{done}
use Rattle.plan.specs.Steps.{Step, Sunk, Settled, finish, step, sink, settle}
use Rattle.tree.specs.Nodes.{Node, no_node, node, height}
use Rattle.tree.specs.Operations.{lower_half, split_child, split_key, upper_half, with_new_child}
use Rattle.tree.specs.Update.{after_step, busiest_child, busiest_place, is_full, prepared, run_steps, step_writes, steps_made, target, upper_goes_on}
use Rattle.tree.proofs.Update as up
use Rattle.tree.proofs.Update.{Going}
use Rattle.bridge.specs.Stored.{most_levels, RoundTrip, Stored}
use Rattle.bridge.specs.Work.{AllSound, Work}
use Rattle.bridge.proofs.Outcomes.{Ends, ends_with, bind_ends, save_then}
use Rattle.bridge.proofs.Step.{Holding, length_step, step_ends}
use Rattle.bridge.proofs.Working.{same_work, write_more, wrote}

-- steps that led to the tree a, with the root x: u tree writes, and from the image d on r reads and w writes, to blocks below n
pub record Sank {F : Type 0} (C : Code F) (d : Image) (u r w n : ℕ) (a : List Node) (x : Node) (s : Sunk) : Type 0 where
  pub next_is : s.next ≡ length a
  pub writes_are : s.writes ≡ u % 2 ^ 64
  pub root_is : node a 0 ≡ x
  pub stored : Stored C s.image a
  pub work : Work d s.image r w n

-- the same from the root on, in a tree of height l
pub record Came {F : Type 0} (C : Code F) (d : Image) (u r w n l : ℕ) (a : List Node) (s : Settled) : Type 0 where
  pub height_is : height a ≡ l
  pub next_is : s.next ≡ length a
  pub writes_are : s.writes ≡ u % 2 ^ 64
  pub root_is : s.root ≡ node a 0
  pub stored : Stored C s.image a
  pub work : Work d s.image r w n

-- steps only take blocks
pub length_steps : (K : Algebra) (l : ℕ) (a : List Node) (p : ℕ) → length a ≤ length (run_steps K l a p)
length_steps K zero a p = omega arith
length_steps K (suc l) a p =
    let ih = length_steps K l (after_step K a p) (target a p) in
    cond_both (ltb 256 (length (node a p).messages)) (run_steps K l (after_step K a p) (target a p)) a (λ b. length a ≤ length b)
    (λ _. omega (arith, ih, length_step K a p))
    (λ _. omega arith)

-- ---- the counts
-- a split counts one write, and the current node `own`
added : (b : Bool) (u own x : ℕ) → (cond b ((u + 1) % 2 ^ 64) u + own + x) % 2 ^ 64 ≡ (u + (cond b 1 0 + own + x)) % 2 ^ 64
added true u own x = omega arith
added false u own x = omega arith

-- ---- what goes on after a step from the block p, and from the root
abbrev onward : {F : Type 0} → Code F → ℕ → ℕ → Step → Try Sunk
onward C l p s = bind (save s.image p (C.encode s.parent)) (λ e. sink C l e s.next ((s.writes + 1) % 2 ^ 64) s.block s.child)

abbrev with_root : Step → Sunk → Try Settled
with_root s z = done (record { image = z.image; next = z.next; writes = z.writes; root = s.parent })

abbrev below_root : {F : Type 0} → Code F → ℕ → Step → Try Settled
below_root C l s = bind (sink C l s.image s.next s.writes s.block s.child) (with_root s)

-- ---- the root while steps are made below it
module _ (K : Algebra) (h : List (Entry Message)) (l : ℕ) (a : List Node) (p : ℕ) (g : Going K h (suc l) a p) (big : 256 < length (node a p).messages) where
  target_not_root : 0 < target a p
  target_not_root = go (is_full (node a (busiest_child a p))) (upper_goes_on a p (busiest_child a p))
    where
      go : (x y : Bool) → 0 < cond x (cond y (length a) (busiest_child a p)) (busiest_child a p)
      go true true = omega (arith, g.inside)
      go true false = (up.pt K h l a p g big).not_root
      go false y = (up.pt K h l a p g big).not_root

  -- a step keeps the level of the node that it starts from
  root_level : p < target a p → (node (after_step K a p) p).frame.level ≡ suc l
  root_level above =
      let c = busiest_child a p in
      ap (λ (x : Node). x.frame.level) (get_or-set_other _ (target a p) p _ no_node (λ e. omega arith) ∙ get_or-set_same (prepared a p) p _ no_node (go_length (is_full (node a c))))
      ∙ go (is_full (node a c)) refl
    where
      go_length : (b : Bool) → p < length (cond b (split_child a p (busiest_place a p) (busiest_child a p)) a)
      go_length true = simp (length-append, length-set) (omega (arith, g.inside))
      go_length false = g.inside

      go : (b : Bool) → is_full (node a (busiest_child a p)) ≡ b → (node (cond b (split_child a p (busiest_place a p) (busiest_child a p)) a) p).frame.level ≡ suc l
      go true f = up.lA K h l a p g big f
      go false f = g.level_is

  root_kept : 0 < p → node (after_step K a p) 0 ≡ node a 0
  root_kept pos =
      get_or-set_other _ (target a p) 0 _ no_node (λ e. omega (arith, target_not_root))
      ∙ get_or-set_other _ p 0 _ no_node (λ e. omega arith)
      ∙ go (is_full (node a (busiest_child a p)))
    where
      go : (b : Bool) → node (cond b (split_child a p (busiest_place a p) (busiest_child a p)) a) 0 ≡ node a 0
      go true =
          let c = busiest_child a p in
          let x = node a c in
          let y = x.frame.level in
          let parted = set a p (with_new_child (busiest_place a p) (split_key y x) (length a) (node a p)) in
          get_or_append_left (set parted c (lower_half y x)) (upper_half y x ∷ []) no_node 0 (simp length-set (omega (arith, g.inside)))
          ∙ get_or-set_other parted c 0 _ no_node (λ e. omega (arith, (up.pt K h l a p g big).not_root))
          ∙ get_or-set_other a p 0 _ no_node (λ e. omega arith)
      go false = refl

-- ---- all steps. All is inside the first n blocks of the image d that work began with
module _ {F : Type 0} (C : Code F) (T : RoundTrip C) (d : Image) (n : ℕ) (inside : n ≤ d.size) (numbers_fit : n ≤ most_blocks) (h : List (Entry Message)) where
  abbrev K : Algebra
  K = C.algebra

  -- the last write
  ended : (a : List Node) (p : ℕ) → 0 < p → p < n → (e : Image) (u r w : ℕ) → Holding C e a p p → Work d e r w n
      → Ends (AllSound d) (finish C e (length a) u p (node a p)) (Sank C d (u + 1) (r + 0) (w + 1) n a (node a 0))
  ended a p pos in-n e u r w st k =
      save_then (AllSound d) e p (omega (arith, k.size_kept)) (λ s. k.stays_sound s p (omega (arith, k.size_kept))) (C.encode (node a p)) _ (Sank C d (u + 1) (r + 0) (w + 1) n a (node a 0)) (record {
        next_is = refl;
        writes_are = refl;
        root_is = refl;
        stored = record { in_blocks = λ b i z. wrote C e p b (node a p) (node a b) (λ y. ap (node a) (sym y)) (λ y. st.in_blocks b i z y y); words_fit = st.words_fit };
        work = same_work d (image_written e p (C.encode (node a p))) r (r + 0) (w + 1) (w + 1) n (omega arith) refl (write_more d e r w n k p (C.encode (node a p)) pos in-n);
      })

  pub sink_ends : (l : ℕ) → l ≤ most_levels → (a : List Node) (p : ℕ) (g : Going K h l a p) → 0 < p → (node a p).frame.high ≤ 2 ^ 32 → length (run_steps K l a p) ≤ n
      → (e : Image) (u r w : ℕ) → Holding C e a p p → Work d e r w n
      → Ends (AllSound d) (sink C l e (length a) u p (node a p))
      (Sank C d (u + step_writes K l a p 1) (r + steps_made K l a p) (w + step_writes K l a p 1) n (run_steps K l a p) (node a 0))
  sink_ends zero lev a p g pos span room e u r w st k = ended a p pos (omega (arith, g.inside)) e u r w st k
  sink_ends (suc l) lev a p g pos span room e u r w st k = go (ltb 256 (length (node a p).messages)) refl room
      (λ g' pos' span' room' e' u' r' w' st' k'. sink_ends l (omega arith) (after_step K a p) (target a p) g' pos' span' room' e' u' r' w' st' k')
    where
      go : (b : Bool) → ltb 256 (length (node a p).messages) ≡ b → length (cond b (run_steps K l (after_step K a p) (target a p)) a) ≤ n
          → (Going K h l (after_step K a p) (target a p) → 0 < target a p → (node (after_step K a p) (target a p)).frame.high ≤ 2 ^ 32 → length (run_steps K l (after_step K a p) (target a p)) ≤ n
          → (e : Image) (u r w : ℕ) → Holding C e (after_step K a p) (target a p) (target a p) → Work d e r w n
          → Ends (AllSound d) (sink C l e (length (after_step K a p)) u (target a p) (node (after_step K a p) (target a p)))
          (Sank C d (u + step_writes K l (after_step K a p) (target a p) 1) (r + steps_made K l (after_step K a p) (target a p)) (w + step_writes K l (after_step K a p) (target a p) 1) n (run_steps K l (after_step K a p) (target a p)) (node (after_step K a p) 0)))
          → Ends (AllSound d) (cond b (bind (step C e (length a) u (node a p)) (onward C l p)) (finish C e (length a) u p (node a p)))
          (Sank C d (u + cond b (cond (is_full (node a (busiest_child a p))) 1 0 + 1 + step_writes K l (after_step K a p) (target a p) 1) 1)
          (r + cond b (suc (steps_made K l (after_step K a p) (target a p))) 0)
          (w + cond b (cond (is_full (node a (busiest_child a p))) 1 0 + 1 + step_writes K l (after_step K a p) (target a p) 1) 1)
          n (cond b (run_steps K l (after_step K a p) (target a p)) a) (node a 0))
      go true f room ih =
          let big = ltb-true 256 (length (node a p).messages) f in
          let full = is_full (node a (busiest_child a p)) in
          let b = after_step K a p in
          let c = target a p in
          let x = step_writes K l b c 1 in
          let y = steps_made K l b c in
          let v : ℕ = cond full 1 0 in
          let len = length_steps K l b c in
          bind_ends (AllSound d) (step C e (length a) u (node a p)) (onward C l p) _ _
          (step_ends C T d n inside numbers_fit h l (omega arith) a p g big span (omega arith) e u r w st k)
          (λ s q. save_then (AllSound d) s.image p (omega (arith, q.work.size_kept, g.inside, length_step K a p)) (λ z. q.work.stays_sound z p (omega (arith, q.work.size_kept, g.inside, length_step K a p)))
          (C.encode s.parent) _ _
          (let e' = image_written s.image p (C.encode s.parent) in
          let st' : Holding C e' b c c = record {
            in_blocks = λ o i z y₁ y₂. wrote C s.image p o s.parent (node b o) (λ y. q.parent_is ∙ ap (node b) (sym y)) (λ y. q.holding.in_blocks o i z y y₁);
            words_fit = q.holding.words_fit;
          } in
          let k' = write_more d s.image (r + 1) (w + v) n q.work p (C.encode s.parent) pos (omega (arith, g.inside, length_step K a p)) in
          let rec = ih (up.step_ok K h l a p g big).0 (target_not_root K h l a p g big) q.span_fits room e' ((s.writes + 1) % 2 ^ 64) (r + 1) (w + v + 1) st' k' in
          let there = subst (λ t. Ends (AllSound d) t (Sank C d ((s.writes + 1) % 2 ^ 64 + x) (r + 1 + y) (w + v + 1 + x) n (run_steps K l b c) (node b 0)))
          (λ i. sink C l e' (sym q.next_is i) ((s.writes + 1) % 2 ^ 64) (sym q.block_is i) (sym q.child_is i)) rec in
          ends_with (AllSound d) (sink C l e' s.next ((s.writes + 1) % 2 ^ 64) s.block s.child) _ _ there (λ z o. record {
            next_is = o.next_is;
            writes_are = omega (arith, o.writes_are, q.writes_are, added full u 1 x);
            root_is = o.root_is ∙ root_kept K h l a p g big pos;
            stored = o.stored;
            work = same_work d z.image _ _ _ _ n (omega arith) (omega arith) o.work;
          })))
      go false f room ih = ended a p pos (omega (arith, g.inside)) e u r w st k

  -- the steps from the root on
  pub settle_ends : (l : ℕ) → 0 < l → l ≤ most_levels → (a : List Node) (g : Going K h l a 0) → (node a 0).frame.high ≤ 2 ^ 32 → length (run_steps K l a 0) ≤ n
      → (e : Image) (u r w : ℕ) → u < 2 ^ 64 → Stored C e a → Work d e r w n
      → Ends (AllSound d) (settle C e (length a) u (node a 0))
      (Came C d (u + step_writes K l a 0 0) (r + steps_made K l a 0) (w + step_writes K l a 0 0) n l (run_steps K l a 0))
  settle_ends zero pos lev a g span room e u r w small st k = absurd (omega arith)
  settle_ends (suc l) pos lev a g span room e u r w small st k = go (ltb 256 (length (node a 0).messages)) refl room
    where
      go : (b : Bool) → ltb 256 (length (node a 0).messages) ≡ b → length (cond b (run_steps K l (after_step K a 0) (target a 0)) a) ≤ n
          → Ends (AllSound d) (cond b (bind (step C e (length a) u (node a 0)) (below_root C ((node a 0).frame.level - 1))) (done (record { image = e; next = length a; writes = u; root = node a 0 })))
          (Came C d (u + cond b (cond (is_full (node a (busiest_child a 0))) 1 0 + 0 + step_writes K l (after_step K a 0) (target a 0) 1) 0)
          (r + cond b (suc (steps_made K l (after_step K a 0) (target a 0))) 0)
          (w + cond b (cond (is_full (node a (busiest_child a 0))) 1 0 + 0 + step_writes K l (after_step K a 0) (target a 0) 1) 0)
          n (suc l) (cond b (run_steps K l (after_step K a 0) (target a 0)) a))
      go true f room =
          let big = ltb-true 256 (length (node a 0).messages) f in
          let full = is_full (node a (busiest_child a 0)) in
          let b = after_step K a 0 in
          let c = target a 0 in
          let x = step_writes K l b c 1 in
          let y = steps_made K l b c in
          let v : ℕ = cond full 1 0 in
          let len = length_steps K l b c in
          let level : (node a 0).frame.level - 1 ≡ l = omega (arith, g.level_is) in
          let st₀ : Holding C e a 0 0 = record { in_blocks = λ o i z _ _. st.in_blocks o i z; words_fit = st.words_fit } in
          bind_ends (AllSound d) (step C e (length a) u (node a 0)) (below_root C ((node a 0).frame.level - 1)) _ _
          (step_ends C T d n inside numbers_fit h l (omega arith) a 0 g big span (omega arith) e u r w st₀ k)
          (λ s q.
          let st' : Holding C s.image b c c = record { in_blocks = λ o i z y₁ y₂. q.holding.in_blocks o i z (λ y. omega arith) y₁; words_fit = q.holding.words_fit } in
          let rec = sink_ends l (omega arith) b c (up.step_ok K h l a 0 g big).0 (target_not_root K h l a 0 g big) q.span_fits room s.image s.writes (r + 1) (w + v) st' q.work in
          let there = subst (λ t. Ends (AllSound d) t (Sank C d (s.writes + x) (r + 1 + y) (w + v + x) n (run_steps K l b c) (node b 0)))
          (λ i. sink C (sym level i) s.image (sym q.next_is i) s.writes (sym q.block_is i) (sym q.child_is i)) rec in
          bind_ends (AllSound d) (sink C ((node a 0).frame.level - 1) s.image s.next s.writes s.block s.child) (with_root s) _ _ there (λ z o. record {
            height_is = ap (λ (x : Node). x.frame.level) o.root_is ∙ root_level K h l a 0 g big (target_not_root K h l a 0 g big);
            next_is = o.next_is;
            writes_are = omega (arith, o.writes_are, q.writes_are, added full u 0 x);
            root_is = q.parent_is ∙ sym o.root_is;
            stored = o.stored;
            work = same_work d z.image _ _ _ _ n (omega arith) (omega arith) o.work;
          }))
      go false f room = record {
        height_is = g.level_is;
        next_is = refl;
        writes_are = omega arith;
        root_is = refl;
        stored = st;
        work = same_work d e r (r + 0) w (w + 0) n (omega arith) (omega arith) k;
      }
