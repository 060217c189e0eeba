-- What one update costs: its writes, the blocks that it takes, and the full batches that it moves.
use Rattle.std.proofs.Common.{◌≡◌, ℕ, zero, suc, ◌+◌, ◌*◌, ◌<◌, ◌≤◌, Bool, true, false, cond, eqb, ltb, List, [], ◌∷◌, length, refl, ap, arith, length-append, length-set}
use Rattle.std.proofs.lemmas.Bool.{cond_both}
use Rattle.messages.specs.Algebra.{Algebra}
use Rattle.messages.specs.Lists.{entry}
use Rattle.messages.specs.declared.entry.Entry.{Entry}
use Rattle.messages.specs.declared.message.Message.{Message}
use Rattle.tree.specs.Laws.{CostLaw, FullBatches, BatchLaw}
use Rattle.tree.specs.Nodes.{Node, node, height}
use Rattle.tree.specs.Operations.{cut_root, joined}
use Rattle.tree.specs.Shape.{Tree}
use Rattle.tree.specs.Update.{prepared, target, after_step, run_steps, raised, step_writes, grown}
use Rattle.tree.proofs.Grown.{held, grown_tree}
use Rattle.tree.proofs.Lengths.{length_step_le}
use Rattle.tree.proofs.Lists.{size_full}
use Rattle.tree.proofs.Update.{Going, starts, step_ok, step_pending}

-- ---- writes and blocks
-- at most one write for each half that stays behind, and one for each node below
step_writes_le : (K : Algebra) (l : ℕ) (a : List Node) (p own : ℕ) → step_writes K l a p own ≤ own + 2 * l
step_writes_le K zero a p own = omega arith
step_writes_le K (suc l) a p own = let h = step_writes_le K l (after_step K a p) (target a p) 1 in grind arith

length_steps : (K : Algebra) (l : ℕ) (a : List Node) (p : ℕ) → length (run_steps K l a p) ≤ length a + l
length_steps K zero a p = omega arith
length_steps K (suc l) a p =
    let ih = length_steps K l (after_step K a p) (target a p) in
    cond_both (ltb 256 (length (node a p).messages)) (run_steps K l (after_step K a p) (target a p)) a (λ b. length b ≤ length a + suc l)
    (λ _. omega (arith, ih, length_step_le K a p))
    (λ _. omega arith)

-- a node of at most 256 messages has no steps
no_writes : (K : Algebra) (l : ℕ) (a : List Node) → length (node a 0).messages ≤ 256 → step_writes K l a 0 0 ≡ 0
no_writes K zero a h = refl
no_writes K (suc l) a h = grind arith

no_steps : (K : Algebra) (l : ℕ) (a : List Node) → length (node a 0).messages ≤ 256 → run_steps K l a 0 ≡ a
no_steps K zero a h = refl
no_steps K (suc l) a h = grind arith

-- after a cut the root has the one message that came
one_message : (K : Algebra) (a : List Node) (k : ℕ) (m : Message) → 0 < length a → length (node (joined K k m (cut_root a)) 0).messages ≡ 1
one_message K [] k m h = absurd (omega arith)
one_message K (x ∷ a) k m h = refl

module _ (K : Algebra) (a : List Node) (t : Tree a) (k : ℕ) (m : Message) where
  cost : (b : Bool) → eqb (length (node a 0).frame.children) 8 ≡ b
      → (cond b 2 0 + step_writes K (height (cond b (cut_root a) a)) (joined K k m (cond b (cut_root a) a)) 0 0 ≤ 2 * height a)
      × (length (run_steps K (height (cond b (cut_root a) a)) (joined K k m (cond b (cut_root a) a)) 0) ≤ length a + (height a + 1))
  cost true e =
      let n = one_message K a k m t.has_root in
      let w = no_writes K (height (cut_root a)) (joined K k m (cut_root a)) (omega arith) in
      let s = no_steps K (height (cut_root a)) (joined K k m (cut_root a)) (omega arith) in
      let len : length (joined K k m (cut_root a)) ≡ length a + 2 = simp (length-append, length-set) in
      (omega (arith, w, t.root_inner), omega (arith, ap (λ (x : List Node). length x) s, t.root_inner))
  cost false e =
      let len : length (joined K k m a) ≡ length a = simp length-set in
      (omega (arith, step_writes_le K (height a) (joined K k m a) 0 0), omega (arith, length_steps K (height a) (joined K k m a) 0))

pub costs : CostLaw
costs K h ks k m lt =
    let c = cost K (grown K h) (grown_tree K h ks) k m (eqb (length (node (grown K h) 0).frame.children) 8) refl in
    record { writes_at_most = c.0; blocks_at_most = c.1 }

-- ---- full batches
full_batches : (K : Algebra) (h : List (Entry Message)) (l : ℕ) (a : List Node) (p : ℕ) → Going K h l a p → FullBatches K l a p
full_batches K h zero a p g = tt
full_batches K h (suc l) a p g = λ big.
    (size_full _ _ (node (prepared a p) p).messages (step_pending K h l a p g big), full_batches K h l (after_step K a p) (target a p) (step_ok K h l a p g big).0)

pub batches : BatchLaw
batches K h ks k m lt =
    let i = held K h ks in
    let a = raised (grown K h) in
    full_batches K (entry k m ∷ h) (height a) (joined K k m a) 0 (starts K (grown K h) h i.moves k m lt i.reached i.sized)
