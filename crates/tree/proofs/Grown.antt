-- What holds of every tree that updates grow: it is reached by operations, its sizes are right, and its writes are counted.
use Rattle.std.proofs.Common.{◌≡◌, ℕ, zero, suc, ◌+◌, ◌-◌, ◌*◌, ◌^◌, ◌<◌, ◌≤◌, cond, ltb, List, [], ◌∷◌, map, length, get_or, refl, ap, subst, subst₂, arith}
use Rattle.std.proofs.lemmas.List.{length-map, length-set}
use Rattle.messages.specs.Algebra.{Algebra}
use Rattle.messages.specs.declared.entry.Entry.{Entry}
use Rattle.messages.specs.declared.message.Message.{Message}
use Rattle.tree.specs.Laws.{Keys, WearLaw}
use Rattle.tree.specs.Lookup.{lookup, said}
use Rattle.tree.specs.Nodes.{Node, height, node}
use Rattle.tree.specs.Operations.{fresh, joined}
use Rattle.tree.specs.Shape.{Tree, AllSized}
use Rattle.tree.specs.Limits.{most_entries}
use Rattle.tree.specs.Update.{after_step, batches_moved, busiest_child, grown, is_full, raised, run_steps, step_writes, steps_made, target, tree_writes}
use Rattle.tree.proofs.Wear.{Shape, shape}
use Rattle.tree.proofs.Reached.{Reached, shape_of}
use Rattle.tree.proofs.Reached.Reached.{start}
use Rattle.tree.proofs.Invariants.{says_as_told, worn, tree, inv}
use Rattle.tree.proofs.Real.{at_shape}
use Rattle.tree.proofs.Lengths.{cases_bool, length_step, length_raised}
use Rattle.tree.proofs.Update.{updated}

pub record Held (K : Algebra) (h : List (Entry Message)) : Type 0 where
  pub moves : ℕ
  pub reached : Reached K (grown K h) h moves
  pub sized : AllSized (grown K h)
  pub tally : tree_writes K h + 2 ≡ moves + length (grown K h)

fresh_sized : AllSized fresh
fresh_sized zero h = record { messages_le = omega arith; records_le = omega arith; children_le = omega arith; leaf = λ e. absurd (omega arith); bare = λ _. refl; inner = λ g o. absurd (omega arith) }
fresh_sized (suc zero) h = record { messages_le = omega arith; records_le = omega arith; children_le = omega arith; leaf = λ _. refl; bare = λ _. refl; inner = λ g. absurd (omega arith) }
fresh_sized (suc (suc b)) h = absurd (omega arith)

pub held : (K : Algebra) (h : List (Entry Message)) → Keys h → Held K h
held K [] ks = record { moves = 0; reached = start; sized = fresh_sized; tally = refl }
held K (e ∷ h) ks =
    let i = held K h ks.1 in
    let d = updated K (grown K h) h i.moves e.key e.value ks.0 i.reached i.sized in
    record { moves = d.moves; reached = d.reached; sized = d.sized; tally = omega (arith, d.tally, i.tally) }

pub grown_tree : (K : Algebra) (h : List (Entry Message)) → Keys h → Tree (grown K h)
grown_tree K h ks = let i = held K h ks in tree K (grown K h) h i.moves i.reached

pub grown_says : (K : Algebra) (h : List (Entry Message)) → Keys h → (k : ℕ) → k < 2 ^ 32 → lookup K (grown K h) k ≡ said K k h
grown_says K h ks k lt = let i = held K h ks in says_as_told K (grown K h) h i.moves i.reached k lt

-- ---- wear
level_of : (a : List Node) → (get_or (map shape_of a) 0 (shape 0 0 0)).level ≡ height a
level_of a = ap (λ (x : Shape). x.level) (at_shape a 0)

-- the writes of steps, by the batches that they move and the blocks that they take
step_writes_are : (K : Algebra) (l : ℕ) (a : List Node) (p own : ℕ) → step_writes K l a p own + length a ≡ own + steps_made K l a p + length (run_steps K l a p)
step_writes_are K zero a p own = omega arith
step_writes_are K (suc l) a p own =
    let ih = step_writes_are K l (after_step K a p) (target a p) 1 in
    let n = length_step K a p in
    cases_bool (ltb most_entries (length (node a p).messages))
    (λ t. cond t (cond (is_full (node a (busiest_child a p))) 1 0 + own + step_writes K l (after_step K a p) (target a p) 1) own + length a
    ≡ own + cond t (suc (steps_made K l (after_step K a p) (target a p))) 0 + length (cond t (run_steps K l (after_step K a p) (target a p)) a))
    (omega arith) (omega arith)

counted : (K : Algebra) (h : List (Entry Message)) → tree_writes K h + 2 ≡ batches_moved K h + length (grown K h)
counted K [] = refl
counted K (e ∷ h) =
    let a = grown K h in
    let b = raised a in
    let s = step_writes_are K (height b) (joined K e.key e.value b) 0 0 in
    let n : length (joined K e.key e.value b) ≡ length b = simp length-set in
    omega (arith, counted K h, s, length_raised a)

pub wear : WearLaw
wear K h ks =
    let i = held K h ks in
    let w = worn K (grown K h) h i.moves i.reached in
    let v = inv K (grown K h) h i.moves i.reached in
    let writes_are : i.moves + (length (grown K h) - 2) ≡ tree_writes K h = omega (arith, i.tally, v.written, length-map (grown K h) shape_of) in
    record {
      counted = counted K h;
      pace = subst₂ (λ x y. 16 * x ≤ length h * (y + 1)) writes_are (level_of (grown K h)) w.pace;
      tall = subst (λ y. 2 ≤ y → 113 * (2 * 4 ^ (y - 1) - 1) ≤ length h) (level_of (grown K h)) w.tall;
    }

-- three blocks are taken beyond the first two for each 226 updates at most
pub room : (K : Algebra) (h : List (Entry Message)) → Keys h → 226 * (length (grown K h) - 2) ≤ 3 * length h
room K h ks = let i = held K h ks in omega (arith, (worn K (grown K h) h i.moves i.reached).room, length-map (grown K h) shape_of)
