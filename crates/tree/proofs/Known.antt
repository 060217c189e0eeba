-- A known run, computed on the definitions.
use Rattle.std.proofs.Common.{◌≡◌, ℕ, ◌+◌, List, [], ◌∷◌, sym, refl, ap, ◌∙◌}
use Rattle.messages.specs.Algebra.{Algebra}
use Rattle.messages.specs.declared.entry.Entry.{Entry}
use Rattle.messages.specs.declared.message.Message.{Message}
use Rattle.tree.specs.Laws.{KnownRun, rising_keys}
use Rattle.tree.specs.Nodes.{Node, height, next_free}
use Rattle.tree.specs.Operations.{fresh}
use Rattle.tree.specs.Update.{update, writes, grown, tree_writes}

-- tree and writes side by side, so that each update is computed once
abbrev Run : Type 0
Run = record { tree : List Node; written : ℕ }

run : Algebra → List (Entry Message) → Run
run K [] = record { tree = fresh; written = 0 }
run K (e ∷ h) =
    let r = run K h in record { tree = update K e.key e.value r.tree; written = r.written + writes K e.key e.value r.tree }

run_is : (K : Algebra) (h : List (Entry Message)) → run K h ≡ record { tree = grown K h; written = tree_writes K h }
unfolding run
run_is K [] = refl
run_is K (e ∷ h) =
    ap (λ (r : Run). record { tree = update K e.key e.value r.tree; written = r.written + writes K e.key e.value r.tree }) (run_is K h)

figures : Run → record { written : ℕ; height : ℕ; next : ℕ }
figures r = record { written = r.written; height = height r.tree; next = next_free r.tree }

run_513 : (K : Algebra) (v : ℕ) → figures (run K (rising_keys v 513)) ≡ record { written = 18; height = 1; next = 3 }
unfolding run figures
run_513 K v = refl

pub known_run : (K : Algebra) (v : ℕ) → KnownRun K v
unfolding figures
known_run K v =
    let e : figures (record { tree = grown K (rising_keys v 513); written = tree_writes K (rising_keys v 513) }) ≡ record { written = 18; height = 1; next = 3 } =
    ap figures (sym (run_is K (rising_keys v 513))) ∙ run_513 K v in
    record { writes_are = ap (λ f. f.written) e; height_is = ap (λ f. f.height) e; next_is = ap (λ f. f.next) e }
