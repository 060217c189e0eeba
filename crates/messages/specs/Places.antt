-- What stands at a place of a list.
use Rattle.std.specs.Prelude.{ℕ, cond, List, [], ◌∷◌, drop, Some, None, Option, ◌==◌}
use Rattle.messages.specs.declared.entry.Entry.{Entry}

-- the value of the first entry, if that has the key
abbrev pub first_value : {V : Type 0} → ℕ → List (Entry V) → Option V
first_value k [] = None
first_value k (x ∷ xs) = cond (x.key == k) (Some x.value) None

-- the value of the entry at a place, if that has the key
abbrev pub value_at : {V : Type 0} → ℕ → ℕ → List (Entry V) → Option V
value_at place k xs = first_value k (drop place xs)
