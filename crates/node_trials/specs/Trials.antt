-- Blocks with some bytes changed.
use Rattle.std.specs.Prelude.{ℕ, List, [], ◌∷◌, slice_set}
use Rattle.node_trials.specs.declared.tables.Change.{Change}

-- the changes are made one after another; one past the end changes nothing
abbrev pub changed : List Change → List ℕ → List ℕ
changed [] bs = bs
changed (c ∷ cs) bs = changed cs (slice_set bs c.0 c.1)
