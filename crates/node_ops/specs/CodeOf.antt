-- How the nodes of a store of a kind stand in blocks, as the plan of an update sees it.
use Rattle.std.specs.Prelude.{ℕ, cond, List, [], Option, ◌==◌}
use Rattle.messages.specs.Algebra.{Algebra}
use Rattle.messages.specs.declared.entry.Entry.{Entry}
use Rattle.messages.specs.declared.message.Message.{Message}
use Rattle.nodes.specs.Blocks.{node_block, header_of, pivots_of, children_of, messages_of, records_of}
use Rattle.nodes.specs.Checks.{node_fault}
use Rattle.rules.specs.declared.place.Place.{Place}
use Rattle.rules.specs.declared.rule.Rule.{Rule}
use Rattle.plan.specs.Codes.{Code}
use Rattle.tree.specs.Nodes.{Node}

abbrev pub place_at : ℕ → ℕ → ℕ → ℕ → ℕ → Place
place_at level low high kind next = record { level = level; span = record { low = low; high = high }; kind = kind; next_free = next }

-- what the store of a kind writes for a node, which rule a block breaks first, and what its tables say: shut, so that proofs about the
-- steps do not look into blocks
unfoldable pub encode_of : Algebra → Node → List ℕ
encode_of K x = node_block K.number x

unfoldable pub fault_of : Algebra → ℕ → ℕ → ℕ → ℕ → List ℕ → Option Rule
fault_of K level low high next bs = node_fault (place_at level low high K.number next) bs

unfoldable pub pivots_at : ℕ → List ℕ → List ℕ
pivots_at level bs = cond (level == 0) [] (pivots_of (header_of bs) bs)

unfoldable pub children_at : ℕ → List ℕ → List ℕ
children_at level bs = cond (level == 0) [] (children_of (header_of bs) bs)

unfoldable pub messages_at : ℕ → List ℕ → List (Entry Message)
messages_at level bs = cond (level == 0) [] (messages_of (header_of bs) bs)

unfoldable pub records_at : ℕ → List ℕ → List (Entry ℕ)
records_at level bs = cond (level == 0) (records_of (header_of bs) bs) []

abbrev pub code_of : Algebra → Code Rule
code_of K = record {
  algebra = K;
  encode = encode_of K;
  fault = fault_of K;
  rule = λ rule. rule;
  pivots = pivots_at;
  children = children_at;
  messages = messages_at;
  records = records_at;
}
