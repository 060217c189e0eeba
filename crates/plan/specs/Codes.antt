-- How nodes stand in blocks.
use Rattle.std.specs.Prelude.{ℕ, List, Option}
use Rattle.messages.specs.Algebra.{Algebra}
use Rattle.messages.specs.declared.entry.Entry.{Entry}
use Rattle.messages.specs.declared.message.Message.{Message}
use Rattle.rules.specs.declared.rule.Rule.{Rule}
use Rattle.tree.specs.Nodes.{Node}

-- the block of a node below the root; the fault of a block where a node of a level and span is expected, with a next free number,
-- told in whatever way; the rule that is then broken; and what the tables of a block say where a node of a level is expected
pub record Code (Fault : Type 0) : Type 0 where
  pub algebra : Algebra
  pub encode : Node → List ℕ
  pub fault : ℕ → ℕ → ℕ → ℕ → List ℕ → Option Fault
  pub rule : Fault → Rule
  pub pivots : ℕ → List ℕ → List ℕ
  pub children : ℕ → List ℕ → List ℕ
  pub messages : ℕ → List ℕ → List (Entry Message)
  pub records : ℕ → List ℕ → List (Entry ℕ)

-- the node that a block says
abbrev pub decoded : {F : Type 0} → Code F → ℕ → ℕ → ℕ → List ℕ → Node
decoded C l low high bs = record {
  frame = record { level = l; low = low; high = high; pivots = C.pivots l bs; children = C.children l bs };
  messages = C.messages l bs;
  records = C.records l bs;
}
