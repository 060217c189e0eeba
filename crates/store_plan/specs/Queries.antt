-- A query of a store.
use Rattle.std.specs.Prelude.{ℕ, Some, None, Option}
use Rattle.messages.specs.Algebra.{Algebra}
use Rattle.node_ops.specs.CodeOf.{code_of}
use Rattle.nodes.specs.Roots.{Root}
use Rattle.plan.specs.Images.{Image, Try}
use Rattle.plan.specs.Images.Try.{done, stop}
use Rattle.plan.specs.Queries.{Answered, seek}
use Rattle.store_plan.specs.Contents.{Contents, Called}
use Rattle.store_plan.specs.Contents.Answer.{accepted, refused, was_stopped}

abbrev pub with_image : Contents → Image → Contents
with_image c d = record { image = d; root = c.root; first = c.first; figures = c.figures }

-- a fault in reading leaves the store open
abbrev pub found : Contents → Try Answered → Called (Option ℕ × ℕ)
found c (done a) = record { answer = accepted (a.value, a.reads); contents = with_image c a.image }
found c (stop d y) = record { answer = refused y; contents = with_image c d }

abbrev pub queried : Algebra → Contents → Option Root → ℕ → Called (Option ℕ × ℕ)
queried K c None k = record { answer = was_stopped c.first; contents = c }
queried K c (Some r) k = found c (seek (code_of K) r.node.frame.level c.image r.next_free r.node k None 0)
