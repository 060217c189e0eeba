-- An update of a store: when it is refused, and what it leaves.
use Rattle.std.specs.Prelude.{ℕ, ◌+◌, ◌-◌, ◌*◌, cond, ◌&&◌, length, Some, None, Option, ◌==◌, nat_lt}
use Rattle.messages.specs.Algebra.{Algebra}
use Rattle.messages.specs.declared.message.Message.{Message}
use Rattle.node_ops.specs.CodeOf.{code_of}
use Rattle.nodes.specs.Roots.{Root}
use Rattle.plan.specs.Images.{Try}
use Rattle.plan.specs.Images.Try.{done, stop}
use Rattle.plan.specs.Steps.{Settled, updated}
use Rattle.plan.specs.Reports.{store_report}
use Rattle.plan.specs.declared.refusal.StoreRefusal.{StoreRefusal}
use Rattle.plan.specs.declared.refusal.StoreRefusal.TheVariants.{FullCount, NoRoom, Spent}
use Rattle.store_plan.specs.Contents.{Contents, Answer, Called}
use Rattle.store_plan.specs.Contents.Answer.{accepted, refused, was_stopped}

-- the refusal of an update on a device of a size with an allowance left, the first that holds
abbrev pub update_refusal : Root → ℕ → ℕ → Option StoreRefusal
update_refusal r size allowance =
    cond (r.updates == 4294967296) (Some FullCount)
    (cond (nat_lt (size - r.next_free) (r.node.frame.level + 1)) (Some NoRoom)
    (cond (length r.node.frame.children == 8 && r.node.frame.level == 8) (Some NoRoom)
    (cond (nat_lt allowance (2 * r.node.frame.level + 1)) (Some Spent) None)))

-- the root after an update that came to its end
abbrev pub updated_root : Root → Settled → Root
updated_root r s = record { node = s.root; kind = r.kind; next_free = s.next; updates = r.updates + 1; tree_writes = s.writes }

-- the steps came to their end, or a fault stops the store: what was written stands, and the figures stay
abbrev pub settled : Contents → Root → Try Settled → Called (Unit {0})
settled c r (done s) = record {
  answer = accepted tt;
  contents = record {
    image = s.image;
    root = Some (updated_root r s);
    first = None;
    figures = record { updates = r.updates + 1; height = s.root.frame.level; tree_writes = s.writes };
  };
}
settled c r (stop d y) = record { answer = refused y; contents = record { image = d; root = None; first = Some y; figures = c.figures } }

abbrev pub unless_refused : Contents → Option StoreRefusal → Called (Unit {0}) → Called (Unit {0})
unless_refused c None done' = done'
unless_refused c (Some r) done' = record { answer = refused (store_report r); contents = c }

abbrev pub updated_store : Algebra → Contents → Option Root → ℕ → ℕ → Message → Called (Unit {0})
updated_store K c None allowance k m = record { answer = was_stopped c.first; contents = c }
updated_store K c (Some r) allowance k m =
    unless_refused c (update_refusal r c.image.size allowance)
    (settled c r (updated (code_of K) c.image r.next_free r.tree_writes r.node k m))

-- what an update would be refused for now, if it would
abbrev pub by_refusal : Option StoreRefusal → Answer (Unit {0})
by_refusal None = accepted tt
by_refusal (Some r) = refused (store_report r)

abbrev pub update_check : Contents → Option Root → ℕ → Answer (Unit {0})
update_check c None allowance = was_stopped c.first
update_check c (Some r) allowance = by_refusal (update_refusal r c.image.size allowance)
