-- Formatting a device, opening a store on it and closing it.
use Rattle.std.specs.Prelude.{ℕ, cond, List, Some, None, Option, ◌==◌, nat_lt}
use Rattle.blocks.specs.declared.state.State.{State}
use Rattle.blocks.specs.declared.state.State.TheVariants.{Sound, Damaged, Lost}
use Rattle.messages.specs.Algebra.{Algebra}
use Rattle.node_ops.specs.CodeOf.{code_of}
use Rattle.nodes.specs.Blocks.{header_of}
use Rattle.nodes.specs.Checks.{root_fault}
use Rattle.nodes.specs.Roots.{Root, root_block, root_of, fresh_root}
use Rattle.plan.specs.Images.{Image, Try, bind, load, save, image_written}
use Rattle.plan.specs.Images.Try.{done, stop}
use Rattle.rules.specs.Marks.{mark_of}
use Rattle.rules.specs.declared.mark.Mark.{Mark}
use Rattle.rules.specs.declared.mark.Mark.TheVariants.{Closed, InUse}
use Rattle.plan.specs.Reports.{node_report, store_report}
use Rattle.rules.specs.declared.rule.Rule.{Rule}
use Rattle.plan.specs.declared.refusal.StoreRefusal.{StoreRefusal}
use Rattle.plan.specs.declared.refusal.StoreRefusal.TheVariants.{NoRoom, NoSuchBlock, Spent, Lost as lost, WrongKind, NotClosed}
use Rattle.store_plan.specs.Contents.{Contents}
use Rattle.store_plan.specs.declared.figures.Figures.{Figures}
use Rattle.tree.specs.Nodes.{node}
use Rattle.tree.specs.Operations.{fresh}

-- ---- formatting
-- a lost block among the two that are written
abbrev pub lost_block : State → State → Option StoreRefusal
lost_block Lost s = Some lost
lost_block Sound Lost = Some lost
lost_block Sound Sound = None
lost_block Sound Damaged = None
lost_block Damaged Lost = Some lost
lost_block Damaged Sound = None
lost_block Damaged Damaged = None

-- the refusal of formatting, the first that holds
abbrev pub format_refusal : Image → ℕ → Option StoreRefusal
format_refusal d allowance =
    cond (nat_lt d.size 4) (Some NoRoom) (cond (nat_lt allowance 2) (Some Spent) (lost_block (d.state 0) (d.state 1)))

-- the empty leaf is written to block 1, then the fresh root to block 0
abbrev pub format_writes : Algebra → Image → Image
format_writes K d = image_written (image_written d 1 ((code_of K).encode (node fresh 1))) 0 (root_block Closed (fresh_root K.number))

abbrev pub unless : {A : Type 0} → Option StoreRefusal → Image → Try A → Try A
unless None d t = t
unless (Some r) d t = stop d (store_report r)

abbrev pub formatted : Algebra → Image → ℕ → Try Image
formatted K d allowance = unless (format_refusal d allowance) d (done (format_writes K d))

-- ---- opening
pub record Opened : Type 0 where
  pub image : Image
  pub root : Root

-- the root is written in use, and kept
abbrev pub take_root : Image → Root → Try Opened
take_root d r = bind (save d 0 (root_block InUse r)) (λ e. done (record { image = e; root = r }))

-- a root that breaks no rule: another kind is refused, and then one that is in use
abbrev pub by_mark : Mark → Image → Root → Try Opened
by_mark Closed d r = take_root d r
by_mark InUse d r = stop d (store_report NotClosed)

abbrev pub by_kind : Algebra → Mark → Image → Root → Try Opened
by_kind K mark d r = cond (r.kind == K.number) (by_mark mark d r) (stop d (store_report WrongKind))

-- the root of block 0, if that is read and breaks no rule
pub record Loaded : Type 0 where
  pub image : Image
  pub root : Root
  pub mark : Mark

abbrev pub by_rule : Option Rule → Image → List ℕ → Try Loaded
by_rule None d bs = done (record { image = d; root = root_of bs; mark = mark_of (header_of bs).mark })
by_rule (Some rule) d bs = stop d (node_report 0 rule)

abbrev pub loaded : Image → Try Loaded
loaded d = bind (load d 0) (λ e. by_rule (root_fault d.size (d.bytes 0)) e (d.bytes 0))

abbrev pub opened : Algebra → Image → ℕ → Try Opened
opened K d allowance =
    cond (d.size == 0) (stop d (store_report NoSuchBlock))
    (cond (nat_lt allowance 2) (stop d (store_report Spent)) (bind (loaded d) (λ l. by_kind K l.mark l.image l.root)))

abbrev pub figures_of : Root → Figures
figures_of r = record { updates = r.updates; height = r.node.frame.level; tree_writes = r.tree_writes }

-- what the store is known by: a refused opening makes a stopped store, whose figures are zeros
abbrev pub opening : Try Opened → Contents
opening (done o) = record { image = o.image; root = Some o.root; first = None; figures = figures_of o.root }
opening (stop d y) = record { image = d; root = None; first = Some y; figures = record { updates = 0; height = 0; tree_writes = 0 } }

-- ---- closing
abbrev pub image_after : Image → Try Image → Image
image_after d (done e) = e
image_after d (stop e y) = e

-- an open store writes its root, closed, if there is allowance for it; a stopped one writes nothing
abbrev pub closed : Image → Option Root → ℕ → Image
closed d None allowance = d
closed d (Some r) allowance = cond (allowance == 0) d (image_after d (save d 0 (root_block Closed r)))
