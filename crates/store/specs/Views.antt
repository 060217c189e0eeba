-- What a store is known by, and what its calls answer, as the definitions of the plan see them.
use Rattle.std.specs.Prelude.{ℕ, Some, None, Ok, Err, Option, Result}
use Rattle.blocks.specs.declared.device.Device.{Ghosts}
use Rattle.nodes.specs.Roots.{Root, view_root}
use Rattle.plan.specs.Images.{image}
use Rattle.plan.specs.Reports.{Report, told_by}
use Rattle.store_plan.specs.Contents.{Contents, Answer, Called}
use Rattle.store_plan.specs.Contents.Answer.{accepted, refused, was_stopped}
use Rattle.plan.specs.declared.cause.Cause.{Cause}
use Rattle.store.specs.declared.fault.Fault.{Fault}
use Rattle.store.specs.declared.fault.Fault.TheVariants.{Met, Stopped}
use Rattle.store.specs.declared.store.Store.{Store}

abbrev pub open_root : {F : Type 0} → Option (Cause F) → Root → Option Root
open_root None r = Some r
open_root (Some c) r = None

abbrev pub first_report : {F : Type 0} → (F → ℕ) → Option (Cause F) → Option Report
first_report number None = None
first_report number (Some c) = Some (told_by number c)

abbrev pub contents : {D K F : Type 0} → (G : Ghosts D F) → Store D K F G → Contents
contents G s = record {
  image = image (G.meaning s.device);
  root = open_root s.stopped (view_root s.workspace.root);
  first = first_report G.number s.stopped;
  figures = record { updates = s.workspace.root.updates; height = s.height; tree_writes = s.workspace.root.tree_writes };
}

-- the fault of a call where the store was stopped before
abbrev pub stopped_before : {F : Type 0} → Option (Cause F) → Option (Fault F)
stopped_before None = None
stopped_before (Some c) = Some (Stopped c)

abbrev pub answer : {T F : Type 0} → (F → ℕ) → Result T (Fault F) → Answer T
answer number (Ok x) = accepted x
answer number (Err (Met c)) = refused (told_by number c)
answer number (Err (Stopped c)) = was_stopped (Some (told_by number c))

-- what a call that left the store s answered
abbrev pub call_of : {T D K F : Type 0} (G : Ghosts D F) → Result T (Fault F) → Store D K F G → Called T
call_of G r s = record { answer = answer G.number r; contents = contents G s }
