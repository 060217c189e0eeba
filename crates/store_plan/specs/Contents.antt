-- What a store is known by, and what a call of it answers.
use Rattle.std.specs.Prelude.{Option}
use Rattle.nodes.specs.Roots.{Root}
use Rattle.plan.specs.Images.{Image}
use Rattle.plan.specs.Reports.{Report}
use Rattle.store_plan.specs.declared.figures.Figures.{Figures}

-- the device's image; the root while the store is open, else the report of what stopped it; and the figures
pub record Contents : Type 0 where
  pub image : Image
  pub root : Option Root
  pub first : Option Report
  pub figures : Figures

-- what a call answers: a value, a refusal of its own, or that the store was stopped before
pub data Answer (A : Type 0) : Type 0 where
  accepted : A → Answer A
  refused : Report → Answer A
  was_stopped : Option Report → Answer A

-- what a call answers, and what the store is known by afterwards
pub record Called (A : Type 0) : Type 0 where
  pub answer : Answer A
  pub contents : Contents
