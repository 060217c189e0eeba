-- What a store holds after some of many updates.
use Rattle.std.specs.Prelude.{ℕ, ◌<◌, ◌≢◌, List, None}
use Rattle.messages.specs.Algebra.{Algebra}
use Rattle.messages.specs.declared.entry.Entry.{Entry}
use Rattle.messages.specs.declared.message.Message.{Message}
use Rattle.store_laws.specs.Held.{root_of_tree, Holds}
use Rattle.store_plan.specs.Contents.{Contents}
use Rattle.store_plan.specs.Updates.{update_refusal}
use Rattle.trial_runs.specs.Orders.{after_updates}
use Rattle.trial_runs.specs.declared.run.Run.{Run}

-- a store that held the messages h is now c, on a device with an allowance left: it holds those of the first n updates as well, and where
-- these are not all, it refuses one more
pub record Made (K : Algebra) (run : Run) (h : List (Entry Message)) (n : ℕ) (c : Contents) (allowance : ℕ) : Type 0 where
  pub holds : Holds K c (after_updates run.order n h)
  pub short : n < run.updates → update_refusal (root_of_tree K (after_updates run.order n h)) c.image.size allowance ≢ None
