-- What a store cost when it is closed.
use Rattle.std.specs.Prelude.{ℕ}
use Rattle.store_plan.specs.Contents.{Contents}
use Rattle.store_plan.specs.Openings.{closed}
use Rattle.trial_runs.specs.declared.cost.Cost.{Cost}

-- the figures of a store with such contents on a device with an allowance, and the device's counts after closing
abbrev pub cost_of : Contents → ℕ → Cost
cost_of c allowance =
    record { figures = c.figures; reads = (closed c.image c.root allowance).reads; writes = (closed c.image c.root allowance).writes }
