use Rattle.std.proofs.Common.{◌-◌, ◌^◌}
use Rattle.std.specs.Option.{option_map_or}
use Rattle.page_trials.proofs.pages.read_all.Given as goal

-- the keys from the next one on
abbrev pub decreases-loop-next : goal.decreases-loop-next
decreases-loop-next g l = option_map_or (λ k. 2 ^ 32 - k) l.next 0
