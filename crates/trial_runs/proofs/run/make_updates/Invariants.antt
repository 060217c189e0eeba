use Rattle.std.proofs.Common.{List}
use Rattle.messages.specs.declared.entry.Entry.{Entry}
use Rattle.messages.specs.declared.message.Message.{Message}
use Rattle.store.specs.Views.{contents}
use Rattle.store_laws.specs.Held.{Holds}
use Rattle.trial_runs.specs.Orders.{after_updates}
use Rattle.trial_runs.proofs.run.make_updates.Given as goal

abbrev pub invariant-loop-i : goal.invariant-loop-i
invariant-loop-i g l = (h : List (Entry Message)) → Holds g.K.Kind.algebra (contents g.D.Device l.initial.store) h → Holds g.K.Kind.algebra (contents g.D.Device l.store) (after_updates l.run.order l.i h)
