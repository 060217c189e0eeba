use Rattle.std.proofs.Common.{sym, ◌∙◌, add-one}
use Rattle.plan.specs.Reports.{Report}
use Rattle.store.specs.Views.{contents, answer}
use Rattle.store_plan.specs.Contents.{Called}
use Rattle.trial_runs.specs.Orders.{after_updates}
use Rattle.trial_runs.proofs.Outcomes.{not_accepted, not_refused, one_more, same_contents, same_allowance, refused_again, made_so_far}
use Rattle.trial_runs.proofs.run.make_updates.Goals as goal

pub returns-then-is_err-clause-made : goal.returns-then-is_err-clause-made
returns-then-is_err-clause-made g c h held =
    let K = g.K.Kind.algebra in
    let before = contents g.D.Device c.loop-i.store in
    let after = contents g.D.Device c.update.new.self in
    let r : Called (Unit {0}) = record { answer = answer g.D.Device.number c.update.result; contents = after } in
    let so_far = after_updates c.args.run.order c.loop-i.i h in
    let holds = c.loop-i.invariant h held in
    let outcome = c.update.ensures.laid_out so_far holds in
    let failed = not_accepted g.D.Device.number c.update.result (sym c.is_err.ensures.value ∙ c.if-is_err.true) in
    made_so_far K c.args.run h c.loop-i.i before after _ _ holds
    (same_contents K before so_far c.key.result c.message.result r _ outcome failed)
    (same_allowance K before so_far c.key.result c.message.result r _ _ _ outcome failed c.update.ensures.lowered.0 (c.update.ensures.worn so_far holds))
    (refused_again K before so_far c.key.result c.message.result r _ outcome failed)

pub loop-i-preserved : goal.loop-i-preserved
loop-i-preserved g c h held =
    let so_far = after_updates c.args.run.order c.loop-i.i h in
    let outcome = c.update.ensures.laid_out so_far (c.loop-i.invariant h held) in
    let taken = λ (y : Report). not_refused g.D.Device.number c.update.result y (sym c.is_err.ensures.value ∙ c.if-is_err.false) in
    let more = one_more g.K.Kind.algebra (contents g.D.Device c.loop-i.store) so_far c.key.result c.message.result _ _ outcome taken in
    let next = rw (c.key.ensures, c.message.ensures) at more in
    rw add-one next
