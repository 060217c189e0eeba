use Rattle.std.proofs.Common.{◌≡◌, ℕ, [], Ok, Err, Result, arith}
use Rattle.messages.specs.Quantity.{quantity_algebra}
use Rattle.plan.specs.Images.{Image, image}
use Rattle.plan.specs.Images.Try.{done}
use Rattle.steps.specs.Causes.{tried}
use Rattle.plan.specs.declared.cause.Cause.{Cause}
use Rattle.store_laws.specs.Held.{Rests}
use Rattle.trial_runs.proofs.fresh.new_store.Goals as goal

-- what was tried gave the image e
tried_gives : {T F : Type 0} (number : F → ℕ) (r : Result T (Cause F)) (d e : Image) → tried number r d (λ _. d) ≡ done e → d ≡ e
tried_gives number (Ok x) d e same = cc
tried_gives number (Err c) d e same = let never : ◌≡◌ {A = ℕ} 0 1 = cc in absurd (omega arith)

pub returns : goal.returns
returns g c sound room left =
    let after = image (g.D.Device.meaning c.format.new.device) in
    let made = c.format.ensures.laid_out sound room (omega arith) in
    let is = tried_gives g.D.Device.number c.format.result after _ made.formatted_is in
    let rests : Rests quantity_algebra after [] = rw is made.rests in
    (c.open.ensures.laid_out [] rests (omega (arith, c.format.ensures.lowered))).holds
