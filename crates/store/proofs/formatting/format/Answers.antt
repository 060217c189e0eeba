use Rattle.plan.specs.Images.{image}
use Rattle.store_laws.proofs.LaidOut.{format_laid_out}
use Rattle.store.proofs.formatting.format.Goals as goal

pub returns : goal.returns
returns g c =
    let d = c.args.device.now in
    let m = g.D.Device.meaning d in
    let told = c.lay_out.ensures in
    record { value = told.value; lowered = told.lowered; laid_out = format_laid_out g.K.Kind.algebra (image m) m.allowance _ (g.D.Device.sane d).small told.value }
