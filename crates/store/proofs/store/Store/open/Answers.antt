use Rattle.plan.specs.Images.{image}
use Rattle.store_laws.proofs.LaidOut.{open_laid_out}
use Rattle.store.proofs.store.Store.open.Goals as goal

pub returns : goal.returns
returns g c =
    let m = g.D.Device.meaning c.args.device in
    let told = c.take_over.ensures in
    record { value = told.value; lowered = told.lowered; laid_out = open_laid_out g.K.Kind.algebra (image m) m.allowance _ told.value }
