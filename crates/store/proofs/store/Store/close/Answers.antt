use Rattle.store_laws.proofs.LaidOut.{close_laid_out}
use Rattle.store.specs.Views.{contents}
use Rattle.store.proofs.store.Store.close.Goals as goal

pub returns : goal.returns
returns g c =
    let told = c.hand_back.ensures in
    record {
      value = told.value;
      lowered = told.lowered;
      laid_out = close_laid_out g.K.Kind.algebra (contents g.D.Device c.args.self) (g.D.Device.meaning c.args.self.device).allowance _ told.value;
    }
