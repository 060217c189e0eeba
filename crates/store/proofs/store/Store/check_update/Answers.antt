use Rattle.store_laws.proofs.LaidOut.{check_laid_out}
use Rattle.store.specs.Views.{contents}
use Rattle.store.proofs.store.Store.check_update.Goals as goal

pub returns : goal.returns
returns g c =
    let told = c.foresee.ensures in
    record {
      value = told.value;
      same = told.same;
      allowance = told.allowance;
      laid_out = check_laid_out g.K.Kind.algebra (contents g.D.Device c.args.self.now) (g.D.Device.meaning c.args.self.now.device).allowance _ told.value;
    }
