use Rattle.std.proofs.Common.{arith}
use Rattle.store_laws.proofs.LaidOut.{query_laid_out}
use Rattle.store.specs.Views.{contents}
use Rattle.store.proofs.store.Store.query.Goals as goal

pub returns : goal.returns
returns g c =
    let told = c.ask.ensures in
    record {
      value = told.value;
      allowance = told.allowance;
      laid_out = query_laid_out g.K.Kind.algebra (contents g.D.Device c.args.self.now) c.args.key _ (omega arith) told.value;
    }
