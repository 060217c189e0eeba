use Rattle.std.proofs.Common.{arith}
use Rattle.store_laws.proofs.LaidOut.{page_laid_out}
use Rattle.store.specs.Views.{contents}
use Rattle.store.proofs.store.Store.page.Goals as goal

pub returns : goal.returns
returns g c =
    let told = c.turn.ensures in
    record {
      value = told.value;
      allowance = told.allowance;
      onward = told.onward;
      fits = told.fits;
      laid_out = page_laid_out g.K.Kind.algebra (contents g.D.Device c.args.self.now) c.args.low c.args.high c.args.table.now _ (omega arith) told.value;
    }
