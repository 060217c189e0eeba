use Rattle.std.proofs.Common.{ap, ◌∙◌, arith}
use Rattle.nodes.specs.Roots.{Root, view_root}
use Rattle.store_laws.specs.Held.{root_of_tree}
use Rattle.store_laws.proofs.LaidOut.{update_laid_out}
use Rattle.store_plan.specs.Updates.{update_refusal}
use Rattle.store.specs.Views.{contents}
use Rattle.store.proofs.Wearing.{is_ok, in_memory, worn}
use Rattle.store.proofs.store.Store.update.Goals as goal

pub returns : goal.returns
returns g c =
    let K = g.K.Kind.algebra in
    let m = g.D.Device.meaning in
    let self = c.args.self.now in
    let before = contents g.D.Device self in
    let size = (m self.device).size in
    let allowance = (m self.device).allowance in
    let told = c.let_arrive.ensures in
    let laid_out = update_laid_out K before allowance c.args.key c.args.message _ (omega arith) c.word_fits.ensures told.value in
    record {
      value = told.value;
      lowered = told.lowered;
      laid_out = laid_out;
      worn = λ h holds.
          let root = ap (λ (r : Root). update_refusal r size allowance) (in_memory self.stopped (view_root self.workspace.root) (root_of_tree K h) holds.root_is) in
          worn K before h c.args.key c.args.message _ allowance _ _ holds (λ e. told.spent (is_ok g.D.Device.number c.let_arrive.result e)) _ (λ y refused. told.spared y (root ∙ refused)) (laid_out h holds);
    }
