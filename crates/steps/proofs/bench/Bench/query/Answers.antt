use Rattle.std.proofs.Common.{None, refl, ◌∙◌, arith}
use Rattle.std.proofs.lemmas.Result.{err_from_is_err_and}
use Rattle.node_ops.specs.CodeOf.{code_of}
use Rattle.nodes.specs.Views.{view}
use Rattle.steps.specs.Outcomes.{image_of}
use Rattle.steps.proofs.Seeking.{settles, stops, goes}
use Rattle.steps.proofs.bench.Bench.query.Goals as goal

pub down-init : goal.down-init
down-init g c =
    let C = code_of g.K.Kind.algebra in
    let x = c.args.root.now.node in
    let told = c.in_ok-enter.ensures in
    let less = told.level refl in
    record {
      same = goes C (image_of g.D.Device c.args.device.now) c.args.root.now.next_free (view x) c.args.key None 0 x.level _ _ _ _ refl less c.in-Down.ensures told.value;
      allowance = told.allowance;
      level = omega (arith, less);
    }

pub returns-in-Settled-judge-clause-value : goal.returns-in-Settled-judge-clause-value
returns-in-Settled-judge-clause-value g c =
    let C = code_of g.K.Kind.algebra in
    let x = c.down.self.here in
    settles C (image_of g.D.Device c.down.device) c.args.root.now.next_free (view x) c.args.key c.down.met c.down.reads x.level _ _ c.down.invariant.same (omega arith) c.in-Settled-judge.ensures

pub returns-in_err-go_down-clause-value : goal.returns-in_err-go_down-clause-value
returns-in_err-go_down-clause-value g c =
    let C = code_of g.K.Kind.algebra in
    let x = c.down.self.here in
    let met = err_from_is_err_and c.from_residual-in_err-go_down.result c.from_residual-in_err-go_down.ensures.1 in
    rw (met.1, met.2)
    (stops C (image_of g.D.Device c.down.device) c.args.root.now.next_free (view x) c.args.key c.down.met c.down.reads x.level _ _ _ _ c.down.invariant.same (omega arith) c.in-Down-judge.ensures c.in_err-go_down.ensures.value)

pub down-preserved : goal.down-preserved
down-preserved g c =
    let C = code_of g.K.Kind.algebra in
    let x = c.down.self.here in
    let told = c.in_ok-go_down.ensures in
    let less = told.level refl in
    record {
      same = goes C (image_of g.D.Device c.down.device) c.args.root.now.next_free (view x) c.args.key c.down.met c.down.reads x.level _ _ _ _ c.down.invariant.same less c.in-Down-judge.ensures told.value;
      allowance = told.allowance ∙ c.down.invariant.allowance;
      level = omega (arith, less);
    }
