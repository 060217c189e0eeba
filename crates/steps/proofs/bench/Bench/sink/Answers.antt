use Rattle.std.proofs.Common.{◌+◌, ◌%◌, ◌^◌, refl, ap, ◌∙◌, arith, rules}
use Rattle.std.proofs.lemmas.Result.{err_from_is_err_and}
use Rattle.node_ops.specs.CodeOf.{code_of}
use Rattle.nodes.specs.declared.node.Node.{Node as NodeInMemory}
use Rattle.nodes.specs.Views.{view}
use Rattle.plan.specs.Steps.{sink}
use Rattle.steps.specs.Outcomes.{image_of}
use Rattle.steps.proofs.Spending.{rise_one, rise_more}
use Rattle.steps.proofs.Sinking.{step_stops, save_stops, goes, ends}
use Rattle.steps.proofs.bench.Bench.sink.Goals as goal

pub returns-in_err-to-clause-value : goal.returns-in_err-to-clause-value
returns-in_err-to-clause-value g c =
    let p = c.down.progress in
    let met = err_from_is_err_and c.from_residual.result c.from_residual.ensures.1 in
    rw (met.1, met.2)
    (step_stops (code_of g.K.Kind.algebra) (image_of g.D.Device c.down.device) p.next_free p.tree_writes c.down.at (view c.down.self.here) _ _ _ c.down.invariant.same c.down-test.ensures.value c.in_err-to.ensures.value)

pub returns-in_err-save_counted-clause-value : goal.returns-in_err-save_counted-clause-value
returns-in_err-save_counted-clause-value g c =
    let p = c.down.progress in
    let met = err_from_is_err_and c.from_residual-in_err-save_counted.result c.from_residual-in_err-save_counted.ensures.1 in
    rw (met.1, met.2)
    (save_stops (code_of g.K.Kind.algebra) (image_of g.D.Device c.down.device) p.next_free p.tree_writes c.down.at (view c.down.self.here) _ _ _ _ c.down.invariant.same c.down-test.ensures.value c.in_ok-to.ensures.value c.in_err-save_counted.ensures.value)

pub down-preserved : goal.down-preserved
down-preserved g c =
    let C = code_of g.K.Kind.algebra in
    let f = image_of g.D.Device c.save_counted.new.device in
    let p = c.down.progress in
    let q = c.make_step.new.progress in
    let r = c.save_counted.new.progress in
    let went = c.in_ok-to.ensures in
    let saved = c.in_ok-save_counted.ensures in
    let due = c.down-test.ensures in
    let here = c.swap.ensures.x_after in
    let level = ap (λ (x : NodeInMemory). x.level + 1) here ∙ went.level refl in
    let start = c.args.progress.now.tree_writes in
    let step = went.spent refl in
    let count = saved.count refl in
    let one = rise_one q.tree_writes in
    let first = rise_more start p.tree_writes q.tree_writes (omega (arith, step.counted)) in
    let more = rise_more start q.tree_writes ((q.tree_writes + 1) % 2 ^ 64) (omega (arith, first, one, step.counted)) in
    record {
      same = (λ i. sink C (here i).level f (saved.next i) (count i) c.in_ok-to.to (view (here i)))
          ∙ goes C (image_of g.D.Device c.down.device) p.next_free p.tree_writes c.down.at (view c.down.self.here) _ _ _ c.make_step.new.child.level c.down.invariant.same due.value went.value saved.value (went.level refl);
      enough = omega (arith, due.inner refl, level, went.lowered, saved.lowered);
      lower = omega (arith, due.inner refl, level);
      above = omega (arith, due.inner refl, level);
      children = search rules;
      blocks = omega (arith, due.inner refl, level, saved.next);
      counted = omega (arith, level, went.level refl, first, one, more, count, step.counted);
      fell = omega (arith, first, one, more, count, step.fell);
    }

pub returns-clause-value : goal.returns-clause-value
returns-clause-value g c =
    let p = c.down.progress in
    let saved = c.save_counted-2.ensures in
    ends (code_of g.K.Kind.algebra) (image_of g.D.Device c.down.device) p.next_free p.tree_writes c.down.at (view c.down.self.here) g.D.Device.number c.save_counted-2.result _ _ _ _ c.down.invariant.same c.down-test.ensures.value saved.value saved.next saved.count
