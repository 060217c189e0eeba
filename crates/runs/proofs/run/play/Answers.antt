use Rattle.std.proofs.Common.{vec_items, ap, subst, ◌∙◌, take_all, rules}
use Rattle.std.proofs.lemmas.List.{take_more}
use Rattle.calls.specs.declared.call.Call.TheVariants.{Open}
use Rattle.traces.specs.Steps.{Made}
use Rattle.runs.specs.Books.{view}
use Rattle.runs.proofs.Went.{went_on, called_more}
use Rattle.runs.proofs.run.play.Goals as goal
use Rattle.runs.proofs.run.play.Goals.{in-Some, in-None}

pub loop-call-preserved : goal.loop-call-preserved
loop-call-preserved g c =
    let kept = c.loop-call.invariant in
    let pushed = c.push_reserved.ensures.items in
    let more = called_more (vec_items c.loop-call.trace) c.match-make_call.point in
    let next = take_more c.args.calls.now c.loop-call.call-index Open c.loop-call-test.true in
    elim c.match-make_call.branch [
      | in-Some w ↦
          let made = w.in-Some.ensures.made in
          record {
            filled = search rules;
            room = search rules;
            table = search rules;
            calls = cc (kept.calls, made.0, w.point-is);
            went = went_on _ _ _ _ _ _ _ _ kept.went made.1 w.point-is (ap (λ b. view b) w.book-is) pushed;
          }
      | in-None w ↦
          let made = w.make_turn-after.ensures in
          let same = w.in-None.ensures.left in
          record {
            filled = search rules;
            room = search rules;
            table = search rules;
            calls = cc (kept.calls, made.call, w.point-is);
            went = went_on _ _ _ _ _ _ _ _ kept.went (subst (λ x. Made x w.make_turn-after.result.point (view w.make_turn-after.result.book)) same.0 made.made) w.point-is (ap (λ b. view b) w.book-is) pushed;
          }
    ]

pub returns-clause-calls : goal.returns-clause-calls
returns-clause-calls g c = c.loop-call.invariant.calls ∙ take_all _ _ c.loop-call-test.false
