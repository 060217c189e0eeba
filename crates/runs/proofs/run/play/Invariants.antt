use Rattle.std.proofs.Common.{◌≡◌, ◌+◌, ◌≤◌, length, take, vec_items, vec_len, vec_capacity}
use Rattle.store_plan.specs.Pages.{table_length}
use Rattle.traces.specs.Runs.{called}
use Rattle.traces.specs.Steps.{Went}
use Rattle.runs.specs.Books.{view}
use Rattle.runs.proofs.run.play.Given as goal

abbrev pub invariant-loop-call : goal.invariant-loop-call
invariant-loop-call g l = record {
  filled : vec_len l.trace ≡ l.call-index;
  room : length l.calls + 1 ≤ vec_capacity l.trace;
  table : length l.table ≡ table_length;
  calls : called (vec_items l.trace) ≡ take l.call-index l.calls;
  went : Went (view l.initial.book) (vec_items l.trace) (view l.book);
}
