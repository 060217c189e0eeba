use Rattle.std.proofs.Common.{◌≡◌, ◌+◌, ◌≤◌, ◌++◌, length, take, drop, vec_items, ap, ◌∙◌, arith}
use Rattle.std.proofs.ResultArms.{chosen}
use Rattle.messages.specs.Lists.{below, batch_size}
use Rattle.messages.proofs.Batches.{run_removed, run_read, length_run}
use Rattle.messages.proofs.Places.{below_length}
use Rattle.messages.proofs.list.take_batch.Goals as goal

pub returns : goal.returns
returns c =
    let qs = vec_items c.args.messages.now in
    let first = c.place_of-first.result in
    let count = c.min-count.result in
    let from : first ≡ below c.args.span.low qs = c.place_of-first.ensures.value ∙ ap (λ l. below c.from.result l) c.deref.ensures.value ∙ ap (λ k. below k qs) c.from.ensures in
    let to : c.place_of.result ≡ below c.args.span.high qs = c.place_of.ensures.value ∙ ap (below c.args.span.high) c.deref-2.ensures.value in
    let size : count ≡ batch_size c.args.span.low c.args.span.high qs = omega (arith, c.saturating_sub.ensures, c.min-count.ensures, from, to) in
    let fits : first + count ≤ length qs = omega (arith, size, from, below_length c.args.span.high qs, below_length c.args.span.low qs) in
    let run = length_run first count qs c.deref-3.result.now c.deref-3.ensures.value fits in
    let done = c.extend_from_slice.ensures.succeeds (omega (arith, run, c.requires, size)) in
    record {
      taken =
          chosen _ _ _ _ c.extend_from_slice.ensures.items done
          ∙ ap (λ l. vec_items c.args.out.now ++ l) (run_read first count qs c.deref-3.result.now c.deref-3.ensures.value ∙ ap (λ n. take n (drop first qs)) size ∙ ap (λ i. take (batch_size c.args.span.low c.args.span.high qs) (drop i qs)) from);
      kept =
          run_removed first count c.len-len.result qs (vec_items c.copy_within.new.self) (vec_items c.truncate.new.self) (omega arith) (omega arith) c.copy_within.ensures.items c.truncate.ensures.items
          ∙ ap (λ i. take i qs ++ drop (i + count) qs) from ∙ ap (λ n. take (below c.args.span.low qs) qs ++ drop (below c.args.span.low qs + n) qs) size;
      taken_len = chosen _ _ _ _ c.extend_from_slice.ensures.len done ∙ omega (arith, run, size);
      kept_len = omega (arith, c.truncate.ensures.len, c.copy_within.ensures.len, size, fits);
      taken_room = c.extend_from_slice.ensures.capacity;
      kept_room = c.truncate.ensures.capacity ∙ c.copy_within.ensures.capacity;
    }
