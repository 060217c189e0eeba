use Rattle.std.proofs.Common.{◌≡◌, suc, ◌*◌, ◌≤◌, length}
use Rattle.std.specs.Option.{ForSome}
use Rattle.book_plan.specs.Totals.{nothing, total_from}
use Rattle.store.specs.Views.{contents}
use Rattle.book.proofs.Paging.{rest_of, left_of}
use Rattle.book.proofs.totals.total_store.Given as goal

-- what comes of the pages from here is what came of them from the start; each page begins above the one before
abbrev pub invariant-loop-next : goal.invariant-loop-next
invariant-loop-next g l = record {
  total : rest_of l.next (contents g.S.Device l.store) l.high l.table l.sum ≡ total_from (suc l.high) (contents g.S.Device l.initial.store) l.high l.initial.table nothing l.low;
  allowance : (g.S.Device.meaning l.store.device).allowance ≡ (g.S.Device.meaning l.initial.store.device).allowance;
  rises : ForSome l.next (λ k. (l.sum.pages ≤ k) × (l.sum.pages ≤ l.high));
  sheets : l.sum.sheets ≤ 2304 * l.sum.pages;
  reads : l.sum.stock_reads ≤ 4294967295 * l.sum.pages;
  table : length l.table ≡ length l.initial.table;
}

abbrev pub decreases-loop-next : goal.decreases-loop-next
decreases-loop-next g l = left_of l.high l.next
