use Rattle.std.proofs.Common.{◌≡◌, ◌^◌, ◌<◌, length, take, Err, refl, sym, ap, ◌∙◌, subst, arith, w64, SFits, rules}
use Rattle.std.proofs.lemmas.Result.{err_from_is_err_and}
use Rattle.store.specs.Views.{contents}
use Rattle.book_plan.specs.Totals.{with_page}
use Rattle.book.proofs.Paging.{rest_of, summed, no_pages, left_of, fewer_left, refused_page, one_page}
use Rattle.book.proofs.totals.total_store.Goals as goal

pub loop-next-init : goal.loop-next-init
loop-next-init g c = record {
  total = no_pages c.args.high (contents g.S.Device c.args.store.now) c.args.table.now c.args.low;
  allowance = refl;
  rises = λ k is. (omega arith, omega arith);
  sheets = omega arith;
  reads = omega arith;
  table = refl;
}

pub loop-next-smaller : goal.loop-next-smaller
loop-next-smaller g c =
    let fewer = fewer_left c.args.high c.in-Some.first c.in_ok-page.page.next c.in_ok-page.ensures.onward in
    subst (λ o. left_of c.args.high c.in_ok-page.page.next < left_of c.args.high o) (sym c.in-Some.is) fewer

pub overflow_add-sum : goal.overflow_add-sum
overflow_add-sum g c = let some = c.loop-next.invariant.rises c.in-Some.first c.in-Some.is in omega (arith, some, c.in_ok-page.ensures.fits)

pub overflow_add-sum-in-Some : goal.overflow_add-sum-in-Some
overflow_add-sum-in-Some g c = let some = c.loop-next.invariant.rises c.in-Some.first c.in-Some.is in omega (arith, some)

pub overflow_add-sum-in-Some-2 : goal.overflow_add-sum-in-Some-2
overflow_add-sum-in-Some-2 g c = let some = c.loop-next.invariant.rises c.in-Some.first c.in-Some.is in omega (arith, some, c.from.ensures)

pub loop-next-preserved : goal.loop-next-preserved
loop-next-preserved g c =
    let inv = c.loop-next.invariant in
    let at = c.in_ok-page.ensures in
    let page = c.in_ok-page.page in
    let t = c.loop-next.sum in
    let table = c.page_store.new.table in
    let some = inv.rises c.in-Some.first c.in-Some.is in
    let few : page.reads < 2 ^ 32 = search rules in
    let long : length table ≡ length c.loop-next.table = c.page_store.auto.table in
    let fits : SFits w64 t.sum = search rules in
    let small : SFits w64 c.add_words.result = record { sfits = c.add_words.type_inv } in
    let sum = summed t table page.entries page.reads c.from.result c.add_words.result (omega (arith, at.fits, long)) fits small c.add_words.ensures c.from.ensures in
    record {
      total = ap (λ s. rest_of page.next (contents g.S.Device c.page_store.new.store) c.args.high table s) sum
          ∙ (λ i. rest_of page.next (at.after i) c.args.high (at.table i) (with_page t (take page.entries (at.table i)) page.reads))
          ∙ one_page c.args.high (contents g.S.Device c.loop-next.store) c.loop-next.table t c.in-Some.first some.1 page at.value
          ∙ ap (λ o. rest_of o (contents g.S.Device c.loop-next.store) c.args.high c.loop-next.table t) (sym c.in-Some.is)
          ∙ inv.total;
      allowance = at.allowance ∙ inv.allowance;
      rises = λ k is. (omega (arith, at.onward k is, some), omega (arith, at.onward k is, some));
      sheets = omega (arith, at.fits, inv.sheets);
      reads = omega (arith, inv.reads, c.from.ensures, few);
      table = omega (arith, inv.table, long);
    }

pub returns-in_err-page-clause-value : goal.returns-in_err-page-clause-value
returns-in_err-page-clause-value g c =
    let inv = c.loop-next.invariant in
    let at = c.in_err-page.ensures in
    let t = c.loop-next.sum in
    let some = inv.rises c.in-Some.first c.in-Some.is in
    let back = err_from_is_err_and c.from_residual.result c.from_residual.ensures.1 in
    let answer : c.from_residual.result ≡ Err c.in_err-page.field-0.0 = back.1 ∙ ap Err back.2 in
    (λ i. record { answer = answer i; stock = at.after i; table = at.table i })
    ∙ refused_page c.args.high (contents g.S.Device c.loop-next.store) c.loop-next.table t c.in-Some.first some.1 c.in_err-page.field-0.0 at.value
    ∙ ap (λ o. rest_of o (contents g.S.Device c.loop-next.store) c.args.high c.loop-next.table t) (sym c.in-Some.is)
    ∙ inv.total

pub returns-in_err-page-clause-allowance : goal.returns-in_err-page-clause-allowance
returns-in_err-page-clause-allowance g c = c.in_err-page.ensures.allowance ∙ c.loop-next.invariant.allowance

pub returns-clause-value : goal.returns-clause-value
returns-clause-value g c =
    ap (λ o. rest_of o (contents g.S.Device c.loop-next.store) c.args.high c.loop-next.table c.loop-next.sum) (sym c.in_default.is) ∙ c.loop-next.invariant.total

pub returns-clause-allowance : goal.returns-clause-allowance
returns-clause-allowance g c = c.loop-next.invariant.allowance
