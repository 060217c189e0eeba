use Rattle.std.proofs.Common.{sym, ◌∙◌, arith, rules}
use Rattle.fields.proofs.Scanned.{reads_here, reads_on, reads_end, short, one_digit_more, digit_here, no_digit}
use Rattle.fields.proofs.numbers.digits.Goals as goal

pub returns-in_err-digit-clause-value : goal.returns-in_err-digit-clause-value
returns-in_err-digit-clause-value c =
    let none = reads_here c.loop-b.n c.args.text.now c.loop-b.b-index c.loop-b-test.true (no_digit _ _ c.from.ensures c.in_err-digit.ensures.cases) in
    cc

pub overflow_mul-n : goal.overflow_mul-n
overflow_mul-n c = search (rules, short c.loop-b.n c.loop-b.b-index c.loop-b.invariant.1 (omega arith))

pub overflow_add-n : goal.overflow_add-n
overflow_add-n c = search (rules, short c.loop-b.n c.loop-b.b-index c.loop-b.invariant.1 (omega arith), c.in_ok-digit.ensures.value)

pub loop-b-preserved : goal.loop-b-preserved
loop-b-preserved c =
    let v = c.in_ok-digit.ensures.value in
    let is = digit_here _ _ c.from-in-loop-b.result c.from.ensures v.0 cc in
    let step = reads_on c.loop-b.n c.args.text.now c.loop-b.b-index c.loop-b-test.true is.0 in
    (cc, one_digit_more c.loop-b.n c.from-in-loop-b.result c.loop-b.b-index c.loop-b.invariant.1 (omega arith))

pub returns : goal.returns
returns c =
    record {
      value = sym (reads_end c.loop-b.n c.args.text.now c.loop-b.b-index c.loop-b-test.false) ∙ c.loop-b.invariant.0;
      bound = short c.loop-b.n c.loop-b.b-index c.loop-b.invariant.1 (omega arith);
    }
