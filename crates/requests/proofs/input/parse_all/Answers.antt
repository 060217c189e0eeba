use Rattle.std.proofs.Common.{refl, ap, length, arith}
use Rattle.fields.specs.Handed.{lines_left}
use Rattle.fields.proofs.Lined.{few_lines}
use Rattle.requests.proofs.input.parse_all.Goals as goal

pub loop-line-init : goal.loop-line-init
loop-line-init c =
    let asked = c.in_ok-asked.ensures in
    let lines = c.into_iter-line-iterator.ensures.into_iter_gives in
    let left = c.new-line-items.ensures.left in
    record {
      made = rw (asked.items, lines, left) refl;
      room = omega (arith, few_lines c.args.input.now, ap (λ s. length (lines_left s)) lines, ap length left, asked.len, asked.capacity);
    }
