use Rattle.std.proofs.Common.{◌≡◌, ℕ, List, length, string_bytes, ap, ◌∙◌, arith}
use Rattle.std.proofs.lemmas.Grind.{common_steps}
use Rattle.fields.specs.Parts.{lines_of}
use Rattle.replies.specs.Output.{between, replies_to, output_text}
use Rattle.replies.proofs.Each.{falls_apart, line_each}
use Rattle.replies.proofs.output.output.Goals as goal

pub returns : goal.returns
returns c =
    let whole : string_bytes c.loop-line.text ≡ output_text c.args.lines.now c.args.trace.now = grind (arith, common_steps) in
    record {
      text = whole;
      parts = ap lines_of whole ∙ falls_apart (replies_to c.args.lines.now (between c.args.trace.now));
      each = λ e. ap (λ (bs : List ℕ). length (lines_of bs)) whole ∙ line_each c.args.lines.now c.args.trace.now e;
    }
