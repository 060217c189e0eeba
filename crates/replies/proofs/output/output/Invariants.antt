use Rattle.std.proofs.Common.{◌≡◌, ◌++◌, drop, string_bytes}
use Rattle.std.specs.Slice.Iter.{iter_rest}
use Rattle.replies.specs.Output.{replies_to, text_of, output_text}
use Rattle.replies.proofs.output.output.Given as goal

abbrev pub invariant-loop-line : goal.invariant-loop-line
invariant-loop-line l = string_bytes l.text ++ text_of (replies_to (drop l.line-index l.lines) (iter_rest l.points)) ≡ output_text l.lines l.trace
