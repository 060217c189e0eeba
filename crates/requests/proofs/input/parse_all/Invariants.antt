use Rattle.std.proofs.Common.{◌≡◌, ◌+◌, ◌≤◌, ◌++◌, map, length, vec_items, vec_len, vec_capacity}
use Rattle.fields.specs.Handed.{lines_left}
use Rattle.fields.specs.Parts.{lines_of}
use Rattle.requests.specs.Asked.{asked}
use Rattle.requests.proofs.input.parse_all.Given as goal

abbrev pub invariant-loop-line : goal.invariant-loop-line
invariant-loop-line l = record {
  made : vec_items l.asked ++ map asked (lines_left l.line-iterator) ≡ map asked (lines_of l.input);
  room : vec_len l.asked + length (lines_left l.line-iterator) ≤ vec_capacity l.asked;
}
