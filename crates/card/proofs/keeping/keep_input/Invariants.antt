use Rattle.std.proofs.Common.{◌≡◌, ◌≤◌, length, vec_items, vec_len, vec_capacity}
use Rattle.blocks.specs.Memory.{held}
use Rattle.card.specs.Keeping.{Keeps}
use Rattle.card.proofs.keeping.keep_input.Given as goal

abbrev pub invariant-loop-part : goal.invariant-loop-part
invariant-loop-part l =
    Keeps (held l.initial.card) l.input l.part (held l.card) (vec_items l.outcomes)
    × (vec_len l.outcomes ≡ l.part)
    × (l.parts ≤ vec_capacity l.outcomes)
    × (length l.block ≡ 4096)
    × (length l.back ≡ 4096)
