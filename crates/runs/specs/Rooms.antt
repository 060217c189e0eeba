-- Room that is reserved before a run.
use Rattle.std.specs.Prelude.{◌≡◌, ℕ, ◌≤◌, [], vec_len, vec_capacity}
use Rattle.std.specs.Global.{Vec}
use Rattle.calls.specs.declared.point.Point.{Point}

-- no points yet, and room for so many
abbrev pub IsEmptyWithRoom : Vec Point → ℕ → Type 0
IsEmptyWithRoom trace n = (trace.items ≡ []) × (vec_len trace ≡ 0) × (n ≤ vec_capacity trace)
