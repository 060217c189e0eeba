-- Kind 2: the larger word stands.
use Rattle.std.specs.Prelude.{◌≡◌, ℕ, ◌^◌, ◌<◌, max}
use Rattle.std.proofs.Common.{arith, lit<}
use Rattle.messages.specs.Algebra.{Algebra}

pub max_law : (v a b : ℕ) → max (max v a) b ≡ max v (max a b)
max_law v a b = omega arith

pub max_fits : (v d : ℕ) → v < 2 ^ 64 → d < 2 ^ 64 → max v d < 2 ^ 64
max_fits v d f g = omega arith

abbrev pub latest_day_algebra : Algebra
latest_day_algebra = record {
  number = 2;
  start = 0;
  act = max;
  join = max;
  law = max_law;
  number_fits = lit< tt;
  start_fits = lit< tt;
  act_fits = max_fits;
  join_fits = max_fits;
}
