-- Kind 1: words are added modulo 2^64.
use Rattle.std.specs.Prelude.{◌≡◌, ℕ, ◌+◌, ◌%◌, ◌^◌, ◌<◌}
use Rattle.std.proofs.Common.{arith, lit<}
use Rattle.messages.specs.Algebra.{Algebra}

abbrev pub wrapping_sum : ℕ → ℕ → ℕ
wrapping_sum v d = (v + d) % 2 ^ 64

pub sum_law : (v a b : ℕ) → wrapping_sum (wrapping_sum v a) b ≡ wrapping_sum v (wrapping_sum a b)
sum_law v a b = omega arith

pub sum_fits : (v d : ℕ) → v < 2 ^ 64 → d < 2 ^ 64 → wrapping_sum v d < 2 ^ 64
sum_fits v d f g = omega arith

abbrev pub quantity_algebra : Algebra
quantity_algebra = record {
  number = 1;
  start = 0;
  act = wrapping_sum;
  join = wrapping_sum;
  law = sum_law;
  number_fits = lit< tt;
  start_fits = lit< tt;
  act_fits = sum_fits;
  join_fits = sum_fits;
}
