-- Counts modulo 2^64 that rise one after another.
use Rattle.std.proofs.Common.{◌≡◌, ℕ, ◌+◌, ◌%◌, ◌^◌, ◌<◌, arith}
use Rattle.steps.specs.Allowances.{rise}

pub rise_none : (w : ℕ) → rise w w ≡ 0
rise_none w = omega arith

pub rise_one : (w : ℕ) → rise w ((w + 1) % 2 ^ 64) ≡ 1
rise_one w = omega arith

pub rise_more : (u w v : ℕ) → rise u w + rise w v < 2 ^ 64 → rise u v ≡ rise u w + rise w v
rise_more u w v h = omega arith
