-- How an allowance falls by at most the writes that were counted.
use Rattle.std.specs.Prelude.{ℕ, ◌+◌, ◌-◌, ◌%◌, ◌^◌, ◌≤◌}

-- by how much a count modulo 2^64 rose from w to v
abbrev pub rise : ℕ → ℕ → ℕ
rise w v = (v % 2 ^ 64 + (2 ^ 64 - w % 2 ^ 64)) % 2 ^ 64

-- an allowance fell from before to after while at most so many writes were counted from w to v
pub record Spent (most w v before after : ℕ) : Type 0 where
  pub counted : rise w v ≤ most
  pub fell : before ≤ after + rise w v
