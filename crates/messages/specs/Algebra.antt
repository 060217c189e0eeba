-- What a kind of value is: its number, its start, how deltas act and join, and the law that ties the two.
use Rattle.std.specs.Prelude.{◌≡◌, ℕ, ◌^◌, ◌<◌}

pub record Algebra : Type 0 where
  -- the number by which blocks name the kind
  pub number : ℕ
  -- the value that a delta acts on where the key is absent
  pub start : ℕ
  -- what a delta makes of a value
  pub act : ℕ → ℕ → ℕ
  -- the one delta for an earlier and a later one
  pub join : ℕ → ℕ → ℕ
  -- acting with a and then with b is acting with a joined with b
  pub law : (v a b : ℕ) → act (act v a) b ≡ act v (join a b)
  -- numbers fit a byte, and words stay words
  pub number_fits : number < 256
  pub start_fits : start < 2 ^ 64
  pub act_fits : (v d : ℕ) → v < 2 ^ 64 → d < 2 ^ 64 → act v d < 2 ^ 64
  pub join_fits : (a b : ℕ) → a < 2 ^ 64 → b < 2 ^ 64 → join a b < 2 ^ 64
