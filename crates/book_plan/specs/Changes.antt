-- The changes that a book accepts, and what they say of each sheet: the plain map from sheet to quantity and latest day.
use Rattle.std.specs.Prelude.{ℕ, max, cond, List, [], ◌∷◌, ℤ, ◌+ℤ◌, Some, None, Option, ◌==◌}
use Rattle.std.specs.Option.{unwrap_or}
use Rattle.calls.specs.declared.answer.Holding.{Holding}

-- a booking or a count of a sheet, with its amount and its day, or a strike
pub data Change : Type 0 where
  booking : ℕ → ℤ → ℕ → Change
  count : ℕ → ℤ → ℕ → Change
  strike : ℕ → Change

-- ---- the quantity of a sheet after changes, the newest first, in true numbers; none if it is not in the book
abbrev pub added : Option ℤ → ℤ → Option ℤ
added None amount = Some amount
added (Some q) amount = Some (q +ℤ amount)

abbrev pub quantity_of : ℕ → List Change → Option ℤ
quantity_of k [] = None
quantity_of k (booking sheet amount day ∷ cs) = cond (sheet == k) (added (quantity_of k cs) amount) (quantity_of k cs)
quantity_of k (count sheet amount day ∷ cs) = cond (sheet == k) (Some amount) (quantity_of k cs)
quantity_of k (strike sheet ∷ cs) = cond (sheet == k) None (quantity_of k cs)

-- ---- its latest day
abbrev pub later : Option ℕ → ℕ → Option ℕ
later None day = Some day
later (Some e) day = Some (max e day)

abbrev pub day_of : ℕ → List Change → Option ℕ
day_of k [] = None
day_of k (booking sheet amount day ∷ cs) = cond (sheet == k) (later (day_of k cs) day) (day_of k cs)
day_of k (count sheet amount day ∷ cs) = cond (sheet == k) (later (day_of k cs) day) (day_of k cs)
day_of k (strike sheet ∷ cs) = cond (sheet == k) None (day_of k cs)

-- ---- both, as a query tells them: a day of 0 if there is none
abbrev pub holding : Option ℤ → Option ℕ → Option Holding
holding None o = None
holding (Some q) o = Some (record { quantity = q; day = unwrap_or o 0 })

abbrev pub holding_of : ℕ → List Change → Option Holding
holding_of k cs = holding (quantity_of k cs) (day_of k cs)
