-- What changes say of a range of sheets.
use Rattle.std.specs.Prelude.{◌≡◌, ℕ, suc, ◌≤◌, List, [], ◌∷◌, length, ℤ, pos, ◌+ℤ◌}
use Rattle.messages.specs.Lists.{Within, find}
use Rattle.messages.specs.declared.entry.Entry.{Entry}
use Rattle.calls.specs.declared.answer.Sum.{Sum}
use Rattle.book_plan.specs.Changes.{Change, quantity_of}

abbrev pub sum_of_quantities : List (Entry ℤ) → ℤ
sum_of_quantities [] = pos 0
sum_of_quantities (x ∷ xs) = x.value +ℤ sum_of_quantities xs

-- the sheets from low up to and with high that are in the book after the changes cs, the newest first, each once and by rising number,
-- with their quantities: the total has their number and their sum, in true numbers
pub record SumOf (low high : ℕ) (cs : List Change) (s : Sum) : Type 0 where
  pub held : List (Entry ℤ)
  pub rising : Within low (suc high) held
  pub exact : (k : ℕ) → low ≤ k → k ≤ high → find k held ≡ quantity_of k cs
  pub sheets_are : s.sheets ≡ length held
  pub sum_is : s.sum ≡ sum_of_quantities held
