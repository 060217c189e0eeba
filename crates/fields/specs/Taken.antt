-- What the next field gives where a letter, an amount, a day or a key is wanted.
use Rattle.std.specs.Prelude.{ℕ, cond, List, [], ◌∷◌, ℤ, pos, negsuc, Some, None, Option, nat_le}
use Rattle.fields.specs.Told.{Told, letter, number, junk, told}

-- k of what there is
abbrev pub given : {A B : Type 0} → Option A → (A → Option B) → Option B
given None k = None
given (Some x) k = k x

-- the first field; a missing one is junk
abbrev pub first : List (List ℕ) → Told
first [] = junk
first (f ∷ fs) = told f

abbrev pub rest : List (List ℕ) → List (List ℕ)
rest [] = []
rest (f ∷ fs) = fs

abbrev pub letter_in : Told → Option ℕ
letter_in (letter c) = Some c
letter_in (number z) = None
letter_in junk = None

-- a number, maybe with a minus
abbrev pub amount_in : Told → Option ℤ
amount_in (letter c) = None
amount_in (number z) = Some z
amount_in junk = None

abbrev pub at_least_zero : ℤ → Option ℕ
at_least_zero (pos n) = Some n
at_least_zero (negsuc n) = None

-- a number without a minus
abbrev pub day_in : Told → Option ℕ
day_in t = given (amount_in t) at_least_zero

abbrev pub greatest_key : ℕ
greatest_key = 4294967295

-- a number above the range of keys is none
abbrev pub key_in : Told → Option ℕ
key_in t = given (day_in t) (λ n. cond (nat_le n greatest_key) (Some n) None)
