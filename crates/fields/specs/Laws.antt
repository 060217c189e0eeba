-- An input and its lines, a line and its fields, a field and its sort: stated without any way of reading.
use Rattle.std.specs.Prelude.{◌≡◌, ℕ, suc, ◌^◌, ◌<◌, true, false, ◌⊎◌, List, [], ◌∷◌, ◌++◌, length, ℤ, pos, negsuc, ◌==◌, ◌≢◌}
use Rattle.std.specs.Char.{is_ascii_alphabetic}
use Rattle.std.specs.Fmt.{signed_decimal}
use Rattle.fields.specs.Parts.{tabbed, joined_by}
use Rattle.fields.specs.Told.{Told, letter, number, junk}

-- no byte m among the bytes
abbrev pub Clean : ℕ → List ℕ → Type 0
Clean m [] = Unit {0}
Clean m (b ∷ bs) = ((b == m) ≡ false) × Clean m bs

abbrev pub AllClean : ℕ → List (List ℕ) → Type 0
AllClean m [] = Unit {0}
AllClean m (f ∷ fs) = Clean m f × AllClean m fs

-- each line with an LF after it
abbrev pub ended : List (List ℕ) → List ℕ
ended [] = []
ended (l ∷ ls) = l ++ (10 ∷ ended ls)

-- the last line is not empty
abbrev pub EndsSome : List (List ℕ) → Type 0
EndsSome [] = ⊥
EndsSome (l ∷ []) = 0 < length l
EndsSome (l ∷ m ∷ ls) = EndsSome (m ∷ ls)

-- the lines, each with its LF, are the input, or, if the last is not empty, all but the last with theirs; none has an LF in it
pub record Lined (input : List ℕ) (ls : List (List ℕ)) : Type 0 where
  pub whole : (ended ls ≡ input) ⊎ ((joined_by 10 ls ≡ input) × EndsSome ls)
  pub clean : AllClean 10 ls

-- the fields, joined by tabs, are the line, and none has a tab
pub record Parted (line : List ℕ) (fs : List (List ℕ)) : Type 0 where
  pub whole : tabbed fs ≡ line
  pub clean : AllClean 9 fs

-- at most 18 digits
abbrev pub Short : ℤ → Type 0
Short (pos n) = n < 10 ^ 18
Short (negsuc n) = suc n < 10 ^ 18

-- a letter is one byte, a number is as it is printed, and junk is neither
abbrev pub ToldRight : List ℕ → Told → Type 0
ToldRight f (letter c) = (f ≡ c ∷ []) × (is_ascii_alphabetic c ≡ true)
ToldRight f (number z) = (f ≡ signed_decimal z) × Short z
ToldRight f junk = ((c : ℕ) → is_ascii_alphabetic c ≡ true → f ≢ c ∷ []) × ((z : ℤ) → Short z → f ≢ signed_decimal z)
