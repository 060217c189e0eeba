-- What a field is told as.
use Rattle.std.specs.Prelude.{ℕ, ◌+◌, ◌-◌, ◌*◌, cond, ◌&&◌, List, [], ◌∷◌, length, drop, ℤ, pos, neg_ℤ, Some, None, Option, ◌==◌, nat_lt, slice_index}
use Rattle.std.specs.Char.{is_ascii_digit, is_ascii_alphabetic}
use Rattle.fields.specs.declared.token.Token.{Token}
use Rattle.fields.specs.declared.token.Token.TheVariants.{Letter, Number, Junk}

pub data Told : Type 0 where
  letter : ℕ → Told
  number : ℤ → Told
  junk : Told

-- the number that digits write, after the number n so far; none where a byte is no digit
abbrev pub reads : ℕ → List ℕ → Option ℕ
reads n [] = Some n
reads n (c ∷ cs) = cond (is_ascii_digit c) (reads (n * 10 + (c - 48)) cs) None

-- a number has 1 to 18 digits, and no leading zero but in 0 itself
abbrev pub plain : List ℕ → Option ℕ
plain ds = cond (length ds == 0) None (cond (nat_lt 18 (length ds)) None (cond (slice_index ds 0 == 48 && nat_lt 1 (length ds)) None (reads 0 ds)))

abbrev pub above_zero : Option ℕ → Option ℤ
above_zero None = None
above_zero (Some n) = cond (n == 0) None (Some (neg_ℤ (pos n)))

abbrev pub as_it_is : Option ℕ → Option ℤ
as_it_is None = None
as_it_is (Some n) = Some (pos n)

-- a number may start with one minus (45), and -0 is none
abbrev pub number_in : List ℕ → Option ℤ
number_in bs = cond (slice_index bs 0 == 45) (above_zero (plain (drop 1 bs))) (as_it_is (plain bs))

abbrev pub number_or_junk : Option ℤ → Told
number_or_junk None = junk
number_or_junk (Some z) = number z

abbrev pub told : List ℕ → Told
told bs = cond (length bs == 1 && is_ascii_alphabetic (slice_index bs 0)) (letter (slice_index bs 0)) (number_or_junk (number_in bs))

-- a token's parts
abbrev pub told_of : Token → Told
told_of (Letter text place c) = letter c
told_of (Number text place z) = number z
told_of (Junk text place) = junk

abbrev pub text_of : Token → List ℕ
text_of (Letter text place c) = text.now
text_of (Number text place z) = text.now
text_of (Junk text place) = text.now

abbrev pub place_of : Token → ℕ
place_of (Letter text place c) = place
place_of (Number text place z) = place
place_of (Junk text place) = place
