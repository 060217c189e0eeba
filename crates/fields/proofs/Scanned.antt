-- One step of a numeral.
use Rattle.std.proofs.Common.{◌≡◌, ℕ, ◌+◌, ◌-◌, ◌*◌, ◌^◌, ◌<◌, ◌≤◌, true, false, List, length, get_or, drop, Some, None, refl, pow-suc, add-one, arith, lit<, drop-cons}
use native.Mathlib.Nat.{pow-le-pow_right}
use Rattle.std.proofs.lemmas.List.{drop_all}
use Rattle.std.proofs.lemmas.Bool.Decides.{nat_tests}
use Rattle.std.specs.Char.{is_ascii_digit, digit_value, NotDecimalDigitIn}
use Rattle.fields.specs.Told.{reads}

pub reads_here : (n : ℕ) (bs : List ℕ) (i : ℕ) → i < length bs → is_ascii_digit (get_or bs i 0) ≡ false → reads n (drop i bs) ≡ None
reads_here n bs i h e = rw (drop-cons bs i 0 h, e) refl

pub reads_on : (n : ℕ) (bs : List ℕ) (i : ℕ) → i < length bs → is_ascii_digit (get_or bs i 0) ≡ true → reads n (drop i bs) ≡ reads (n * 10 + (get_or bs i 0 - 48)) (drop (i + 1) bs)
reads_on n bs i h e = rw (drop-cons bs i 0 h, e, add-one) refl

pub one_digit_more : (n d i : ℕ) → n < 10 ^ i → d ≤ 9 → n * 10 + d < 10 ^ (i + 1)
one_digit_more n d i h l = rw (add-one, pow-suc) (omega arith)

pub short : (n i : ℕ) → n < 10 ^ i → i ≤ 18 → n < 10 ^ 18
short n i h l = omega (arith, pow-le-pow_right {n = 10} (lit< tt) {i = i} {j = 18} l)

pub reads_end : (n : ℕ) (bs : List ℕ) (i : ℕ) → length bs ≤ i → reads n (drop i bs) ≡ Some n
reads_end n bs i h = rw (drop_all i bs h) refl

-- a byte whose character c is a digit, and one whose is none
pub digit_here : (b c d : ℕ) → c ≡ b → digit_value c < 10 → d ≡ digit_value c → (is_ascii_digit b ≡ true) × (d ≡ b - 48)
digit_here b c d is h e = (grind (arith, nat_tests), grind (arith, nat_tests))

pub no_digit : (b c : ℕ) → c ≡ b → NotDecimalDigitIn 10 c → is_ascii_digit b ≡ false
no_digit b c is h = grind (arith, nat_tests)
