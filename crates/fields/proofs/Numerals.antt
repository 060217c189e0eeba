-- What is told as a number is what a number is shown as, and the other way round.
use Rattle.std.proofs.Common.{◌≡◌, ℕ, zero, suc, ◌+◌, ◌-◌, ◌*◌, ◌^◌, ◌<◌, ◌≤◌, Bool, true, false, cond, ◌&&◌, eqb, ◌⊎◌, List, [], ◌∷◌, length, get_or, drop, ℤ, pos, negsuc, Some, None, decimal, Option, sym, refl, ap, ◌∙◌, inl, inr, ⊎_elim, arith, lit<, rules, ne_eqb, eqb-true}
use Rattle.std.specs.Char.{is_ascii_digit, is_ascii_alphabetic}
use Rattle.std.specs.Str.{all_ascii_digits}
use Rattle.std.specs.Fmt.{signed_decimal}
use Rattle.std.proofs.lemmas.Str.Parse.{IsNumeralModel, numerals_by_fold, digits_value_short}
use Rattle.std.proofs.lemmas.Fmt.{decimal-digits_value, decimal_nonempty, length-decimal-le, first_decimal, decimal_digit, digits_decimal, digits_value-decimal}
use Rattle.std.proofs.lemmas.Bool.Decides.{nat_tests}
use Rattle.std.proofs.lemmas.Bool.{cases_lt, and_parts}
use Rattle.fields.specs.Told.{Told, letter, number, junk, reads, plain, above_zero, as_it_is, number_in, number_or_junk, told}
use Rattle.fields.specs.Laws.{Short, ToldRight}

abbrev read_on : ℕ → List ℕ → ℕ
read_on n [] = n
read_on n (c ∷ cs) = read_on (n * 10 + (c - 48)) cs

own : IsNumeralModel (λ ds. all_ascii_digits ds ≡ true) (read_on 0)
own = numerals_by_fold _ (search rules) read_on (search rules)

-- a test that was passed
pub choose : {A : Type 0} (b : Bool) (x y z : A) → cond b x y ≡ z → ((b ≡ true) × (x ≡ z)) ⊎ ((b ≡ false) × (y ≡ z))
choose true x y z e = inl (refl, e)
choose false x y z e = inr (refl, e)

pub clash : {A B : Type 0} (x : A) → None ≡ Some x → B
clash x e = let z : ◌≡◌ {A = ℕ} 0 1 = cc in absurd (omega arith)

reads_digits : (n : ℕ) (ds : List ℕ) → all_ascii_digits ds ≡ true → reads n ds ≡ Some (read_on n ds)
reads_digits n [] = λ e. refl
reads_digits n (c ∷ cs) = λ e.
    let P : Bool → Type 0 = λ v. v && all_ascii_digits cs ≡ true → cond v (reads (n * 10 + (c - 48)) cs) None ≡ Some (read_on (n * 10 + (c - 48)) cs) in
    (elim (is_ascii_digit c) as P [ true ↦ λ h. reads_digits (n * 10 + (c - 48)) cs h | false ↦ λ h. let z : ◌≡◌ {A = ℕ} 0 1 = cc in absurd (omega arith) ]) e

reads_some : (n : ℕ) (ds : List ℕ) (v : ℕ) → reads n ds ≡ Some v → (all_ascii_digits ds ≡ true) × (read_on n ds ≡ v)
reads_some n [] v = λ e. (refl, cc)
reads_some n (c ∷ cs) v = λ e.
    let P : Bool → Type 0 = λ b. cond b (reads (n * 10 + (c - 48)) cs) None ≡ Some v → (b && all_ascii_digits cs ≡ true) × (read_on (n * 10 + (c - 48)) cs ≡ v) in
    (elim (is_ascii_digit c) as P [ true ↦ λ h. reads_some (n * 10 + (c - 48)) cs v h | false ↦ λ h. clash v h ]) e

plain_parts : (ds : List ℕ) (v : ℕ) → plain ds ≡ Some v → (0 < length ds) × (length ds ≤ 18) × (get_or ds 0 0 ≡ 48 → length ds ≡ 1) × (reads 0 ds ≡ Some v)
plain_parts ds v e = (grind (arith, nat_tests), grind (arith, nat_tests), λ h. grind (arith, nat_tests), grind (arith, nat_tests))

plain_of : (ds : List ℕ) (v : ℕ) → 0 < length ds → length ds ≤ 18 → (get_or ds 0 0 ≡ 48 → length ds ≡ 1) → reads 0 ds ≡ Some v → plain ds ≡ Some v
plain_of ds v some long alone read = grind (arith, nat_tests)

pub plain_some : (ds : List ℕ) (v : ℕ) → plain ds ≡ Some v → (ds ≡ decimal v) × (v < 10 ^ 18)
plain_some ds v e =
    let p = plain_parts ds v e in
    let r = reads_some 0 ds v p.3 in
    let small : read_on 0 ds < 10 ^ 18 = digits_value_short own ds 18 r.0 p.1 in
    let text : decimal (read_on 0 ds) ≡ ds = decimal-digits_value own ds r.0 p.0 p.2 (omega arith) in
    (sym text ∙ ap decimal r.1, omega (arith, small, r.1))

first_zero : (v : ℕ) → v < 10 ^ 18 → get_or (decimal v) 0 0 ≡ 48 → length (decimal v) ≡ 1
first_zero v h e =
    ⊎_elim (λ (p : 0 < v). absurd (omega (arith, first_decimal v p (omega arith))))
    (λ (p : v ≤ 0). rw (decimal_digit v (omega arith)) refl)
    (cases_lt 0 v)

pub plain_decimal : (v : ℕ) → v < 10 ^ 18 → plain (decimal v) ≡ Some v
plain_decimal v h =
    let some = decimal_nonempty v (omega arith) in
    let long = length-decimal-le 18 v (lit< tt) h (omega arith) in
    let zero_alone = first_zero v h in
    let read : reads 0 (decimal v) ≡ Some v = reads_digits 0 (decimal v) (digits_decimal own v (omega arith)) ∙ ap (λ (n : ℕ). Some n) (digits_value-decimal own v (omega arith)) in
    plain_of (decimal v) v some long zero_alone read

all_first : (ds : List ℕ) → all_ascii_digits ds ≡ true → 0 < length ds → (48 ≤ get_or ds 0 0) × (get_or ds 0 0 ≤ 57)
all_first [] = λ e h. absurd (omega arith)
all_first (d ∷ ds) = λ e h. (grind (arith, nat_tests), grind (arith, nat_tests))

pub all_digits : (v : ℕ) → v < 10 ^ 18 → all_ascii_digits (decimal v) ≡ true
all_digits v h = digits_decimal own v (omega arith)

-- a decimal's first byte is a digit
first_digit : (v : ℕ) → v < 10 ^ 18 → (48 ≤ get_or (decimal v) 0 0) × (get_or (decimal v) 0 0 ≤ 57)
first_digit v h = all_first (decimal v) (all_digits v h) (decimal_nonempty v (omega arith))

head_is : (c : ℕ) (bs : List ℕ) → get_or bs 0 0 ≡ c → 0 < c → bs ≡ c ∷ drop 1 bs
head_is c [] = λ e h. absurd (omega arith)
head_is c (b ∷ bs) = λ e h. ap (λ (x : ℕ). x ∷ bs) e

minus_some : (o : Option ℕ) (z : ℤ) → above_zero o ≡ Some z → (k : ℕ) × (o ≡ Some (suc k)) × (z ≡ negsuc k)
minus_some None z = λ e. clash z e
minus_some (Some zero) z = λ e. clash z e
minus_some (Some (suc k)) z = λ e. (k, refl, let x : Some (negsuc k) ≡ Some z = rw (ne_eqb (suc k) 0 (λ h. omega arith)) at e in cc)

plus_some : (o : Option ℕ) (z : ℤ) → as_it_is o ≡ Some z → (n : ℕ) × (o ≡ Some n) × (z ≡ pos n)
plus_some None z = λ e. clash z e
plus_some (Some n) z = λ e. (n, refl, cc)

pub number_some : (bs : List ℕ) (z : ℤ) → number_in bs ≡ Some z → (bs ≡ signed_decimal z) × Short z
number_some bs z e =
    ⊎_elim
    (λ (t : (eqb (get_or bs 0 0) 45 ≡ true) × (above_zero (plain (drop 1 bs)) ≡ Some z)).
    let m = minus_some (plain (drop 1 bs)) z t.1 in
    let p = plain_some (drop 1 bs) (suc m.0) m.1 in
    rw m.2 (head_is 45 bs (eqb-true (get_or bs 0 0) 45 t.0) (lit< tt) ∙ ap (λ (l : List ℕ). 45 ∷ l) p.0, p.1))
    (λ (t : (eqb (get_or bs 0 0) 45 ≡ false) × (as_it_is (plain bs) ≡ Some z)).
    let m = plus_some (plain bs) z t.1 in
    let p = plain_some bs m.0 m.1 in
    rw m.2 (p.0, p.1))
    (choose (eqb (get_or bs 0 0) 45) (above_zero (plain (drop 1 bs))) (as_it_is (plain bs)) (Some z) e)

pub number_signed : (z : ℤ) → Short z → number_in (signed_decimal z) ≡ Some z
number_signed (pos n) = λ h.
    let d = first_digit n h in
    let other : get_or (decimal n) 0 0 ≡ 45 → ⊥ = λ e. omega arith in
    rw (ne_eqb (get_or (decimal n) 0 0) 45 other, plain_decimal n h) refl
number_signed (negsuc n) = λ h. rw (plain_decimal (suc n) h, ne_eqb (suc n) 0 (λ e. omega arith)) refl

-- what is told as a letter or a number
or_junk_number : (o : Option ℤ) (z : ℤ) → number_or_junk o ≡ number z → o ≡ Some z
or_junk_number None z = λ e. let x : ◌≡◌ {A = ℕ} 0 1 = cc in absurd (omega arith)
or_junk_number (Some y) z = λ e. cc

or_junk_letter : {B : Type 0} (o : Option ℤ) (c : ℕ) → number_or_junk o ≡ letter c → B
or_junk_letter None c = λ e. let x : ◌≡◌ {A = ℕ} 0 1 = cc in absurd (omega arith)
or_junk_letter (Some y) c = λ e. let x : ◌≡◌ {A = ℕ} 0 1 = cc in absurd (omega arith)

abbrev one_letter : List ℕ → Bool
one_letter f = eqb (length f) 1 && is_ascii_alphabetic (get_or f 0 0)

one_is : (f : List ℕ) → one_letter f ≡ true → f ≡ get_or f 0 0 ∷ []
one_is [] = λ e. let x : ◌≡◌ {A = ℕ} 0 1 = cc in absurd (omega arith)
one_is (b ∷ []) = λ e. refl
one_is (b ∷ d ∷ f) = λ e. let x : suc (suc (length f)) ≡ 1 = grind (arith, nat_tests) in absurd (omega arith)

pub told_letter : (f : List ℕ) (c : ℕ) → told f ≡ letter c → f ≡ c ∷ []
told_letter f c e =
    ⊎_elim
    (λ (t : (one_letter f ≡ true) × (letter (get_or f 0 0) ≡ letter c)).
    let x : get_or f 0 0 ≡ c = cc in
    one_is f t.0 ∙ ap (λ (b : ℕ). b ∷ []) x)
    (λ (t : (one_letter f ≡ false) × (number_or_junk (number_in f) ≡ letter c)). or_junk_letter (number_in f) c t.1)
    (choose (one_letter f) (letter (get_or f 0 0)) (number_or_junk (number_in f)) (letter c) e)

pub told_number : (f : List ℕ) (z : ℤ) → told f ≡ number z → (f ≡ signed_decimal z) × Short z
told_number f z e =
    ⊎_elim
    (λ (t : (one_letter f ≡ true) × (letter (get_or f 0 0) ≡ number z)). let x : ◌≡◌ {A = ℕ} 0 1 = cc in absurd (omega arith))
    (λ (t : (one_letter f ≡ false) × (number_or_junk (number_in f) ≡ number z)). number_some f z (or_junk_number (number_in f) z t.1))
    (choose (one_letter f) (letter (get_or f 0 0)) (number_or_junk (number_in f)) (number z) e)

no_letter : (z : ℤ) → Short z → one_letter (signed_decimal z) ≡ false
no_letter (pos n) = λ h. let d = first_digit n h in grind (arith, nat_tests)
no_letter (negsuc n) = λ h. grind (arith, nat_tests)

pub told_signed : (z : ℤ) → Short z → told (signed_decimal z) ≡ number z
told_signed z h = rw (no_letter z h, number_signed z h) refl

-- the three sorts, without any way of telling them
one_letter_yes : (c : ℕ) → is_ascii_alphabetic c ≡ true → told (c ∷ []) ≡ letter c
one_letter_yes c h = rw h refl

letter_right : (f : List ℕ) (c : ℕ) → told f ≡ letter c → is_ascii_alphabetic c ≡ true
letter_right f c e =
    ⊎_elim
    (λ (t : (one_letter f ≡ true) × (letter (get_or f 0 0) ≡ letter c)).
    let x : get_or f 0 0 ≡ c = cc in
    let y : is_ascii_alphabetic (get_or f 0 0) ≡ true = (and_parts (eqb (length f) 1) (is_ascii_alphabetic (get_or f 0 0)) t.0).1 in
    rw x at y)
    (λ (t : (one_letter f ≡ false) × (number_or_junk (number_in f) ≡ letter c)). or_junk_letter (number_in f) c t.1)
    (choose (one_letter f) (letter (get_or f 0 0)) (number_or_junk (number_in f)) (letter c) e)

right_by : (f : List ℕ) (t : Told) → told f ≡ t → ToldRight f t
right_by f (letter c) e = (told_letter f c e, letter_right f c e)
right_by f (number z) e = told_number f z e
right_by f junk e = (
  λ c h is. let x : letter c ≡ junk = sym (one_letter_yes c h) ∙ ap told (sym is) ∙ e in let z : ◌≡◌ {A = ℕ} 0 1 = cc in absurd (omega arith),
  λ y h is. let x : number y ≡ junk = sym (told_signed y h) ∙ ap told (sym is) ∙ e in let z : ◌≡◌ {A = ℕ} 0 1 = cc in absurd (omega arith),
)

pub told_right : (f : List ℕ) (t : Told) → t ≡ told f → ToldRight f t
told_right f t e = right_by f t (sym e)
