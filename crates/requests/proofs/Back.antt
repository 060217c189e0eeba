-- A line asks for a call just where it is that call's text.
use Rattle.std.proofs.Common.{◌≡◌, ℕ, ◌^◌, ◌<◌, ◌≤◌, Bool, true, false, cond, eqb, leb, List, [], ◌∷◌, ℤ, pos, negsuc, Some, None, decimal, Option, sym, refl, ap, ◌∙◌, subst, arith, eqb-true, le-leb, MatchOption}
use Rattle.std.specs.Option.{option_map}
use Rattle.std.specs.Fmt.{signed_decimal}
use Rattle.std.proofs.lemmas.Bool.Decides.{nat_tests}
use Rattle.calls.specs.declared.call.Call.{Call}
use Rattle.calls.specs.declared.call.Call.TheVariants.{Open, Booking, Count, Strike, Query, Total, Figures, Close}
use Rattle.calls.specs.declared.part.Part.TheVariants.{Stock, Day}
use Rattle.fields.specs.Parts.{fields_of, tabbed}
use Rattle.fields.specs.Told.{Told, letter, number, junk, told}
use Rattle.fields.specs.Taken.{given, first, rest, letter_in, amount_in, at_least_zero, day_in, key_in, greatest_key}
use Rattle.fields.specs.Laws.{Clean, Short}
use Rattle.fields.proofs.Parted.{fields_join, fields_tabbed, signed_untabbed}
use Rattle.fields.proofs.Numerals.{clash, told_letter, told_number, told_signed}
use Rattle.requests.specs.Asked.{alone, posting_in, one_key_in, range_in, by_verb, asked_by, asked}
use Rattle.requests.specs.Reads.{call_fields, call_text, Fitting, Reads}

-- what a chain of fields gave
given_some : {A B : Type 0} (o : Option A) (k : A → Option B) (y : B) → given o k ≡ Some y → (x : A) × (o ≡ Some x) × (k x ≡ Some y)
given_some None k y e = clash y e
given_some (Some x) k y e = (x, refl, e)

mapped_some : {A B : Type 0} (f : A → B) (o : Option A) (y : B) → option_map f o ≡ Some y → (x : A) × (o ≡ Some x) × (f x ≡ y)
mapped_some f None y e = clash y e
mapped_some f (Some x) y e = (x, refl, cc)

alone_some : {A : Type 0} (fs : List (List ℕ)) (x y : A) → alone fs x ≡ Some y → (fs ≡ []) × (x ≡ y)
alone_some [] x y e = (refl, cc)
alone_some (f ∷ fs) x y e = clash y e

pub alone_none : {A : Type 0} (fs : List (List ℕ)) (x : A) → (fs ≡ [] → ⊥) → alone fs x ≡ None
alone_none [] x h = absurd (h refl)
alone_none (f ∷ fs) x h = refl

amount_told : (t : Told) (z : ℤ) → amount_in t ≡ Some z → t ≡ number z
amount_told (letter c) z e = clash z e
amount_told (number y) z e = cc
amount_told junk z e = clash z e

letter_told : (t : Told) (c : ℕ) → letter_in t ≡ Some c → t ≡ letter c
letter_told (letter b) c e = cc
letter_told (number y) c e = clash c e
letter_told junk c e = clash c e

letter_first : (fs : List (List ℕ)) (c : ℕ) → letter_in (first fs) ≡ Some c → fs ≡ (c ∷ []) ∷ rest fs
letter_first [] c e = clash c e
letter_first (f ∷ fs) c e = ap (λ (x : List ℕ). x ∷ fs) (told_letter f c (letter_told (told f) c e))

amount_first : (fs : List (List ℕ)) (z : ℤ) → amount_in (first fs) ≡ Some z → (fs ≡ signed_decimal z ∷ rest fs) × Short z
amount_first [] z e = clash z e
amount_first (f ∷ fs) z e = let n = told_number f z (amount_told (told f) z e) in (ap (λ (x : List ℕ). x ∷ fs) n.0, n.1)

zero_up : (z : ℤ) (n : ℕ) → at_least_zero z ≡ Some n → z ≡ pos n
zero_up (pos m) n e = cc
zero_up (negsuc m) n e = clash n e

day_first : (fs : List (List ℕ)) (d : ℕ) → day_in (first fs) ≡ Some d → (fs ≡ decimal d ∷ rest fs) × (d < 10 ^ 18)
day_first fs d e =
    let g = given_some (amount_in (first fs)) at_least_zero d e in
    amount_first fs (pos d) (g.1 ∙ ap (λ (z : ℤ). Some z) (zero_up g.0 d g.2))

in_range : (n s : ℕ) → cond (leb n greatest_key) (Some n) None ≡ Some s → (n ≡ s) × (s ≤ greatest_key)
in_range n s e = (grind (arith, nat_tests), grind (arith, nat_tests))

key_first : (fs : List (List ℕ)) (s : ℕ) → key_in (first fs) ≡ Some s → (fs ≡ decimal s ∷ rest fs) × (s ≤ greatest_key)
key_first fs s e =
    let g = given_some (day_in (first fs)) (λ n. cond (leb n greatest_key) (Some n) None) s e in
    let r = in_range g.0 s g.2 in
    ((day_first fs s (g.1 ∙ ap (λ (n : ℕ). Some n) r.0)).0, r.1)

-- what each verb's fields are
abbrev Posted : List (List ℕ) → ℕ × ℤ × ℕ → Type 0
Posted fs p = (fs ≡ decimal p.0 ∷ signed_decimal p.1 ∷ decimal p.2 ∷ []) × ((p.0 ≤ greatest_key) × Short p.1 × (p.2 < 10 ^ 18))

posting_some : (fs : List (List ℕ)) (p : ℕ × ℤ × ℕ) → posting_in fs ≡ Some p → Posted fs p
posting_some fs p e =
    let s = given_some (key_in (first fs)) _ p e in
    let a = given_some (amount_in (first (rest fs))) _ p s.2 in
    let d = given_some (day_in (first (rest (rest fs)))) _ p a.2 in
    let z = alone_some (rest (rest (rest fs))) (s.0, a.0, d.0) p d.2 in
    let s1 = key_first fs s.0 s.1 in
    let a1 = amount_first (rest fs) a.0 a.1 in
    let d1 = day_first (rest (rest fs)) d.0 d.1 in
    let P : ℕ × ℤ × ℕ → Type 0 = Posted fs in
    let whole : fs ≡ decimal s.0 ∷ signed_decimal a.0 ∷ decimal d.0 ∷ [] = s1.0 ∙ ap (λ (l : List (List ℕ)). decimal s.0 ∷ l) (a1.0 ∙ ap (λ (l : List (List ℕ)). signed_decimal a.0 ∷ l) (d1.0 ∙ ap (λ (l : List (List ℕ)). decimal d.0 ∷ l) z.0)) in
    subst P z.1 (whole, (s1.1, a1.1, d1.1))

one_key_some : (fs : List (List ℕ)) (x : ℕ) → one_key_in fs ≡ Some x → (fs ≡ decimal x ∷ []) × (x ≤ greatest_key)
one_key_some fs x e =
    let s = given_some (key_in (first fs)) _ x e in
    let z = alone_some (rest fs) s.0 x s.2 in
    let s1 = key_first fs s.0 s.1 in
    let P : ℕ → Type 0 = λ y. (fs ≡ decimal y ∷ []) × (y ≤ greatest_key) in
    subst P z.1 (s1.0 ∙ ap (λ (l : List (List ℕ)). decimal s.0 ∷ l) z.0, s1.1)

abbrev Ranged : List (List ℕ) → ℕ × ℕ → Type 0
Ranged fs p = (fs ≡ decimal p.0 ∷ decimal p.1 ∷ []) × ((p.0 ≤ greatest_key) × (p.1 ≤ greatest_key))

range_some : (fs : List (List ℕ)) (p : ℕ × ℕ) → range_in fs ≡ Some p → Ranged fs p
range_some fs p e =
    let l = given_some (key_in (first fs)) _ p e in
    let h = given_some (key_in (first (rest fs))) _ p l.2 in
    let z = alone_some (rest (rest fs)) (l.0, h.0) p h.2 in
    let l1 = key_first fs l.0 l.1 in
    let h1 = key_first (rest fs) h.0 h.1 in
    let P : ℕ × ℕ → Type 0 = Ranged fs in
    subst P z.1 (l1.0 ∙ ap (λ (x : List (List ℕ)). decimal l.0 ∷ x) (h1.0 ∙ ap (λ (x : List (List ℕ)). decimal h.0 ∷ x) z.0), (l1.1, h1.1))

-- the first of six tests that holds
six : {A B : Type 0} (b1 b2 b3 b4 b5 b6 : Bool) (x1 x2 x3 x4 x5 x6 y z : A) → cond b1 x1 (cond b2 x2 (cond b3 x3 (cond b4 x4 (cond b5 x5 (cond b6 x6 y))))) ≡ z → (b1 ≡ true → x1 ≡ z → B) → (b2 ≡ true → x2 ≡ z → B) → (b3 ≡ true → x3 ≡ z → B) → (b4 ≡ true → x4 ≡ z → B) → (b5 ≡ true → x5 ≡ z → B) → (b6 ≡ true → x6 ≡ z → B) → (y ≡ z → B) → B
six true b2 b3 b4 b5 b6 x1 x2 x3 x4 x5 x6 y z e k1 k2 k3 k4 k5 k6 k = k1 refl e
six false true b3 b4 b5 b6 x1 x2 x3 x4 x5 x6 y z e k1 k2 k3 k4 k5 k6 k = k2 refl e
six false false true b4 b5 b6 x1 x2 x3 x4 x5 x6 y z e k1 k2 k3 k4 k5 k6 k = k3 refl e
six false false false true b5 b6 x1 x2 x3 x4 x5 x6 y z e k1 k2 k3 k4 k5 k6 k = k4 refl e
six false false false false true b6 x1 x2 x3 x4 x5 x6 y z e k1 k2 k3 k4 k5 k6 k = k5 refl e
six false false false false false true x1 x2 x3 x4 x5 x6 y z e k1 k2 k3 k4 k5 k6 k = k6 refl e
six false false false false false false x1 x2 x3 x4 x5 x6 y z e k1 k2 k3 k4 k5 k6 k = k e

-- v's field and fs are the fields of q, which fits
abbrev Is : ℕ → List (List ℕ) → Call → Type 0
Is v fs q = ((v ∷ []) ∷ fs ≡ call_fields q) × Fitting q

verb : (v c : ℕ) (fs gs : List (List ℕ)) → eqb v c ≡ true → fs ≡ gs → ◌≡◌ {A = List (List ℕ)} ((v ∷ []) ∷ fs) ((c ∷ []) ∷ gs)
verb v c fs gs t e = let x : v ≡ c = eqb-true v c t in cc

verb_some : (v : ℕ) (fs : List (List ℕ)) (q : Call) → by_verb v fs ≡ Some q → Is v fs q
verb_some v fs q e =
    let P : Call → Type 0 = Is v fs in
    six (eqb v 98) (eqb v 99) (eqb v 115) (eqb v 113) (eqb v 116) (eqb v 102)
    (option_map (λ p. Booking p.0 p.1 p.2) (posting_in fs)) (option_map (λ p. Count p.0 p.1 p.2) (posting_in fs)) (option_map Strike (one_key_in fs)) (option_map Query (one_key_in fs)) (option_map (λ p. Total p.0 p.1) (range_in fs)) (alone fs (Figures Stock)) None (Some q) e
    (λ t x. let m = mapped_some (λ p. Booking p.0 p.1 p.2) (posting_in fs) q x in let g = posting_some fs m.0 m.1 in subst P m.2 (verb v 98 fs _ t g.0, g.1))
    (λ t x. let m = mapped_some (λ p. Count p.0 p.1 p.2) (posting_in fs) q x in let g = posting_some fs m.0 m.1 in subst P m.2 (verb v 99 fs _ t g.0, g.1))
    (λ t x. let m = mapped_some Strike (one_key_in fs) q x in let g = one_key_some fs m.0 m.1 in subst P m.2 (verb v 115 fs _ t g.0, g.1))
    (λ t x. let m = mapped_some Query (one_key_in fs) q x in let g = one_key_some fs m.0 m.1 in subst P m.2 (verb v 113 fs _ t g.0, g.1))
    (λ t x. let m = mapped_some (λ p. Total p.0 p.1) (range_in fs) q x in let g = range_some fs m.0 m.1 in subst P m.2 (verb v 116 fs _ t g.0, g.1))
    (λ t x. let m = alone_some fs (Figures Stock) q x in subst P m.1 (verb v 102 fs _ t m.0, tt))
    (λ x. clash q x)

-- what is read of a line is its text
pub sound : (line : List ℕ) (q : Call) → asked line ≡ Some q → Reads line q
sound line q e =
    let g = given_some (letter_in (first (fields_of line))) _ q e in
    let l = letter_first (fields_of line) g.0 g.1 in
    let v = verb_some g.0 (rest (fields_of line)) q g.2 in
    record { text = sym (fields_join line) ∙ ap tabbed (l ∙ v.0); fits = v.1 }

-- and the text of a request that fits is read as it
told_decimal : (n : ℕ) → n < 10 ^ 18 → told (decimal n) ≡ number (pos n)
told_decimal n h = told_signed (pos n) h

asked_back : (q : Call) → Fitting q → asked_by (call_fields q) ≡ Some q
asked_back (Booking s a d) h = rw (told_decimal s (omega arith), le-leb s greatest_key h.0, told_signed a h.1, told_decimal d h.2) refl
asked_back (Count s a d) h = rw (told_decimal s (omega arith), le-leb s greatest_key h.0, told_signed a h.1, told_decimal d h.2) refl
asked_back (Strike s) h = rw (told_decimal s (omega arith), le-leb s greatest_key h) refl
asked_back (Query s) h = rw (told_decimal s (omega arith), le-leb s greatest_key h) refl
asked_back (Total l u) h = rw (told_decimal l (omega arith), le-leb l greatest_key h.0, told_decimal u (omega arith), le-leb u greatest_key h.1) refl
asked_back (Figures Stock) h = refl
asked_back (Figures Day) h = absurd h
asked_back Open h = absurd h
asked_back Close h = absurd h

decimal_untabbed : (n : ℕ) → n < 10 ^ 18 → Clean 9 (decimal n)
decimal_untabbed n h = signed_untabbed (pos n) h

fields_back : (q : Call) → Fitting q → fields_of (call_text q) ≡ call_fields q
fields_back (Booking s a d) h = fields_tabbed _ _ ((refl, tt), (decimal_untabbed s (omega arith), (signed_untabbed a h.1, (decimal_untabbed d h.2, tt))))
fields_back (Count s a d) h = fields_tabbed _ _ ((refl, tt), (decimal_untabbed s (omega arith), (signed_untabbed a h.1, (decimal_untabbed d h.2, tt))))
fields_back (Strike s) h = fields_tabbed _ _ ((refl, tt), (decimal_untabbed s (omega arith), tt))
fields_back (Query s) h = fields_tabbed _ _ ((refl, tt), (decimal_untabbed s (omega arith), tt))
fields_back (Total l u) h = fields_tabbed _ _ ((refl, tt), (decimal_untabbed l (omega arith), (decimal_untabbed u (omega arith), tt)))
fields_back (Figures Stock) h = refl
fields_back (Figures Day) h = absurd h
fields_back Open h = absurd h
fields_back Close h = absurd h

pub complete : (line : List ℕ) (q : Call) → Reads line q → asked line ≡ Some q
complete line q h = ap asked h.text ∙ ap asked_by (fields_back q h.fits) ∙ asked_back q h.fits

pub reads_just : (line : List ℕ) (r : Option Call) → r ≡ asked line → MatchOption r ((q : Call) → Reads line q → ⊥) (λ q. Reads line q)
reads_just line None e = λ q h. clash q (e ∙ complete line q h)
reads_just line (Some q) e = sound line q (sym e)

pub shown_back : (q : Call) → Fitting q → asked (call_text q) ≡ Some q
shown_back q h = complete (call_text q) q (record { text = refl; fits = h })
