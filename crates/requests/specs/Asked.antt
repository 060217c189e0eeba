-- What a line asks for, by its fields.
use Rattle.std.specs.Prelude.{ℕ, cond, List, [], ◌∷◌, ℤ, Some, None, Option, ◌==◌}
use Rattle.std.specs.Option.{option_map}
use Rattle.calls.specs.declared.call.Call.{Call}
use Rattle.calls.specs.declared.call.Call.TheVariants.{Booking, Count, Strike, Query, Total, Figures}
use Rattle.calls.specs.declared.part.Part.TheVariants.{Stock}
use Rattle.fields.specs.Parts.{fields_of}
use Rattle.fields.specs.Taken.{given, first, rest, letter_in, amount_in, day_in, key_in}

-- x if no field is left
abbrev pub alone : {A : Type 0} → List (List ℕ) → A → Option A
alone [] x = Some x
alone (f ∷ fs) x = None

-- b and c: sheet, amount, day, and nothing after
abbrev pub posting_in : List (List ℕ) → Option (ℕ × ℤ × ℕ)
posting_in fs = given (key_in (first fs)) (λ s. given (amount_in (first (rest fs))) (λ a. given (day_in (first (rest (rest fs)))) (λ d. alone (rest (rest (rest fs))) (s, a, d))))

-- s and q: sheet, and nothing after
abbrev pub one_key_in : List (List ℕ) → Option ℕ
one_key_in fs = given (key_in (first fs)) (λ s. alone (rest fs) s)

-- t: low and high, and nothing after
abbrev pub range_in : List (List ℕ) → Option (ℕ × ℕ)
range_in fs = given (key_in (first fs)) (λ l. given (key_in (first (rest fs))) (λ h. alone (rest (rest fs)) (l, h)))

-- by the verb: b, c, s, q, t, f
abbrev pub by_verb : ℕ → List (List ℕ) → Option Call
by_verb v fs =
    cond (v == 98) (option_map (λ p. Booking p.0 p.1 p.2) (posting_in fs))
    (cond (v == 99) (option_map (λ p. Count p.0 p.1 p.2) (posting_in fs))
    (cond (v == 115) (option_map Strike (one_key_in fs))
    (cond (v == 113) (option_map Query (one_key_in fs))
    (cond (v == 116) (option_map (λ p. Total p.0 p.1) (range_in fs))
    (cond (v == 102) (alone fs (Figures Stock)) None)))))

abbrev pub asked_by : List (List ℕ) → Option Call
asked_by fs = given (letter_in (first fs)) (λ v. by_verb v (rest fs))

-- none: a bad line
abbrev pub asked : List ℕ → Option Call
asked line = asked_by (fields_of line)
