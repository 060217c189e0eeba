-- A line and the call that it asks for, without any way of reading: the line is the call's text.
use Rattle.std.specs.Prelude.{◌≡◌, ℕ, ◌^◌, ◌<◌, ◌≤◌, List, [], ◌∷◌, codes, decimal}
use Rattle.std.specs.Fmt.{signed_decimal}
use Rattle.calls.specs.declared.call.Call.{Call}
use Rattle.calls.specs.declared.call.Call.TheVariants.{Open, Booking, Count, Strike, Query, Total, Figures, Close}
use Rattle.calls.specs.declared.part.Part.TheVariants.{Stock, Day}
use Rattle.fields.specs.Parts.{tabbed}
use Rattle.fields.specs.Laws.{Short}
use Rattle.fields.specs.Taken.{greatest_key}

-- a call's fields: the verb's letter, then the numbers; none where no line asks for the call
abbrev pub call_fields : Call → List (List ℕ)
call_fields Open = []
call_fields (Booking sheet amount day) = codes "b" ∷ decimal sheet ∷ signed_decimal amount ∷ decimal day ∷ []
call_fields (Count sheet amount day) = codes "c" ∷ decimal sheet ∷ signed_decimal amount ∷ decimal day ∷ []
call_fields (Strike sheet) = codes "s" ∷ decimal sheet ∷ []
call_fields (Query sheet) = codes "q" ∷ decimal sheet ∷ []
call_fields (Total low high) = codes "t" ∷ decimal low ∷ decimal high ∷ []
call_fields (Figures Stock) = codes "f" ∷ []
call_fields (Figures Day) = []
call_fields Close = []

abbrev pub call_text : Call → List ℕ
call_text c = tabbed (call_fields c)

-- a line can ask for the call: keys are in their range, and other numbers have at most 18 digits
abbrev pub Fitting : Call → Type 0
Fitting Open = ⊥
Fitting (Booking sheet amount day) = (sheet ≤ greatest_key) × Short amount × (day < 10 ^ 18)
Fitting (Count sheet amount day) = (sheet ≤ greatest_key) × Short amount × (day < 10 ^ 18)
Fitting (Strike sheet) = sheet ≤ greatest_key
Fitting (Query sheet) = sheet ≤ greatest_key
Fitting (Total low high) = (low ≤ greatest_key) × (high ≤ greatest_key)
Fitting (Figures Stock) = Unit {0}
Fitting (Figures Day) = ⊥
Fitting Close = ⊥

-- the line asks for the call
pub record Reads (line : List ℕ) (c : Call) : Type 0 where
  pub text : line ≡ call_text c
  pub fits : Fitting c
