-- What the test of a value refuses, read off its result.
use Rattle.std.proofs.Common.{◌≡◌, ℕ, ℤ, Some, None, Option, Result, refl, ap, ◌∙◌, w64, SFits, to_z, of_z}
use Rattle.std.proofs.lemmas.Int.{to_z-of_z}
use Rattle.std.specs.Result.{result_err}
use Rattle.calls.specs.declared.refusal.Refusal.{Refusal}
use Rattle.book_plan.specs.Books.{bad_value}
use Rattle.messages.specs.Outcomes.{ok_unless}

err-ok_unless : {A E : Type 0} (o : Option E) (a : A) → result_err (ok_unless o a) ≡ o
err-ok_unless None a = refl
err-ok_unless (Some e) a = refl

pub refused : (r : Result (Unit {0}) Refusal) (amount : ℤ) (day : ℕ) → SFits w64 amount → r ≡ ok_unless (bad_value (to_z w64 (of_z w64 amount)) day) tt
    → result_err r ≡ bad_value amount day
refused r amount day fits is = ap result_err is ∙ err-ok_unless (bad_value (to_z w64 (of_z w64 amount)) day) tt ∙ ap (λ z. bad_value z day) (to_z-of_z w64 amount fits)
