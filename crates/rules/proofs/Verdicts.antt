-- What a result says of the rules.
use Rattle.std.proofs.Common.{◌≡◌, ℕ, true, Some, None, Ok, Err, Option, Result, is_ok, refl, arith}
use Rattle.messages.specs.Outcomes.{ok_unless}
use Rattle.rules.specs.declared.rule.Rule.{Rule}

module _ {A : Type 0} (a : A) where
  -- what was accepted breaks no rule
  pub accepted : (x : A) (o : Option Rule) → Ok x ≡ ok_unless o a → (o ≡ None) × (x ≡ a)
  accepted x None e = (refl, cc e)
  accepted x (Some rule) e = let z : ◌≡◌ {A = ℕ} 0 1 = cc e in absurd (omega arith)

  pub none_broken : (r : Result A Rule) (o : Option Rule) → r ≡ ok_unless o a → is_ok r ≡ true → o ≡ None
  none_broken r None e ok = refl
  none_broken r (Some rule) e ok = let z : ◌≡◌ {A = ℕ} 0 1 = cc (e, ok) in absurd (omega arith)

  -- an error is the rule that is broken
  pub err_broken : (rule : Rule) (o : Option Rule) → Err rule ≡ ok_unless o a → Some rule ≡ o
  err_broken rule None e = let z : ◌≡◌ {A = ℕ} 0 1 = cc e in absurd (omega arith)
  err_broken rule (Some first) e = cc e
