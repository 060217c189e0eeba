-- The byte of a mark.
use Rattle.std.specs.Prelude.{◌≡◌, ℕ, cond, [], ◌∷◌, Result, ◌==◌}
use Rattle.messages.specs.Outcomes.{ok_unless}
use Rattle.rules.specs.HeaderRules.{within}
use Rattle.rules.specs.Rules.{first_broken}
use Rattle.rules.specs.declared.mark.Mark.{Mark}
use Rattle.rules.specs.declared.mark.Mark.TheVariants.{Closed, InUse}
use Rattle.rules.specs.declared.rule.Rule.{Rule}
use Rattle.rules.specs.declared.rule.Rule.TheVariants.{Mark as MarkRule}

-- the byte that stands for a mark
abbrev pub mark_number : Mark → ℕ
mark_number Closed = 1
mark_number InUse = 2

-- the mark that a byte stands for
abbrev pub mark_of : ℕ → Mark
mark_of n = cond (n == 1) Closed InUse

-- what a byte says: its mark, or that it breaks the rule on marks
abbrev pub Decodes : ℕ → Result Mark Rule → Type 0
Decodes n r = r ≡ ok_unless (first_broken ((within 1 2 n, MarkRule) ∷ [])) (mark_of n)
