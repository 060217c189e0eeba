-- The numbers of the rules, and the first rule that is broken.
use Rattle.std.specs.Prelude.{ℕ, Bool, cond, List, [], ◌∷◌, Some, None, Option}
use Rattle.rules.specs.declared.rule.Rule.{Rule}
use Rattle.rules.specs.declared.rule.Rule.TheVariants.{Level, Mark, Count, Children, Kind, HeaderNumbers, Pivots, ChildNumbers, Keys, Unused}

-- the number of a rule, in the order in which they are told
abbrev pub rule_number : Rule → ℕ
rule_number Level = 1
rule_number Mark = 2
rule_number Count = 3
rule_number Children = 4
rule_number Kind = 5
rule_number HeaderNumbers = 6
rule_number Pivots = 7
rule_number ChildNumbers = 8
rule_number Keys = 9
rule_number Unused = 10

-- the rule of the first test that fails
abbrev pub first_broken : List (Bool × Rule) → Option Rule
first_broken [] = None
first_broken (t ∷ ts) = cond t.0 (first_broken ts) (Some t.1)
