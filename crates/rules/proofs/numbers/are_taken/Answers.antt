use Rattle.std.proofs.Common.{◌≡◌, ℕ, ◌&&◌, ltb, leb, List, [], ◌∷◌, refl, ap, ◌∙◌, rules, tests}
use Rattle.std.proofs.Math.Bool.{and_assoc}
use Rattle.std.specs.List.{list_all}
use Rattle.std.proofs.lemmas.Iterator.{YieldsList-from_slice}
use Rattle.std.proofs.lemmas.Iterator.Search.{all_from_yields_List}
use Rattle.rules.specs.Keys.{numbers_below}
use Rattle.rules.proofs.numbers.are_taken.Goals as goal

-- both tests of a number are made at once
taken : (limit : ℕ) (ns : List ℕ) → list_all (λ n. leb 1 n && ltb n limit) ns ≡ numbers_below limit ns
taken limit [] = refl
taken limit (n ∷ ns) = and_assoc (leb 1 n) (ltb n limit) (list_all (λ n. leb 1 n && ltb n limit) ns) ∙ ap (λ b. leb 1 n && (ltb n limit && b)) (taken limit ns)

pub returns : goal.returns
returns c =
    all_from_yields_List (λ n. leb 1 n && ltb n c.args.next_free) _ _ c.all.result c.all.ensures.ran (YieldsList-from_slice c.args.numbers.now cc) (λ x b q k. search (rules, tests)) ∙ taken c.args.next_free c.args.numbers.now
