-- What was read from a block, and the first rule that it breaks.
use Rattle.std.proofs.Common.{◌≡◌, ℕ, Bool, true, false, cond, List, [], ◌∷◌, ◌++◌, Some, None, Ok, Err, sym, refl, ap, ◌∙◌, arith}
use Rattle.messages.specs.Outcomes.{ok_unless}
use Rattle.rules.specs.declared.header.Header.{Header}
use Rattle.rules.specs.declared.mark.Mark.{Mark}
use Rattle.rules.specs.declared.place.Place.{Place}
use Rattle.rules.specs.declared.rule.Rule.{Rule}
use Rattle.nodes.specs.Blocks.{header_of}
use Rattle.nodes.specs.Checks.{table_rules, root_fault}
use Rattle.rules.specs.HeaderRules.{root_header_rules, root_place}
use Rattle.rules.specs.Marks.{mark_of}
use Rattle.rules.specs.Rules.{first_broken}
use Rattle.rules.proofs.Verdicts.{accepted, err_broken}

-- a rule that is broken among the first is the first
pub first_some : (ts us : List (Bool × Rule)) (r : Rule) → Some r ≡ first_broken ts → Some r ≡ first_broken (ts ++ us)
first_some [] us r = λ e. let z : ◌≡◌ {A = ℕ} 0 1 = cc in absurd (omega arith)
first_some (t ∷ ts) us r =
    elim t.0 as (λ v. Some r ≡ cond v (first_broken ts) (Some t.1) → Some r ≡ cond v (first_broken (ts ++ us)) (Some t.1))
    [ true ↦ first_some ts us r | false ↦ λ e. e ]

-- where none of the first is broken, the others decide
pub first_none : (ts us : List (Bool × Rule)) → None ≡ first_broken ts → first_broken us ≡ first_broken (ts ++ us)
first_none [] us = λ e. refl
first_none (t ∷ ts) us =
    elim t.0 as (λ v. None ≡ cond v (first_broken ts) (Some t.1) → first_broken us ≡ cond v (first_broken (ts ++ us)) (Some t.1))
    [ true ↦ first_none ts us | false ↦ λ e. let z : ◌≡◌ {A = ℕ} 0 1 = cc in absurd (omega arith) ]

-- the header's rules, then those of the tables
module _ (rules tables : Header → List (Bool × Rule)) (bs : List ℕ) (h : Header) (is : h ≡ header_of bs) where
  pub bad_header : {A B : Type 0} (a : A) (b : B) (r : Rule) → Err r ≡ ok_unless (first_broken (rules h)) b → Err r ≡ ok_unless (first_broken (rules (header_of bs) ++ tables (header_of bs))) a
  bad_header a b r e = ap (λ o. ok_unless o a) (first_some (rules (header_of bs)) (tables (header_of bs)) r (err_broken b r _ e ∙ ap (λ x. first_broken (rules x)) is))

  -- where the header is good, the tables decide
  pub past_header : first_broken (rules h) ≡ None → first_broken (tables h) ≡ first_broken (rules (header_of bs) ++ tables (header_of bs))
  past_header good = ap (λ x. first_broken (tables x)) is ∙ first_none (rules (header_of bs)) (tables (header_of bs)) (sym good ∙ ap (λ x. first_broken (rules x)) is)

-- the root's header was accepted
module _ (size : ℕ) (bs : List ℕ) (h : Header) (is : h ≡ header_of bs) (p : Place) (at : p ≡ root_place h) (mark : Mark) (told : Ok mark ≡ ok_unless (first_broken (root_header_rules size h)) (mark_of h.mark)) where
  past_root : first_broken (table_rules p h bs) ≡ root_fault size bs
  unfolding root_fault
  past_root =
      ap (λ q. first_broken (table_rules q h bs)) at ∙ past_header (root_header_rules size) (λ x. table_rules (root_place x) x bs) bs h is (accepted (mark_of h.mark) mark _ told).0

  pub bad_root : (r : Rule) → Err r ≡ ok_unless (first_broken (table_rules p h bs)) (tt {0}) → Err r ≡ ok_unless (root_fault size bs) (mark_of (header_of bs).mark)
  bad_root r e = ap (λ o. ok_unless o (mark_of (header_of bs).mark)) (err_broken (tt {0}) r _ e ∙ past_root)

  pub good_root : Ok (tt {0}) ≡ ok_unless (first_broken (table_rules p h bs)) (tt {0}) → (root_fault size bs ≡ None) × (mark ≡ mark_of (header_of bs).mark)
  good_root e = (sym past_root ∙ (accepted (tt {0}) (tt {0}) _ e).0, (accepted (mark_of h.mark) mark _ told).1 ∙ ap (λ x. mark_of x.mark) is)
