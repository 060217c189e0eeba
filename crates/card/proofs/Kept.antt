-- One block more comes to the card.
use Rattle.std.proofs.Common.{◌≡◌, ℕ, suc, ◌+◌, ◌-◌, ◌%◌, ◌^◌, ◌<◌, ◌≤◌, true, false, eqb, List, [], ◌∷◌, ◌++◌, Ok, Err, sym, refl, ap, ◌∙◌, ⊎_elim, add-one, arith}
use Rattle.std.proofs.lemmas.Bool.{cases_lt, cases_eq, cond-true, cond-false, eq-eqb, ne_eqb, lt-ltb, le-ltb}
use Rattle.blocks.specs.declared.refusal.Refusal.TheVariants.{NoSuchBlock, Spent}
use Rattle.blocks.specs.Media.{Medium, was_read, was_written}
use Rattle.blocks.specs.Memory.{block_of}
use Rattle.card.specs.declared.outcome.KeepError.TheVariants.{Refused}
use Rattle.card.specs.Keeping.{Outcome, padded, outcome_of, after_keep, outcomes, kept, Keeps}

-- before the first block
pub keeps_none : (m : Medium) (input : List ℕ) → Keeps m input 0 m []
keeps_none m input =
    record { came_to = refl; size = refl; allowance = omega arith; reads = omega arith; writes = omega arith; stored = λ k less. absurd (omega arith); others = λ k most. refl }

-- what is left after the first n, and the outcome of the next
module _ (m t : Medium) (input : List ℕ) (n : ℕ) (came : List Outcome) (h : Keeps m input n t came) where
  outcome_kept : n < m.size → n < m.allowance → outcome_of m.size (m.allowance - n) n ≡ Ok tt
  outcome_kept room left =
      let some : eqb (m.allowance - n) 0 ≡ false = ne_eqb (m.allowance - n) 0 (λ e. omega arith) in
      rw (lt-ltb n m.size room, some) refl

  outcome_spent : n < m.size → m.allowance ≤ n → outcome_of m.size (m.allowance - n) n ≡ Err (Refused Spent)
  outcome_spent room none =
      let gone : eqb (m.allowance - n) 0 ≡ true = eq-eqb (m.allowance - n) 0 (omega arith) in
      rw (lt-ltb n m.size room, gone) refl

  outcome_past : m.size ≤ n → outcome_of m.size (m.allowance - n) n ≡ Err (Refused NoSuchBlock)
  outcome_past past = rw (le-ltb n m.size past) refl

  -- the outcome is told from the card as it now is
  outcome_now : outcome_of t.size t.allowance n ≡ outcome_of m.size (m.allowance - n) n
  outcome_now = ⊎_elim
      (λ (room : n < m.size). let left : t.allowance ≡ m.allowance - n = h.allowance ∙ omega arith in ap (λ s. outcome_of s t.allowance n) h.size ∙ ap (λ a. outcome_of m.size a n) left)
      (λ (past : m.size ≤ n). ap (λ s. outcome_of s t.allowance n) h.size ∙ rw (le-ltb n m.size past) refl)
      (cases_lt n m.size)

  -- a block that is kept
  one_kept : n < m.size → n < m.allowance → Keeps m input (suc n) (was_read (was_written t n (padded (block_of input n)) (t.allowance - 1))) (came ++ Ok tt ∷ [])
  one_kept room left =
      let b = padded (block_of input n) in
      record {
        came_to = ap (λ x. x ++ Ok tt ∷ []) h.came_to ∙ ap (λ o. outcomes m.size m.allowance n ++ o ∷ []) (sym (outcome_kept room left));
        size = h.size;
        allowance = omega (arith, h.allowance);
        reads = omega (arith, h.reads);
        writes = omega (arith, h.writes);
        stored = λ k less. ⊎_elim
            (λ (same : k ≡ n). cond-true (eqb k n) b (t.bytes k) (eq-eqb k n same) ∙ ap (λ j. padded (block_of input j)) (sym same))
            (λ (other : k ≡ n → ⊥). cond-false (eqb k n) b (t.bytes k) (ne_eqb k n other) ∙ h.stored k (omega arith))
            (cases_eq k n);
        others = λ k most. let other : k ≡ n → ⊥ = λ e. omega arith in cond-false (eqb k n) b (t.bytes k) (ne_eqb k n other) ∙ h.others k (omega arith);
      }

  -- a block that is refused
  one_refused : (o : Outcome) → o ≡ outcome_of m.size (m.allowance - n) n → kept m (suc n) ≡ kept m n → Keeps m input (suc n) t (came ++ o ∷ [])
  one_refused o is same =
      record {
        came_to = ap (λ x. x ++ o ∷ []) h.came_to ∙ ap (λ x. outcomes m.size m.allowance n ++ x ∷ []) is;
        size = h.size;
        allowance = h.allowance ∙ ap (λ k. m.allowance - k) (sym same);
        reads = h.reads ∙ ap (λ k. (m.reads + k) % 2 ^ 64) (sym same);
        writes = h.writes ∙ ap (λ k. (m.writes + k) % 2 ^ 64) (sym same);
        stored = λ k less. h.stored k (omega arith);
        others = λ k most. h.others k (omega arith);
      }

  after_spent : n < m.size → m.allowance ≤ n → Keeps m input (suc n) t (came ++ Err (Refused Spent) ∷ [])
  after_spent room none = one_refused (Err (Refused Spent)) (sym (outcome_spent room none)) (omega arith)

  after_past : m.size ≤ n → Keeps m input (suc n) t (came ++ Err (Refused NoSuchBlock) ∷ [])
  after_past past = one_refused (Err (Refused NoSuchBlock)) (sym (outcome_past past)) (omega arith)

  -- after the next block, whatever comes of it
  pub keeps_more : (o : Outcome) (u : Medium) → o ≡ outcome_of t.size t.allowance n → u ≡ after_keep o t n (padded (block_of input n)) → Keeps m input (n + 1) u (came ++ o ∷ [])
  keeps_more o u is after =
      let b = padded (block_of input n) in
      let P : Outcome → Type 0 = λ x. Keeps m input (suc n) (after_keep x t n b) (came ++ x ∷ []) in
      let done : P o = rw (is, outcome_now) (⊎_elim
      (λ (room : n < m.size). ⊎_elim
      (λ (left : n < m.allowance). rw (outcome_kept room left) (one_kept room left))
      (λ (none : m.allowance ≤ n). rw (outcome_spent room none) (after_spent room none))
      (cases_lt n m.allowance))
      (λ (past : m.size ≤ n). rw (outcome_past past) (after_past past))
      (cases_lt n m.size)) in
      rw (after, add-one n) done
