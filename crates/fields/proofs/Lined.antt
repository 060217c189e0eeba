-- The lines of an input are its lines.
use Rattle.std.proofs.Common.{◌≡◌, ℕ, suc, ◌≤◌, true, false, cond, eqb, ◌⊎◌, List, [], ◌∷◌, length, refl, ap, inl, inr, ⊎_elim, arith}
use Rattle.std.proofs.lemmas.Bool.Decides.{eqb_tells}
use Rattle.fields.specs.Parts.{onto, lines_of, joined_by}
use Rattle.fields.specs.Laws.{AllClean, ended, EndsSome, Lined}

abbrev Whole : List ℕ → List (List ℕ) → Type 0
Whole bs ls = (ended ls ≡ bs) ⊎ ((joined_by 10 ls ≡ bs) × EndsSome ls)

-- an LF in front, and another byte
lf_first : (bs : List ℕ) (ls : List (List ℕ)) → Whole bs ls → Whole (10 ∷ bs) ([] ∷ ls)
lf_first bs [] (inl e) = inl (ap (λ (l : List ℕ). 10 ∷ l) e)
lf_first bs [] (inr p) = absurd p.1
lf_first bs (l ∷ ls) (inl e) = inl (ap (λ (l : List ℕ). 10 ∷ l) e)
lf_first bs (l ∷ ls) (inr p) = inr (ap (λ (l : List ℕ). 10 ∷ l) p.0, p.1)

byte_first : (b : ℕ) (bs : List ℕ) (ls : List (List ℕ)) → Whole bs ls → Whole (b ∷ bs) (onto b ls)
byte_first b bs [] (inl e) = inr (ap (λ (l : List ℕ). b ∷ l) e, omega arith)
byte_first b bs [] (inr p) = absurd p.1
byte_first b bs (l ∷ ls) (inl e) = inl (ap (λ (l : List ℕ). b ∷ l) e)
byte_first b bs (l ∷ []) (inr p) = inr (ap (λ (l : List ℕ). b ∷ l) p.0, omega arith)
byte_first b bs (l ∷ m ∷ ls) (inr p) = inr (ap (λ (l : List ℕ). b ∷ l) p.0, p.1)

onto_clean : (b : ℕ) (ls : List (List ℕ)) → eqb b 10 ≡ false → AllClean 10 ls → AllClean 10 (onto b ls)
onto_clean b [] e h = ((e, tt), tt)
onto_clean b (l ∷ ls) e h = ((e, h.0), h.1)

whole : (bs : List ℕ) → Whole bs (lines_of bs) × AllClean 10 (lines_of bs)
whole [] = (inl refl, tt)
whole (b ∷ bs) =
    let more = whole bs in
    ⊎_elim
    (λ (t : (eqb b 10 ≡ true) × (b ≡ 10)). rw (t.0, t.1) (lf_first bs (lines_of bs) more.0, (tt, more.1)))
    (λ (t : (eqb b 10 ≡ false) × (b ≡ 10 → ⊥)). rw t.0 (byte_first b bs (lines_of bs) more.0, onto_clean b (lines_of bs) t.0 more.1))
    (eqb_tells b 10)

pub lines_lined : (bs : List ℕ) → Lined bs (lines_of bs)
lines_lined bs = let w = whole bs in record { whole = w.0; clean = w.1 }

-- an input has at most as many lines as bytes
onto_length : (b : ℕ) (ls : List (List ℕ)) → length (onto b ls) ≤ suc (length ls)
onto_length b [] = omega arith
onto_length b (l ∷ ls) = omega arith

pub few_lines : (bs : List ℕ) → length (lines_of bs) ≤ length bs
few_lines [] = omega arith
few_lines (b ∷ bs) =
    let more = few_lines bs in
    let last = onto_length b (lines_of bs) in
    elim (eqb b 10) as (λ v. length (cond v ([] ∷ lines_of bs) (onto b (lines_of bs))) ≤ suc (length bs)) [ true ↦ omega arith | false ↦ omega arith ]
