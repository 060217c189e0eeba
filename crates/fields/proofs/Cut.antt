-- The first line and the first field, and what is left after it.
use Rattle.std.specs.List.{position}
use Rattle.std.specs.Option.{unwrap_or}
use Rattle.std.proofs.lemmas.List.Recursion.{is_position_or_len}
use Rattle.std.proofs.Common.{◌≡◌, Option, ℕ, suc, ◌+◌, ◌-◌, ◌<◌, ◌≤◌, true, false, cond, eqb, ltb, leb, List, [], ◌∷◌, length, take, drop, sym, refl, ap, ◌∙◌, ⊎_elim, add_assoc, arith, length-drop, le-ltb, lt-ltb, le-leb}
use borrow.Author.Tests.{lt-leb}
use Rattle.std.proofs.lemmas.Bool.{cases_lt}
use Rattle.std.proofs.lemmas.List.{drop-drop, take_all}
use Rattle.std.proofs.lemmas.Bool.Decides.{nat_tests}
use Rattle.fields.specs.Parts.{before, onto, lines_of, fields_of, fields_from}

before_step : (m b : ℕ) (bs : List ℕ) → length (before m (b ∷ bs)) ≡ cond (eqb b m) 0 (1 + length (before m bs))
before_step m b bs = elim (eqb b m) as (λ v. length (cond v [] (b ∷ before m bs)) ≡ cond v 0 (1 + length (before m bs))) [ true ↦ refl | false ↦ omega arith ]

before_short : (m : ℕ) (bs : List ℕ) → length (before m bs) ≤ length bs
before_short m [] = omega arith
before_short m (b ∷ bs) = let more = before_short m bs in elim (eqb b m) as (λ v. length (cond v [] (b ∷ before m bs)) ≤ suc (length bs)) [ true ↦ omega arith | false ↦ omega arith ]

pub take_before : (m : ℕ) (bs : List ℕ) → take (length (before m bs)) bs ≡ before m bs
take_before m [] = refl
take_before m (b ∷ bs) = elim (eqb b m) as (λ v. take (length (cond v [] (b ∷ before m bs))) (b ∷ bs) ≡ cond v [] (b ∷ before m bs)) [ true ↦ refl | false ↦ ap (λ (l : List ℕ). b ∷ l) (take_before m bs) ]

-- all bytes up to the place of the first m, or up to the end
pub before_at : (m : ℕ) (bs : List ℕ) (r : Option ℕ) → r ≡ position (λ b. eqb b m) bs → take (unwrap_or r (length bs)) bs ≡ before m bs
before_at m bs r e =
    let long = is_position_or_len (λ (l : List ℕ). length (before m l)) (λ b. eqb b m) refl (before_step m) bs in
    let least : length (before m bs) ≤ length bs = before_short m bs in
    let end : unwrap_or (position (λ b. eqb b m) bs) (length bs) ≡ length (before m bs) = grind (arith, nat_tests, long, least) in
    rw (e, end) (take_before m bs)

from_cons : (b : ℕ) (bs : List ℕ) (k : ℕ) → fields_from (b ∷ bs) (suc k) ≡ fields_from bs k
from_cons b bs k = grind (arith, nat_tests)

pub from_start : (bs : List ℕ) → fields_from bs 0 ≡ fields_of bs
from_start bs = rw (le-leb 0 (length bs) (omega arith)) refl

pub fields_first : (bs : List ℕ) → fields_of bs ≡ before 9 bs ∷ fields_from bs (suc (length (before 9 bs)))
fields_first [] = refl
fields_first (b ∷ bs) =
    let step : onto b (fields_of bs) ≡ (b ∷ before 9 bs) ∷ fields_from bs (suc (length (before 9 bs))) = ap (onto b) (fields_first bs) in
    elim (eqb b 9) as (λ v. cond v ([] ∷ fields_of bs) (onto b (fields_of bs)) ≡ cond v [] (b ∷ before 9 bs) ∷ fields_from (b ∷ bs) (suc (length (cond v [] (b ∷ before 9 bs))))) [
      | true ↦ ap (λ (l : List (List ℕ)). [] ∷ l) (sym (from_start bs) ∙ sym (from_cons b bs 0))
      | false ↦ step ∙ ap (λ (l : List (List ℕ)). (b ∷ before 9 bs) ∷ l) (sym (from_cons b bs (suc (length (before 9 bs)))))
    ]

-- the fields from a place on: the first, and those from behind its tab on
pub fields_at : (line : List ℕ) (p e : ℕ) → p ≤ length line → e ≡ p + length (before 9 (drop p line)) → fields_from line p ≡ before 9 (drop p line) ∷ fields_from line (e + 1)
fields_at line p e h is =
    let same : leb (suc (length (before 9 (drop p line)))) (length (drop p line)) ≡ leb (e + 1) (length line) = rw (length-drop p line) (grind (arith, nat_tests)) in
    let on : drop (suc (length (before 9 (drop p line)))) (drop p line) ≡ drop (e + 1) line = drop-drop (suc (length (before 9 (drop p line)))) p line ∙ ap (λ (n : ℕ). drop n line) (omega arith) in
    let far : fields_from (drop p line) (suc (length (before 9 (drop p line)))) ≡ fields_from line (e + 1) = rw (same, on) refl in
    rw (le-leb p (length line) h) (fields_first (drop p line) ∙ ap (λ (l : List (List ℕ)). before 9 (drop p line) ∷ l) far)

pub fields_past : (line : List ℕ) (p : ℕ) → length line < p → fields_from line p ≡ []
fields_past line p h = rw (lt-leb p (length line) h) refl

pub ended_is : (line : List ℕ) (p : ℕ) → (ltb (length line) p ≡ true → fields_from line p ≡ []) × (fields_from line p ≡ [] → ltb (length line) p ≡ true)
ended_is line p =
    ⊎_elim (λ (h : length line < p). (λ _. fields_past line p h, λ _. lt-ltb (length line) p h))
    (λ (h : p ≤ length line).
    let some = fields_at line p (p + length (before 9 (drop p line))) h refl in
    let no : ltb (length line) p ≡ false = le-ltb (length line) p h in
    (λ e. cc, λ e. cc))
    (cases_lt (length line) p)

-- the first field, and the fields from behind it on
pub first_field : (line : List ℕ) (p : ℕ) (text : List ℕ) → p ≤ length line → text ≡ before 9 (take (length line - p) (drop p line)) → (fields_from line p ≡ text ∷ fields_from line (p + (length text + 1))) × (text ≡ take (length text) (drop p line))
first_field line p text h is =
    let all : take (length line - p) (drop p line) ≡ drop p line = take_all (length line - p) (drop p line) (rw (length-drop p line) (omega arith)) in
    let same : text ≡ before 9 (drop p line) = rw all at is in
    let at = fields_at line p (p + length text) h (ap (λ (l : List ℕ). p + length l) same) in
    let part : text ≡ take (length text) (drop p line) = rw same (sym (take_before 9 (drop p line))) in
    (rw (sym same, add_assoc p (length text) 1) at at, part)

onto_first : (b : ℕ) (bs : List ℕ) → (0 < length bs → lines_of bs ≡ before 10 bs ∷ lines_of (drop (suc (length (before 10 bs))) bs)) → onto b (lines_of bs) ≡ (b ∷ before 10 bs) ∷ lines_of (drop (suc (length (before 10 bs))) bs)
onto_first b [] = λ more. refl
onto_first b (c ∷ cs) = λ more. ap (onto b) (more (omega arith))

pub lines_first : (bs : List ℕ) → 0 < length bs → lines_of bs ≡ before 10 bs ∷ lines_of (drop (suc (length (before 10 bs))) bs)
lines_first [] = λ h. absurd (omega arith)
lines_first (b ∷ bs) = λ h.
    elim (eqb b 10) as (λ v. cond v ([] ∷ lines_of bs) (onto b (lines_of bs)) ≡ cond v [] (b ∷ before 10 bs) ∷ lines_of (drop (length (cond v [] (b ∷ before 10 bs))) bs))
    [ true ↦ refl | false ↦ onto_first b bs (lines_first bs) ]

-- the lines from a place on: the first, and those from behind its end on
pub lines_at : (input : List ℕ) (p e : ℕ) → p < length input → e ≡ p + length (before 10 (drop p input)) → lines_of (drop p input) ≡ before 10 (drop p input) ∷ lines_of (drop (e + 1) input)
lines_at input p e h is =
    let some : 0 < length (drop p input) = rw (length-drop p input) (omega arith) in
    let on : drop (suc (length (before 10 (drop p input)))) (drop p input) ≡ drop (e + 1) input = drop-drop (suc (length (before 10 (drop p input)))) p input ∙ ap (λ (n : ℕ). drop n input) (omega arith) in
    lines_first (drop p input) some ∙ ap (λ (l : List ℕ). before 10 (drop p input) ∷ lines_of l) on

-- the first line, and the lines from behind it on
pub first_line : (input : List ℕ) (p : ℕ) (line : List ℕ) → p < length input → line ≡ before 10 (take (length input - p) (drop p input)) → lines_of (drop p input) ≡ line ∷ lines_of (drop (p + (length line + 1)) input)
first_line input p line h is =
    let all : take (length input - p) (drop p input) ≡ drop p input = take_all (length input - p) (drop p input) (rw (length-drop p input) (omega arith)) in
    let same : line ≡ before 10 (drop p input) = rw all at is in
    let at = lines_at input p (p + length line) h (ap (λ (l : List ℕ). p + length l) same) in
    rw (sym same, add_assoc p (length line) 1) at at
