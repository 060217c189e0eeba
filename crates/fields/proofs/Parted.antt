-- The fields of a line are its fields, and fields without tabs, joined by tabs, are given back.
use Rattle.std.proofs.Common.{◌≡◌, ℕ, suc, true, false, eqb, List, [], ◌∷◌, ◌++◌, ℤ, pos, negsuc, decimal, sym, refl, ap, ◌∙◌, ⊎_elim, arith}
use Rattle.std.specs.Str.{all_ascii_digits}
use Rattle.std.specs.Fmt.{signed_decimal}
use Rattle.std.proofs.lemmas.Bool.Decides.{nat_tests, eqb_tells}
use Rattle.fields.specs.Parts.{onto, fields_of, tabbed}
use Rattle.fields.specs.Laws.{Clean, AllClean, Parted, Short}
use Rattle.fields.proofs.Cut.{fields_first}
use Rattle.fields.proofs.Numerals.{all_digits}

onto_tabbed : (b : ℕ) (fs : List (List ℕ)) → tabbed (onto b fs) ≡ b ∷ tabbed fs
onto_tabbed b [] = refl
onto_tabbed b (f ∷ []) = refl
onto_tabbed b (f ∷ g ∷ fs) = refl

onto_untabbed : (b : ℕ) (fs : List (List ℕ)) → eqb b 9 ≡ false → AllClean 9 fs → AllClean 9 (onto b fs)
onto_untabbed b [] e h = ((e, tt), tt)
onto_untabbed b (f ∷ fs) e h = ((e, h.0), h.1)

after_tab : (bs : List ℕ) → tabbed ([] ∷ fields_of bs) ≡ 9 ∷ tabbed (fields_of bs)
after_tab bs = rw (fields_first bs) refl

pub fields_join : (bs : List ℕ) → tabbed (fields_of bs) ≡ bs
fields_join [] = refl
fields_join (b ∷ bs) =
    ⊎_elim
    (λ (t : (eqb b 9 ≡ true) × (b ≡ 9)). rw t.0 (after_tab bs ∙ ap (λ (l : List ℕ). 9 ∷ l) (fields_join bs) ∙ ap (λ (x : ℕ). x ∷ bs) (sym t.1)))
    (λ (t : (eqb b 9 ≡ false) × (b ≡ 9 → ⊥)). rw t.0 (onto_tabbed b (fields_of bs) ∙ ap (λ (l : List ℕ). b ∷ l) (fields_join bs)))
    (eqb_tells b 9)

fields_untabbed : (bs : List ℕ) → AllClean 9 (fields_of bs)
fields_untabbed [] = (tt, tt)
fields_untabbed (b ∷ bs) =
    let more = fields_untabbed bs in
    ⊎_elim
    (λ (t : (eqb b 9 ≡ true) × (b ≡ 9)). rw t.0 (tt, more))
    (λ (t : (eqb b 9 ≡ false) × (b ≡ 9 → ⊥)). rw t.0 (onto_untabbed b (fields_of bs) t.0 more))
    (eqb_tells b 9)

pub fields_parted : (line : List ℕ) → Parted line (fields_of line)
fields_parted line = record { whole = fields_join line; clean = fields_untabbed line }

last_field : (f : List ℕ) → Clean 9 f → fields_of f ≡ f ∷ []
last_field [] h = refl
last_field (b ∷ f) h = rw (h.0, last_field f h.1) refl

one_field : (f more : List ℕ) → Clean 9 f → fields_of (f ++ (9 ∷ more)) ≡ f ∷ fields_of more
one_field [] more h = refl
one_field (b ∷ f) more h = rw (h.0, one_field f more h.1) refl

pub fields_tabbed : (f : List ℕ) (fs : List (List ℕ)) → AllClean 9 (f ∷ fs) → fields_of (tabbed (f ∷ fs)) ≡ f ∷ fs
fields_tabbed f [] h = last_field f h.0
fields_tabbed f (g ∷ fs) h = one_field f (tabbed (g ∷ fs)) h.0 ∙ ap (λ (l : List (List ℕ)). f ∷ l) (fields_tabbed g fs h.1)

digits_untabbed : (ds : List ℕ) → all_ascii_digits ds ≡ true → Clean 9 ds
digits_untabbed [] e = tt
digits_untabbed (d ∷ ds) e = (grind (arith, nat_tests), digits_untabbed ds (grind (arith, nat_tests)))

pub signed_untabbed : (z : ℤ) → Short z → Clean 9 (signed_decimal z)
signed_untabbed (pos n) h = digits_untabbed (decimal n) (all_digits n h)
signed_untabbed (negsuc n) h = (refl, digits_untabbed (decimal (suc n)) (all_digits (suc n) h))
