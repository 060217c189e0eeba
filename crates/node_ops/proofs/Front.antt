-- The pivots at the front that are at or below a key.
use Rattle.std.proofs.Common.{◌≡◌, ℕ, suc, ◌<◌, ◌≤◌, true, false, ltb, leb, List, [], ◌∷◌, length, take_while, nat_le, refl, ap, ◌∙◌, ⊎_elim}
use Rattle.std.proofs.lemmas.Bool.{cases_lt, lt-ltb, le-ltb, le-leb, lt-leb}
use Rattle.std.proofs.lemmas.List.Sums.{take_while-cons}
use Rattle.plan.specs.Queries.{place_among}

pub at_or_below : (k : ℕ) (ps : List ℕ) → length (take_while (λ p. nat_le p k) ps) ≡ place_among ps k
at_or_below k [] = refl
at_or_below k (p ∷ ps) =
    ap length (take_while-cons (λ q. nat_le q k) p ps)
    ∙ ⊎_elim
    (λ (above : k < p). let ends : leb p k ≡ false = lt-leb p k above in let here : ltb k p ≡ true = lt-ltb k p above in rw (ends, here) refl)
    (λ (below : p ≤ k). let on : leb p k ≡ true = le-leb p k below in let past : ltb k p ≡ false = le-ltb k p below in rw (on, past) (ap suc (at_or_below k ps)))
    (cases_lt k p)
