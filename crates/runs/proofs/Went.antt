-- A trace that is longer by one point.
use Rattle.std.proofs.Common.{◌≡◌, List, [], ◌∷◌, ◌++◌, sym, refl, ap, subst}
use Rattle.calls.specs.declared.point.Point.{Point}
use Rattle.traces.specs.Runs.{called}
use Rattle.traces.specs.Steps.{Made, Went}
use Rattle.traces.specs.Views.{View}

pub went_more : (v x w : View) (ps : List Point) (p : Point) → Went v ps x → Made x p w → Went v (ps ++ (p ∷ [])) w
went_more v x w [] p e made = (w, subst (λ y. Made y p w) (sym e) made, refl)
went_more v x w (q ∷ ps) p (y, first, rest) made = (y, first, went_more y x w ps p rest made)

pub called_more : (ps : List Point) (p : Point) → called (ps ++ (p ∷ [])) ≡ called ps ++ (p.call ∷ [])
called_more [] p = refl
called_more (q ∷ ps) p = ap (λ cs. q.call ∷ cs) (called_more ps p)

-- the same where the point, the view and the longer trace are known by equations
pub went_on : (v x w w' : View) (ps qs : List Point) (p p' : Point) → Went v ps x → Made x p w → p' ≡ p → w' ≡ w → qs ≡ ps ++ (p' ∷ []) → Went v qs w'
went_on v x w w' ps qs p p' went made e f h =
    subst (λ rs. Went v rs w') (sym h)
    (subst (λ y. Went v (ps ++ (p' ∷ [])) y) (sym f)
    (subst (λ q. Went v (ps ++ (q ∷ [])) w) (sym e) (went_more v x w ps p went made)))
