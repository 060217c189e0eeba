-- One turn of a query's way down.
use Rattle.std.proofs.Common.{◌≡◌, ℕ, zero, suc, ◌+◌, ◌-◌, ◌<◌, Option, sym, ap, ◌∙◌, arith}
use Rattle.messages.specs.Lists.{find}
use Rattle.tree.specs.Nodes.{Node}
use Rattle.plan.specs.declared.verdict.Verdict.{Verdict}
use Rattle.plan.specs.declared.verdict.Verdict.TheVariants.{Settled, Down}
use Rattle.plan.specs.Codes.{Code}
use Rattle.plan.specs.Images.{Image, Try, bind}
use Rattle.plan.specs.Images.Try.{done, stop}
use Rattle.plan.specs.Queries.{Answered, seek, by_verdict, judged, place_among}
use Rattle.plan.specs.Steps.{Fetched, fetch_child}
use Rattle.plan.specs.Reports.{Report}

module _ {F : Type 0} (C : Code F) (d : Image) (next : ℕ) (x : Node) (k : ℕ) (met : Option ℕ) (n : ℕ) where
  -- the rest of the way, from the child that was read
  abbrev further : ℕ → Option ℕ → Fetched → Try Answered
  further l deltas g = seek C l g.image next g.child k deltas (n + 1)

  abbrev down : ℕ → Option ℕ → Try Answered
  down l deltas = bind (fetch_child C d next x (place_among x.frame.pivots k)) (further l deltas)

  abbrev told : Verdict
  told = judged C.algebra (find k x.messages) met

  -- above a leaf a query goes by the node's verdict
  above : (l : ℕ) → 0 < l → seek C l d next x k met n ≡ by_verdict told d n (down (l - 1))
  above zero h = absurd (omega arith)
  above (suc l) h = let e : l ≡ suc l - 1 = omega arith in ap (λ m. by_verdict told d n (down m)) e

  pub settles : (l : ℕ) (y : Try Answered) (v : Option ℕ) → seek C l d next x k met n ≡ y → 0 < l → Settled v ≡ told → done (record { image = d; value = v; reads = n }) ≡ y
  settles l y v inv h e = ap (λ t. by_verdict t d n (down (l - 1))) e ∙ sym (above l h) ∙ inv

  pub stops : (l : ℕ) (y : Try Answered) (o : Option ℕ) (f : Image) (z : Report) → seek C l d next x k met n ≡ y → 0 < l → Down o ≡ told
      → stop f z ≡ fetch_child C d next x (place_among x.frame.pivots k) → stop f z ≡ y
  stops l y o f z inv h e s = ap (λ t. bind t (further (l - 1) o)) s ∙ ap (λ t. by_verdict t d n (down (l - 1))) e ∙ sym (above l h) ∙ inv

  pub goes : (l m : ℕ) (y : Try Answered) (o : Option ℕ) (g : Fetched) → seek C l d next x k met n ≡ y → m + 1 ≡ l → Down o ≡ told
      → done g ≡ fetch_child C d next x (place_among x.frame.pivots k) → seek C m g.image next g.child k o (n + 1) ≡ y
  goes l m y o g inv less e s =
      let is : m ≡ l - 1 = omega arith in
      ap (λ v. further v o g) is ∙ ap (λ t. bind t (further (l - 1) o)) s ∙ ap (λ t. by_verdict t d n (down (l - 1))) e ∙ sym (above l (omega arith)) ∙ inv
