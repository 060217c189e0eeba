-- One level of a page's way down, and its end.
use Rattle.std.proofs.Common.{◌≡◌, ℕ, zero, suc, ◌+◌, ◌-◌, ◌<◌, true, false, cond, ltb, List, [], ◌∷◌, get_or, sym, refl, ap, ◌∙◌, arith}
use Rattle.std.proofs.lemmas.Bool.{ltb-true}
use Rattle.messages.specs.declared.entry.Entry.{Entry}
use Rattle.messages.specs.declared.message.Message.{Message}
use Rattle.tree.specs.Nodes.{Node}
use Rattle.plan.specs.Codes.{Code}
use Rattle.plan.specs.Images.{Image, Try, bind}
use Rattle.plan.specs.Images.Try.{done, stop}
use Rattle.plan.specs.Pages.{Paged, gathered, leaf_paged, page_end, page_from}
use Rattle.plan.specs.Queries.{place_among}
use Rattle.plan.specs.Steps.{Fetched, child_high, fetch_child}
use Rattle.plan.specs.Reports.{Report}

-- the child that takes a key ends past it
onward : (ps : List ℕ) (k high : ℕ) → k < high → k < get_or ps (place_among ps k) high
onward [] k high h = h
onward (p ∷ ps) k high h =
    elim (ltb k p) as (λ b. ltb k p ≡ b → k < get_or (p ∷ ps) (cond b 0 (suc (place_among ps k))) high)
    [ true ↦ λ e. ltb-true k p e | false ↦ λ e. onward ps k high h ] refl

-- the span of a child that takes a key ends past it, if that of its parent does
pub past : (x : Node) (k j high : ℕ) → j ≡ place_among x.frame.pivots k → high ≡ child_high x j → k < x.frame.high → k < high
past x k j high at ends within =
    let here : k < child_high x j = rw at (onward x.frame.pivots k x.frame.high within) in omega (arith, ends)

module _ {F : Type 0} (C : Code F) (d : Image) (next : ℕ) (x : Node) (first last : ℕ) (newer : List (Entry Message)) (n : ℕ) where
  -- the rest of the way, from the child that was read
  abbrev further : ℕ → Fetched → Try Paged
  further l g = page_from C l g.image next g.child first last (gathered C.algebra first (page_end last g.child) x newer) (n + 1)

  above : (l : ℕ) → 0 < l → page_from C l d next x first last newer n ≡ bind (fetch_child C d next x (place_among x.frame.pivots first)) (further (l - 1))
  above zero h = absurd (omega arith)
  above (suc l) h = let e : l ≡ suc l - 1 = omega arith in ap (λ m. bind (fetch_child C d next x (place_among x.frame.pivots first)) (further m)) e

  pub stops : (l : ℕ) (y : Try Paged) (f : Image) (z : Report) → page_from C l d next x first last newer n ≡ y → 0 < l
      → stop f z ≡ fetch_child C d next x (place_among x.frame.pivots first) → stop f z ≡ y
  stops l y f z inv h s = ap (λ t. bind t (further (l - 1))) s ∙ sym (above l h) ∙ inv

  pub goes : (l m : ℕ) (y : Try Paged) (g : Fetched) → page_from C l d next x first last newer n ≡ y → m + 1 ≡ l
      → done g ≡ fetch_child C d next x (place_among x.frame.pivots first)
      → page_from C m g.image next g.child first last (gathered C.algebra first (page_end last g.child) x newer) (n + 1) ≡ y
  goes l m y g inv less s =
      let is : m ≡ l - 1 = omega arith in
      ap (λ v. further v g) is ∙ ap (λ v. bind v (further (l - 1))) s ∙ sym (above l (omega arith)) ∙ inv

  pub ends : (l : ℕ) (y : Try Paged) (p : Paged) → page_from C l d next x first last newer n ≡ y → l ≡ 0 → p ≡ leaf_paged C.algebra d x first last newer n → done p ≡ y
  ends l y p inv z e = ap done e ∙ ap (λ m. page_from C m d next x first last newer n) (sym z) ∙ inv
