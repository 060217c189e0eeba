-- A turn of the way down, and its ends.
use Rattle.std.proofs.Common.{◌≡◌, ℕ, zero, suc, ◌+◌, ◌-◌, ◌%◌, ◌^◌, true, false, ltb, length, is_ok, Ok, Err, Result, sym, refl, ap, ◌∙◌, arith}
use Rattle.std.proofs.lemmas.Bool.Decides.{nat_tests}
use Rattle.tree.specs.Nodes.{Node}
use Rattle.plan.specs.Codes.{Code}
use Rattle.plan.specs.Images.{Image, Try, bind, save}
use Rattle.plan.specs.Images.Try.{done, stop}
use Rattle.plan.specs.Steps.{Step, Sunk, step, sink, finish, step_due}
use Rattle.plan.specs.Reports.{Report}
use Rattle.steps.specs.Causes.{tried}
use Rattle.plan.specs.declared.cause.Cause.{Cause}

module _ {F : Type 0} (C : Code F) (d : Image) (next w at : ℕ) (x : Node) where
  -- the rest of the way, once the step is made, and once the node is written too
  abbrev onward : ℕ → Step → Image → Try Sunk
  onward l s e = sink C l e s.next ((s.writes + 1) % 2 ^ 64) s.block s.child

  abbrev written : ℕ → Step → Try Sunk
  written l s = bind (save s.image at (C.encode s.parent)) (onward l s)

  abbrev ended : Image → Try Sunk
  ended e = done (record { image = e; next = next; writes = (w + 1) % 2 ^ 64 })

  due : (l : ℕ) → x.frame.level ≡ l → true ≡ step_due x → sink C l d next w at x ≡ bind (step C d next w x) (written (l - 1))
  due zero e h = absurd (grind (arith, nat_tests))
  due (suc l) e h =
      let many : ltb 256 (length x.messages) ≡ true = grind (arith, nat_tests) in
      let less : suc l - 1 ≡ l = omega arith in
      rw (many, less)

  not_due : (l : ℕ) → x.frame.level ≡ l → false ≡ step_due x → sink C l d next w at x ≡ finish C d next w at x
  not_due zero e h = refl
  not_due (suc l) e h = let few : ltb 256 (length x.messages) ≡ false = grind (arith, nat_tests) in rw few

  pub step_stops : (y : Try Sunk) (f : Image) (z : Report) → sink C x.frame.level d next w at x ≡ y → true ≡ step_due x → stop f z ≡ step C d next w x → stop f z ≡ y
  step_stops y f z inv h e = ap (λ t. bind t (written (x.frame.level - 1))) e ∙ sym (due x.frame.level refl h) ∙ inv

  pub save_stops : (y : Try Sunk) (s : Step) (f : Image) (z : Report) → sink C x.frame.level d next w at x ≡ y → true ≡ step_due x → done s ≡ step C d next w x
      → stop f z ≡ save s.image at (C.encode s.parent) → stop f z ≡ y
  save_stops y s f z inv h e e' =
      ap (λ t. bind t (onward (x.frame.level - 1) s)) e' ∙ ap (λ t. bind t (written (x.frame.level - 1))) e ∙ sym (due x.frame.level refl h) ∙ inv

  pub goes : (y : Try Sunk) (s : Step) (f : Image) (l : ℕ) → sink C x.frame.level d next w at x ≡ y → true ≡ step_due x → done s ≡ step C d next w x
      → done f ≡ save s.image at (C.encode s.parent) → l + 1 ≡ x.frame.level → sink C l f s.next ((s.writes + 1) % 2 ^ 64) s.block s.child ≡ y
  goes y s f l inv h e e' less =
      let k : l ≡ x.frame.level - 1 = omega arith in
      ap (λ n. onward n s f) k
      ∙ ap (λ t. bind t (onward (x.frame.level - 1) s)) e' ∙ ap (λ t. bind t (written (x.frame.level - 1))) e ∙ sym (due x.frame.level refl h) ∙ inv

  -- the last node is written, or not
  pub ends : {F : Type 0} (number : F → ℕ) (r : Result (Unit {0}) (Cause F)) (y : Try Sunk) (f : Image) (n v : ℕ) → sink C x.frame.level d next w at x ≡ y → false ≡ step_due x
      → tried number r f (λ _. f) ≡ save d at (C.encode x) → n ≡ next → (is_ok r ≡ true → v ≡ (w + 1) % 2 ^ 64)
      → tried number r f (λ _. record { image = f; next = n; writes = v }) ≡ y
  ends number (Ok u) y f n v inv h e same count =
      (λ i. done (record { image = f; next = same i; writes = count refl i })) ∙ ap (λ t. bind t ended) e ∙ sym (not_due x.frame.level refl h) ∙ inv
  ends number (Err c) y f n v inv h e same count = ap (λ t. bind t ended) e ∙ sym (not_due x.frame.level refl h) ∙ inv
