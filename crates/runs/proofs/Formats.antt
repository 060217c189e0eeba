-- Formatting that is refused leaves both devices; formatting that is not begins a trace.
use Rattle.std.proofs.Common.{◌≡◌, ℕ, ◌⊎◌, List, [], ◌∷◌, ◌++◌, Some, None, Ok, Err, Option, sym, refl, ap, ◌∙◌, subst, inl, inr, arith}
use Rattle.blocks.specs.Media.{Medium, Sane}
use Rattle.messages.specs.LatestDay.{latest_day_algebra}
use Rattle.messages.specs.Quantity.{quantity_algebra}
use Rattle.plan.specs.Images.{Image, image}
use Rattle.plan.specs.Images.Try.{done}
use Rattle.store_plan.specs.Openings.{format_refusal, format_writes, formatted, unless}
use Rattle.plan.specs.declared.refusal.StoreRefusal.{StoreRefusal}
use Rattle.calls.specs.declared.call.Call.{Call}
use Rattle.calls.specs.declared.call.Call.TheVariants.{Close}
use Rattle.calls.specs.declared.point.Point.{Point}
use Rattle.calls.specs.declared.refusal.Refusal.{Refusal}
use Rattle.book_plan.specs.Books.{FormattedBook, both_formatted, unless_unfit, formatted_book}
use Rattle.traces.specs.Runs.{Formats, called, Traced}
use Rattle.traces.specs.Steps.{Went}
use Rattle.traces.specs.Views.{View}
use Rattle.traces.specs.Views.View.{closed}
use Rattle.traces.proofs.Laws.{trace_law}
use Rattle.runs.specs.Ends.{Ended, Unfit}
use Rattle.runs.proofs.Went.{went_more, called_more}

module _ (d e : Image) (a b : ℕ) (y : Refusal) (d' e' : Image) where
  abbrev go : FormattedBook
  go = both_formatted (formatted quantity_algebra d a) e (formatted latest_day_algebra e b)

  abbrev refused : FormattedBook
  refused = record { answer = Err y; stock = d'; day = e' }

  by_refusals : (o p : Option StoreRefusal) → format_refusal d a ≡ o → format_refusal e b ≡ p → unless_unfit o p d e go ≡ refused → (d' ≡ d) × (e' ≡ e)
  by_refusals (Some r) p f g h = (sym (ap (λ (z : FormattedBook). z.stock) h), sym (ap (λ (z : FormattedBook). z.day) h))
  by_refusals None (Some r) f g h = (sym (ap (λ (z : FormattedBook). z.stock) h), sym (ap (λ (z : FormattedBook). z.day) h))
  by_refusals None None f g h =
      let stock_done : formatted quantity_algebra d a ≡ done (format_writes quantity_algebra d) = ap (λ o. unless o d (done (format_writes quantity_algebra d))) f in
      let day_done : formatted latest_day_algebra e b ≡ done (format_writes latest_day_algebra e) = ap (λ o. unless o e (done (format_writes latest_day_algebra e))) g in
      let both : go ≡ record { answer = Ok tt; stock = format_writes quantity_algebra d; day = format_writes latest_day_algebra e } =
      ap (λ t. both_formatted t e (formatted latest_day_algebra e b)) stock_done ∙ ap (λ t. both_formatted (done (format_writes quantity_algebra d)) e t) day_done in
      let fine = sym (ap (λ (z : FormattedBook). z.answer) both) ∙ ap (λ (z : FormattedBook). z.answer) h in
      let z : ◌≡◌ {A = ℕ} 0 1 = cc fine in
      absurd (omega arith)

  refused_kept : formatted_book d e a b ≡ refused → (d' ≡ d) × (e' ≡ e)
  refused_kept h = by_refusals (format_refusal d a) (format_refusal e b) refl refl h

pub unfit : (m n : Medium) (y : Refusal) (m' n' : Medium) → record { answer = Err y; stock = image m'; day = image n' } ≡ formatted_book (image m) (image n) m.allowance n.allowance → Unfit m n y m' n'
unfit m n y m' n' h =
    let kept = refused_kept (image m) (image n) m.allowance n.allowance y (image m') (image n') (sym h) in
    record { book_is = sym h; stock_kept = kept.0; day_kept = kept.1 }

-- a run: formatted, played, and closed
module _ (m n m' n' : Medium) (sane : Sane m) (day_sane : Sane n) (formats : Formats m n m' n') (calls : List Call) where
  whole : (trace : List Point) (m'' n'' : Medium) → (called trace ≡ calls) ⊎ (called trace ≡ calls ++ (Close ∷ [])) → Went (closed m' n') trace (closed m'' n'') → Traced m n calls trace m'' n''
  whole trace m'' n'' made went = record {
    calls_made = made;
    m' = m';
    n' = n';
    formats = formats;
    did = went;
    law = trace_law m n m' n' sane day_sane formats trace m'' n'' went;
  }

  pub traced : (ps qs : List Point) (v : View) (m'' n'' : Medium) → called ps ≡ calls → Went (closed m' n') ps v → Ended v ps qs (closed m'' n'') → Traced m n calls qs m'' n''
  traced ps qs v m'' n'' made went (inl (same, none)) =
      subst (λ xs. Traced m n calls xs m'' n'') (sym none) (whole ps m'' n'' (inl made) (subst (λ w. Went (closed m' n') ps w) same went))
  traced ps qs v m'' n'' made went (inr by) =
      let last = called_more ps by.point ∙ ap (λ cs. cs ++ (by.point.call ∷ [])) made ∙ ap (λ k. calls ++ (k ∷ [])) by.call_is in
      subst (λ xs. Traced m n calls xs m'' n'') (sym by.added) (whole (ps ++ (by.point ∷ [])) m'' n'' (inr last) (went_more (closed m' n') v (closed m'' n'') ps by.point went by.made))

-- the same of devices by what they mean, passed on from call to call: as handed in, as the book had them, as it has them then, and as handed back
module _ {A B : Type 0} (f : A → Medium) (g : B → Medium) (stock stock₁ stock₂ stock₃ : A) (day day₁ day₂ day₃ : B) (e : stock₁ ≡ stock) (e' : day₁ ≡ day) (h : stock₃ ≡ stock₂) (h' : day₃ ≡ day₂) where
  pub unfit_at : (y : Refusal) → record { answer = Err y; stock = image (f stock₂); day = image (g day₂) } ≡ formatted_book (image (f stock₁)) (image (g day₁)) (f stock₁).allowance (g day₁).allowance
      → Unfit (f stock) (g day) y (f stock₃) (g day₃)
  unfit_at y is =
      subst (λ x. Unfit (f x) (g day) y (f stock₃) (g day₃)) e
      (subst (λ x. Unfit (f stock₁) (g x) y (f stock₃) (g day₃)) e'
      (subst (λ x. Unfit (f stock₁) (g day₁) y (f x) (g day₃)) (sym h)
      (subst (λ x. Unfit (f stock₁) (g day₁) y (f stock₂) (g x)) (sym h') (unfit (f stock₁) (g day₁) y (f stock₂) (g day₂) is))))

  pub traced_at : (calls : List Call) (trace : List Point) → Traced (f stock₁) (g day₁) calls trace (f stock₂) (g day₂) → Traced (f stock) (g day) calls trace (f stock₃) (g day₃)
  traced_at calls trace t =
      subst (λ x. Traced (f x) (g day) calls trace (f stock₃) (g day₃)) e
      (subst (λ x. Traced (f stock₁) (g x) calls trace (f stock₃) (g day₃)) e'
      (subst (λ x. Traced (f stock₁) (g day₁) calls trace (f x) (g day₃)) (sym h)
      (subst (λ x. Traced (f stock₁) (g day₁) calls trace (f stock₂) (g x)) (sym h') t)))
