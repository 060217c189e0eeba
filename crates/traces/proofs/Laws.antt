-- The law of every trace of calls on a book that was formatted on sound devices.
use Rattle.std.proofs.Common.{◌≡◌, ℕ, ◌*◌, ◌^◌, ◌<◌, ◌≤◌, true, List, [], ◌∷◌, ◌++◌, length, Some, None, Ok, Err, Option, Result, sym, refl, ap, ◌∙◌, subst, inl, inr, ⊎_elim, append_assoc, arith}
use mathlib.Core.Bool.{false≢true}
use Rattle.std.proofs.lemmas.List.{append-nil}
use Rattle.std.proofs.lemmas.Bool.Decides.{nat_tests}
use Rattle.blocks.specs.Media.{Medium, Sane}
use Rattle.messages.specs.Algebra.{Algebra}
use Rattle.messages.specs.declared.entry.Entry.{Entry}
use Rattle.nodes.specs.Roots.{Root}
use Rattle.plan.specs.Images.{Image, image}
use Rattle.bridge.specs.Work.{AllSound}
use Rattle.store_laws.specs.Laws.{Formatted}
use Rattle.store_laws.proofs.Openings.{format_law}
use Rattle.store_plan.specs.Contents.{Contents}
use Rattle.store_plan.specs.Openings.{format_refusal, format_writes, formatted}
use Rattle.store_plan.specs.declared.figures.Figures.{Figures}
use Rattle.plan.specs.declared.refusal.StoreRefusal.{StoreRefusal}
use Rattle.calls.specs.declared.answer.Answer.TheVariants.{Found as found_answer, Total as total_answer, Figures as figures_answer}
use Rattle.calls.specs.declared.answer.Found.{Found}
use Rattle.calls.specs.declared.answer.Sum.{Sum}
use Rattle.calls.specs.declared.call.Call.TheVariants.{Query, Total, Figures as figures_call}
use Rattle.calls.specs.declared.part.Part.{Part}
use Rattle.calls.specs.declared.part.Part.TheVariants.{Stock, Day}
use Rattle.calls.specs.declared.point.Point.{Point}
use Rattle.calls.specs.declared.point.Reading.{Reading}
use Rattle.calls.specs.declared.refusal.Refusal.{Refusal}
use Rattle.book_plan.specs.Books.{FormattedBook, unless_unfit, both_formatted, day_formatted, queried_book}
use Rattle.book_plan.specs.Changes.{Change}
use Rattle.book_plan.specs.Kept.{stock_messages, day_messages}
use Rattle.book_plan.specs.Laws.{QueryKept, TotalKept, TotalOutcome}
use Rattle.book_plan.specs.Sums.{SumOf}
use Rattle.book_plan.specs.Totals.{Totalled, totalled}
use Rattle.book_plan.proofs.Laws.{query_law}
use Rattle.book_plan.proofs.Plain.{stock_count, day_count}
use Rattle.book_plan.proofs.Totals.{total_law}
use Rattle.traces.specs.Law.{of, reading, counted, opening_of, closing_of, changes, Worn, Stands, Plain, CountedReads, Law}
use Rattle.traces.specs.Runs.{Formats, TraceLaw}
use Rattle.traces.specs.Steps.{Does, Made, Went, query_answer, sum_answer}
use Rattle.book_plan.specs.Readings.{stands, reading_of}
use Rattle.traces.specs.Views.{View, stock_reading, day_reading}
use Rattle.traces.specs.Views.View.{closed, opened}
use Rattle.traces.proofs.Books.{Q, D, Tally, tally, tally_more, Inv, keeps, Refuses, open_or_stopped, query_refused, total_refused, step_kept}
use Rattle.traces.proofs.Stores.{Resting, worn}

module _ (stock_start day_start : ℕ) where
  abbrev KeptSo : List Point → View → Type 0
  KeptSo ps v = Inv stock_start day_start (tally ps) v

  point_kept : (ps : List Point) (v : View) (p : Point) (w : View) → Made v p w → KeptSo ps v → KeptSo (ps ++ (p ∷ [])) w
  point_kept ps v p w made k =
      subst (λ t. Inv stock_start day_start t w) (sym (tally_more ps p)) (step_kept stock_start day_start (tally ps) v p.call p.answer w made.does k)

  -- ---- a trace split at a point: what the book was known by before it and after it
  record At (before : List Point) (p : Point) (after : List Point) (w : View) : Type 0 where
    from : View
    to : View
    kept : KeptSo before from
    made : Made from p to
    went : Went to after w

  at_point : (past before : List Point) (p : Point) (after : List Point) (v w : View) → Went v (before ++ (p ∷ after)) w → KeptSo past v → At (past ++ before) p after w
  at_point past [] p after v w (x, made, went) k = record {
    from = v;
    to = x;
    kept = subst (λ ps. KeptSo ps v) (sym (append-nil past)) k;
    made = made;
    went = went;
  }
  at_point past (q ∷ before) p after v w (x, made, went) k =
      subst (λ ps. At ps p after w) (append_assoc past (q ∷ []) before) (at_point (past ++ (q ∷ [])) before p after x w went (point_kept past v q x made k))

  found_at : (trace : List Point) (v w : View) → Went v trace w → KeptSo [] v → (before after : List Point) (p : Point) → trace ≡ before ++ (p ∷ after) → At before p after w
  found_at trace v w went k before after p e = at_point [] before p after v w (subst (λ ps. Went v ps w) e went) k

  -- ---- wear
  no_stand : (o : Option Root) → o ≡ None → stands o ≡ true → ⊥
  no_stand o e f = false≢true (sym (ap stands e) ∙ f)

  wear_at : (ps : List Point) (w : View) (p : Point) → KeptSo ps w → p.stock ≡ stock_reading w → p.day ≡ day_reading w → p.stock.writes < 2 ^ 64 → p.day.writes < 2 ^ 64 → Stands p → (part : Part)
      → Worn (of part stock_start day_start) (counted (opening_of part) ps) (counted (closing_of part) ps) (length (changes ps)) (reading part p)
  wear_at ps (closed m n) p k e f fits day_fits (up, day-up) part = absurd (false≢true (sym (ap (λ r. r.stands) e) ∙ up))
  wear_at ps (opened c a d b) p (inl s, u, v) e f fits day_fits (up, day-up) Stock =
      let small : (reading_of c).writes < 2 ^ 64 = subst (λ (r : Reading). r.writes < 2 ^ 64) e fits in
      subst (λ r. Worn stock_start (counted (opening_of Stock) ps) (counted (closing_of Stock) ps) (length (changes ps)) r) (sym e)
      (subst (λ n. Worn stock_start (counted (opening_of Stock) ps) (counted (closing_of Stock) ps) n (reading_of c)) (stock_count (changes ps))
      (worn Q stock_start (counted (opening_of Stock) ps) (counted (closing_of Stock) ps) (stock_messages (changes ps)) c a s small))
  wear_at ps (opened c a d b) p (inr s, u, v) e f fits day_fits (up, day-up) Stock = absurd (no_stand c.root s.no_root (sym (ap (λ r. r.stands) e) ∙ up))
  wear_at ps (opened c a d b) p (s, inl u, v) e f fits day_fits (up, day-up) Day =
      let small : (reading_of d).writes < 2 ^ 64 = subst (λ (r : Reading). r.writes < 2 ^ 64) f day_fits in
      subst (λ r. Worn day_start (counted (opening_of Day) ps) (counted (closing_of Day) ps) (length (changes ps)) r) (sym f)
      (subst (λ n. Worn day_start (counted (opening_of Day) ps) (counted (closing_of Day) ps) n (reading_of d)) (day_count (changes ps))
      (worn D day_start (counted (opening_of Day) ps) (counted (closing_of Day) ps) (day_messages (changes ps)) d b u small))
  wear_at ps (opened c a d b) p (s, inr u, v) e f fits day_fits (up, day-up) Day = absurd (no_stand d.root u.no_root (sym (ap (λ r. r.stands) f) ∙ day-up))

  -- ---- an answered query and an answered total: the book stands, and the call was made
  -- what is known of a query that was answered
  record QuerySeen (t : Tally) (k : ℕ) (f : Found) (from to : View) : Type 0 where
    c : Contents
    a : ℕ
    d : Contents
    b : ℕ
    from_is : from ≡ opened c a d b
    to_stock : stock_reading to ≡ reading_of (queried_book c d k).stock
    to_day : day_reading to ≡ reading_of (queried_book c d k).day
    kept : QueryKept c d t.accepted k (queried_book c d k)
    answer_is : (queried_book c d k).answer ≡ Ok f

  record TotalSeen (t : Tally) (low high : ℕ) (s : Sum) (from to : View) : Type 0 where
    c : Contents
    a : ℕ
    d : Contents
    b : ℕ
    r : Totalled
    from_is : from ≡ opened c a d b
    to_stock : stock_reading to ≡ reading_of r.stock
    to_day : day_reading to ≡ reading_of d
    kept : TotalKept c t.accepted low high r
    answer_is : r.answer ≡ Ok s

  ok_query : (r : Result Found Refusal) (f : Found) → found_answer f ≡ query_answer r → r ≡ Ok f
  ok_query (Ok g) f e = cc
  ok_query (Err y) f e = cc

  ok_sum : (r : Result Sum Refusal) (s : Sum) → total_answer s ≡ sum_answer r → r ≡ Ok s
  ok_sum (Ok g) s e = cc
  ok_sum (Err y) s e = cc

  not_err : {T : Type 0} (r : Result T Refusal) (x : T) (y : Refusal) → r ≡ Ok x → r ≡ Err y → ⊥
  not_err r x y e f = let z : ◌≡◌ {A = ℕ} 0 1 = cc in omega arith

  query_seen : (t : Tally) (k : ℕ) (f : Found) (v w : View) → Does v (Query k) (found_answer f) w → Inv stock_start day_start t v → QuerySeen t k f v w
  query_seen t k f (closed m n) w o i = let z : ◌≡◌ {A = ℕ} 0 1 = cc o.answer_is in absurd (omega arith)
  query_seen t k f (opened c a d b) (closed m n) o i = absurd o
  query_seen t k f (opened c a d b) (opened c' a' d' b') (fits, o) i =
      let answered = ok_query (queried_book c d k).answer f o.answer_is in
      ⊎_elim
      (λ both. record {
        c = c;
        a = a;
        d = d;
        b = b;
        from_is = refl;
        to_stock = ap reading_of o.stock_is;
        to_day = ap reading_of o.day_is;
        kept = query_law c d t.accepted (keeps stock_start day_start t c a d b both) k fits;
        answer_is = answered;
      })
      (λ (stops : Refuses stock_start day_start c d).
      absurd (not_err (queried_book c d k).answer f stops.0 answered (ap (λ r. r.answer) (query_refused c d k stops.0 stops.1))))
      (open_or_stopped stock_start day_start t c a d b i)

  total_found : (c d : Contents) (cs : List Change) (low high : ℕ) (table : List (Entry ℕ)) (r : Totalled) (s : Sum) → r.answer ≡ Ok s → (o : Option StoreRefusal) → TotalOutcome c cs low high table r o → TotalKept c cs low high r
  total_found c d cs low high table r s e None kept = kept
  total_found c d cs low high table r s e (Some y) left = absurd (not_err r.answer s _ e left.answer_is)

  total_seen : (t : Tally) (low high : ℕ) (s : Sum) (v w : View) → Does v (Total low high) (total_answer s) w → Inv stock_start day_start t v → TotalSeen t low high s v w
  total_seen t low high s (closed m n) w o i = let z : ◌≡◌ {A = ℕ} 0 1 = cc o.answer_is in absurd (omega arith)
  total_seen t low high s (opened c a d b) (closed m n) o i = absurd o
  total_seen t low high s (opened c a d b) (opened c' a' d' b') (fits, o) i =
      let called = totalled c d low high o.table in
      let answered = ok_sum called.answer s o.answer_is in
      ⊎_elim
      (λ both. record {
        c = c;
        a = a;
        d = d;
        b = b;
        r = called;
        from_is = refl;
        to_stock = ap reading_of o.stock_is;
        to_day = ap reading_of o.day_is;
        kept = total_found c d t.accepted low high o.table called s answered _ (total_law c d t.accepted (keeps stock_start day_start t c a d b both) low high fits o.table);
        answer_is = answered;
      })
      (λ (stops : Refuses stock_start day_start c d).
      absurd (not_err called.answer s stops.0 answered (ap (λ r. r.answer) (total_refused c d low high o.table stops.0 stops.1))))
      (open_or_stopped stock_start day_start t c a d b i)

  same_found : (r : Result Found Refusal) (f g : Found) → r ≡ Ok f → r ≡ Ok g → f ≡ g
  same_found r f g e h = cc

  same_sum : (r : Result Sum Refusal) (f g : Sum) → r ≡ Ok f → r ≡ Ok g → f ≡ g
  same_sum r f g e h = cc

  -- ---- answers
  figures_seen : (part : Part) (f : Figures) (v w : View) → Does v (figures_call part) (figures_answer f) w → (p : Point) → p.stock ≡ stock_reading w → p.day ≡ day_reading w
      → f ≡ (reading part p).figures
  figures_seen part f (closed m n) w o p g h = let z : ◌≡◌ {A = ℕ} 0 1 = cc o.answer_is in absurd (omega arith)
  figures_seen part f (opened c a d b) (closed m n) o p g h = absurd o
  figures_seen Stock f (opened c a d b) (opened c' a' d' b') o p g h =
      let is : f ≡ c'.figures = cc (o.answer_is, o.stock_is) in
      is ∙ sym (ap (λ r. r.figures) g)
  figures_seen Day f (opened c a d b) (opened c' a' d' b') o p g h =
      let is : f ≡ d'.figures = cc (o.answer_is, o.day_is) in
      is ∙ sym (ap (λ r. r.figures) h)

  plain_at : (before : List Point) (p : Point) (v w : View) → KeptSo before v → Made v p w → Plain (changes before) p
  plain_at before p v w k made = record {
    of_queries = λ sheet f call answer.
        let seen = query_seen (tally before) sheet f v w (subst (λ x. Does v x (found_answer f) w) call (subst (λ x. Does v p.call x w) answer made.does)) k in
        ap (λ g. g.holding) (same_found _ f _ seen.answer_is seen.kept.answer_is);
    of_totals = λ low high s call answer.
        let seen = total_seen (tally before) low high s v w (subst (λ x. Does v x (total_answer s) w) call (subst (λ x. Does v p.call x w) answer made.does)) k in
        subst (λ z. SumOf low high (changes before) z) (same_sum _ _ s seen.kept.answer_is seen.answer_is) seen.kept.says;
    of_figures = λ part f call answer.
        figures_seen part f v w (subst (λ x. Does v x (figures_answer f) w) call (subst (λ x. Does v p.call x w) answer made.does)) p made.stock_read made.day_read;
  }

  -- ---- reads
  reads_at : (before : List Point) (p q : Point) (v w : View) → KeptSo before v → p.stock ≡ stock_reading v → p.day ≡ day_reading v → Made v q w → CountedReads p q
  reads_at before p q v w k stock-was day-was made = record {
    of_queries = λ sheet f call answer.
        let seen = query_seen (tally before) sheet f v w (subst (λ x. Does v x (found_answer f) w) call (subst (λ x. Does v q.call x w) answer made.does)) k in
        let kept = seen.kept in
        let is = same_found _ f _ seen.answer_is kept.answer_is in
        let stock_is = made.stock_read ∙ seen.to_stock in
        let day_is = made.day_read ∙ seen.to_day in
        let stock_before = stock-was ∙ ap stock_reading seen.from_is in
        let day_before = day-was ∙ ap day_reading seen.from_is in
        let stock_high = ap (λ r. r.figures.height) stock_is ∙ ap (λ x. x.height) kept.keeps.stock.figures_are in
        let day_high = ap (λ r. r.figures.height) day_is ∙ ap (λ x. x.height) kept.keeps.day.figures_are in
        let stock_read = ap (λ g. g.stock_reads) is in
        let day_read = ap (λ g. g.day_reads) is in (
          omega (arith, kept.stock_at_most, stock_read, stock_high),
          omega (arith, kept.day_at_most, day_read, day_high),
          omega (arith, kept.stock_work.reads_rise, stock_read, ap (λ r. r.reads) stock_is, ap (λ r. r.reads) stock_before, made.stock_fits),
          omega (arith, kept.day_work.reads_rise, day_read, ap (λ r. r.reads) day_is, ap (λ r. r.reads) day_before, made.day_fits),
        );
    of_totals = λ low high s call answer.
        let seen = total_seen (tally before) low high s v w (subst (λ x. Does v x (total_answer s) w) call (subst (λ x. Does v q.call x w) answer made.does)) k in
        let kept = seen.kept in
        let is = same_sum _ s _ seen.answer_is kept.answer_is in
        let stock_is = made.stock_read ∙ seen.to_stock in
        let day_is = made.day_read ∙ seen.to_day in
        let stock_before = stock-was ∙ ap stock_reading seen.from_is in
        let day_before = day-was ∙ ap day_reading seen.from_is in
        let stock_high = ap (λ r. r.figures.height) stock_is ∙ ap (λ x. x.height) kept.holds.figures_are in
        let stock_read = ap (λ g. g.stock_reads) is in (
          subst (λ z. z.stock_reads ≡ z.pages * q.stock.figures.height) (sym is)
              (subst (λ n. kept.sum.stock_reads ≡ kept.sum.pages * n) (sym stock_high) kept.reads_are),
          omega (arith, kept.work.reads_rise, stock_read, ap (λ r. r.reads) stock_is, ap (λ r. r.reads) stock_before, made.stock_fits),
          ap (λ r. r.reads) day_is ∙ sym (ap (λ r. r.reads) day_before),
        );
  }

  -- ---- the law
  pub law : (trace : List Point) (v w : View) → Went v trace w → KeptSo [] v → Law stock_start day_start trace
  law trace v w went k = record {
    wear = λ before after p e up part.
        let at = found_at trace v w went k before after p e in
        wear_at (before ++ (p ∷ [])) at.to p (point_kept before at.from p at.to at.made at.kept)
        at.made.stock_read at.made.day_read at.made.stock_fits.1 at.made.day_fits.1 up part;
    answers = λ before after p e. let at = found_at trace v w went k before after p e in plain_at before p at.from at.to at.kept at.made;
    reads = λ before after p q e.
        let at = found_at trace v w went k before (q ∷ after) p e in
        let next = at.went in
        reads_at (before ++ (p ∷ [])) p q at.to next.0 (point_kept before at.from p at.to at.made at.kept) at.made.stock_read at.made.day_read next.1;
  }

-- ---- a book as it is formatted
record Fit (d : Image) (allowance : ℕ) : Type 0 where
  size : 4 ≤ d.size
  funded : 2 ≤ allowance

fit : (d : Image) (allowance : ℕ) → format_refusal d allowance ≡ None → Fit d allowance
fit d allowance e = record { size = grind (arith, nat_tests); funded = grind (arith, nat_tests) }

none_of : (o : Option StoreRefusal) (p : Option StoreRefusal) (d e : Image) (go : FormattedBook) (r : FormattedBook) → unless_unfit o p d e go ≡ r → r.answer ≡ Ok tt → (o ≡ None) × (p ≡ None)
none_of None None d e go r f g = (refl, refl)
none_of None (Some y) d e go r f g = let h = ap (λ (z : FormattedBook). z.answer) f in (refl, cc)
none_of (Some y) p d e go r f g = let h = ap (λ (z : FormattedBook). z.answer) f in (cc, cc)

-- a store that was just formatted rests with no messages, after two writes
resting : (K : Algebra) (m : Medium) (e : Image) → Formatted K (image m) (formatted K (image m) m.allowance) → e ≡ format_writes K (image m) → Resting K m.writes 0 0 [] e
resting K m e f is = subst (λ d. Resting K m.writes 0 0 [] d) (sym is) (record { rests = f.rests; writes = omega arith })

module _ (m n m' n' : Medium) (sane : Sane m) (day_sane : Sane n) (formats : Formats m n m' n') (sound : AllSound (image m)) (day_sound : AllSound (image n)) where
  fits : (format_refusal (image m) m.allowance ≡ None) × (format_refusal (image n) n.allowance ≡ None)
  fits = none_of _ _ _ _ _ _ formats.book_is refl

  stock_formatted : Formatted Q (image m) (formatted Q (image m) m.allowance)
  stock_formatted = let f = fit (image m) m.allowance fits.0 in format_law Q (image m) sound f.size sane.small m.allowance f.funded

  day_formatted_so : Formatted D (image n) (formatted D (image n) n.allowance)
  day_formatted_so = let f = fit (image n) n.allowance fits.1 in format_law D (image n) day_sound f.size day_sane.small n.allowance f.funded

  images : ◌≡◌ {A = FormattedBook} (record { answer = Ok tt; stock = image m'; day = image n' }) (record { answer = Ok tt; stock = format_writes Q (image m); day = format_writes D (image n) })
  images =
      sym formats.book_is
      ∙ ap (λ o. unless_unfit o (format_refusal (image n) n.allowance) (image m) (image n) both) fits.0
      ∙ ap (λ o. unless_unfit None o (image m) (image n) both) fits.1
      ∙ ap (λ t. both_formatted t (image n) (formatted D (image n) n.allowance)) stock_formatted.formatted_is
      ∙ ap (λ t. day_formatted (format_writes Q (image m)) t) day_formatted_so.formatted_is
    where
      both : FormattedBook
      both = both_formatted (formatted Q (image m) m.allowance) (image n) (formatted D (image n) n.allowance)

  pub begins : Inv m.writes n.writes (tally []) (closed m' n')
  begins = (
    resting Q m (image m') stock_formatted (ap (λ (r : FormattedBook). r.stock) images),
    resting D n (image n') day_formatted_so (ap (λ (r : FormattedBook). r.day) images),
    tt,
  )

pub trace_law : TraceLaw
trace_law m n m' n' sane day_sane formats trace m'' n'' went sound day_sound =
    law m.writes n.writes trace (closed m' n') (closed m'' n'') went (begins m n m' n' sane day_sane formats sound day_sound)
