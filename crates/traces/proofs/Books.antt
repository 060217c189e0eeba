-- What a book keeps from call to call.
use Rattle.std.proofs.Common.{◌≡◌, ℕ, suc, ◌+◌, ◌*◌, ◌^◌, ◌<◌, ◌≤◌, ◌⊎◌, List, [], ◌∷◌, ◌++◌, Some, None, Err, Option, sym, refl, ap, ◌∙◌, subst, inl, inr, ⊎_elim, append_assoc, arith}
use Rattle.std.proofs.lemmas.List.{append-nil}
use Rattle.std.proofs.lemmas.Bool.Decides.{nat_tests}
use Rattle.blocks.specs.Media.{Medium}
use Rattle.messages.specs.Algebra.{Algebra}
use Rattle.messages.specs.LatestDay.{latest_day_algebra}
use Rattle.messages.specs.Quantity.{quantity_algebra}
use Rattle.messages.specs.declared.entry.Entry.{Entry}
use Rattle.nodes.specs.Roots.{Root}
use Rattle.plan.specs.Images.{image}
use Rattle.bridge.specs.Work.{Work}
use Rattle.store_laws.specs.Held.{root_of_tree}
use Rattle.store_plan.specs.Contents.{Contents}
use Rattle.store_plan.specs.Openings.{opened as opened_store, opening}
use Rattle.store_plan.specs.Queries.{queried as queried_store}
use Rattle.plan.specs.Reports.{store_report}
use Rattle.store_plan.specs.Updates.{update_refusal}
use Rattle.plan.specs.declared.refusal.StoreRefusal.{StoreRefusal}
use Rattle.calls.specs.declared.answer.Answer.{Answer}
use Rattle.calls.specs.declared.answer.Answer.TheVariants.{NotMade, Opened, Refused, Figures as figures_answer}
use Rattle.calls.specs.declared.answer.Found.{Found}
use Rattle.calls.specs.declared.call.Call.{Call}
use Rattle.calls.specs.declared.call.Call.TheVariants.{Open as open_call, Booking, Count, Strike, Query, Total, Figures, Close}
use Rattle.calls.specs.declared.part.Part.{Part}
use Rattle.calls.specs.declared.part.Part.TheVariants.{Stock, Day}
use Rattle.calls.specs.declared.point.Point.{Point}
use Rattle.calls.specs.declared.refusal.Refusal.{Refusal}
use Rattle.calls.specs.declared.refusal.Refusal.TheVariants.{Met, Stopped as stopped_refusal}
use Rattle.book_plan.specs.Books.{CalledBook, unless_refused, or_else, barred, conditions, most_writes, both_updated, stock_found, figures_of_part, queried_book}
use Rattle.book_plan.specs.Changes.{Change}
use Rattle.book_plan.specs.Changes.Change.{booking, count, strike}
use Rattle.book_plan.specs.Kept.{Keeps, AllInRange, sheet_of, stock_message, day_message, stock_messages, day_messages, value_refusal, changed}
use Rattle.book_plan.specs.Laws.{of_part, change_refusal, ChangeKept, ChangeOutcome, TotalOutcome}
use Rattle.book_plan.specs.Told.{told, stopped_part}
use Rattle.book_plan.specs.Totals.{Totalled, nothing, total_from, unless_stopped, totalled}
use Rattle.book_plan.proofs.Laws.{change_law, barred_is, query_law, no_work}
use Rattle.book_plan.proofs.Totals.{total_law}
use Rattle.traces.specs.Law.{one_if, opening_of, closing_of, counted, asked, if_done, changes}
use Rattle.traces.specs.Steps.{Opens, Changes, Asks, Shows, Closes, Stays, Falls, Does, DoesClosed, DoesOpen, change_answer, query_answer, sum_answer}
use Rattle.book_plan.specs.Readings.{stands}
use Rattle.traces.specs.Views.{View}
use Rattle.traces.specs.Views.View.{closed, opened}
use Rattle.traces.proofs.Stores.{Resting, Open, Kept, opening_kept, closing_kept}

abbrev pub Q : Algebra
Q = quantity_algebra

abbrev pub D : Algebra
D = latest_day_algebra

-- ---- what has been counted so far
pub record Tally : Type 0 where
  pub stock_openings : ℕ
  pub stock_closings : ℕ
  pub day_openings : ℕ
  pub day_closings : ℕ
  pub accepted : List Change

abbrev pub tally : List Point → Tally
tally ps = record {
  stock_openings = counted (opening_of Stock) ps;
  stock_closings = counted (closing_of Stock) ps;
  day_openings = counted (opening_of Day) ps;
  day_closings = counted (closing_of Day) ps;
  accepted = changes ps;
}

-- after one more call
abbrev pub more : Tally → Call → Answer → Tally
more t call answer = record {
  stock_openings = t.stock_openings + opening_of Stock answer;
  stock_closings = t.stock_closings + closing_of Stock answer;
  day_openings = t.day_openings + opening_of Day answer;
  day_closings = t.day_closings + closing_of Day answer;
  accepted = if_done answer (asked call) ++ t.accepted;
}

counted_more : (f : Answer → ℕ) (ps : List Point) (p : Point) → counted f (ps ++ (p ∷ [])) ≡ counted f ps + f p.answer
counted_more f [] p = omega arith
counted_more f (q ∷ ps) p = omega (arith, counted_more f ps p)

changes_more : (ps : List Point) (p : Point) → changes (ps ++ (p ∷ [])) ≡ if_done p.answer (asked p.call) ++ changes ps
changes_more [] p = sym (append-nil _)
changes_more (q ∷ ps) p =
    ap (λ xs. xs ++ if_done q.answer (asked q.call)) (changes_more ps p)
    ∙ append_assoc (if_done p.answer (asked p.call)) (changes ps) (if_done q.answer (asked q.call))

pub tally_more : (ps : List Point) (p : Point) → tally (ps ++ (p ∷ [])) ≡ more (tally ps) p.call p.answer
tally_more ps p =
    λ i. record {
      stock_openings = counted_more (opening_of Stock) ps p i;
      stock_closings = counted_more (closing_of Stock) ps p i;
      day_openings = counted_more (opening_of Day) ps p i;
      day_closings = counted_more (closing_of Day) ps p i;
      accepted = changes_more ps p i;
    }

-- an answer that counts nothing
plus_none : (t : Tally) → record {
  stock_openings = t.stock_openings + 0;
  stock_closings = t.stock_closings + 0;
  day_openings = t.day_openings + 0;
  day_closings = t.day_closings + 0;
  accepted = t.accepted;
} ≡ t
plus_none t =
    let e : (n : ℕ) → n + 0 ≡ n = λ n. omega arith in
    λ i. record {
      stock_openings = e t.stock_openings i;
      stock_closings = e t.stock_closings i;
      day_openings = e t.day_openings i;
      day_closings = e t.day_closings i;
      accepted = t.accepted;
    }

-- an update that is not refused leaves a write
funds : (r : Root) (size a : ℕ) → update_refusal r size a ≡ None → 2 * r.node.frame.level + 1 ≤ a
funds r size a e = grind (arith, nat_tests)

-- nothing refuses where none of three does
none_first : (v o p : Option Refusal) → or_else v (or_else o p) ≡ None → (o ≡ None) × (p ≡ None)
none_first None None None e = (refl, refl)
none_first None None (Some y) e = (refl, e)
none_first None (Some y) p e = (cc, cc)
none_first (Some y) o p e = (cc, cc)

part_none : (part : Part) (o : Option StoreRefusal) → of_part part o ≡ None → o ≡ None
part_none part None e = refl
part_none part (Some y) e = cc

-- a store that is stopped refuses queries and totals
pub query_refused : (c d : Contents) (k : ℕ) (y : Refusal) → stopped_part c.first d.first ≡ Some y → queried_book c d k ≡ record { answer = Err y; stock = c; day = d }
query_refused c d k y e =
    let asked = queried_store Q c c.root k in
    ap (λ o. unless_refused o c d (stock_found (told Stock asked.answer) asked.contents d (queried_store D d d.root k))) e

pub total_refused : (c d : Contents) (low high : ℕ) (table : List (Entry ℕ)) (y : Refusal) → stopped_part c.first d.first ≡ Some y → totalled c d low high table ≡ record { answer = Err y; stock = c; table = table }
total_refused c d low high table y e = ap (λ o. unless_stopped o c table (total_from (suc high) c high table nothing low)) e

module _ (stock_start day_start : ℕ) where
  -- ---- what is kept of a book
  abbrev pub StockKept : Tally → Contents → ℕ → Type 0
  StockKept t c a = Kept Q stock_start t.stock_openings t.stock_closings (stock_messages t.accepted) c a

  abbrev pub DayKept : Tally → Contents → ℕ → Type 0
  DayKept t d b = Kept D day_start t.day_openings t.day_closings (day_messages t.accepted) d b

  abbrev pub Inv : Tally → View → Type 0
  Inv t (closed m n) =
      Resting Q stock_start t.stock_openings t.stock_closings (stock_messages t.accepted) (image m)
      × Resting D day_start t.day_openings t.day_closings (day_messages t.accepted) (image n) × AllInRange t.accepted
  Inv t (opened c a d b) = StockKept t c a × DayKept t d b × AllInRange t.accepted

  -- both stores stand
  pub record BothOpen (t : Tally) (c : Contents) (a : ℕ) (d : Contents) (b : ℕ) : Type 0 where
    pub stock : Open Q stock_start t.stock_openings t.stock_closings (stock_messages t.accepted) c a
    pub day : Open D day_start t.day_openings t.day_closings (day_messages t.accepted) d b
    pub in_range : AllInRange t.accepted

  pub keeps : (t : Tally) (c : Contents) (a : ℕ) (d : Contents) (b : ℕ) → BothOpen t c a d b → Keeps c d t.accepted
  keeps t c a d b both = record { stock = both.stock.holds; day = both.day.holds; in_range = both.in_range }

  -- or one is stopped, and refuses
  abbrev pub Refuses : Contents → Contents → Type 0
  Refuses c d = (y : Refusal) × (stopped_part c.first d.first ≡ Some y)

  pub open_or_stopped : (t : Tally) (c : Contents) (a : ℕ) (d : Contents) (b : ℕ) → Inv t (opened c a d b) → BothOpen t c a d b ⊎ Refuses c d
  open_or_stopped t c a d b (inl s, inl u, v) = inl (record { stock = s; day = u; in_range = v })
  open_or_stopped t c a d b (inl s, inr u, v) =
      inr (stopped_refusal Day u.report, ap (λ o. stopped_part o d.first) s.holds.not_stopped ∙ ap (stopped_part None) u.first_is)
  open_or_stopped t c a d b (inr s, u, v) = inr (stopped_refusal Stock s.report, ap (λ o. stopped_part o d.first) s.first_is)

  module _ (t : Tally) where
    abbrev pub After : Call → Answer → View → Type 0
    After call answer w = Inv (more t call answer) w

    unchanged : (w : View) → Inv t w → Inv (record {
      stock_openings = t.stock_openings + 0;
      stock_closings = t.stock_closings + 0;
      day_openings = t.day_openings + 0;
      day_closings = t.day_closings + 0;
      accepted = t.accepted;
    }) w
    unchanged w k = subst (λ u. Inv u w) (sym (plus_none t)) k

    -- ---- a call that is not made
    stays_kept : (call : Call) (answer : Answer) (v w : View) → Stays answer v w → Inv t v → After call answer w
    stays_kept call answer v w s k =
        subst (λ x. After call x w) (sym s.answer_is) (subst (λ x. After call NotMade x) (sym s.view_is) (unchanged v k))

    -- ---- opening
    opens_kept : (m n : Medium) (answer : Answer) (c : Contents) (a : ℕ) (d : Contents) (b : ℕ) → Opens m n answer c a d b → Inv t (closed m n) → After open_call answer (opened c a d b)
    opens_kept m n answer c a d b o k =
        let c' = opening (opened_store Q (image m) m.allowance) in
        let d' = opening (opened_store D (image n) n.allowance) in
        subst (λ x. After open_call x (opened c a d b)) (sym o.answer_is)
        (subst (λ x. After open_call (Opened x.first d.first) (opened x a d b)) (sym o.stock_is)
        (subst (λ x. After open_call (Opened c'.first x.first) (opened c' a x b)) (sym o.day_is) (
          opening_kept Q stock_start t.stock_openings t.stock_closings (stock_messages t.accepted) m a k.0 o.stock_allowance,
          opening_kept D day_start t.day_openings t.day_closings (day_messages t.accepted) n b k.1 o.day_allowance,
          k.2,
        )))

    -- ---- closing
    closes_kept : (c : Contents) (a : ℕ) (d : Contents) (b : ℕ) (answer : Answer) (m n : Medium) → Closes c a d b answer m n → Inv t (opened c a d b) → After Close answer (closed m n)
    closes_kept c a d b answer m n o k =
        subst (λ x. After Close x (closed m n)) (sym o.answer_is) (
          subst (λ e. Resting Q stock_start (t.stock_openings + 0) (t.stock_closings + one_if (stands c.root)) (stock_messages t.accepted) e) (sym o.stock_is)
              (closing_kept Q stock_start t.stock_openings t.stock_closings (stock_messages t.accepted) c a k.0),
          subst (λ e. Resting D day_start (t.day_openings + 0) (t.day_closings + one_if (stands d.root)) (day_messages t.accepted) e) (sym o.day_is)
              (closing_kept D day_start t.day_openings t.day_closings (day_messages t.accepted) d b k.1),
          k.2,
        )

    -- ---- figures
    shows_kept : (part : Part) (c : Contents) (a : ℕ) (d : Contents) (b : ℕ) (answer : Answer) (c' : Contents) (a' : ℕ) (d' : Contents) (b' : ℕ) → Shows c a d b part answer c' a' d' b' → Inv t (opened c a d b)
        → After (Figures part) answer (opened c' a' d' b')
    shows_kept part c a d b answer c' a' d' b' o k =
        let same : opened c a d b ≡ opened c' a' d' b' = cc (o.stock_is, o.day_is, o.stock_allowance, o.day_allowance) in
        subst (λ x. After (Figures part) x (opened c' a' d' b')) (sym o.answer_is) (subst (λ w. After (Figures part) (figures_answer (figures_of_part part c d)) w) same (unchanged (opened c a d b) k))

    -- ---- a change
    module _ (c : Contents) (a : ℕ) (d : Contents) (b : ℕ) (x : Change) (call : Call) (asks : asked call ≡ x ∷ []) (a' b' : ℕ) where
      -- refused, with the allowances as they were
      refused_kept : (y : Refusal) (r : CalledBook (Unit {0})) → r ≡ record { answer = Err y; stock = c; day = d } → Falls 0 a a' → Falls 0 b b' → Inv t (opened c a d b)
          → After call (change_answer r.answer) (opened r.stock a' r.day b')
      refused_kept y r e f g k =
          let a_same : a ≡ a' = omega (arith, f) in
          let b_same : b ≡ b' = omega (arith, g) in
          subst (λ z. After call (change_answer z.answer) (opened z.stock a' z.day b')) (sym e)
          (subst (λ z. After call (Refused y) (opened c z d b')) a_same (subst (λ z. After call (Refused y) (opened c a d z)) b_same (unchanged (opened c a d b) k)))

      abbrev cs : List Change
      cs = t.accepted

      done_kept : BothOpen t c a d b → (r : CalledBook (Unit {0})) → ChangeKept c d cs x r
          → update_refusal (root_of_tree Q (stock_messages cs)) c.image.size a ≡ None → update_refusal (root_of_tree D (day_messages cs)) d.image.size b ≡ None
          → Falls (2 * c.figures.height) a a' → Falls (2 * d.figures.height) b b'
          → After call (change_answer r.answer) (opened r.stock a' r.day b')
      done_kept both r kept e f g h =
          let high = ap (λ z. z.height) both.stock.holds.figures_are in
          let day_high = ap (λ z. z.height) both.day.holds.figures_are in
          subst (λ z. After call (change_answer z) (opened r.stock a' r.day b')) (sym kept.answer_is)
          (subst (λ xs. Inv (record {
            stock_openings = t.stock_openings + 0;
            stock_closings = t.stock_closings + 0;
            day_openings = t.day_openings + 0;
            day_closings = t.day_closings + 0;
            accepted = xs ++ cs;
          }) (opened r.stock a' r.day b')) (sym asks) (
            inl (record {
              holds = kept.keeps.stock;
              funded = omega (arith, g, high, funds (root_of_tree Q (stock_messages cs)) c.image.size a e);
              writes = omega (arith, both.stock.writes, kept.stock_work.writes_rise);
            }),
            inl (record {
              holds = kept.keeps.day;
              funded = omega (arith, h, day_high, funds (root_of_tree D (day_messages cs)) d.image.size b f);
              writes = omega (arith, both.day.writes, kept.day_work.writes_rise);
            }),
            kept.keeps.in_range,
          ))

      abbrev called : CalledBook (Unit {0})
      called = changed c d a b x

      abbrev bars : Option Refusal
      bars = barred c d a b (value_refusal x)

      abbrev expected : Option Refusal
      expected = change_refusal cs c.image.size d.image.size a b x

      by_outcome : BothOpen t c a d b → Inv t (opened c a d b) → (o : Option Refusal) → expected ≡ o → ChangeOutcome c d cs x called o
          → Falls (most_writes o c.figures.height) a a' → Falls (most_writes o d.figures.height) b b'
          → After call (change_answer called.answer) (opened called.stock a' called.day b')
      by_outcome both k None e kept f g =
          let none = none_first (value_refusal x) _ _ e in
          done_kept both called kept (part_none Stock _ none.0) (part_none Day _ none.1) f g
      by_outcome both k (Some y) e left f g =
          let is : called ≡ record { answer = Err y; stock = c; day = d } =
          λ i. record { answer = left.answer_is i; stock = left.stock_kept i; day = left.day_kept i } in
          refused_kept y called is f g k

      both_kept : sheet_of x < 2 ^ 32 → BothOpen t c a d b → Inv t (opened c a d b) → Falls (most_writes bars c.figures.height) a a' → Falls (most_writes bars d.figures.height) b b'
          → After call (change_answer called.answer) (opened called.stock a' called.day b')
      both_kept key_fits both k f g =
          let held = keeps t c a d b both in
          let e = barred_is c d cs held a b x key_fits in
          by_outcome both k expected refl (change_law c d cs held a b x key_fits)
          (subst (λ o. Falls (most_writes o c.figures.height) a a') e f) (subst (λ o. Falls (most_writes o d.figures.height) b b') e g)

      stopped_kept : Refuses c d → Inv t (opened c a d b) → Falls (most_writes bars c.figures.height) a a' → Falls (most_writes bars d.figures.height) b b'
          → After call (change_answer called.answer) (opened called.stock a' called.day b')
      stopped_kept (y, e) k f g =
          let value = value_refusal x in
          let is = ap (λ o. unless_refused o c d (unless_refused value c d (unless_refused (conditions c d a b) c d (both_updated c d a b (sheet_of x) (stock_message x) (day_message x))))) e in
          let bar = ap (λ o. or_else o (or_else value (conditions c d a b))) e in
          refused_kept y called is
          (subst (λ o. Falls (most_writes o c.figures.height) a a') bar f) (subst (λ o. Falls (most_writes o d.figures.height) b b') bar g) k

      pub change_kept : sheet_of x < 2 ^ 32 → (answer : Answer) (c' d' : Contents) → Changes c a d b x answer c' a' d' b' → Inv t (opened c a d b) → After call answer (opened c' a' d' b')
      change_kept key_fits answer c' d' o k =
          subst (λ z. After call z (opened c' a' d' b')) (sym o.answer_is)
          (subst (λ z. After call (change_answer called.answer) (opened z a' d' b')) (sym o.stock_is)
          (subst (λ z. After call (change_answer called.answer) (opened called.stock a' z b')) (sym o.day_is)
          (⊎_elim
          (λ both. both_kept key_fits both k o.stock_allowance o.day_allowance)
          (λ stops. stopped_kept stops k o.stock_allowance o.day_allowance)
          (open_or_stopped t c a d b k))))

    -- ---- a query
    -- reads leave what is kept
    read_kept : (c c' : Contents) (a : ℕ) (d d' : Contents) (b : ℕ) (m n : ℕ) → BothOpen t c a d b → Keeps c' d' t.accepted → Work c.image c'.image m 0 0 → Work d.image d'.image n 0 0 → Inv t (opened c' a d' b)
    read_kept c c' a d d' b m n both held f g = (
      inl (record { holds = held.stock; funded = both.stock.funded; writes = omega (arith, both.stock.writes, f.writes_rise) }),
      inl (record { holds = held.day; funded = both.day.funded; writes = omega (arith, both.day.writes, g.writes_rise) }),
      held.in_range,
    )

    module _ (c : Contents) (a : ℕ) (d : Contents) (b : ℕ) (k : ℕ) where
      abbrev queried : CalledBook Found
      queried = queried_book c d k

      query_open : k < 2 ^ 32 → BothOpen t c a d b → After (Query k) (query_answer queried.answer) (opened queried.stock a queried.day b)
      query_open key_fits both =
          let q = query_law c d t.accepted (keeps t c a d b both) k key_fits in
          let w = opened queried.stock a queried.day b in
          subst (λ z. After (Query k) (query_answer z) w) (sym q.answer_is)
          (unchanged w (read_kept c queried.stock a d queried.day b q.stock_reads q.day_reads both q.keeps q.stock_work q.day_work))

      query_stopped : Refuses c d → Inv t (opened c a d b) → After (Query k) (query_answer queried.answer) (opened queried.stock a queried.day b)
      query_stopped (y, e) held =
          subst (λ z. After (Query k) (query_answer z.answer) (opened z.stock a z.day b)) (sym (query_refused c d k y e)) (unchanged (opened c a d b) held)

      pub query_kept : k < 2 ^ 32 → (answer : Answer) (c' : Contents) (a' : ℕ) (d' : Contents) (b' : ℕ) → Asks c a d b k answer c' a' d' b' → Inv t (opened c a d b) → After (Query k) answer (opened c' a' d' b')
      query_kept key_fits answer c' a' d' b' o held =
          let same : opened queried.stock a queried.day b ≡ opened c' a' d' b' = cc (o.stock_is, o.day_is, o.stock_allowance, o.day_allowance) in
          subst (λ z. After (Query k) z (opened c' a' d' b')) (sym o.answer_is)
          (subst (λ w. After (Query k) (query_answer queried.answer) w) same
          (⊎_elim (λ both. query_open key_fits both) (λ stops. query_stopped stops held) (open_or_stopped t c a d b held)))

    -- ---- a total
    module _ (c : Contents) (a : ℕ) (d : Contents) (b : ℕ) (low high : ℕ) (table : List (Entry ℕ)) where
      abbrev added : Totalled
      added = totalled c d low high table

      abbrev AfterTotal : Totalled → Type 0
      AfterTotal r = After (Total low high) (sum_answer r.answer) (opened r.stock a d b)

      by_total : BothOpen t c a d b → Inv t (opened c a d b) → (r : Totalled) (o : Option StoreRefusal) → TotalOutcome c t.accepted low high table r o → AfterTotal r
      by_total both held r None kept =
          let w = opened r.stock a d b in
          let still : Keeps r.stock d t.accepted = record { stock = kept.holds; day = both.day.holds; in_range = both.in_range } in
          subst (λ z. After (Total low high) (sum_answer z) w) (sym kept.answer_is)
          (unchanged w (read_kept c r.stock a d d b kept.sum.stock_reads 0 both still kept.work (no_work d.image)))
      by_total both held r (Some y) left =
          subst (λ z. After (Total low high) (sum_answer z) (opened r.stock a d b)) (sym left.answer_is)
          (subst (λ z. After (Total low high) (Refused (Met Stock (store_report y))) (opened z a d b)) (sym left.stock_kept) (unchanged (opened c a d b) held))

      total_stopped : Refuses c d → Inv t (opened c a d b) → AfterTotal added
      total_stopped (y, e) held =
          subst AfterTotal (sym (total_refused c d low high table y e)) (unchanged (opened c a d b) held)

      pub total_kept : high < 2 ^ 32 → (answer : Answer) (c' : Contents) (a' : ℕ) (d' : Contents) (b' : ℕ) → answer ≡ sum_answer added.answer → c' ≡ added.stock → d' ≡ d → a' ≡ a → b' ≡ b → Inv t (opened c a d b)
          → After (Total low high) answer (opened c' a' d' b')
      total_kept key_fits answer c' a' d' b' e f g h i held =
          let same : opened added.stock a d b ≡ opened c' a' d' b' = cc (f, g, h, i) in
          subst (λ z. After (Total low high) z (opened c' a' d' b')) (sym e)
          (subst (λ w. After (Total low high) (sum_answer added.answer) w) same
          (⊎_elim
          (λ both. by_total both held added _ (total_law c d t.accepted (keeps t c a d b both) low high key_fits table))
          (λ stops. total_stopped stops held)
          (open_or_stopped t c a d b held)))

    -- ---- every call
    kept_closed : (m n : Medium) (call : Call) (answer : Answer) (w : View) → DoesClosed m n call answer w → Inv t (closed m n) → After call answer w
    kept_closed m n open_call answer (closed m' n') o k = absurd o
    kept_closed m n open_call answer (opened c a d b) o k = opens_kept m n answer c a d b o k
    kept_closed m n (Booking s x y) answer w o k = stays_kept (Booking s x y) answer (closed m n) w o k
    kept_closed m n (Count s x y) answer w o k = stays_kept (Count s x y) answer (closed m n) w o k
    kept_closed m n (Strike s) answer w o k = stays_kept (Strike s) answer (closed m n) w o k
    kept_closed m n (Query s) answer w o k = stays_kept (Query s) answer (closed m n) w o k
    kept_closed m n (Total low high) answer w o k = stays_kept (Total low high) answer (closed m n) w o k
    kept_closed m n (Figures part) answer w o k = stays_kept (Figures part) answer (closed m n) w o k
    kept_closed m n Close answer w o k = stays_kept Close answer (closed m n) w o k

    kept_open : (c : Contents) (a : ℕ) (d : Contents) (b : ℕ) (call : Call) (answer : Answer) (w : View) → DoesOpen c a d b call answer w → Inv t (opened c a d b) → After call answer w
    kept_open c a d b open_call answer w o k = stays_kept open_call answer (opened c a d b) w o k
    kept_open c a d b (Booking s x y) answer (closed m n) o k = absurd o
    kept_open c a d b (Booking s x y) answer (opened c' a' d' b') o k = change_kept c a d b (booking s x y) (Booking s x y) refl a' b' o.0 answer c' d' o.1 k
    kept_open c a d b (Count s x y) answer (closed m n) o k = absurd o
    kept_open c a d b (Count s x y) answer (opened c' a' d' b') o k = change_kept c a d b (count s x y) (Count s x y) refl a' b' o.0 answer c' d' o.1 k
    kept_open c a d b (Strike s) answer (closed m n) o k = absurd o
    kept_open c a d b (Strike s) answer (opened c' a' d' b') o k = change_kept c a d b (strike s) (Strike s) refl a' b' o.0 answer c' d' o.1 k
    kept_open c a d b (Query s) answer (closed m n) o k = absurd o
    kept_open c a d b (Query s) answer (opened c' a' d' b') o k = query_kept c a d b s o.0 answer c' a' d' b' o.1 k
    kept_open c a d b (Total low high) answer (closed m n) o k = absurd o
    kept_open c a d b (Total low high) answer (opened c' a' d' b') (fits, o) k =
        total_kept c a d b low high o.table fits answer c' a' d' b' o.answer_is o.stock_is o.day_is o.stock_allowance o.day_allowance k
    kept_open c a d b (Figures part) answer (closed m n) o k = absurd o
    kept_open c a d b (Figures part) answer (opened c' a' d' b') o k = shows_kept part c a d b answer c' a' d' b' o k
    kept_open c a d b Close answer (opened c' a' d' b') o k = absurd o
    kept_open c a d b Close answer (closed m n) o k = closes_kept c a d b answer m n o k

    pub step_kept : (v : View) (call : Call) (answer : Answer) (w : View) → Does v call answer w → Inv t v → After call answer w
    step_kept (closed m n) call answer w o k = kept_closed m n call answer w o k
    step_kept (opened c a d b) call answer w o k = kept_open c a d b call answer w o k
