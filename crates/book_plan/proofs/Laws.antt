-- Changes and queries of a book that keeps its changes.
use Rattle.std.proofs.Common.{◌≡◌, ℕ, ◌^◌, ◌<◌, List, Some, None, Ok, Option, sym, refl, ap, ◌∙◌, subst, arith}
use Rattle.messages.specs.Algebra.{Algebra}
use Rattle.messages.specs.LatestDay.{latest_day_algebra}
use Rattle.messages.specs.Quantity.{quantity_algebra}
use Rattle.messages.specs.Words.{signed}
use Rattle.bridge.specs.Work.{Work}
use Rattle.plan.specs.Images.{Image}
use Rattle.store_laws.specs.Held.{root_of_tree}
use Rattle.store_laws.specs.Laws as store
use Rattle.store_laws.proofs.Laws as store_proofs
use Rattle.store_plan.specs.Contents.{Contents, Called}
use Rattle.store_plan.specs.Queries.{queried}
use Rattle.store_plan.specs.Updates.{update_refusal, update_check, updated_store, by_refusal}
use Rattle.plan.specs.declared.refusal.StoreRefusal.{StoreRefusal}
use Rattle.tree.specs.Laws.{meaning}
use Rattle.tree.specs.Lookup.{said}
use Rattle.tree.specs.Query.{query}
use Rattle.tree.specs.Update.{grown}
use Rattle.tree.proofs.Laws.{sum_law}
use Rattle.calls.specs.declared.part.Part.TheVariants.{Stock, Day}
use Rattle.calls.specs.declared.refusal.Refusal.{Refusal}
use Rattle.book_plan.specs.Books.{CalledBook, unless_refused, or_else, barred, first_refusal, conditions, day_next, both_updated, stock_found, day_found, queried_book}
use Rattle.book_plan.specs.Changes.{Change, quantity_of, day_of, holding}
use Rattle.book_plan.specs.Kept.{Keeps, sheet_of, stock_message, day_message, stock_messages, day_messages, value_refusal, changed, InRange}
use Rattle.book_plan.specs.Laws.{of_part, change_refusal, ChangeKept, ChangeOutcome, ChangeLaw, QueryKept, QueryLaw}
use Rattle.book_plan.specs.Told.{told, stopped_part}
use Rattle.book_plan.proofs.Plain.{in_range, stock_word_fits, day_word_fits, amounts, quantities, days}

abbrev Q : Algebra
Q = quantity_algebra

abbrev D : Algebra
D = latest_day_algebra

-- neither store of a book that keeps its changes is stopped
pub goes_on : {T : Type 0} (c d : Contents) (cs : List Change) → Keeps c d cs → (go : CalledBook T) → unless_refused (stopped_part c.first d.first) c d go ≡ go
goes_on c d cs keeps go =
    ap (λ o. unless_refused (stopped_part o d.first) c d go) keeps.stock.not_stopped
    ∙ ap (λ o. unless_refused (stopped_part None o) c d go) keeps.day.not_stopped

-- the conditions of the stores, the stock store's first
firsts : (o p : Option StoreRefusal) → first_refusal (told Stock (by_refusal o)) (told Day (by_refusal p)) ≡ or_else (of_part Stock o) (of_part Day p)
firsts (Some r) p = refl
firsts None (Some r) = refl
firsts None None = refl

module _ (c d : Contents) (cs : List Change) (keeps : Keeps c d cs) (a b : ℕ) (x : Change) (key_fits : sheet_of x < 2 ^ 32) where
  abbrev stock_refusal : Option StoreRefusal
  stock_refusal = update_refusal (root_of_tree Q (stock_messages cs)) c.image.size a

  abbrev day_refusal : Option StoreRefusal
  day_refusal = update_refusal (root_of_tree D (day_messages cs)) d.image.size b

  abbrev stock_called : Called (Unit {0})
  stock_called = updated_store Q c c.root a (sheet_of x) (stock_message x)

  abbrev day_called : Called (Unit {0})
  day_called = updated_store D d d.root b (sheet_of x) (day_message x)

  conditions_are : conditions c d a b ≡ or_else (of_part Stock stock_refusal) (of_part Day day_refusal)
  conditions_are =
      ap (λ r. first_refusal (told Stock (update_check c r a)) (told Day (update_check d d.root b))) keeps.stock.root_is
      ∙ ap (λ r. first_refusal (told Stock (by_refusal stock_refusal)) (told Day (update_check d r b))) keeps.day.root_is
      ∙ firsts stock_refusal day_refusal

  kept : InRange x → stock_refusal ≡ None → day_refusal ≡ None → ChangeKept c d cs x (both_updated c d a b (sheet_of x) (stock_message x) (day_message x))
  kept fits e f =
      let s : store.Accepted Q c (stock_messages cs) (sheet_of x) (stock_message x) stock_called =
      subst (λ o. store.UpdateOutcome Q c (stock_messages cs) (sheet_of x) (stock_message x) stock_called o) e
      (store_proofs.update_law Q c (stock_messages cs) keeps.stock a (sheet_of x) (stock_message x) key_fits (stock_word_fits x fits)) in
      let t : store.Accepted D d (day_messages cs) (sheet_of x) (day_message x) day_called =
      subst (λ o. store.UpdateOutcome D d (day_messages cs) (sheet_of x) (day_message x) day_called o) f
      (store_proofs.update_law D d (day_messages cs) keeps.day b (sheet_of x) (day_message x) key_fits (day_word_fits x fits)) in
      subst (λ y. ChangeKept c d cs x (day_next (told Stock y) stock_called.contents d day_called)) (sym s.answer_is)
      (record {
        answer_is = ap (told Day) t.answer_is;
        keeps = record { stock = s.holds; day = t.holds; in_range = (fits, keeps.in_range) };
        stock_work = s.work;
        day_work = t.work;
      })

  outcome : (v : Option Refusal) (o p : Option StoreRefusal) → value_refusal x ≡ v → stock_refusal ≡ o → day_refusal ≡ p
      → ChangeOutcome c d cs x
      (unless_refused v c d (unless_refused (or_else (of_part Stock o) (of_part Day p)) c d (both_updated c d a b (sheet_of x) (stock_message x) (day_message x))))
      (or_else v (or_else (of_part Stock o) (of_part Day p)))
  outcome (Some y) o p e f g = record { answer_is = refl; stock_kept = refl; day_kept = refl }
  outcome None (Some r) p e f g = record { answer_is = refl; stock_kept = refl; day_kept = refl }
  outcome None None (Some r) e f g = record { answer_is = refl; stock_kept = refl; day_kept = refl }
  outcome None None None e f g = kept (in_range x e) f g

  change_outcome : ChangeOutcome c d cs x (changed c d a b x) (change_refusal cs c.image.size d.image.size a b x)
  change_outcome =
      let called = both_updated c d a b (sheet_of x) (stock_message x) (day_message x) in
      let expected = change_refusal cs c.image.size d.image.size a b x in
      subst (λ r. ChangeOutcome c d cs x r expected) (sym (goes_on c d cs keeps (unless_refused (value_refusal x) c d (unless_refused (conditions c d a b) c d called))))
      (subst (λ o. ChangeOutcome c d cs x (unless_refused (value_refusal x) c d (unless_refused o c d called)) expected) (sym conditions_are)
      (outcome (value_refusal x) stock_refusal day_refusal refl refl refl))

  -- what bars a change is what refuses it
  pub barred_is : barred c d a b (value_refusal x) ≡ change_refusal cs c.image.size d.image.size a b x
  barred_is =
      ap (λ o. or_else (stopped_part o d.first) (or_else (value_refusal x) (conditions c d a b))) keeps.stock.not_stopped
      ∙ ap (λ o. or_else (stopped_part None o) (or_else (value_refusal x) (conditions c d a b))) keeps.day.not_stopped
      ∙ ap (or_else (value_refusal x)) conditions_are

pub change_law : ChangeLaw
change_law c d cs keeps a b x key_fits = change_outcome c d cs keeps a b x key_fits

-- ---- a query
pub no_work : (d : Image) → Work d d 0 0 0
no_work d = record {
  size_kept = refl;
  reads_rise = omega arith;
  writes_rise = omega arith;
  stays_sound = λ s. s;
  bytes_kept = λ b h. refl;
  states_kept = λ b h. refl;
}

module _ (c d : Contents) (cs : List Change) (keeps : Keeps c d cs) (k : ℕ) (key_fits : k < 2 ^ 32) where
  abbrev stock_asked : Called (Option ℕ × ℕ)
  stock_asked = queried Q c c.root k

  abbrev day_asked : Called (Option ℕ × ℕ)
  day_asked = queried D d d.root k

  stock_answered : store.Answered Q c (stock_messages cs) k stock_asked
  stock_answered = store_proofs.query_law Q c (stock_messages cs) keeps.stock k key_fits

  day_answered : store.Answered D d (day_messages cs) k day_asked
  day_answered = store_proofs.query_law D d (day_messages cs) keeps.day k key_fits

  quantity_is : meaning (said Q k (stock_messages cs)) ≡ quantity_of k cs
  quantity_is =
      (sum_law (stock_messages cs) keeps.stock.keys (amounts cs keeps.in_range) (omega (arith, keeps.stock.few_updates))).quantities k
      ∙ quantities k cs keeps.in_range

  abbrev stock_read : ℕ
  stock_read = (query Q (grown Q (stock_messages cs)) k).reads

  abbrev day_read : ℕ
  day_read = (query D (grown D (day_messages cs)) k).reads

  by_stock : (o : Option ℕ) → said Q k (stock_messages cs) ≡ o → QueryKept c d cs k (stock_found (Ok (o, stock_read)) stock_asked.contents d day_asked)
  by_stock None e = record {
    stock_reads = stock_read;
    day_reads = 0;
    answer_is = ap (λ h. Ok (record { holding = h; stock_reads = stock_read; day_reads = 0 })) (ap (λ q. holding q (day_of k cs)) (ap meaning (sym e) ∙ quantity_is));
    stock_at_most = stock_answered.reads_at_most;
    day_at_most = omega arith;
    keeps = record { stock = stock_answered.holds; day = keeps.day; in_range = keeps.in_range };
    stock_work = stock_answered.work;
    day_work = no_work d.image;
  }
  by_stock (Some w) e =
      subst (λ y. QueryKept c d cs k (day_found w stock_read stock_asked.contents (told Day y) day_asked.contents)) (sym day_answered.answer_is)
      (record {
        stock_reads = stock_read;
        day_reads = day_read;
        answer_is =
            ap (λ h. Ok (record { holding = h; stock_reads = stock_read; day_reads = day_read }))
            (ap (λ o. holding (Some (signed w)) o) (days k cs) ∙ ap (λ q. holding q (day_of k cs)) (ap meaning (sym e) ∙ quantity_is));
        stock_at_most = stock_answered.reads_at_most;
        day_at_most = day_answered.reads_at_most;
        keeps = record { stock = stock_answered.holds; day = day_answered.holds; in_range = keeps.in_range };
        stock_work = stock_answered.work;
        day_work = day_answered.work;
      })

  query_outcome : QueryKept c d cs k (queried_book c d k)
  query_outcome =
      subst (λ r. QueryKept c d cs k r) (sym (goes_on c d cs keeps (stock_found (told Stock stock_asked.answer) stock_asked.contents d day_asked)))
      (subst (λ y. QueryKept c d cs k (stock_found (told Stock y) stock_asked.contents d day_asked)) (sym stock_answered.answer_is)
      (by_stock (said Q k (stock_messages cs)) refl))

pub query_law : QueryLaw
query_law c d cs keeps k key_fits = query_outcome c d cs keeps k key_fits
