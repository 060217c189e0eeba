-- A total of a book that keeps its changes.
use Rattle.std.proofs.Common.{◌≡◌, ℕ, zero, suc, ◌+◌, ◌-◌, ◌*◌, ◌%◌, ◌^◌, ◌<◌, ◌≤◌, true, false, cond, eqb, ltb, List, [], ◌∷◌, ◌++◌, length, take, replicate, ℤ, ◌+ℤ◌, Some, None, Ok, Err, Option, sym, refl, ap, ◌∙◌, subst, ⊎_elim, add-mul, mul-le-mul_left, arith, length-append, w64}
use lib.ListN.{length-replicate}
use Rattle.std.proofs.lemmas.List.{take_at, append-nil}
use Rattle.std.proofs.lemmas.Int.{of_z-to_z}
use Rattle.std.proofs.lemmas.Bool.{cases_lt, le-ltb, cond-false}
use Rattle.std.proofs.lemmas.Bool.Decides.{nat_tests}
use Rattle.messages.specs.Algebra.{Algebra}
use Rattle.messages.specs.Lists.{Within, find}
use Rattle.messages.specs.Quantity.{quantity_algebra}
use Rattle.messages.specs.Words.{signed, word}
use Rattle.messages.specs.declared.entry.Entry.{Entry}
use Rattle.messages.specs.declared.message.Message.{Message}
use Rattle.bridge.specs.Work.{Work}
use Rattle.plan.specs.Images.{Image}
use Rattle.store_laws.specs.Held.{Holds}
use Rattle.store_laws.specs.Laws.{PageGiven, PageRefused, PageOutcome}
use Rattle.store_laws.proofs.Laws.{page_law}
use Rattle.store_plan.specs.Contents.{Contents}
use Rattle.store_plan.specs.Pages.{PagedStore, no_entry, page_refusal, paged_store}
use Rattle.plan.specs.Reports.{store_report}
use Rattle.plan.specs.declared.refusal.StoreRefusal.{StoreRefusal}
use Rattle.tree.specs.Laws.{meaning, sum_of_words, sum_of_numbers}
use Rattle.tree.specs.Lookup.{said}
use Rattle.tree.specs.Nodes.{Node, height}
use Rattle.tree.specs.Query.{Page, page, leaf_frame, entries_from, following}
use Rattle.tree.specs.Update.{grown}
use Rattle.tree.proofs.Grown.{grown_tree, grown_says}
use Rattle.tree.proofs.Laws.{sum_law}
use Rattle.tree.proofs.Sum.{exact_sum}
use Rattle.tree.proofs.Total.{all_pages}
use Rattle.calls.specs.declared.answer.Sum.{Sum}
use Rattle.calls.specs.declared.part.Part.TheVariants.{Stock}
use Rattle.calls.specs.declared.refusal.Refusal.TheVariants.{Met}
use Rattle.book_plan.specs.Changes.{Change}
use Rattle.book_plan.specs.Kept.{Keeps, stock_messages}
use Rattle.book_plan.specs.Laws.{TotalKept, TotalRefused, TotalOutcome, TotalLaw}
use Rattle.book_plan.specs.Sums.{sum_of_quantities}
use Rattle.book_plan.specs.Told.{told, stopped_part}
use Rattle.book_plan.specs.Totals.{nothing, with_page, Totalled, by_next, after_page, total_from, unless_stopped, totalled}
use Rattle.book_plan.proofs.Plain.{amounts, quantities}

abbrev Q : Algebra
Q = quantity_algebra

-- ---- one reading after another
pub more_work : (c d e : Image) (m n : ℕ) → Work c d m 0 0 → Work d e n 0 0 → Work c e (m + n) 0 0
more_work c d e m n f g = record {
  size_kept = g.size_kept ∙ f.size_kept;
  reads_rise = omega (arith, f.reads_rise, g.reads_rise);
  writes_rise = omega (arith, f.writes_rise, g.writes_rise);
  stays_sound = λ s. g.stays_sound (f.stays_sound s);
  bytes_kept = λ b h. g.bytes_kept b h ∙ f.bytes_kept b h;
  states_kept = λ b h. g.states_kept b h ∙ f.states_kept b h;
}

-- words that are added in two goes
add_words : (base x y : ℕ) → signed ((word (signed ((base + x) % 2 ^ 64)) + y) % 2 ^ 64) ≡ signed ((base + (x + y)) % 2 ^ 64)
add_words base x y =
    let small : (base + x) % 2 ^ 64 < 2 ^ 64 = omega arith in
    ap (λ n. signed ((n + y) % 2 ^ 64)) (of_z-to_z w64 ((base + x) % 2 ^ 64) small) ∙ ap signed (omega arith)

pub sum_append : (xs ys : List (Entry ℕ)) → sum_of_words (xs ++ ys) ≡ sum_of_words xs + sum_of_words ys
sum_append [] ys = omega arith
sum_append (x ∷ xs) ys = omega (arith, sum_append xs ys)

module _ (h : List (Entry Message)) (high : ℕ) (key_fits : high < 2 ^ 32) where
  abbrev a : List Node
  a = grown Q h

  -- what comes of the pages from low on, with so many pages that may follow the first
  record Goes_on (n : ℕ) (c : Contents) (t : Sum) (low : ℕ) (r : Totalled) : Type 0 where
    sum : Sum
    answer_is : r.answer ≡ Ok sum
    sheets_are : sum.sheets ≡ t.sheets + length (entries_from Q n a low high)
    sum_is : (base : ℕ) → t.sum ≡ signed (base % 2 ^ 64) → sum.sum ≡ signed ((base + sum_of_words (entries_from Q n a low high)) % 2 ^ 64)
    pages_more : ℕ
    pages_are : sum.pages ≡ t.pages + pages_more
    reads_are : sum.stock_reads ≡ t.stock_reads + pages_more * height a
    holds : Holds Q r.stock h
    work : Work c.image r.stock.image (pages_more * height a) 0 0

  module _ (c : Contents) (table : List (Entry ℕ)) (low : ℕ) (held : Holds Q c h) (in_order : low ≤ high) (room : 2304 ≤ length table) where
    abbrev turned : PagedStore
    turned = paged_store Q c c.root low high table

    abbrev tree_page : Page
    tree_page = page Q a low high

    not_refused : page_refusal low high (length table) ≡ None
    not_refused = cond-false (ltb high low) _ _ (le-ltb high low in_order) ∙ cond-false (ltb (length table) 2304) _ _ (le-ltb (length table) 2304 room)

    given : PageGiven Q c h low high table turned
    given = subst (λ o. PageOutcome Q c h low high table turned o) not_refused (page_law Q c h held low high key_fits table)

    few : length tree_page.entries ≤ 2304
    few = given.says.table held.on_device.levels

    table_kept : 2304 ≤ length turned.table
    table_kept =
        let long = length-append tree_page.entries (replicate (length table - length tree_page.entries) no_entry) in
        let rest = length-replicate (length table - length tree_page.entries) no_entry in
        omega (arith, ap length given.table_is, long, rest, few)

    -- the sum with this page
    abbrev summed : Sum → Sum
    summed t = with_page t tree_page.entries (height a)

    page_taken : (t : Sum) (go : Sum → ℕ → Totalled)
        → after_page (told Stock turned.called.answer) turned.called.contents turned.table t go ≡ by_next tree_page.next turned.called.contents turned.table (summed t) go
    page_taken t go =
        let front = ap (take (length tree_page.entries)) given.table_is ∙ take_at tree_page.entries _ _ refl in
        ap (λ y. after_page (told Stock y) turned.called.contents turned.table t go) given.answer_is
        ∙ ap (λ xs. by_next tree_page.next turned.called.contents turned.table (with_page t xs tree_page.reads) go) front
        ∙ ap (λ n. by_next tree_page.next turned.called.contents turned.table (with_page t tree_page.entries n) go) given.says.reads

    page_last : (t : Sum) (go : Sum → ℕ → Totalled) → high < (leaf_frame a low).high
        → after_page (told Stock turned.called.answer) turned.called.contents turned.table t go ≡ record { answer = Ok (summed t); stock = turned.called.contents; table = turned.table }
    page_last t go last = page_taken t go ∙ ap (λ o. by_next o turned.called.contents turned.table (summed t) go) (given.says.next_none last)

    page_more : (t : Sum) (go : Sum → ℕ → Totalled) → (leaf_frame a low).high ≤ high
        → after_page (told Stock turned.called.answer) turned.called.contents turned.table t go ≡ go (summed t) (leaf_frame a low).high
    page_more t go more = page_taken t go ∙ ap (λ o. by_next o turned.called.contents turned.table (summed t) go) (given.says.next_some more)

    -- the last page
    ended : (n : ℕ) (t : Sum) → entries_from Q n a low high ≡ tree_page.entries → Goes_on n c t low (record { answer = Ok (summed t); stock = turned.called.contents; table = turned.table })
    ended n t e = record {
      sum = summed t;
      answer_is = refl;
      sheets_are = ap (λ xs. t.sheets + length xs) (sym e);
      sum_is = λ base f.
          let small : base % 2 ^ 64 < 2 ^ 64 = omega arith in
          ap (λ z. signed ((word z + sum_of_words tree_page.entries) % 2 ^ 64)) f
          ∙ ap (λ n. signed ((n + sum_of_words tree_page.entries) % 2 ^ 64)) (of_z-to_z w64 (base % 2 ^ 64) small)
          ∙ ap signed (omega arith) ∙ ap (λ xs. signed ((base + sum_of_words xs) % 2 ^ 64)) (sym e);
      pages_more = 1;
      pages_are = refl;
      reads_are = omega arith;
      holds = given.holds;
      work = subst (λ n. Work c.image turned.called.contents.image n 0 0) (omega arith) given.work;
    }

    -- a page that others follow
    followed : (n k : ℕ) (t : Sum) (r : Totalled) → entries_from Q (suc n) a low high ≡ tree_page.entries ++ entries_from Q n a k high → Goes_on n turned.called.contents (summed t) k r → Goes_on (suc n) c t low r
    followed n k t r e later =
        let xs = tree_page.entries in
        let ys = entries_from Q n a k high in
        record {
          sum = later.sum;
          answer_is = later.answer_is;
          sheets_are = omega (arith, later.sheets_are, length-append xs ys, ap length e);
          sum_is = λ base f.
              let small : base % 2 ^ 64 < 2 ^ 64 = omega arith in
              let first : (summed t).sum ≡ signed ((base + sum_of_words xs) % 2 ^ 64) =
              ap (λ z. signed ((word z + sum_of_words xs) % 2 ^ 64)) f
              ∙ ap (λ n. signed ((n + sum_of_words xs) % 2 ^ 64)) (of_z-to_z w64 (base % 2 ^ 64) small) ∙ ap signed (omega arith) in
              let whole : base + sum_of_words xs + sum_of_words ys ≡ base + sum_of_words (entries_from Q (suc n) a low high) =
              omega (arith, sum_append xs ys, ap sum_of_words e) in
              later.sum_is (base + sum_of_words xs) first ∙ ap (λ n. signed (n % 2 ^ 64)) whole;
          pages_more = suc later.pages_more;
          pages_are = omega (arith, later.pages_are);
          reads_are = omega (arith, later.reads_are, add-mul 1 later.pages_more (height a));
          holds = later.holds;
          work = subst (λ m. Work c.image r.stock.image m 0 0) (omega (arith, add-mul 1 later.pages_more (height a)))
              (more_work c.image turned.called.contents.image r.stock.image (height a) (later.pages_more * height a) given.work later.work);
        }

  goes_on : (n : ℕ) (c : Contents) (table : List (Entry ℕ)) (t : Sum) (low : ℕ) → Holds Q c h → low ≤ high → high - low ≤ n → 2304 ≤ length table
      → Goes_on n c t low (total_from (suc n) c high table t low)
  goes_on zero c table t low held le few room =
      let p = given c table low held le room in
      let s = paged_store Q c c.root low high table in
      let go : Sum → ℕ → Totalled = λ t k. total_from zero s.called.contents high s.table t k in
      let last : high < (leaf_frame a low).high = omega (arith, p.says.span_upto) in
      subst (λ r. Goes_on zero c t low r) (sym (page_last c table low held le room t go last)) (ended c table low held le room zero t refl)
  goes_on (suc n) c table t low held le few room =
      let p = given c table low held le room in
      let end = (leaf_frame a low).high in
      let s = paged_store Q c c.root low high table in
      let go : Sum → ℕ → Totalled = λ t k. total_from (suc n) s.called.contents high s.table t k in
      let xs = (page Q a low high).entries in
      let rest : Option ℕ → List (Entry ℕ) = following (λ k. entries_from Q n a k high) in
      ⊎_elim
      (λ (last : high < end).
      subst (λ r. Goes_on (suc n) c t low r) (sym (page_last c table low held le room t go last))
      (ended c table low held le room (suc n) t (ap (λ o. xs ++ rest o) (p.says.next_none last) ∙ append-nil xs)))
      (λ (more : end ≤ high).
      subst (λ r. Goes_on (suc n) c t low r) (sym (page_more c table low held le room t go more))
      (followed c table low held le room n end t (go (with_page t xs (height a)) end) (ap (λ o. xs ++ rest o) (p.says.next_some more))
      (goes_on n s.called.contents s.table (with_page t xs (height a)) end p.holds more (omega (arith, p.says.span_upto)) (table_kept c table low held le room))))
      (cases_lt high end)

-- ---- what the entries say of the range
-- entries with their quantities in true numbers
abbrev meant : List (Entry ℕ) → List (Entry ℤ)
meant [] = []
meant (x ∷ xs) = record { key = x.key; value = signed x.value } ∷ meant xs

meant_length : (xs : List (Entry ℕ)) → length (meant xs) ≡ length xs
meant_length [] = refl
meant_length (x ∷ xs) = omega (arith, meant_length xs)

meant_within : (low high : ℕ) (xs : List (Entry ℕ)) → Within low high xs → Within low high (meant xs)
meant_within low high [] w = tt
meant_within low high (x ∷ xs) w = (w.0, w.1, meant_within (suc x.key) high xs w.2)

meant_find : (k : ℕ) (xs : List (Entry ℕ)) → find k (meant xs) ≡ meaning (find k xs)
meant_find k [] = refl
meant_find k (x ∷ xs) =
    elim (ltb x.key k) as (λ v. cond v (find k (meant xs)) (cond (eqb x.key k) (Some (signed x.value)) None) ≡ meaning (cond v (find k xs) (cond (eqb x.key k) (Some x.value) None))) [
      | true ↦ meant_find k xs
      | false ↦ elim (eqb x.key k) as (λ v. cond v (Some (signed x.value)) None ≡ meaning (cond v (Some x.value) None)) [ true ↦ refl | false ↦ refl ]
    ]

meant_sum : (xs : List (Entry ℕ)) → sum_of_quantities (meant xs) ≡ sum_of_numbers xs
meant_sum [] = refl
meant_sum (x ∷ xs) = ap (λ z. signed x.value +ℤ z) (meant_sum xs)

-- ---- a total
module _ (c d : Contents) (cs : List Change) (keeps : Keeps c d cs) (low high : ℕ) (key_fits : high < 2 ^ 32) (table : List (Entry ℕ)) where
  abbrev h : List (Entry Message)
  h = stock_messages cs

  abbrev called : Totalled
  called = total_from (suc high) c high table nothing low

  kept : low ≤ high → 2304 ≤ length table → TotalKept c cs low high called
  kept le room =
      let o = goes_on h high key_fits high c table nothing low keeps.stock le (omega arith) room in
      let xs = entries_from Q high (grown Q h) low high in
      let all = all_pages Q (grown Q h) (grown_tree Q h keeps.stock.keys) high low high key_fits le (omega arith) in
      let says : (k : ℕ) → low ≤ k → k ≤ high → find k xs ≡ said Q k h = λ k x y. all.1 k x y ∙ grown_says Q h keeps.stock.keys k (omega arith) in
      let range = amounts cs keeps.in_range in
      let small : 10 ^ 9 * length h < 2 ^ 63 = omega (arith, mul-le-mul_left (10 ^ 9) keeps.stock.few_updates) in
      let true_sum = exact_sum (10 ^ 9) h low (suc high) xs range small all.0 (λ k x y. says k x (omega arith)) in
      let meanings = (sum_law h keeps.stock.keys range (omega (arith, keeps.stock.few_updates))).quantities in
      let read : o.pages_more * height (grown Q h) ≡ o.sum.stock_reads = omega (arith, o.reads_are) in
      let from_zero : 0 + sum_of_words xs ≡ sum_of_words xs = omega arith in
      let pages : o.pages_more ≡ o.sum.pages = omega (arith, o.pages_are) in
      let reads : o.sum.stock_reads ≡ o.sum.pages * height (grown Q h) =
      subst (λ n. o.sum.stock_reads ≡ n * height (grown Q h)) pages (omega (arith, o.reads_are)) in
      record {
        sum = o.sum;
        answer_is = o.answer_is;
        says = record {
          held = meant xs;
          rising = meant_within low (suc high) xs all.0;
          exact = λ k x y. meant_find k xs ∙ ap meaning (says k x y) ∙ meanings k ∙ quantities k cs keeps.in_range;
          sheets_are = omega (arith, o.sheets_are, meant_length xs);
          sum_is = o.sum_is 0 refl ∙ ap (λ n. signed (n % 2 ^ 64)) from_zero ∙ true_sum ∙ sym (meant_sum xs);
        };
        reads_are = reads;
        holds = o.holds;
        work = subst (λ n. Work c.image called.stock.image n 0 0) read o.work;
      }

  refused_first : (y : StoreRefusal) → page_refusal low high (length table) ≡ Some y → TotalRefused c table y called
  refused_first y e =
      let p = page_law Q c h keeps.stock low high key_fits table in
      let r : PageRefused c table y (paged_store Q c c.root low high table) =
      subst (λ o. PageOutcome Q c h low high table (paged_store Q c c.root low high table) o) e p in
      let s = paged_store Q c c.root low high table in
      let go : Sum → ℕ → Totalled = λ t k. total_from high s.called.contents high s.table t k in
      let is : called ≡ record { answer = Err (Met Stock (store_report y)); stock = s.called.contents; table = s.table } =
      ap (λ z. after_page (told Stock z) s.called.contents s.table nothing go) r.answer_is in
      record {
        answer_is = ap (λ (z : Totalled). z.answer) is;
        stock_kept = ap (λ (z : Totalled). z.stock) is ∙ r.contents_kept;
        table_kept = ap (λ (z : Totalled). z.table) is ∙ r.table_kept;
      }

  tests : page_refusal low high (length table) ≡ None → (low ≤ high) × (2304 ≤ length table)
  tests e = (grind (arith, nat_tests), grind (arith, nat_tests))

  by_refusal : (o : Option StoreRefusal) → page_refusal low high (length table) ≡ o → TotalOutcome c cs low high table called o
  by_refusal None e = let t = tests e in kept t.0 t.1
  by_refusal (Some y) e = refused_first y e

  total_outcome : TotalOutcome c cs low high table (totalled c d low high table) (page_refusal low high (length table))
  total_outcome =
      let o = page_refusal low high (length table) in
      let runs : totalled c d low high table ≡ called =
      ap (λ o. unless_stopped (stopped_part o d.first) c table called) keeps.stock.not_stopped
      ∙ ap (λ o. unless_stopped (stopped_part None o) c table called) keeps.day.not_stopped in
      subst (λ r. TotalOutcome c cs low high table r o) (sym runs) (by_refusal o refl)

pub total_law : TotalLaw
total_law c d cs keeps low high key_fits table = total_outcome c d cs keeps low high key_fits table
