-- One page of a total, and what follows it.
use Rattle.std.proofs.Common.{◌≡◌, ℕ, suc, ◌+◌, ◌-◌, ◌%◌, ◌^◌, ◌<◌, ◌≤◌, List, length, take, ℤ, Some, None, Ok, Err, Option, Result, refl, ap, ◌∙◌, arith, length-take, w64, SFits, to_z, of_z}
use Rattle.std.specs.Option.{option_map_or}
use Rattle.std.proofs.lemmas.Int.{to_z-of_z}
use Rattle.messages.specs.Quantity.{quantity_algebra}
use Rattle.messages.specs.Words.{signed, word}
use Rattle.messages.specs.declared.entry.Entry.{Entry}
use Rattle.store_plan.specs.Contents.{Contents}
use Rattle.store_plan.specs.Pages.{PagedStore, paged_store}
use Rattle.store_plan.specs.declared.page.Page.{Page}
use Rattle.tree.specs.Laws.{sum_of_words}
use Rattle.calls.specs.declared.answer.Sum.{Sum}
use Rattle.calls.specs.declared.part.Part.TheVariants.{Stock}
use Rattle.calls.specs.declared.refusal.Refusal.{Refusal}
use Rattle.book_plan.specs.Told.{told}
use Rattle.book_plan.specs.Totals.{Totalled, nothing, with_page, by_next, after_page, total_from}

-- the sum after a page of n entries in the table, as the code makes it
pub summed : (t : Sum) (table : List (Entry ℕ)) (n reads from : ℕ) (r : ℤ) → n ≤ length table → SFits w64 t.sum → SFits w64 r
    → r ≡ signed ((word (to_z w64 (of_z w64 t.sum)) + sum_of_words (take n table)) % 2 ^ 64) → from ≡ reads
    → record { sheets = t.sheets + n; sum = to_z w64 (of_z w64 r); pages = t.pages + 1; stock_reads = t.stock_reads + from } ≡ with_page t (take n table) reads
summed t table n reads from r inside fits small is same =
    let count : t.sheets + n ≡ t.sheets + length (take n table) = omega (arith, length-take n table) in
    let sum : to_z w64 (of_z w64 r) ≡ signed ((word t.sum + sum_of_words (take n table)) % 2 ^ 64) =
    to_z-of_z w64 r small ∙ is ∙ ap (λ z. signed ((word z + sum_of_words (take n table)) % 2 ^ 64)) (to_z-of_z w64 t.sum fits) in
    λ i. record { sheets = count i; sum = sum i; pages = t.pages + 1; stock_reads = t.stock_reads + same i }

-- what the pages come to that are still to be read, after the sum t: from the key that is next, if there is one
abbrev pub rest_of : Option ℕ → Contents → ℕ → List (Entry ℕ) → Sum → Totalled
rest_of next c high table t = by_next next c table t (λ s k. total_from (suc high - t.pages) c high table s k)

-- before the first page
pub no_pages : (high : ℕ) (c : Contents) (table : List (Entry ℕ)) (low : ℕ) → rest_of (Some low) c high table nothing ≡ total_from (suc high) c high table nothing low
no_pages high c table low = let all : suc high - 0 ≡ suc high = omega arith in ap (λ n. total_from n c high table nothing low) all

-- the keys from the next one up to high, and one more
abbrev pub left_of : ℕ → Option ℕ → ℕ
left_of high next = option_map_or (λ k. suc (high - k)) next 0

pub fewer_left : (high first : ℕ) (next : Option ℕ) → ((k : ℕ) → next ≡ Some k → (first < k) × (k ≤ high)) → left_of high next < left_of high (Some first)
fewer_left high first None onward = omega arith
fewer_left high first (Some k) onward = omega (arith, onward k refl)

-- one page, from the key first
module _ (high : ℕ) (c : Contents) (table : List (Entry ℕ)) (t : Sum) (first : ℕ) (few : t.pages ≤ high) where
  abbrev turned : PagedStore
  turned = paged_store quantity_algebra c c.root first high table

  abbrev go : Sum → ℕ → Totalled
  go s k = total_from (high - t.pages) turned.called.contents high turned.table s k

  turn : (r : Result Page Refusal) → r ≡ told Stock turned.called.answer
      → after_page r turned.called.contents turned.table t go ≡ rest_of (Some first) c high table t
  turn r e =
      let left : suc (high - t.pages) ≡ suc high - t.pages = omega arith in
      ap (λ x. after_page x turned.called.contents turned.table t go) e ∙ ap (λ n. total_from n c high table t first) left

  pub refused_page : (y : Refusal) → Err y ≡ told Stock turned.called.answer
      → record { answer = Err y; stock = turned.called.contents; table = turned.table } ≡ rest_of (Some first) c high table t
  refused_page y e = turn (Err y) e

  pub one_page : (p : Page) → Ok p ≡ told Stock turned.called.answer
      → rest_of p.next turned.called.contents high turned.table (with_page t (take p.entries turned.table) p.reads) ≡ rest_of (Some first) c high table t
  one_page p e =
      let left : suc high - (t.pages + 1) ≡ high - t.pages = omega arith in
      let s = with_page t (take p.entries turned.table) p.reads in
      ap (λ n. by_next p.next turned.called.contents turned.table s (λ u k. total_from n turned.called.contents high turned.table u k)) left ∙ turn (Ok p) e
