-- A total of a book: page by page through the stock store.
use Rattle.std.specs.Prelude.{ℕ, zero, suc, ◌+◌, ◌%◌, ◌^◌, List, length, take, pos, Some, None, Ok, Err, Option, Result}
use Rattle.messages.specs.Quantity.{quantity_algebra}
use Rattle.messages.specs.Words.{signed, word}
use Rattle.messages.specs.declared.entry.Entry.{Entry}
use Rattle.tree.specs.Laws.{sum_of_words}
use Rattle.store_plan.specs.Contents.{Contents}
use Rattle.store_plan.specs.Pages.{paged_store}
use Rattle.store_plan.specs.declared.page.Page.{Page}
use Rattle.calls.specs.declared.answer.Sum.{Sum}
use Rattle.calls.specs.declared.part.Part.TheVariants.{Stock}
use Rattle.calls.specs.declared.refusal.Refusal.{Refusal}
use Rattle.book_plan.specs.Told.{told, stopped_part}

abbrev pub nothing : Sum
nothing = record { sheets = 0; sum = pos 0; pages = 0; stock_reads = 0 }

-- one page more, with the entries xs, after n reads: words are added modulo 2^64 and read as signed
abbrev pub with_page : Sum → List (Entry ℕ) → ℕ → Sum
with_page t xs n = record {
  sheets = t.sheets + length xs;
  sum = signed ((word t.sum + sum_of_words xs) % 2 ^ 64);
  pages = t.pages + 1;
  stock_reads = t.stock_reads + n;
}

-- the answer, what the stock store is known by then, and the table, which has the last page
pub record Totalled : Type 0 where
  pub answer : Result Sum Refusal
  pub stock : Contents
  pub table : List (Entry ℕ)

abbrev pub by_next : Option ℕ → Contents → List (Entry ℕ) → Sum → (Sum → ℕ → Totalled) → Totalled
by_next None c table t go = record { answer = Ok t; stock = c; table = table }
by_next (Some k) c table t go = go t k

abbrev pub after_page : Result Page Refusal → Contents → List (Entry ℕ) → Sum → (Sum → ℕ → Totalled) → Totalled
after_page (Err y) c table t go = record { answer = Err y; stock = c; table = table }
after_page (Ok p) c table t go = by_next p.next c table (with_page t (take p.entries table) p.reads) go

-- a page from low on, and then from each key that a page gives. Each begins above the one before, so there are at most as many as keys
abbrev pub total_from : ℕ → Contents → ℕ → List (Entry ℕ) → Sum → ℕ → Totalled
total_from zero c high table t low = record { answer = Ok t; stock = c; table = table }
total_from (suc n) c high table t low =
    let p = paged_store quantity_algebra c c.root low high table in
    after_page (told Stock p.called.answer) p.called.contents p.table t (λ t k. total_from n p.called.contents high p.table t k)

abbrev pub unless_stopped : Option Refusal → Contents → List (Entry ℕ) → Totalled → Totalled
unless_stopped None c table go = go
unless_stopped (Some y) c table go = record { answer = Err y; stock = c; table = table }

abbrev pub totalled : Contents → Contents → ℕ → ℕ → List (Entry ℕ) → Totalled
totalled c d low high table = unless_stopped (stopped_part c.first d.first) c table (total_from (suc high) c high table nothing low)
