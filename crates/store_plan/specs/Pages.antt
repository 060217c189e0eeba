-- A page of a store: when it is refused, what it answers, and what the lent table then has.
use Rattle.std.specs.Prelude.{◌≡◌, ℕ, ◌-◌, ◌<◌, ◌≤◌, cond, List, [], ◌++◌, length, replicate, Some, None, Option, nat_lt}
use Rattle.messages.specs.Algebra.{Algebra}
use Rattle.messages.specs.declared.entry.Entry.{Entry}
use Rattle.node_ops.specs.CodeOf.{code_of}
use Rattle.nodes.specs.Roots.{Root}
use Rattle.plan.specs.Images.{Try}
use Rattle.plan.specs.Images.Try.{done, stop}
use Rattle.plan.specs.Pages.{Paged, page_from}
use Rattle.store_plan.specs.Contents.{Contents, Called}
use Rattle.store_plan.specs.Contents.Answer.{accepted, refused, was_stopped}
use Rattle.store_plan.specs.Queries.{with_image}
use Rattle.plan.specs.Reports.{store_report}
use Rattle.store_plan.specs.declared.page.Page.{Page}
use Rattle.plan.specs.declared.refusal.StoreRefusal.{StoreRefusal}
use Rattle.plan.specs.declared.refusal.StoreRefusal.TheVariants.{EmptyRange, ShortPage}

-- the entries of any page: 256 records of a leaf, and 256 messages of each of the 8 levels above it
abbrev pub table_length : ℕ
table_length = 2304

abbrev pub no_entry : Entry ℕ
no_entry = record { key = 0; value = 0 }

-- a page's entries in a table of n, and zeros after them
abbrev pub filled : ℕ → List (Entry ℕ) → List (Entry ℕ)
filled n xs = xs ++ replicate (n - length xs) no_entry

-- what the call answers, what the store is known by then, and the table
pub record PagedStore : Type 0 where
  pub called : Called Page
  pub table : List (Entry ℕ)

-- a page goes on at a key past low and up to high, if it goes on
abbrev pub GoesOn : ℕ → ℕ → Page → Type 0
GoesOn low high p = (k : ℕ) → p.next ≡ Some k → (low < k) × (k ≤ high)

-- the refusal of a page in a table of n, the first that holds
abbrev pub page_refusal : ℕ → ℕ → ℕ → Option StoreRefusal
page_refusal low high n = cond (nat_lt high low) (Some EmptyRange) (cond (nat_lt n table_length) (Some ShortPage) None)

-- a fault in reading leaves the store open and the table zero
abbrev pub turned : Contents → ℕ → Try Paged → PagedStore
turned c n (done p) = record {
  called = record { answer = accepted (record { entries = length p.entries; reads = p.reads; next = p.next }); contents = with_image c p.image };
  table = filled n p.entries;
}
turned c n (stop d y) = record { called = record { answer = refused y; contents = with_image c d }; table = filled n [] }

abbrev pub unless_page_refused : Contents → List (Entry ℕ) → Option StoreRefusal → PagedStore → PagedStore
unless_page_refused c table None p = p
unless_page_refused c table (Some r) p = record { called = record { answer = refused (store_report r); contents = c }; table = table }

abbrev pub paged_store : Algebra → Contents → Option Root → ℕ → ℕ → List (Entry ℕ) → PagedStore
paged_store K c None low high table = record { called = record { answer = was_stopped c.first; contents = c }; table = table }
paged_store K c (Some r) low high table =
    unless_page_refused c table (page_refusal low high (length table))
    (turned c (length table) (page_from (code_of K) r.node.frame.level c.image r.next_free r.node low high [] 0))
