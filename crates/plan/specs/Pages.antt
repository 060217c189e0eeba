-- A page on blocks of any content.
use Rattle.std.specs.Prelude.{ℕ, zero, suc, ◌+◌, min, cond, List, take, Some, None, Option, nat_lt}
use Rattle.messages.specs.Algebra.{Algebra}
use Rattle.messages.specs.Lists.{below, joins, acts_in}
use Rattle.messages.specs.declared.entry.Entry.{Entry}
use Rattle.messages.specs.declared.message.Message.{Message}
use Rattle.tree.specs.Nodes.{Node}
use Rattle.tree.specs.Query.{slice}
use Rattle.plan.specs.Codes.{Code}
use Rattle.plan.specs.Images.{Image, Try, bind}
use Rattle.plan.specs.Images.Try.{done}
use Rattle.plan.specs.Queries.{place_among}
use Rattle.plan.specs.Steps.{fetch_child}

-- the first key past a page up to and with last, as far as the span of x goes
abbrev pub page_end : ℕ → Node → ℕ
page_end last x = min (suc last) x.frame.high

-- the messages of x from first on and below end, and joined to them the newer ones that were gathered above it
abbrev pub gathered : Algebra → ℕ → ℕ → Node → List (Entry Message) → List (Entry Message)
gathered K first end x newer = joins K (slice first end x.messages) (take (below end newer) newer)

-- a page's entries, the first key past the leaf's span if that is at most last, and the blocks read
pub record Paged : Type 0 where
  pub image : Image
  pub entries : List (Entry ℕ)
  pub next : Option ℕ
  pub reads : ℕ

-- at the leaf x the gathered messages act on the records
abbrev pub leaf_paged : Algebra → Image → Node → ℕ → ℕ → List (Entry Message) → ℕ → Paged
leaf_paged K d x first last newer n = record {
  image = d;
  entries = slice first (page_end last x) (acts_in K x.records newer);
  next = cond (nat_lt last x.frame.high) None (Some x.frame.high);
  reads = n;
}

-- a page from the node x of level l down to the leaf whose span holds first, with the messages gathered and the blocks read so far
abbrev pub page_from : {F : Type 0} → Code F → ℕ → Image → ℕ → Node → ℕ → ℕ → List (Entry Message) → ℕ → Try Paged
page_from C zero d next x first last newer n = done (leaf_paged C.algebra d x first last newer n)
page_from C (suc l) d next x first last newer n =
    bind (fetch_child C d next x (place_among x.frame.pivots first)) (λ g.
    page_from C l g.image next g.child first last (gathered C.algebra first (page_end last g.child) x newer) (n + 1))
