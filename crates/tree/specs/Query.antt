-- Queries, pages and totals.
use Rattle.std.specs.Prelude.{ℕ, zero, suc, ◌+◌, ◌-◌, cond, List, [], ◌∷◌, ◌++◌, length, take, drop, Some, None, Option, nat_lt}
use Rattle.messages.specs.Algebra.{Algebra}
use Rattle.messages.specs.Lists.{find, acts_in, below}
use Rattle.messages.specs.Messages.{effect}
use Rattle.messages.specs.declared.entry.Entry.{Entry}
use Rattle.messages.specs.declared.message.Message.{Message}
use Rattle.messages.specs.declared.message.Message.TheVariants.{Put, Remove, Add}
use Rattle.tree.specs.Nodes.{Frame, Node, node, child, height}

-- ---- a query
-- a delta that was met on the way down, if any, acts on what a key holds
abbrev pub acted : Algebra → Option ℕ → Option ℕ → Option ℕ
acted K None o = o
acted K (Some d) o = effect K (Add d) o

-- an older delta joined with the newer ones met before it
abbrev pub joined_before : Algebra → ℕ → Option ℕ → ℕ
joined_before K e None = e
joined_before K e (Some d) = K.join e d

-- what a key holds, and how many blocks were read
abbrev pub Answer : Type 0
Answer = record { value : Option ℕ; reads : ℕ }

-- a put or a remove ends the query, a delta and no message let it go on
abbrev pub settle : Algebra → Option ℕ → Option Message → (Option ℕ → Answer) → Answer
settle K met None go = go met
settle K met (Some (Put v)) go = record { value = acted K met (Some v); reads = 0 }
settle K met (Some Remove) go = record { value = acted K met None; reads = 0 }
settle K met (Some (Add e)) go = go (Some (joined_before K e met))

-- a query from a block of level l down, with the deltas met so far
abbrev pub ask : Algebra → ℕ → List Node → ℕ → ℕ → Option ℕ → Answer
ask K zero a b k met = record { value = acted K met (find k (node a b).records); reads = 0 }
ask K (suc l) a b k met =
    settle K met (find k (node a b).messages)
    (λ met. let r = ask K l a (child (node a b).frame k) k met in record { value = r.value; reads = r.reads + 1 })

abbrev pub query : Algebra → List Node → ℕ → Answer
query K a k = ask K (height a) a 0 k None

-- the messages for a key on its way from a block of level l down, if a node has one
abbrev pub messages_met : ℕ → List Node → ℕ → ℕ → List (Option Message)
messages_met zero a b k = []
messages_met (suc l) a b k = find k (node a b).messages ∷ messages_met l a (child (node a b).frame k) k

-- how many come before the first put or remove
abbrev pub unsettled : List (Option Message) → ℕ
unsettled [] = 0
unsettled (None ∷ ms) = suc (unsettled ms)
unsettled (Some (Put v) ∷ ms) = 0
unsettled (Some Remove ∷ ms) = 0
unsettled (Some (Add d) ∷ ms) = suc (unsettled ms)

-- ---- a page
-- the entries with keys from low on and below high, where keys rise
abbrev pub slice : {V : Type 0} → ℕ → ℕ → List (Entry V) → List (Entry V)
slice low high xs = take (below high (drop (below low xs) xs)) (drop (below low xs) xs)

-- the blocks read from a block of level l down to the leaf whose span holds k, and that leaf
abbrev pub path : ℕ → List Node → ℕ → ℕ → List ℕ
path zero a b k = []
path (suc l) a b k = child (node a b).frame k ∷ path l a (child (node a b).frame k) k

abbrev pub leaf_of : ℕ → List Node → ℕ → ℕ → ℕ
leaf_of zero a b k = b
leaf_of (suc l) a b k = leaf_of l a (child (node a b).frame k) k

abbrev pub leaf_frame : List Node → ℕ → Frame
leaf_frame a k = (node a (leaf_of (height a) a 0 k)).frame

-- the records of the leaf on the way of k, and on them the messages for its span from low to high on the way, the lowest first
abbrev pub leaf_page : Algebra → ℕ → List Node → ℕ → ℕ → ℕ → ℕ → List (Entry ℕ)
leaf_page K zero a b k low high = (node a b).records
leaf_page K (suc l) a b k low high =
    acts_in K (leaf_page K l a (child (node a b).frame k) k low high) (slice low high (node a b).messages)

abbrev pub whole_page : Algebra → List Node → ℕ → List (Entry ℕ)
whole_page K a k = leaf_page K (height a) a 0 k (leaf_frame a k).low (leaf_frame a k).high

-- a page from first up to and with last: its entries, the first key past the leaf's span if that is at most last, and the blocks read
pub record Page : Type 0 where
  pub entries : List (Entry ℕ)
  pub next : Option ℕ
  pub reads : ℕ

abbrev pub page : Algebra → List Node → ℕ → ℕ → Page
page K a first last = record {
  entries = slice first (suc last) (whole_page K a first);
  next = cond (nat_lt last (leaf_frame a first).high) None (Some (leaf_frame a first).high);
  reads = length (path (height a) a 0 first);
}

-- ---- a total
-- what follows a page, if it gives a key to go on from
abbrev pub following : (ℕ → List (Entry ℕ)) → Option ℕ → List (Entry ℕ)
following go None = []
following go (Some k) = go k

-- the entries from first up to and with last, page by page, each from the key that the page before gives. At most n pages follow the first
abbrev pub entries_from : Algebra → ℕ → List Node → ℕ → ℕ → List (Entry ℕ)
entries_from K zero a first last = (page K a first last).entries
entries_from K (suc n) a first last = (page K a first last).entries ++ following (λ k. entries_from K n a k last) (page K a first last).next

-- each page begins above the one before, so last - first more pages are enough
abbrev pub entries : Algebra → List Node → ℕ → ℕ → List (Entry ℕ)
entries K a first last = entries_from K (last - first) a first last
