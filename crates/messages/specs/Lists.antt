-- Lists of entries by rising key: the messages of an inner node, the records of a leaf.
use Rattle.std.specs.Prelude.{ℕ, suc, ◌+◌, ◌-◌, ◌<◌, ◌≤◌, min, cond, List, [], ◌∷◌, ◌++◌, take, drop, Some, None, Option, ◌==◌, nat_lt}
use Rattle.messages.specs.Algebra.{Algebra}
use Rattle.messages.specs.Messages.{effect, fold}
use Rattle.messages.specs.declared.entry.Entry.{Entry}
use Rattle.messages.specs.declared.message.Message.{Message}

abbrev pub entry : {V : Type 0} → ℕ → V → Entry V
entry k v = record { key = k; value = v }

-- keys rise strictly, from low on and below high
abbrev pub Within : {V : Type 0} → ℕ → ℕ → List (Entry V) → Type 0
Within low high [] = Unit {0}
Within low high (x ∷ xs) = (low ≤ x.key) × (x.key < high) × Within (suc x.key) high xs

-- how many entries at the front have a key below k
abbrev pub below : {V : Type 0} → ℕ → List (Entry V) → ℕ
below k [] = 0
below k (x ∷ xs) = cond (nat_lt x.key k) (suc (below k xs)) 0

-- what stands for a key, in a list whose keys rise
abbrev pub find : {V : Type 0} → ℕ → List (Entry V) → Option V
find k [] = None
find k (x ∷ xs) = cond (nat_lt x.key k) (find k xs) (cond (x.key == k) (Some x.value) None)

-- a message joins a node's messages: it folds into the one held on its key, or comes in before the first larger key
abbrev pub join_in : Algebra → ℕ → Message → List (Entry Message) → List (Entry Message)
join_in K k m [] = entry k m ∷ []
join_in K k m (x ∷ xs) =
    cond (nat_lt x.key k) (x ∷ join_in K k m xs) (cond (x.key == k) (entry k (fold K x.value m) ∷ xs) (entry k m ∷ x ∷ xs))

-- messages join a node's messages, one after another
abbrev pub joins : Algebra → List (Entry Message) → List (Entry Message) → List (Entry Message)
joins K xs [] = xs
joins K xs (b ∷ bs) = joins K (join_in K b.key b.value xs) bs

-- a key's record, if it has one, ahead of the others
abbrev pub put_first : ℕ → Option ℕ → List (Entry ℕ) → List (Entry ℕ)
put_first k None xs = xs
put_first k (Some v) xs = entry k v ∷ xs

-- a message acts on a leaf's records
abbrev pub act_in : Algebra → ℕ → Message → List (Entry ℕ) → List (Entry ℕ)
act_in K k m [] = put_first k (effect K m None) []
act_in K k m (x ∷ xs) =
    cond (nat_lt x.key k) (x ∷ act_in K k m xs)
    (cond (x.key == k) (put_first k (effect K m (Some x.value)) xs) (put_first k (effect K m None) (x ∷ xs)))

-- messages act on a leaf's records, one after another
abbrev pub acts_in : Algebra → List (Entry ℕ) → List (Entry Message) → List (Entry ℕ)
acts_in K xs [] = xs
acts_in K xs (b ∷ bs) = acts_in K (act_in K b.key b.value xs) bs

-- how many messages have a key from low on and below high, where keys rise
abbrev pub pending : ℕ → ℕ → List (Entry Message) → ℕ
pending low high xs = below high xs - below low xs

-- how many messages move at once, at most
abbrev pub most_moving : ℕ
most_moving = 16

-- how many of those pending leave
abbrev pub batch_size : ℕ → ℕ → List (Entry Message) → ℕ
batch_size low high xs = min most_moving (pending low high xs)

-- the messages that leave, those of smallest key from low on and below high
abbrev pub batch : ℕ → ℕ → List (Entry Message) → List (Entry Message)
batch low high xs = take (batch_size low high xs) (drop (below low xs) xs)

-- the messages that stay
abbrev pub rest : ℕ → ℕ → List (Entry Message) → List (Entry Message)
rest low high xs = take (below low xs) xs ++ drop (below low xs + batch_size low high xs) xs
