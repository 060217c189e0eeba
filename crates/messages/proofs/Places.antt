-- The place of a key in any list, and what the list functions do there.
use Rattle.std.proofs.Common.{◌≡◌, ℕ, suc, ◌+◌, ◌<◌, ◌≤◌, true, false, cond, eqb, ltb, List, [], ◌∷◌, ◌++◌, length, get_or, take, drop, set, Some, None, Option, sym, refl, ap, ◌∙◌, ⊎_elim, arith}
use Rattle.std.proofs.lemmas.List.{at_drop_more, at_drop_all, set_split, take-append-drop}
use Rattle.std.proofs.lemmas.Bool.{cases_lt, le-ltb}
use Rattle.std.proofs.lemmas.Bool.Decides.{nat_tests}
use Rattle.std.specs.List.{insert, remove}
use Rattle.messages.specs.Algebra.{Algebra}
use Rattle.messages.specs.Messages.{effect, fold}
use Rattle.messages.specs.Lists.{Within, entry, below, find, join_in, act_in, put_first}
use Rattle.messages.specs.Places.{first_value, value_at}
use Rattle.messages.specs.declared.entry.Entry.{Entry}
use Rattle.messages.specs.declared.message.Message.{Message}

pub below_length : {V : Type 0} (k : ℕ) (xs : List (Entry V)) → below k xs ≤ length xs
below_length k [] = omega arith
below_length k (x ∷ xs) = let h = below_length k xs in grind (arith, nat_tests)

-- no entry stands below the first key
pub below_none : {V : Type 0} (k from upto : ℕ) (xs : List (Entry V)) → Within from upto xs → k ≤ from → below k xs ≡ 0
below_none k from upto [] w h = refl
below_none k from upto (x ∷ xs) w h = rw (le-ltb x.key k (omega (arith, w.0))) refl

-- one step of a scan from the front
pub below_next : {V : Type 0} (k : ℕ) (xs : List (Entry V)) (i : ℕ) (x : Entry V) → i < length xs → x ≡ get_or xs i x
    → below k (drop i xs) ≡ cond (ltb x.key k) (suc (below k (drop (i + 1) xs))) 0
below_next k xs i x h e = at_drop_more (below k) xs i x h ∙ ap (λ (y : Entry _). cond (ltb y.key k) (suc (below k (drop (i + 1) xs))) 0) (sym e)

-- the value at a place within the list and past its end
pub value_within : {V : Type 0} (i k : ℕ) (xs : List (Entry V)) (x : Entry V) → i < length xs → x ≡ get_or xs i x
    → value_at i k xs ≡ cond (eqb x.key k) (Some x.value) None
value_within i k xs x h e = at_drop_more (first_value k) xs i x h ∙ ap (λ (y : Entry _). cond (eqb y.key k) (Some y.value) None) (sym e)

pub value_past : {V : Type 0} (i k : ℕ) (xs : List (Entry V)) → length xs ≤ i → value_at i k xs ≡ None
value_past i k xs h = at_drop_all (first_value k) xs i h

pub value_some : {V : Type 0} (i k : ℕ) (xs : List (Entry V)) (v : V) → value_at i k xs ≡ Some v → i < length xs
value_some i k xs v e = ⊎_elim (λ h. h) (λ h. absurd (none_some v (sym (value_past i k xs h) ∙ e))) (cases_lt i (length xs))
  where
    none_some : {V : Type 0} (v : V) → None ≡ Some v → ⊥
    none_some v e = grind (arith, nat_tests)

-- what stands for a key stands at its place
pub find_at : {V : Type 0} (k : ℕ) (xs : List (Entry V)) → value_at (below k xs) k xs ≡ find k xs
find_at k [] = refl
find_at k (x ∷ xs) =
    elim (ltb x.key k) as (λ b. value_at (cond b (suc (below k xs)) 0) k (x ∷ xs) ≡ cond b (find k xs) (first_value k (x ∷ xs)))
    [ true ↦ find_at k xs | false ↦ refl ]

-- a message joins at its place: where one is held, and where none is
pub join_held : (K : Algebra) (k : ℕ) (m v : Message) (xs : List (Entry Message)) → value_at (below k xs) k xs ≡ Some v
    → set xs (below k xs) (entry k (fold K v m)) ≡ join_in K k m xs
join_held K k m v [] = λ h. grind (arith, nat_tests)
join_held K k m v (x ∷ xs) =
    elim (ltb x.key k)
    as (λ b. value_at (cond b (suc (below k xs)) 0) k (x ∷ xs) ≡ Some v → set (x ∷ xs) (cond b (suc (below k xs)) 0) (entry k (fold K v m))
    ≡ cond b (x ∷ join_in K k m xs) (cond (eqb x.key k) (entry k (fold K x.value m) ∷ xs) (entry k m ∷ x ∷ xs)))
    [ true ↦ λ h. ap (λ l. x ∷ l) (join_held K k m v xs h) | false ↦ λ h. grind (arith, nat_tests) ]

pub join_new : (K : Algebra) (k : ℕ) (m : Message) (xs : List (Entry Message)) → value_at (below k xs) k xs ≡ None
    → insert xs (below k xs) (entry k m) ≡ join_in K k m xs
join_new K k m [] = λ h. refl
join_new K k m (x ∷ xs) =
    elim (ltb x.key k)
    as (λ b. value_at (cond b (suc (below k xs)) 0) k (x ∷ xs) ≡ None → insert (x ∷ xs) (cond b (suc (below k xs)) 0) (entry k m)
    ≡ cond b (x ∷ join_in K k m xs) (cond (eqb x.key k) (entry k (fold K x.value m) ∷ xs) (entry k m ∷ x ∷ xs)))
    [ true ↦ λ h. ap (λ l. x ∷ l) (join_new K k m xs h) | false ↦ λ h. grind (arith, nat_tests) ]

-- a message acts at its place: where a record is held, and where none is
pub act_held : (K : Algebra) (k v : ℕ) (m : Message) (xs : List (Entry ℕ)) → value_at (below k xs) k xs ≡ Some v
    → take (below k xs) xs ++ put_first k (effect K m (Some v)) (drop (suc (below k xs)) xs) ≡ act_in K k m xs
act_held K k v m [] = λ h. grind (arith, nat_tests)
act_held K k v m (x ∷ xs) =
    elim (ltb x.key k)
    as (λ b. value_at (cond b (suc (below k xs)) 0) k (x ∷ xs) ≡ Some v
    → take (cond b (suc (below k xs)) 0) (x ∷ xs) ++ put_first k (effect K m (Some v)) (drop (suc (cond b (suc (below k xs)) 0)) (x ∷ xs))
    ≡ cond b (x ∷ act_in K k m xs) (cond (eqb x.key k) (put_first k (effect K m (Some x.value)) xs) (put_first k (effect K m None) (x ∷ xs))))
    [ true ↦ λ h. ap (λ l. x ∷ l) (act_held K k v m xs h) | false ↦ λ h. grind (arith, nat_tests) ]

pub act_new : (K : Algebra) (k : ℕ) (m : Message) (xs : List (Entry ℕ)) → value_at (below k xs) k xs ≡ None
    → take (below k xs) xs ++ put_first k (effect K m None) (drop (below k xs) xs) ≡ act_in K k m xs
act_new K k m [] = λ h. refl
act_new K k m (x ∷ xs) =
    elim (ltb x.key k)
    as (λ b. value_at (cond b (suc (below k xs)) 0) k (x ∷ xs) ≡ None
    → take (cond b (suc (below k xs)) 0) (x ∷ xs) ++ put_first k (effect K m None) (drop (cond b (suc (below k xs)) 0) (x ∷ xs))
    ≡ cond b (x ∷ act_in K k m xs) (cond (eqb x.key k) (put_first k (effect K m (Some x.value)) xs) (put_first k (effect K m None) (x ∷ xs))))
    [ true ↦ λ h. ap (λ l. x ∷ l) (act_new K k m xs h) | false ↦ λ h. grind (arith, nat_tests) ]

-- the place that a call found, and the value there, as facts of one list
pub at_place : {V : Type 0} (i at k : ℕ) (xs ys qs : List (Entry V)) (o : Option V) → i ≡ below at xs → at ≡ k → xs ≡ qs → o ≡ value_at i k ys → ys ≡ qs
    → (i ≡ below k qs) × (value_at (below k qs) k qs ≡ o)
at_place i at k xs ys qs o e f g h j = (cc, cc)

pub joined_held : (K : Algebra) (k i : ℕ) (m v r : Message) (qs : List (Entry Message)) (o : Option Message) → (i ≡ below k qs) × (value_at (below k qs) k qs ≡ o) → o ≡ Some v
    → r ≡ fold K v m → set qs i (entry k r) ≡ join_in K k m qs
joined_held K k i m v r qs o p e f = rw (p.0, f) (join_held K k m v qs (p.1 ∙ e))

pub joined_new : (K : Algebra) (k i : ℕ) (m : Message) (qs : List (Entry Message)) (o : Option Message) → (i ≡ below k qs) × (value_at (below k qs) k qs ≡ o) → o ≡ None
    → insert qs i (entry k m) ≡ join_in K k m qs
joined_new K k i m qs o p e = rw p.0 (join_new K k m qs (p.1 ∙ e))

module _ (K : Algebra) (k i : ℕ) (m : Message) (qs : List (Entry ℕ)) (o r : Option ℕ) (p : (i ≡ below k qs) × (value_at (below k qs) k qs ≡ o)) (f : r ≡ effect K m o) where
  on_held : (v : ℕ) → o ≡ Some v → take i qs ++ put_first k r (drop (suc i) qs) ≡ act_in K k m qs
  on_held v e = rw (p.0, f, e) (act_held K k v m qs (p.1 ∙ e))

  on_none : o ≡ None → take i qs ++ put_first k r (drop i qs) ≡ act_in K k m qs
  on_none e = rw (p.0, f, e) (act_new K k m qs (p.1 ∙ e))

  pub acted_replaced : (v w : ℕ) → o ≡ Some v → r ≡ Some w → set qs i (entry k w) ≡ act_in K k m qs
  acted_replaced v w e g = set_split qs i (entry k w) (rw p.0 (value_some (below k qs) k qs v (p.1 ∙ e))) ∙ ap (λ s. take i qs ++ put_first k s (drop (suc i) qs)) (sym g) ∙ on_held v e

  pub acted_removed : (v : ℕ) → o ≡ Some v → r ≡ None → remove qs i ≡ act_in K k m qs
  acted_removed v e g = ap (λ s. take i qs ++ put_first k s (drop (suc i) qs)) (sym g) ∙ on_held v e

  pub acted_inserted : (w : ℕ) → o ≡ None → r ≡ Some w → insert qs i (entry k w) ≡ act_in K k m qs
  acted_inserted w e g = ap (λ s. take i qs ++ put_first k s (drop i qs)) (sym g) ∙ on_none e

  pub acted_nothing : o ≡ None → r ≡ None → qs ≡ act_in K k m qs
  acted_nothing e g = sym (take-append-drop i qs) ∙ ap (λ s. take i qs ++ put_first k s (drop i qs)) (sym g) ∙ on_none e
