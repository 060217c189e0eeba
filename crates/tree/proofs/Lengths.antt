-- Lengths of lists, and the child with most pending messages.
use Rattle.std.proofs.Common.{◌≡◌, ℕ, zero, suc, ◌+◌, ◌*◌, ◌<◌, ◌≤◌, Bool, true, false, cond, eqb, List, [], ◌∷◌, length, get_or, Some, None, Option, refl, ap, mul-le-mul_right, arith, length-append, length-drop, length-set, length-take}
use Rattle.std.proofs.lemmas.Bool.Decides.{nat_tests}
use Rattle.std.proofs.lemmas.Bool.{lt-ltb}
use Rattle.messages.specs.Algebra.{Algebra}
use Rattle.messages.specs.Lists.{Within, act_in, acts_in, batch, below, join_in, joins, put_first, rest}
use Rattle.messages.specs.Messages.{effect}
use Rattle.messages.proofs.Places.{below_length, below_none}
use Rattle.messages.specs.declared.entry.Entry.{Entry}
use Rattle.messages.specs.declared.message.Message.{Message}
use Rattle.tree.proofs.Lists.{size_full}
use Rattle.tree.specs.Limits.{most_children}
use Rattle.tree.specs.Nodes.{Node, node}
use Rattle.tree.specs.Operations.{cut_root, split_child}
use Rattle.tree.specs.Shape.{Children}
use Rattle.tree.specs.Update.{after_step, busiest_child, busiest_place, is_full, largest, pending_counts, pending_for, raised}

pub length_join : (K : Algebra) (k : ℕ) (m : Message) (xs : List (Entry Message)) → (length xs ≤ length (join_in K k m xs)) × (length (join_in K k m xs) ≤ length xs + 1)
length_join K k m [] = omega arith
length_join K k m (x ∷ xs) = let h = length_join K k m xs in (grind (arith, nat_tests), grind (arith, nat_tests))

pub length_joins : (K : Algebra) (xs bs : List (Entry Message)) → length (joins K xs bs) ≤ length xs + length bs
length_joins K xs [] = omega arith
length_joins K xs (b ∷ bs) = let h = length_joins K (join_in K b.key b.value xs) bs in omega (arith, length_join K b.key b.value xs)

length_place : (k : ℕ) (o : Option ℕ) (xs : List (Entry ℕ)) → length (put_first k o xs) ≤ length xs + 1
length_place k None xs = omega arith
length_place k (Some v) xs = omega arith

pub length_act : (K : Algebra) (k : ℕ) (m : Message) (xs : List (Entry ℕ)) → length (act_in K k m xs) ≤ length xs + 1
length_act K k m [] = length_place k (effect K m None) []
length_act K k m (x ∷ xs) =
    let h = length_act K k m xs in
    let p = length_place k (effect K m None) (x ∷ xs) in
    let q = length_place k (effect K m (Some x.value)) xs in
    grind (arith, nat_tests)

pub length_acts : (K : Algebra) (xs : List (Entry ℕ)) (bs : List (Entry Message)) → length (acts_in K xs bs) ≤ length xs + length bs
length_acts K xs [] = omega arith
length_acts K xs (b ∷ bs) = let h = length_acts K (act_in K b.key b.value xs) bs in omega (arith, length_act K b.key b.value xs)

pub below_mono : {V : Type 0} (q r : ℕ) (xs : List (Entry V)) → q ≤ r → below q xs ≤ below r xs
below_mono q r [] h = omega arith
below_mono q r (x ∷ xs) h = let e = below_mono q r xs h in grind (arith, nat_tests)

pub below_all : {V : Type 0} (low high : ℕ) (xs : List (Entry V)) → Within low high xs → below high xs ≡ length xs
below_all low high [] w = refl
below_all low high (x ∷ xs) w = let e = below_all (suc x.key) high xs w.2 in rw (lt-ltb x.key high w.1) (ap suc e)

-- a full batch, and what stays
pub length_rest : (q r : ℕ) (xs : List (Entry Message)) → below q xs + 16 ≤ below r xs → length (rest q r xs) + 16 ≡ length xs
length_rest q r xs h = let e = below_length r xs in simp (length-append, length-take, length-drop) (omega (arith, size_full q r xs h))

pub length_batch : (q r : ℕ) (xs : List (Entry Message)) → below q xs + 16 ≤ below r xs → length (batch q r xs) ≡ 16
length_batch q r xs h = let e = below_length r xs in simp (length-take, length-drop) (omega (arith, size_full q r xs h))

-- ---- the child with most pending
pub largest_is : (xs : List ℕ) (j : ℕ) → j < length xs → get_or xs j 0 ≤ get_or xs (largest xs) 0
largest_is [] j h = absurd (omega arith)
largest_is (x ∷ xs) zero h = grind (arith, nat_tests)
largest_is (x ∷ xs) (suc j) h = let e = largest_is xs j (omega arith) in grind (arith, nat_tests)

pub largest_in : (xs : List ℕ) → 0 < length xs → largest xs < length xs
largest_in [] h = absurd (omega arith)
largest_in (x ∷ []) h = grind (arith, nat_tests)
largest_in (x ∷ y ∷ xs) h = let e = largest_in (y ∷ xs) (omega arith) in grind (arith, nat_tests)

pub length_counts : (a : List Node) (xs : List (Entry Message)) (cs : List ℕ) → length (pending_counts a xs cs) ≡ length cs
length_counts a xs [] = refl
length_counts a xs (c ∷ cs) = ap suc (length_counts a xs cs)

pub getD_counts : (a : List Node) (xs : List (Entry Message)) (cs : List ℕ) (j : ℕ) → j < length cs → get_or (pending_counts a xs cs) j 0 ≡ pending_for a xs (get_or cs j 0)
getD_counts a xs [] j h = absurd (omega arith)
getD_counts a xs (c ∷ cs) zero h = refl
getD_counts a xs (c ∷ cs) (suc j) h = getD_counts a xs cs j (omega arith)

-- all messages are pending for some child
pub spread : (a : List Node) (l low high m : ℕ) (cs ps : List ℕ) (xs : List (Entry Message)) → Children a l low high cs ps
    → ((j : ℕ) → j < length cs → get_or (pending_counts a xs cs) j 0 ≤ m) → below high xs ≤ below low xs + length cs * m
spread a l low high m [] ps xs h f = absurd h
spread a l low high m (c ∷ []) [] xs h f =
    omega (arith, f 0 (omega arith), ap (λ q. below q xs) h.from, ap (λ q. below q xs) h.upto)
spread a l low high m (c ∷ d ∷ cs) [] xs h f = absurd h
spread a l low high m (c ∷ cs) (r ∷ ps) xs h f =
    let e = spread a l r high m cs ps xs h.1 (λ j g. f (suc j) (omega arith)) in
    omega (arith, f 0 (omega arith), ap (λ q. below q xs) h.0.from, ap (λ q. below q xs) h.0.upto)

-- the most loaded of at most 7 children of a node with more than 256 messages has at least 37
pub crowded : (a : List Node) (l low high : ℕ) (cs ps : List ℕ) (xs : List (Entry Message)) → Children a l low high cs ps → Within low high xs → length cs ≤ 7 → 256 < length xs
    → (largest (pending_counts a xs cs) < length cs) × (37 ≤ pending_for a xs (get_or cs (largest (pending_counts a xs cs)) 0))
crowded a l low high cs ps xs h w n g =
    let nonempty : 0 < length cs = children_any a l low high cs ps h in
    let inside : largest (pending_counts a xs cs) < length cs = omega (arith, largest_in (pending_counts a xs cs) (omega (arith, length_counts a xs cs)), length_counts a xs cs) in
    let m = pending_for a xs (get_or cs (largest (pending_counts a xs cs)) 0) in
    let s = spread a l low high m cs ps xs h
    (λ j g. omega (arith, largest_is (pending_counts a xs cs) j (omega (arith, length_counts a xs cs)), getD_counts a xs cs (largest (pending_counts a xs cs)) inside)) in
    let p = mul-le-mul_right m n in
    (inside, omega (arith, below_all low high xs w, below_none low low high xs w (omega arith)))
  where
    children_any : (a : List Node) (l low high : ℕ) (cs ps : List ℕ) → Children a l low high cs ps → 0 < length cs
    children_any a l low high [] ps h = absurd h
    children_any a l low high (c ∷ cs) ps h = omega arith

pub children_length : (a : List Node) (l low high : ℕ) (cs ps : List ℕ) → Children a l low high cs ps → length cs ≡ suc (length ps)
children_length a l low high [] ps h = absurd h
children_length a l low high (c ∷ []) [] h = refl
children_length a l low high (c ∷ d ∷ cs) [] h = absurd h
children_length a l low high (c ∷ cs) (r ∷ ps) h = ap suc (children_length a l r high cs ps h.1)

-- ---- the number of blocks
pub cases_bool : (t : Bool) (P : Bool → Type 0) → P true → P false → P t
cases_bool true P yes' no' = yes'
cases_bool false P yes' no' = no'

pub length_step : (K : Algebra) (a : List Node) (p : ℕ) → length (after_step K a p) ≡ length a + cond (is_full (node a (busiest_child a p))) 1 0
length_step K a p = simp length-set (cases_bool (is_full (node a (busiest_child a p)))
    (λ t. length (cond t (split_child a p (busiest_place a p) (busiest_child a p)) a) ≡ length a + cond t 1 0)
    (simp (length-append, length-set)) (omega arith))

pub length_step_le : (K : Algebra) (a : List Node) (p : ℕ) → length (after_step K a p) ≤ length a + 1
length_step_le K a p =
    let one : cond (is_full (node a (busiest_child a p))) 1 0 ≤ 1 = cases_bool (is_full (node a (busiest_child a p))) (λ t. cond t 1 0 ≤ 1) (omega arith) (omega arith) in
    omega (arith, length_step K a p)

pub length_raised : (a : List Node) → length (raised a) ≡ length a + cond (eqb (length (node a 0).frame.children) most_children) 2 0
length_raised a = cases_bool (eqb (length (node a 0).frame.children) most_children)
    (λ t. length (cond t (cut_root a) a) ≡ length a + cond t 2 0)
    (simp (length-append, length-set)) (omega arith)
