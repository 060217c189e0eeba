-- Where children share a span, some child has a pending message if there is one at all.
use Rattle.std.proofs.Common.{◌≡◌, ℕ, suc, ◌+◌, ◌<◌, ◌≤◌, false, ltb, List, [], ◌∷◌, map, length, get_or, refl, ⊎_elim, arith}
use Rattle.std.proofs.lemmas.List.FromFn.{length-map-range_with_len, get_or-map-range_with_len}
use Rattle.std.proofs.lemmas.List.{get_or_default, get_or_past}
use Rattle.std.proofs.lemmas.Bool.{cases_lt, le-ltb}
use Rattle.std.specs.List.{range_with_len}
use Rattle.messages.specs.Lists.{below, pending}
use Rattle.messages.specs.declared.entry.Entry.{Entry}
use Rattle.messages.specs.declared.message.Message.{Message}
use Rattle.tree.proofs.Lengths.{largest_is}
use Rattle.tree.specs.Nodes.{Node}
use Rattle.plan.specs.Steps.{child_low, child_high, pending_at, busiest}

-- where nothing is pending between any two bounds in turn, nothing is between the outermost
none_between : (ms : List (Entry Message)) (low high : ℕ) (ps : List ℕ) → ((j : ℕ) → j < suc (length ps) → pending (get_or (low ∷ ps) j 0) (get_or ps j high) ms ≡ 0)
    → below high ms ≤ below low ms
none_between ms low high [] none = omega (arith, none 0 (omega arith))
none_between ms low high (p ∷ ps) none = omega (arith, none 0 (omega arith), none_between ms p high ps (λ j h. none (suc j) (omega arith)))

-- a child has no more pending than the busiest
busiest_most : (x : Node) (j : ℕ) → j < length x.frame.children → busiest x < length x.frame.children → pending_at x j ≤ pending_at x (busiest x)
busiest_most x j inside found =
    let n = length x.frame.children in
    let counts = map (pending_at x) (range_with_len 0 n) in
    let most = largest_is counts j (omega (arith, length-map-range_with_len (pending_at x) 0 n)) in
    omega (arith, most, get_or-map-range_with_len (pending_at x) 0 n j j 0 inside (omega arith), get_or-map-range_with_len (pending_at x) 0 n (busiest x) (busiest x) 0 found (omega arith))

-- the busiest child of a node with messages between the ends of its span
pub busiest_has_some : (x : Node) → length x.frame.pivots + 1 ≡ length x.frame.children → busiest x < length x.frame.children
    → below x.frame.low x.messages < below x.frame.high x.messages → 0 < pending_at x (busiest x)
busiest_has_some x parted found some = ⊎_elim
    (λ (more : 0 < pending_at x (busiest x)). more)
    (λ (none : pending_at x (busiest x) ≤ 0). absurd (omega (arith, none_between x.messages x.frame.low x.frame.high x.frame.pivots (λ j h. omega (arith, busiest_most x j (omega arith) found)))))
    (cases_lt 0 (pending_at x (busiest x)))

-- bounds in turn: where a child begins, the one before it ends
pub bounds_meet : (x : Node) (j : ℕ) → length x.frame.pivots + 1 ≡ length x.frame.children → suc j < length x.frame.children → child_low x (suc j) ≡ child_high x j
bounds_meet x j parted inside = get_or_default x.frame.pivots j 0 x.frame.high (omega arith)

-- the last child ends with the node
pub last_bound : (x : Node) (j : ℕ) → length x.frame.pivots + 1 ≡ length x.frame.children → suc j ≡ length x.frame.children → child_high x j ≡ x.frame.high
last_bound x j parted last = get_or_past x.frame.pivots j x.frame.high (omega arith)

-- no key is below 0
pub below_zero : (ms : List (Entry Message)) → below 0 ms ≡ 0
below_zero [] = refl
below_zero (m ∷ ms) = let no_key : ltb m.key 0 ≡ false = le-ltb m.key 0 (omega arith) in rw no_key
