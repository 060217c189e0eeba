-- A run of entries that leaves a list.
use Rattle.std.proofs.Common.{◌≡◌, ℕ, ◌+◌, ◌-◌, ◌≤◌, List, ◌++◌, length, take, drop, ap, ◌∙◌, arith, length-drop}
use lib.Seq.{paste}
use Rattle.std.proofs.lemmas.List.{take_all, length-take-le}
use Rattle.std.proofs.lemmas.List.Edits.{take-paste}

-- what follows a run is copied over it, and the end is cut off
pub run_removed : {X : Type 0} (i n len : ℕ) (qs xs ys : List X) → i + n ≤ len → len ≡ length qs → xs ≡ paste qs i (drop (i + n) qs) (len - (i + n)) → ys ≡ take (len - n) xs
    → ys ≡ take i qs ++ drop (i + n) qs
run_removed i n len qs xs ys h e f g =
    let left : length (drop (i + n) qs) ≡ len - (i + n) = rw (length-drop, e) in
    g ∙ ap (λ m. take m xs) (omega arith) ∙ ap (take (i + (len - (i + n)))) f ∙ take-paste qs i (drop (i + n) qs) (len - (i + n)) (omega arith) (omega arith)
    ∙ ap (λ l. take i qs ++ l) (take_all (len - (i + n)) (drop (i + n) qs) (omega arith))

-- the run from i on, as a slice from i up to i + n reads it
pub run_read : {X : Type 0} (i n : ℕ) (qs ys : List X) → ys ≡ qs → take (i + n - i) (drop i ys) ≡ take n (drop i qs)
run_read i n qs ys e = ap (λ m. take m (drop i ys)) (omega arith) ∙ ap (λ l. take n (drop i l)) e

-- and its length
pub length_run : {X : Type 0} (i n : ℕ) (qs ys : List X) → ys ≡ qs → i + n ≤ length qs → length (take (i + n - i) (drop i ys)) ≡ n
length_run i n qs ys e h =
    let left : length (drop i qs) ≡ length qs - i = length-drop i qs in
    ap length (run_read i n qs ys e) ∙ length-take-le n (drop i qs) (omega arith)
