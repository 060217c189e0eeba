-- A part of the input and the zeros behind it.
use Rattle.std.proofs.Common.{◌≡◌, ℕ, ◌+◌, ◌-◌, ◌*◌, ◌<◌, ◌≤◌, min, List, [], ◌++◌, length, take, drop, replicate, sym, ap, ◌∙◌, ⊎_elim, arith}
use borrow.Rule.Slice.PartMut.{put_mid}
use Rattle.std.proofs.lemmas.List.{length-append, length-drop, length-take, take_at, take_all, drop_all, append-nil}
use Rattle.std.proofs.lemmas.Bool.{cases_lt}
use Rattle.blocks.specs.Media.{block_bytes}
use Rattle.blocks.specs.Memory.{block_of}
use Rattle.card.specs.Keeping.{padded}

-- zeros from place n to the end of a list
zeros_behind : (n : ℕ) (xs front zeros : List ℕ) → n ≤ length xs → take n xs ≡ front → zeros ≡ replicate (length (take (length xs - n) (drop n xs))) 0
    → put_mid n (length xs - n) xs zeros ≡ front ++ replicate (length xs - n) 0
zeros_behind n xs front zeros within cut are =
    let none : drop (length xs - n) (drop n xs) ≡ [] = drop_all (length xs - n) (drop n xs) (simp length-drop (omega arith)) in
    let all : length (take (length xs - n) (drop n xs)) ≡ length xs - n = simp (length-take, length-drop) (omega arith) in
    simp (cut, are, none, all, append-nil)

-- bytes copied to the front of a block, and zeros behind them
pub padded_is : (bytes block front zeros : List ℕ) → length bytes ≤ block_bytes → length block ≡ block_bytes → front ≡ bytes
    → let xs = front ++ drop (length bytes - 0) block in zeros ≡ replicate (length (take (length xs - length bytes) (drop (length bytes) xs))) 0
    → put_mid (length bytes) (length xs - length bytes) xs zeros ≡ padded bytes
padded_is bytes block front zeros few whole is are =
    let xs = front ++ drop (length bytes - 0) block in
    let long : length xs ≡ 4096 = simp (length-append, length-drop, is) (omega arith) in
    zeros_behind (length bytes) xs bytes zeros (omega arith) (take_at front (drop (length bytes - 0) block) (length bytes) (ap length is) ∙ is) are
    ∙ ap (λ k. bytes ++ replicate (k - length bytes) 0) long

-- the part of an input from block k on, up to the input's end or a whole block
pub part_is : (input : List ℕ) (k to : ℕ) → to ≡ min (length input) (block_bytes * k + block_bytes) → take (to - block_bytes * k) (drop (block_bytes * k) input) ≡ block_of input k
part_is input k to is =
    ⊎_elim
    (λ (short : length input < 4096 * k + 4096). let rest = drop (4096 * k) input in
    take_all (to - 4096 * k) rest (simp length-drop (omega arith)) ∙ sym (take_all 4096 rest (simp length-drop (omega arith))))
    (λ (long : 4096 * k + 4096 ≤ length input). let e : to - 4096 * k ≡ 4096 = omega arith in ap (λ n. take n (drop (4096 * k) input)) e)
    (cases_lt (length input) (4096 * k + 4096))
