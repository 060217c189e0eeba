-- Blocks that are written part by part.
use Rattle.std.proofs.Common.{◌≡◌, ℕ, ◌+◌, ◌-◌, ◌≤◌, List, [], ◌++◌, length, take, drop, refl, ap, ◌∙◌, append_assoc, arith, length-append, length-drop}
use borrow.Rule.Slice.PartMut.{put_mid, mid_of}
use Rattle.std.proofs.lemmas.List.{append-nil, length-take-le, drop_all}
use Rattle.std.proofs.lemmas.Slice.{take-put_mid}
use Rattle.std.proofs.lemmas.Bool.{eq-eqb, ne_eqb}
use Rattle.rows.specs.Coding.{number}
use Rattle.rows.specs.Entries.{record_coding, message_entry_coding}
use Rattle.rows.specs.Tables.{table_of}
use Rattle.messages.specs.declared.entry.Entry.{Entry}
use Rattle.messages.specs.declared.message.Message.{Message}
use Rattle.nodes.specs.Blocks.{tables_of}
use Rattle.tree.specs.Nodes.{Node}

-- the last part of a list is written over
pub last_part : (a k : ℕ) (xs ys : List ℕ) → length xs ≡ a + k → put_mid a k xs ys ≡ take a xs ++ ys
last_part a k xs ys long =
    let none : drop k (drop a xs) ≡ [] = drop_all k (drop a xs) (rw length-drop (omega arith)) in
    (λ i. take a xs ++ (ys ++ none i)) ∙ ap (λ l. take a xs ++ l) (append-nil ys)

-- a part within a list is written over
length_part : (a k : ℕ) (xs ys : List ℕ) → a + k ≤ length xs → length ys ≡ k → length (put_mid a k xs ys) ≡ length xs
length_part a k xs ys within long =
    let front = length-take-le a xs (omega arith) in
    let rest : length (drop k (drop a xs)) ≡ length xs - a - k = rw (length-drop, length-drop) refl in
    simp length-append (omega (arith, front, rest))

three_parts : (b p q m : List ℕ) → length b ≡ 4096 → length p ≡ 28 → length q ≡ 32 → put_mid 92 4004 (put_mid 60 32 (put_mid 32 28 b p) q) m ≡ take 32 b ++ (p ++ (q ++ m))
three_parts b p q m long lp lq =
    let b1 = put_mid 32 28 b p in
    let b2 = put_mid 60 32 b1 q in
    let l1 = length_part 32 28 b p (omega arith) lp in
    let l2 = length_part 60 32 b1 q (omega arith) lq in
    let t1 : take 60 b1 ≡ take 32 b ++ p = take-put_mid 32 28 b p 60 (omega arith) (omega arith) in
    let t2 : take 92 b2 ≡ take 60 b1 ++ q = take-put_mid 60 32 b1 q 92 (omega arith) (omega arith) in
    last_part 92 4004 b2 m (omega arith) ∙ ap (λ l. l ++ m) (t2 ∙ ap (λ l. l ++ q) t1 ∙ append_assoc (take 32 b) p q) ∙ append_assoc (take 32 b) (p ++ q) m ∙ ap (λ l. take 32 b ++ l) (append_assoc p q m)

-- a part within a list is as long as its bounds say
length_mid : (a k : ℕ) (xs : List ℕ) → a + k ≤ length xs → length (mid_of a k xs) ≡ k
length_mid a k xs within = length-take-le k (drop a xs) (rw length-drop (omega arith))

module _ (x : Node) (b : List ℕ) (long : length b ≡ 4096) where
  pub leaf_written : (table : List ℕ) (records : List (Entry ℕ)) → x.frame.level ≡ 0 → records ≡ x.records → table ≡ table_of record_coding (length (mid_of 32 4064 b)) records → put_mid 32 4064 b table ≡ take 32 b ++ tables_of x
  leaf_written table records leaf es e =
      let size = length_mid 32 4064 b (omega arith) in
      rw (eq-eqb x.frame.level 0 leaf) (last_part 32 4064 b table (omega arith) ∙ ap (λ l. take 32 b ++ l) (e ∙ (λ i. table_of record_coding (size i) (es i))))

  module _ (p q m : List ℕ) (pivots children : List ℕ) (messages : List (Entry Message)) where
    pub inner_written : (x.frame.level ≡ 0 → ⊥) → length p ≡ length (mid_of 32 28 b) → length q ≡ length (mid_of 60 32 (put_mid 32 28 b p)) → pivots ≡ x.frame.pivots → children ≡ x.frame.children → messages ≡ x.messages → p ≡ table_of (number 4) (length (mid_of 32 28 b)) pivots → q ≡ table_of (number 4) (length (mid_of 60 32 (put_mid 32 28 b p))) children → m ≡ table_of message_entry_coding (length (mid_of 92 4004 (put_mid 60 32 (put_mid 32 28 b p) q))) messages → put_mid 92 4004 (put_mid 60 32 (put_mid 32 28 b p) q) m ≡ take 32 b ++ tables_of x
    inner_written inner lp lq ep ec em tp tq tm =
        let s1 = length_mid 32 28 b (omega arith) in
        let l1 = length_part 32 28 b p (omega arith) (lp ∙ s1) in
        let s2 = length_mid 60 32 (put_mid 32 28 b p) (omega arith) in
        let l2 = length_part 60 32 (put_mid 32 28 b p) q (omega arith) (lq ∙ s2) in
        let s3 = length_mid 92 4004 (put_mid 60 32 (put_mid 32 28 b p) q) (omega arith) in
        rw (ne_eqb x.frame.level 0 inner)
        (three_parts b p q m long (lp ∙ s1) (lq ∙ s2)
        ∙ (λ i. take 32 b ++ ((tp ∙ (λ j. table_of (number 4) (s1 j) (ep j))) i ++ ((tq ∙ (λ j. table_of (number 4) (s2 j) (ec j))) i ++ (tm ∙ (λ j. table_of message_entry_coding (s3 j) (em j))) i))))
