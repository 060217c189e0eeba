-- A table whose front is written, and then the rest.
use Rattle.std.proofs.Common.{◌≡◌, ℕ, ◌-◌, ◌≤◌, List, [], ◌++◌, length, take, drop, replicate, refl, ap, ◌∙◌, arith, length-append, length-drop}
use borrow.Rule.Slice.PartMut.{put_mid}
use Rattle.std.proofs.lemmas.List.{take_at, drop_at, drop_all, append-nil, length-take-le}

module _ {X : Type 0} (t es : List X) (z : X) (fits : length es ≤ length t) where
  -- the front is written
  abbrev front : List X
  front = es ++ drop (length es) t

  abbrev left : ℕ
  left = length front - length es

  left_is : left ≡ length t - length es
  left_is = simp (length-append, length-drop) (omega arith)

  rest_is : drop (length es) front ≡ drop (length es) t
  rest_is = drop_at es (drop (length es) t) (length es) refl

  count : length (take left (drop (length es) front)) ≡ length t - length es
  count =
      let all : length (drop (length es) front) ≡ length t - length es = ap length rest_is ∙ length-drop (length es) t in
      length-take-le left (drop (length es) front) (omega (arith, left_is, all)) ∙ left_is

  none : drop left (drop (length es) front) ≡ []
  none =
      let all : length (drop (length es) front) ≡ length t - length es = ap length rest_is ∙ length-drop (length es) t in
      drop_all left (drop (length es) front) (omega (arith, left_is, all))

  -- and then the rest
  whole : (fs : List X) → fs ≡ replicate (length (take left (drop (length es) front))) z → put_mid (length es) left front fs ≡ es ++ replicate (length t - length es) z
  whole fs e = (λ i. take_at es (drop (length es) t) (length es) refl i ++ (fs ++ none i)) ∙ ap (λ l. es ++ l) (append-nil fs ∙ e ∙ ap (λ n. replicate n z) count)

pub table_filled : {X : Type 0} (t es ws fs : List X) (z : X) → length es ≤ length t → ws ≡ es
    → fs ≡ replicate (length (take (length (ws ++ drop (length es) t) - length es) (drop (length es) (ws ++ drop (length es) t)))) z
    → put_mid (length es) (length (ws ++ drop (length es) t) - length es) (ws ++ drop (length es) t) fs ≡ es ++ replicate (length t - length es) z
table_filled t es ws fs z fits same e =
    ap (λ l. put_mid (length es) (length (l ++ drop (length es) t) - length es) (l ++ drop (length es) t) fs) same
    ∙ whole t es z fits fs (e ∙ ap (λ l. replicate (length (take (length (l ++ drop (length es) t) - length es) (drop (length es) (l ++ drop (length es) t)))) z) same)
