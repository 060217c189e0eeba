-- Spans: a child's lies in its parent's, and nodes stay sound while their children stand where they stood.
use Rattle.std.proofs.Common.{◌≡◌, ℕ, zero, suc, ◌<◌, ◌≤◌, ltb, ◌⊎◌, List, [], ◌∷◌, length, get_or, refl, ap, ◌∙◌, inl, inr, ⊎_elim, arith}
use Rattle.std.proofs.lemmas.Bool.{cases_lt, cond_both, ltb-false, ltb-true}
use Rattle.tree.specs.Nodes.{Frame, Node, node, pick}
use Rattle.tree.specs.Shape.{In, Child, Children, Sound}

-- the child that takes a key of the span is a node below, and the key is in its span
pub record Took (a : List Node) (l d k : ℕ) : Type 0 where
  pub inside : d < length a
  pub not_root : 0 < d
  pub level_is : (node a d).frame.level ≡ l
  pub has : In k (node a d).frame

took_child : (a : List Node) (l c low high k : ℕ) → Child a l c low high → low ≤ k → k < high → Took a l c k
took_child a l c low high k h p q =
    record { inside = h.inside; not_root = h.not_root; level_is = h.level_is; has = record { low = omega (arith, h.from); high = omega (arith, h.upto) } }

pub children_took : (a : List Node) (l low high : ℕ) (cs ps : List ℕ) (k : ℕ) → Children a l low high cs ps → low ≤ k → k < high → Took a l (pick cs ps k) k
children_took a l low high [] ps k h p q = absurd h
children_took a l low high (c ∷ []) [] k h p q = took_child a l c low high k h p q
children_took a l low high (c ∷ d ∷ cs) [] k h p q = absurd h
children_took a l low high (c ∷ cs) (r ∷ ps) k h p q = cond_both (ltb k r) c (pick cs ps k) (λ d. Took a l d k)
    (λ e. took_child a l c low r k h.0 p (ltb-true k r e))
    (λ e. children_took a l r high cs ps k h.1 (ltb-false k r e) q)

-- the span of a child lies in that of its parent
pub record Part (a : List Node) (l d low high : ℕ) : Type 0 where
  pub inside : d < length a
  pub not_root : 0 < d
  pub level_is : (node a d).frame.level ≡ l
  pub above : low ≤ (node a d).frame.low
  pub under : (node a d).frame.high ≤ high
  pub nonempty : (node a d).frame.low < (node a d).frame.high

pub part_child : (a : List Node) (l c low high low' high' : ℕ) → Child a l c low high → low' ≤ low → high ≤ high' → Part a l c low' high'
part_child a l c low high low' high' h p q =
    record { inside = h.inside; not_root = h.not_root; level_is = h.level_is; above = omega (arith, h.from); under = omega (arith, h.upto); nonempty = omega (arith, h) }

pub children_some : (a : List Node) (l low high : ℕ) (cs ps : List ℕ) → Children a l low high cs ps → low < high
children_some a l low high [] ps h = absurd h
children_some a l low high (c ∷ []) [] h = h.nonempty
children_some a l low high (c ∷ d ∷ cs) [] h = absurd h
children_some a l low high (c ∷ cs) (r ∷ ps) h = let e = children_some a l r high cs ps h.1 in omega (arith, h.0.nonempty)

pub children_part : (a : List Node) (l low high low' : ℕ) (cs ps : List ℕ) (j : ℕ) → Children a l low high cs ps → j < length cs → low' ≤ low → Part a l (get_or cs j 0) low' high
children_part a l low high low' [] ps j h p q = absurd h
children_part a l low high low' (c ∷ []) [] zero h p q = part_child a l c low high low' high h q (omega arith)
children_part a l low high low' (c ∷ []) [] (suc j) h p q = absurd (omega arith)
children_part a l low high low' (c ∷ d ∷ cs) [] j h p q = absurd h
children_part a l low high low' (c ∷ cs) (r ∷ ps) zero h p q = let e = children_some a l r high cs ps h.1 in part_child a l c low r low' high h.0 q (omega arith)
children_part a l low high low' (c ∷ cs) (r ∷ ps) (suc j) h p q = children_part a l r high low' cs ps j h.1 (omega arith) (omega (arith, h.0.nonempty))

pub part_wider : (a : List Node) (l d low high low' : ℕ) → low' ≤ low → Part a l d low high → Part a l d low' high
part_wider a l d low high low' g h = record { inside = h.inside; not_root = h.not_root; level_is = h.level_is; above = omega (arith, h.above); under = h.under; nonempty = h.nonempty }

pub in_or_out : (k : ℕ) (f : Frame) → In k f ⊎ (In k f → ⊥)
in_or_out k f = ⊎_elim
    (λ h. inr (λ i. omega (arith, i.low)))
    (λ h. ⊎_elim (λ g. inl (record { low = h; high = g })) (λ g. inr (λ i. omega (arith, i.high))) (cases_lt k f.high))
    (cases_lt k f.low)

-- the child that takes a key, in its parent's span
pub children_pick : (a : List Node) (l low high low' : ℕ) (cs ps : List ℕ) (k : ℕ) → Children a l low high cs ps → low' ≤ low → Part a l (pick cs ps k) low' high
children_pick a l low high low' [] ps k h g = absurd h
children_pick a l low high low' (c ∷ []) [] k h g = part_child a l c low high low' high h g (omega arith)
children_pick a l low high low' (c ∷ d ∷ cs) [] k h g = absurd h
children_pick a l low high low' (c ∷ cs) (r ∷ ps) k h g = let s = children_some a l r high cs ps h.1 in cond_both (ltb k r) c (pick cs ps k) (λ d. Part a l d low' high)
    (λ e. part_child a l c low r low' high h.0 g (omega arith))
    (λ e. children_pick a l r high low' cs ps k h.1 (omega (arith, h.0.nonempty)))

-- nodes that stand where they stood
pub record Place (f g : Frame) : Type 0 where
  pub level_is : f.level ≡ g.level
  pub from : f.low ≡ g.low
  pub upto : f.high ≡ g.high

pub place_same : (f g : Frame) → f ≡ g → Place f g
place_same f g e = record { level_is = ap (λ (x : Frame). x.level) e; from = ap (λ (x : Frame). x.low) e; upto = ap (λ (x : Frame). x.high) e }

pub child_same : (a a' : List Node) (l c low high : ℕ) → length a ≤ length a' → Place (node a' c).frame (node a c).frame
    → Child a l c low high → Child a' l c low high
child_same a a' l c low high e f h =
    record { inside = omega (arith, h.inside); not_root = h.not_root; level_is = f.level_is ∙ h.level_is; from = f.from ∙ h.from; upto = f.upto ∙ h.upto; nonempty = h.nonempty }

pub children_same : (a a' : List Node) (l low high low' : ℕ) (cs ps : List ℕ) → length a ≤ length a' → low' ≤ low
    → ((d : ℕ) → Part a l d low' high → Place (node a' d).frame (node a d).frame)
    → Children a l low high cs ps → Children a' l low high cs ps
children_same a a' l low high low' [] ps e g f h = h
children_same a a' l low high low' (c ∷ []) [] e g f h = child_same a a' l c low high e (f c (part_child a l c low high low' high h g (omega arith))) h
children_same a a' l low high low' (c ∷ d ∷ cs) [] e g f h = h
children_same a a' l low high low' (c ∷ cs) (r ∷ ps) e g f h =
    let s = children_some a l r high cs ps h.1 in (
      child_same a a' l c low r e (f c (part_child a l c low r low' high h.0 g (omega arith))) h.0,
      children_same a a' l r high low' cs ps e (omega (arith, h.0.nonempty)) f h.1,
    )

-- a node stays sound where its children stand where they stood
pub sound_same : (a a' : List Node) (i : ℕ) (n : Node) → length a ≤ length a'
    → ((e d : ℕ) → i ≡ suc e → Part a e d n.frame.low n.frame.high → Place (node a' d).frame (node a d).frame) → Sound a i n → Sound a' i n
sound_same a a' zero n le f s = s
sound_same a a' (suc i) n le f s =
    (s.0, children_same a a' i _ _ n.frame.low n.frame.children n.frame.pivots le (omega arith) (λ d pt. f i d refl pt) s.1)
