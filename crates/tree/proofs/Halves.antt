-- The halves of a node share its keys, its messages and its children.
use Rattle.std.proofs.Common.{◌≡◌, ℕ, zero, suc, ◌<◌, ◌≤◌, cond, ltb, List, [], ◌∷◌, ◌++◌, length, get_or, take, drop, sym, refl, ap, ◌∙◌, subst, arith}
use Rattle.std.proofs.lemmas.Bool.{lt-ltb, le-ltb}
use Rattle.std.proofs.lemmas.List.{take-append-drop}
use Rattle.messages.specs.Lists.{Within, below, find}
use Rattle.messages.specs.declared.entry.Entry.{Entry}
use Rattle.tree.proofs.Reached.{Halved}
use Rattle.tree.specs.Nodes.{Node, pick}
use Rattle.tree.specs.Operations.{key_at, lower_inner, lower_leaf, upper_inner, upper_leaf}
use Rattle.tree.specs.Shape.{Children, Sound}
use Rattle.tree.proofs.Lists.{within_below, within_above, acts_low, acts_high, find_under, find_append, find_append'}
use Rattle.tree.proofs.Frames.{children_some}
use Rattle.tree.proofs.Move.{inner_sound, leaf_sound}

-- ---- children in two
children_low : (a : List Node) (l low high i : ℕ) (cs ps : List ℕ) → Children a l low high cs ps → i < length ps → Children a l low (get_or ps i 0) (take (suc i) cs) (take i ps)
children_low a l low high i [] ps h lt = absurd h
children_low a l low high i (c ∷ cs) [] h lt = absurd (omega arith)
children_low a l low high zero (c ∷ cs) (r ∷ ps) h lt = h.0
children_low a l low high (suc i) (c ∷ cs) (r ∷ ps) h lt = (h.0, children_low a l r high i cs ps h.1 (omega arith))

children_high : (a : List Node) (l low high i : ℕ) (cs ps : List ℕ) → Children a l low high cs ps → i < length ps → Children a l (get_or ps i 0) high (drop (suc i) cs) (drop (suc i) ps)
children_high a l low high i [] ps h lt = absurd h
children_high a l low high i (c ∷ cs) [] h lt = absurd (omega arith)
children_high a l low high zero (c ∷ cs) (r ∷ ps) h lt = h.1
children_high a l low high (suc i) (c ∷ cs) (r ∷ ps) h lt = children_high a l r high i cs ps h.1 (omega arith)

pivot_in : (a : List Node) (l low high i : ℕ) (cs ps : List ℕ) → Children a l low high cs ps → i < length ps → (low < get_or ps i 0) × (get_or ps i 0 < high)
pivot_in a l low high i cs ps h lt = (
  children_some a l _ _ (take (suc i) cs) (take i ps) (children_low a l low high i cs ps h lt),
  children_some a l _ _ (drop (suc i) cs) (drop (suc i) ps) (children_high a l low high i cs ps h lt),
)

pick_low : (a : List Node) (l low high i k : ℕ) (cs ps : List ℕ) → Children a l low high cs ps → i < length ps → k < get_or ps i 0
    → pick (take (suc i) cs) (take i ps) k ≡ pick cs ps k
pick_low a l low high i k [] ps h lt g = absurd h
pick_low a l low high i k (c ∷ cs) [] h lt g = absurd (omega arith)
pick_low a l low high zero k (c ∷ cs) (r ∷ ps) h lt g = rw (lt-ltb k r g)
pick_low a l low high (suc i) k (c ∷ cs) (r ∷ ps) h lt g = ap (cond (ltb k r) c) (pick_low a l r high i k cs ps h.1 (omega arith) g)

pick_high : (a : List Node) (l low high i k : ℕ) (cs ps : List ℕ) → Children a l low high cs ps → i < length ps → get_or ps i 0 ≤ k
    → pick (drop (suc i) cs) (drop (suc i) ps) k ≡ pick cs ps k
pick_high a l low high i k [] ps h lt g = absurd h
pick_high a l low high i k (c ∷ cs) [] h lt g = absurd (omega arith)
pick_high a l low high zero k (c ∷ cs) (r ∷ ps) h lt g = rw (le-ltb k r g)
pick_high a l low high (suc i) k (c ∷ cs) (r ∷ ps) h lt g =
    let p = pivot_in a l r high i cs ps h.1 (omega arith) in
    rw (le-ltb k r (omega arith)) (pick_high a l r high i k cs ps h.1 (omega arith) g)

pub halve_inner : (a : List Node) (l i : ℕ) (x : Node) → x.frame.level ≡ suc l → Sound a x.frame.level x → i < length x.frame.pivots
    → Halved a (get_or x.frame.pivots i 0) x (lower_inner i x) (upper_inner i x)
halve_inner a l i x e s h =
    let s' = inner_sound a l _ x e s in
    let q = get_or x.frame.pivots i 0 in
    let cs = x.frame.children in
    let ps = x.frame.pivots in
    let pv = pivot_in a l _ _ i cs ps s'.1 h in
    record {
      level_y = refl;
      level_z = refl;
      low_y = refl;
      high_y = refl;
      low_z = refl;
      high_z = refl;
      over = pv.0;
      under = pv.1;
      sound_y = subst (λ m. Sound a m (lower_inner i x)) (sym e)
          (within_below _ _ q (below q x.messages) x.messages (omega arith) s'.0, children_low a l _ _ i cs ps s'.1 h);
      sound_z = subst (λ m. Sound a m (upper_inner i x)) (sym e) (within_above _ _ q x.messages s'.0, children_high a l _ _ i cs ps s'.1 h);
      says_y = λ K k o _ g. (refl, acts_low K k _ _ q x.messages o s'.0 g, pick_low a l _ _ i k cs ps s'.1 h g);
      says_z = λ K k o g _. (refl, acts_high K k _ _ q x.messages o s'.0 g, pick_high a l _ _ i k cs ps s'.1 h g);
    }

-- ---- records in two
key_above : (low high i : ℕ) (xs : List (Entry ℕ)) → Within low high xs → i < length xs → low ≤ key_at i xs
key_above low high i [] w h = absurd (omega arith)
key_above low high zero (x ∷ xs) w h = w.0
key_above low high (suc i) (x ∷ xs) w h = omega (arith, key_above (suc x.key) high i xs w.2 (omega arith))

key_under : (low high i : ℕ) (xs : List (Entry ℕ)) → Within low high xs → i < length xs → key_at i xs < high
key_under low high i [] w h = absurd (omega arith)
key_under low high zero (x ∷ xs) w h = w.1
key_under low high (suc i) (x ∷ xs) w h = key_under (suc x.key) high i xs w.2 (omega arith)

key_over : (low high i : ℕ) (xs : List (Entry ℕ)) → Within low high xs → i < length xs → 0 < i → low < key_at i xs
key_over low high i [] w h g = absurd (omega arith)
key_over low high zero (x ∷ xs) w h g = absurd (omega arith)
key_over low high (suc i) (x ∷ xs) w h g = omega (arith, key_above (suc x.key) high i xs w.2 (omega arith))

take_keys : (low high i : ℕ) (xs : List (Entry ℕ)) → Within low high xs → i < length xs → Within low (key_at i xs) (take i xs)
take_keys low high i [] w h = absurd (omega arith)
take_keys low high zero (x ∷ xs) w h = tt
take_keys low high (suc i) (x ∷ xs) w h = (w.0, key_above (suc x.key) high i xs w.2 (omega arith), take_keys (suc x.key) high i xs w.2 (omega arith))

drop_keys : (low high i : ℕ) (xs : List (Entry ℕ)) → Within low high xs → i < length xs → Within (key_at i xs) high (drop i xs)
drop_keys low high i [] w h = absurd (omega arith)
drop_keys low high zero (x ∷ xs) w h = (omega arith, w.1, w.2)
drop_keys low high (suc i) (x ∷ xs) w h = drop_keys (suc x.key) high i xs w.2 (omega arith)

pub halve_leaf : (a : List Node) (i : ℕ) (x : Node) → x.frame.level ≡ 0 → Sound a x.frame.level x → 0 < i → i < length x.records
    → Halved a (key_at i x.records) x (lower_leaf i x) (upper_leaf i x)
halve_leaf a i x e s not_root h =
    let w = leaf_sound a _ x e s in
    let q = key_at i x.records in
    let lw = take_keys _ _ i x.records w h in
    let hw = drop_keys _ _ i x.records w h in
    let whole : (k : ℕ) → find k x.records ≡ find k (take i x.records ++ drop i x.records) = λ k. ap (find k) (sym (take-append-drop i x.records)) in
    record {
      level_y = refl;
      level_z = refl;
      low_y = refl;
      high_y = refl;
      low_z = refl;
      high_z = refl;
      over = key_over _ _ i x.records w h not_root;
      under = key_under _ _ i x.records w h;
      sound_y = subst (λ m. Sound a m (lower_leaf i x)) (sym e) lw;
      sound_z = subst (λ m. Sound a m (upper_leaf i x)) (sym e) hw;
      says_y = λ K k o _ g. (sym (whole k ∙ find_append' k (take i x.records) (drop i x.records) (find_under k _ _ (drop i x.records) hw g)), refl, refl);
      says_z = λ K k o g _. (sym (whole k ∙ find_append k _ _ (take i x.records) (drop i x.records) lw g), refl, refl);
    }
