-- Lists of entries by rising key: what joins, acts and batches do to what they say of a key.
use Rattle.std.proofs.Common.{◌≡◌, ℕ, zero, suc, ◌+◌, ◌<◌, ◌≤◌, false, cond, eqb, ltb, ◌≢◌, List, [], ◌∷◌, ◌++◌, take, drop, Some, None, Option, sym, refl, ap, ◌∙◌, ⊎_elim, suc-add, zero-add, arith}
use Rattle.std.proofs.lemmas.List.{take-append-drop, drop-drop}
use Rattle.std.proofs.lemmas.Bool.Decides.{nat_tests}
use Rattle.std.proofs.lemmas.Bool.{cases_lt, cases_eq, cond_both, ltb-false, ltb-true, eqb-true, eqb-false, ne_eqb, eq-eqb, lt-ltb, le-ltb}
use Rattle.messages.specs.Algebra.{Algebra}
use Rattle.messages.specs.Lists.{Within, act_in, acts_in, batch, batch_size, below, entry, find, join_in, joins, put_first, rest}
use Rattle.messages.specs.Messages.{effect, fold}
use Rattle.messages.specs.declared.entry.Entry.{Entry}
use Rattle.messages.specs.declared.message.Message.{Message}
use Rattle.tree.specs.Lookup.{acts}
use Rattle.messages.specs.declared.message.Message.TheVariants.{Put, Remove, Add}

pub fold_law : (K : Algebra) (h a : Message) (o : Option ℕ) → effect K (fold K h a) o ≡ effect K a (effect K h o)
fold_law K h (Put v) o = refl
fold_law K h Remove o = refl
fold_law K (Put v) (Add d) o = refl
fold_law K Remove (Add d) o = refl
fold_law K (Add e) (Add d) None = ap Some (sym (K.law K.start e d))
fold_law K (Add e) (Add d) (Some v) = ap Some (sym (K.law v e d))

-- ---- Within
pub within_wider : {V : Type 0} (low high low' high' : ℕ) (xs : List (Entry V)) → low' ≤ low → high ≤ high' → Within low high xs → Within low' high' xs
within_wider low high low' high' [] a b w = tt
within_wider low high low' high' (x ∷ xs) a b w = (omega arith, omega arith, within_wider (suc x.key) high (suc x.key) high' xs (omega arith) b w.2)

pub within_take : {V : Type 0} (low high n : ℕ) (xs : List (Entry V)) → Within low high xs → Within low high (take n xs)
within_take low high zero xs w = tt
within_take low high (suc n) [] w = tt
within_take low high (suc n) (x ∷ xs) w = (w.0, w.1, within_take (suc x.key) high n xs w.2)

pub within_drop : {V : Type 0} (low high n : ℕ) (xs : List (Entry V)) → Within low high xs → Within low high (drop n xs)
within_drop low high zero xs w = w
within_drop low high (suc n) [] w = tt
within_drop low high (suc n) (x ∷ xs) w =
    within_wider (suc x.key) high low high (drop n xs) (omega arith) (omega arith) (within_drop (suc x.key) high n xs w.2)

-- the messages from i to i + n taken out
pub within_cut : {V : Type 0} (low high i n : ℕ) (xs : List (Entry V)) → Within low high xs → Within low high (take i xs ++ drop (i + n) xs)
within_cut low high zero n xs w = simp zero-add (within_drop low high n xs w)
within_cut low high (suc i) n [] w = simp suc-add tt
within_cut low high (suc i) n (x ∷ xs) w = simp suc-add (w.0, w.1, within_cut (suc x.key) high i n xs w.2)

pub within_below : {V : Type 0} (low high q i : ℕ) (xs : List (Entry V)) → i ≤ below q xs → Within low high xs → Within low q (take i xs)
within_below low high q zero xs h w = tt
within_below low high q (suc i) [] h w = tt
within_below low high q (suc i) (x ∷ xs) h w = ⊎_elim
    (λ l. (w.0, l, within_below (suc x.key) high q i xs (grind (arith, nat_tests)) w.2))
    (λ l. absurd (grind (arith, nat_tests)))
    (cases_lt x.key q)

pub within_above : {V : Type 0} (low high q : ℕ) (xs : List (Entry V)) → Within low high xs → Within q high (drop (below q xs) xs)
within_above low high q [] w = tt
within_above low high q (x ∷ xs) w = cond_both (ltb x.key q) (suc (below q xs)) 0 (λ i. Within q high (drop i (x ∷ xs)))
    (λ e. within_above (suc x.key) high q xs w.2)
    (λ e. (omega (arith, ltb-false x.key q e), w.1, w.2))

-- ---- acts
pub acts_append : (K : Algebra) (k : ℕ) (xs ys : List (Entry Message)) (o : Option ℕ) → acts K k (xs ++ ys) o ≡ acts K k ys (acts K k xs o)
acts_append K k [] ys o = refl
acts_append K k (x ∷ xs) ys o = acts_append K k xs ys _

pub acts_under : (K : Algebra) (k low high : ℕ) (xs : List (Entry Message)) (o : Option ℕ) → Within low high xs → k < low → acts K k xs o ≡ o
acts_under K k low high [] o w h = refl
acts_under K k low high (x ∷ xs) o w h =
    let ne : eqb x.key k ≡ false = ne_eqb x.key k (omega arith) in
    rw ne (acts_under K k (suc x.key) high xs o w.2 (omega arith))

pub acts_over : (K : Algebra) (k low high : ℕ) (xs : List (Entry Message)) (o : Option ℕ) → Within low high xs → high ≤ k → acts K k xs o ≡ o
acts_over K k low high [] o w h = refl
acts_over K k low high (x ∷ xs) o w h =
    let ne : eqb x.key k ≡ false = ne_eqb x.key k (omega arith) in
    rw ne (acts_over K k (suc x.key) high xs o w.2 h)

pub join_else : (K : Algebra) (k j : ℕ) (m : Message) (xs : List (Entry Message)) (o : Option ℕ) → k ≢ j → acts K j (join_in K k m xs) o ≡ acts K j xs o
join_else K k j m [] o ne = grind (arith, nat_tests)
join_else K k j m (x ∷ xs) o ne = let h = join_else K k j m xs (cond (eqb x.key j) (effect K x.value o) o) ne in grind (arith, nat_tests)

pub join_here : (K : Algebra) (k low high : ℕ) (m : Message) (xs : List (Entry Message)) (o : Option ℕ) → Within low high xs
    → acts K k (join_in K k m xs) o ≡ effect K m (acts K k xs o)
join_here K k low high m [] o w = grind (arith, nat_tests)
join_here K k low high m (x ∷ xs) o w =
    let h = join_here K k (suc x.key) high m xs (cond (eqb x.key k) (effect K x.value o) o) w.2 in
    grind (arith, nat_tests, fold_law, acts_under K k (suc x.key) high xs)

pub within_join : (K : Algebra) (k low high : ℕ) (m : Message) (xs : List (Entry Message)) → low ≤ k → k < high → Within low high xs → Within low high (join_in K k m xs)
within_join K k low high m [] a b w = (a, b, tt)
within_join K k low high m (x ∷ xs) a b w =
    cond_both (ltb x.key k) _ _ (Within low high)
    (λ e. (w.0, w.1, within_join K k (suc x.key) high m xs (omega (arith, ltb-true x.key k e)) b w.2))
    (λ e. cond_both (eqb x.key k) _ _ (Within low high)
    (λ f. (a, b, rw (eqb-true x.key k f) at w.2))
    (λ f. (a, b, (omega (arith, ltb-false x.key k e, eqb-false x.key k f), w.1, w.2))))

-- one message more, on any key
pub acts_join : (K : Algebra) (k j low high : ℕ) (m : Message) (xs : List (Entry Message)) (o : Option ℕ) → Within low high xs
    → acts K j (join_in K k m xs) o ≡ acts K j (entry k m ∷ []) (acts K j xs o)
acts_join K k j low high m xs o w = ⊎_elim
    (λ e. rw e (join_here K j low high m xs o w ∙ grind (arith, nat_tests)))
    (λ ne. join_else K k j m xs o ne ∙ grind (arith, nat_tests))
    (cases_eq k j)

pub within_joins : (K : Algebra) (low high : ℕ) (xs bs : List (Entry Message)) → Within low high xs → Within low high bs → Within low high (joins K xs bs)
within_joins K low high xs [] w v = w
within_joins K low high xs (b ∷ bs) w v =
    within_joins K low high (join_in K b.key b.value xs) bs (within_join K b.key low high b.value xs v.0 v.1 w)
    (within_wider (suc b.key) high low high bs (omega arith) (omega arith) v.2)

pub acts_joins : (K : Algebra) (j low high : ℕ) (xs bs : List (Entry Message)) (o : Option ℕ) → Within low high xs → Within low high bs
    → acts K j (joins K xs bs) o ≡ acts K j bs (acts K j xs o)
acts_joins K j low high xs [] o w v = refl
acts_joins K j low high xs (b ∷ bs) o w v =
    acts_joins K j low high (join_in K b.key b.value xs) bs o (within_join K b.key low high b.value xs v.0 v.1 w)
    (within_wider (suc b.key) high low high bs (omega arith) (omega arith) v.2)
    ∙ ap (acts K j bs) (acts_join K b.key j low high b.value xs o w)

-- ---- what stands for a key
pub find_under : {V : Type 0} (k low high : ℕ) (xs : List (Entry V)) → Within low high xs → k < low → find k xs ≡ None
find_under k low high [] w h = refl
find_under k low high (x ∷ xs) w h = rw (le-ltb x.key k (omega arith), ne_eqb x.key k (omega arith)) refl

pub find_over : {V : Type 0} (k low high : ℕ) (xs : List (Entry V)) → Within low high xs → high ≤ k → find k xs ≡ None
find_over k low high [] w h = refl
find_over k low high (x ∷ xs) w h = rw (lt-ltb x.key k (omega arith)) (find_over k (suc x.key) high xs w.2 h)

-- a record ahead of larger keys
first_here : (k high : ℕ) (o : Option ℕ) (xs : List (Entry ℕ)) → Within (suc k) high xs → find k (put_first k o xs) ≡ o
first_here k high None xs w = find_under k (suc k) high xs w (omega arith)
first_here k high (Some v) xs w = rw (le-ltb k k (omega arith), eq-eqb k k refl) refl

first_else : (k j high : ℕ) (o : Option ℕ) (xs : List (Entry ℕ)) → Within (suc k) high xs → k ≢ j → find j (put_first k o xs) ≡ find j xs
first_else k j high None xs w ne = refl
first_else k j high (Some v) xs w ne = ⊎_elim
    (λ (h : k < j). rw (lt-ltb k j h) refl)
    (λ (h : j ≤ k). rw (le-ltb k j h, ne_eqb k j ne) (sym (find_under j (suc k) high xs w (omega arith))))
    (cases_lt k j)

pub act_else : (K : Algebra) (k j low high : ℕ) (m : Message) (xs : List (Entry ℕ)) → Within low high xs → k ≢ j → find j (act_in K k m xs) ≡ find j xs
act_else K k j low high m [] w ne = first_else k j high (effect K m None) [] tt ne
act_else K k j low high m (x ∷ xs) w ne =
    cond_both (ltb x.key k) _ _ (λ ys. find j ys ≡ find j (x ∷ xs))
    (λ e. ap (λ o. cond (ltb x.key j) o (cond (eqb x.key j) (Some x.value) None)) (act_else K k j (suc x.key) high m xs w.2 ne))
    (λ e. cond_both (eqb x.key k) _ _ (λ ys. find j ys ≡ find j (x ∷ xs))
    (λ f.
    let same : x.key ≡ k = eqb-true x.key k f in
    let w' : Within (suc k) high xs = rw same at w.2 in
    first_else k j high (effect K m (Some x.value)) xs w' ne ∙ sym (first_else k j high (Some x.value) xs w' ne)
    ∙ ap (λ z. find j (put_first z (Some x.value) xs)) (sym same))
    (λ f. first_else k j high (effect K m None) (x ∷ xs) (omega (arith, ltb-false x.key k e, eqb-false x.key k f), w.1, w.2) ne))

pub act_here : (K : Algebra) (k low high : ℕ) (m : Message) (xs : List (Entry ℕ)) → Within low high xs → find k (act_in K k m xs) ≡ effect K m (find k xs)
act_here K k low high m [] w = first_here k high (effect K m None) [] tt
act_here K k low high m (x ∷ xs) w =
    cond_both (ltb x.key k) _ _ (λ ys. find k ys ≡ effect K m (find k (x ∷ xs)))
    (λ e. rw e (act_here K k (suc x.key) high m xs w.2))
    (λ e. cond_both (eqb x.key k) _ _ (λ ys. find k ys ≡ effect K m (find k (x ∷ xs)))
    (λ f. first_here k high (effect K m (Some x.value)) xs (rw (eqb-true x.key k f) at w.2) ∙ ap (effect K m) (sym (rw (e, f) refl)))
    (λ f. first_here k high (effect K m None) (x ∷ xs) (omega (arith, ltb-false x.key k e, eqb-false x.key k f), w.1, w.2)
    ∙ ap (effect K m) (sym (rw (e, f) refl))))

within_first : (k low high : ℕ) (o : Option ℕ) (xs : List (Entry ℕ)) → low ≤ k → k < high → Within (suc k) high xs → Within low high (put_first k o xs)
within_first k low high None xs a b w = within_wider (suc k) high low high xs (omega arith) (omega arith) w
within_first k low high (Some v) xs a b w = (a, b, w)

pub within_act : (K : Algebra) (k low high : ℕ) (m : Message) (xs : List (Entry ℕ)) → low ≤ k → k < high → Within low high xs → Within low high (act_in K k m xs)
within_act K k low high m [] a b w = within_first k low high (effect K m None) [] a b tt
within_act K k low high m (x ∷ xs) a b w =
    cond_both (ltb x.key k) _ _ (Within low high)
    (λ e. (w.0, w.1, within_act K k (suc x.key) high m xs (omega (arith, ltb-true x.key k e)) b w.2))
    (λ e. cond_both (eqb x.key k) _ _ (Within low high)
    (λ f. within_first k low high (effect K m (Some x.value)) xs a b (rw (eqb-true x.key k f) at w.2))
    (λ f. within_first k low high (effect K m None) (x ∷ xs) a b (omega (arith, ltb-false x.key k e, eqb-false x.key k f), w.1, w.2)))

pub find_act : (K : Algebra) (k j low high : ℕ) (m : Message) (xs : List (Entry ℕ)) → Within low high xs
    → find j (act_in K k m xs) ≡ acts K j (entry k m ∷ []) (find j xs)
find_act K k j low high m xs w = ⊎_elim
    (λ e. rw e (act_here K j low high m xs w ∙ grind (arith, nat_tests)))
    (λ ne. act_else K k j low high m xs w ne ∙ grind (arith, nat_tests))
    (cases_eq k j)

pub within_acts_in : (K : Algebra) (low high : ℕ) (xs : List (Entry ℕ)) (bs : List (Entry Message)) → Within low high xs → Within low high bs → Within low high (acts_in K xs bs)
within_acts_in K low high xs [] w v = w
within_acts_in K low high xs (b ∷ bs) w v =
    within_acts_in K low high (act_in K b.key b.value xs) bs (within_act K b.key low high b.value xs v.0 v.1 w)
    (within_wider (suc b.key) high low high bs (omega arith) (omega arith) v.2)

pub find_acts_in : (K : Algebra) (j low high : ℕ) (xs : List (Entry ℕ)) (bs : List (Entry Message)) → Within low high xs → Within low high bs
    → find j (acts_in K xs bs) ≡ acts K j bs (find j xs)
find_acts_in K j low high xs [] w v = refl
find_acts_in K j low high xs (b ∷ bs) w v =
    find_acts_in K j low high (act_in K b.key b.value xs) bs (within_act K b.key low high b.value xs v.0 v.1 w)
    (within_wider (suc b.key) high low high bs (omega arith) (omega arith) v.2)
    ∙ ap (acts K j bs) (find_act K b.key j low high b.value xs w)

below_drop : {V : Type 0} (r i : ℕ) (xs : List (Entry V)) → i ≤ below r xs → below r (drop i xs) + i ≡ below r xs
below_drop r zero xs h = omega arith
below_drop r (suc i) [] h = absurd (omega arith)
below_drop r (suc i) (x ∷ xs) h = let e = below_drop r i xs in grind (arith, nat_tests)

-- ---- the move: a full batch, from q on and below r
pub size_full : (q r : ℕ) (xs : List (Entry Message)) → below q xs + 16 ≤ below r xs → batch_size q r xs ≡ 16
size_full q r xs h = omega arith

module _ (K : Algebra) (low high q r : ℕ) (xs : List (Entry Message)) (w : Within low high xs) (h : below q xs + 16 ≤ below r xs) where
  pub within_rest : Within low high (rest q r xs)
  within_rest = within_cut low high (below q xs) (batch_size q r xs) xs w

  pub within_batch : Within q r (batch q r xs)
  within_batch =
      within_below q high r (batch_size q r xs) (drop (below q xs) xs) (omega (arith, size_full q r xs h, below_drop r (below q xs) xs (omega arith)))
      (within_above low high q xs w)

  pub acts_rest : (j : ℕ) (o : Option ℕ) → acts K j (rest q r xs) (acts K j (batch q r xs) o) ≡ acts K j xs o
  acts_rest j o =
      let n = batch_size q r xs in
      let A = take (below q xs) xs in
      let B = batch q r xs in
      let C = drop (below q xs + n) xs in
      let e : acts K j xs o ≡ acts K j C (acts K j B (acts K j A o)) =
      ap (λ l. acts K j l o) (sym (take-append-drop (below q xs) xs)) ∙ acts_append K j A (drop (below q xs) xs) o
      ∙ ap (λ l. acts K j l (acts K j A o)) (sym (take-append-drop n (drop (below q xs) xs)))
      ∙ acts_append K j B (drop n (drop (below q xs) xs)) (acts K j A o)
      ∙ ap (λ l. acts K j l (acts K j B (acts K j A o))) (drop-drop n (below q xs) xs) in
      acts_append K j A C (acts K j B o) ∙ ap (acts K j C) (⊎_elim
      (λ l. let b : (o : Option ℕ) → acts K j B o ≡ o = λ o. acts_under K j q r B o within_batch l in ap (acts K j A) (b o) ∙ sym (b (acts K j A o)))
      (λ l. let a : (o : Option ℕ) → acts K j A o ≡ o = λ o. acts_over K j low q A o (within_below low high q (below q xs) xs (omega arith) w) l
      in a (acts K j B o) ∙ ap (acts K j B) (sym (a o)))
      (cases_lt j q))
      ∙ sym e

-- ---- the split, below q and from q on
pub acts_low : (K : Algebra) (k low high q : ℕ) (xs : List (Entry Message)) (o : Option ℕ) → Within low high xs → k < q
    → acts K k (take (below q xs) xs) o ≡ acts K k xs o
acts_low K k low high q xs o w h =
    sym (ap (λ l. acts K k l o) (sym (take-append-drop (below q xs) xs)) ∙ acts_append K k (take (below q xs) xs) (drop (below q xs) xs) o
    ∙ acts_under K k q high (drop (below q xs) xs) _ (within_above low high q xs w) h)

pub acts_high : (K : Algebra) (k low high q : ℕ) (xs : List (Entry Message)) (o : Option ℕ) → Within low high xs → q ≤ k
    → acts K k (drop (below q xs) xs) o ≡ acts K k xs o
acts_high K k low high q xs o w h =
    sym (ap (λ l. acts K k l o) (sym (take-append-drop (below q xs) xs)) ∙ acts_append K k (take (below q xs) xs) (drop (below q xs) xs) o
    ∙ ap (acts K k (drop (below q xs) xs)) (acts_over K k low q (take (below q xs) xs) o (within_below low high q (below q xs) xs (omega arith) w) h))

-- ---- two lists in a row
pub find_append : {V : Type 0} (k low high : ℕ) (xs ys : List (Entry V)) → Within low high xs → high ≤ k → find k (xs ++ ys) ≡ find k ys
find_append k low high [] ys w h = refl
find_append k low high (x ∷ xs) ys w h = rw (lt-ltb x.key k (omega arith)) (find_append k (suc x.key) high xs ys w.2 h)

pub find_append' : {V : Type 0} (k : ℕ) (xs ys : List (Entry V)) → find k ys ≡ None → find k (xs ++ ys) ≡ find k xs
find_append' k [] ys e = e
find_append' k (x ∷ xs) ys e = ap (λ o. cond (ltb x.key k) o (cond (eqb x.key k) (Some x.value) None)) (find_append' k xs ys e)
