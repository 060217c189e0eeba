-- A query gives what stands for the key, a page what stands for the keys of a leaf.
use Rattle.std.proofs.Common.{◌≡◌, ℕ, zero, suc, ◌+◌, ◌*◌, ◌^◌, ◌<◌, ◌≤◌, List, [], ◌∷◌, length, drop, Some, None, Option, sym, refl, ap, ◌∙◌, subst, ⊎_elim, add-one, arith, length-drop, length-take}
use Rattle.std.proofs.lemmas.Bool.{cases_lt, cases_eq, eq-eqb, ne_eqb, lt-ltb, le-ltb}
use Rattle.messages.specs.Algebra.{Algebra}
use Rattle.messages.specs.Lists.{Within, below, find}
use Rattle.messages.specs.Messages.{effect}
use Rattle.messages.specs.declared.entry.Entry.{Entry}
use Rattle.messages.specs.declared.message.Message.{Message}
use Rattle.tree.specs.Lookup.{acts, look, lookup}
use Rattle.tree.specs.Nodes.{Node, child, node, height}
use Rattle.tree.specs.Query.{Answer, acted, ask, joined_before, leaf_of, leaf_frame, leaf_page, messages_met, path, page, query, settle, slice, unsettled, whole_page}
use Rattle.tree.specs.Shape.{In, Tree, AllSized}
use Rattle.messages.specs.declared.message.Message.TheVariants.{Put, Remove, Add}
use Rattle.tree.proofs.Lists.{acts_under, fold_law, within_above, within_below, acts_high, acts_low, within_acts_in, find_acts_in}
use Rattle.tree.proofs.Move.{took, inner_sound, leaf_sound}
use Rattle.tree.proofs.Frames.{children_pick}
use Rattle.tree.proofs.Lengths.{length_acts}

-- what one message, if any, makes of what a key holds
act_of : Algebra → Option Message → Option ℕ → Option ℕ
act_of K None o = o
act_of K (Some m) o = effect K m o

acts_find : (K : Algebra) (k low high : ℕ) (xs : List (Entry Message)) (o : Option ℕ) → Within low high xs → acts K k xs o ≡ act_of K (find k xs) o
unfolding act_of
acts_find K k low high [] o w = refl
acts_find K k low high (x ∷ xs) o w = ⊎_elim
    (λ (h : x.key < k). rw (lt-ltb x.key k h, ne_eqb x.key k (omega arith)) (acts_find K k (suc x.key) high xs o w.2))
    (λ (h : k ≤ x.key). rw (le-ltb x.key k h) (⊎_elim
    (λ (e : x.key ≡ k). rw (eq-eqb x.key k e) (acts_under K k (suc x.key) high xs (effect K x.value o) w.2 (omega arith)))
    (λ e. rw (ne_eqb x.key k e) (acts_under K k (suc x.key) high xs o w.2 (omega arith)))
    (cases_eq x.key k)))
    (cases_lt x.key k)

acted_joined : (K : Algebra) (e : ℕ) (met : Option ℕ) (o : Option ℕ) → acted K (Some (joined_before K e met)) o ≡ acted K met (effect K (Add e) o)
acted_joined K e None o = refl
acted_joined K e (Some d) o = fold_law K (Add e) (Add d) o

settle_value : (K : Algebra) (met : Option ℕ) (m : Option Message) (go : Option ℕ → Answer) (o : Option ℕ) → ((met : Option ℕ) → (go met).value ≡ acted K met o)
    → (settle K met m go).value ≡ acted K met (act_of K m o)
unfolding act_of
settle_value K met None go o h = h met
settle_value K met (Some (Put v)) go o h = refl
settle_value K met (Some Remove) go o h = refl
settle_value K met (Some (Add e)) go o h = h _ ∙ acted_joined K e met o

settle_reads : (K : Algebra) (met : Option ℕ) (m : Option Message) (go : Option ℕ → Answer) (n : ℕ) → ((met : Option ℕ) → (go met).reads ≤ n) → (settle K met m go).reads ≤ n
settle_reads K met None go n h = h met
settle_reads K met (Some (Put v)) go n h = omega arith
settle_reads K met (Some Remove) go n h = omega arith
settle_reads K met (Some (Add e)) go n h = h _

asks : (K : Algebra) (a : List Node) → Tree a → (l b k : ℕ) (met : Option ℕ) → b < length a → (node a b).frame.level ≡ l → In k (node a b).frame
    → ((ask K l a b k met).value ≡ acted K met (look K l a b k)) × ((ask K l a b k met).reads ≤ l)
asks K a t zero b k met hb e i = (refl, omega arith)
asks K a t (suc l) b k met hb e i =
    let tk = took a t l b k hb e i in
    let d = child (node a b).frame k in
    let ih : (met : Option ℕ) → ((ask K l a d k met).value ≡ acted K met (look K l a d k)) × ((ask K l a d k met).reads ≤ l)
    = λ met. asks K a t l d k met tk.inside tk.level_is tk.has in
    let w = (inner_sound a l _ (node a b) e (t.sound b hb)).0 in (
      settle_value K met (find k (node a b).messages) _ (look K l a d k) (λ met. (ih met).0)
          ∙ ap (acted K met) (sym (acts_find K k _ _ (node a b).messages (look K l a d k) w)),
      settle_reads K met (find k (node a b).messages) _ (suc l) (λ met. omega (arith, (ih met).1)),
    )

asks_reads : (K : Algebra) (l : ℕ) (a : List Node) (b k : ℕ) (met : Option ℕ) → (ask K l a b k met).reads ≡ unsettled (messages_met l a b k)
asks_reads K zero a b k met = refl
asks_reads K (suc l) a b k met = go (find k (node a b).messages) (λ met. asks_reads K l a (child (node a b).frame k) k met)
  where
    go : (m : Option Message) → ((met : Option ℕ) → (ask K l a (child (node a b).frame k) k met).reads ≡ unsettled (messages_met l a (child (node a b).frame k) k))
        → (settle K met m (λ met. let r = ask K l a (child (node a b).frame k) k met in record { value = r.value; reads = r.reads + 1 })).reads
        ≡ unsettled (m ∷ messages_met l a (child (node a b).frame k) k)
    go None ih = rw add-one (ap suc (ih met))
    go (Some (Put v)) ih = refl
    go (Some Remove) ih = refl
    go (Some (Add e)) ih = rw add-one (ap suc (ih (Some (joined_before K e met))))

-- a query reads one block for each node on the way that settles nothing
pub query_reads : (K : Algebra) (a : List Node) (k : ℕ) → (query K a k).reads ≡ unsettled (messages_met (height a) a 0 k)
query_reads K a k = asks_reads K (height a) a 0 k None

pub queries : (K : Algebra) (a : List Node) → Tree a → (k : ℕ) → k < 2 ^ 32 → ((query K a k).value ≡ lookup K a k) × ((query K a k).reads ≤ height a)
queries K a t k h = asks K a t (height a) 0 k None t.has_root refl (record { low = omega (arith, t.root_from_zero); high = omega (arith, t.root_to_end) })

-- ---- pages
-- the leaf that a key leads to from b
record Leads (a : List Node) (b d k : ℕ) : Type 0 where
  inside : d < length a
  level_is : (node a d).frame.level ≡ 0
  has : In k (node a d).frame
  low : (node a b).frame.low ≤ (node a d).frame.low
  high : (node a d).frame.high ≤ (node a b).frame.high

leads : (a : List Node) → Tree a → (l b k : ℕ) → b < length a → (node a b).frame.level ≡ l → In k (node a b).frame → Leads a b (leaf_of l a b k) k
leads a t zero b k hb e i = record { inside = hb; level_is = e; has = i; low = omega arith; high = omega arith }
leads a t (suc l) b k hb e i =
    let tk = took a t l b k hb e i in
    let pt = children_pick a l _ _ (node a b).frame.low (node a b).frame.children (node a b).frame.pivots k (inner_sound a l _ (node a b) e (t.sound b hb)).1 (omega arith) in
    let h = leads a t l (child (node a b).frame k) k tk.inside tk.level_is tk.has in
    record { inside = h.inside; level_is = h.level_is; has = h.has; low = omega (arith, pt.above, h.low); high = omega (arith, pt.under, h.high) }

pub within_slice : {V : Type 0} (low high q r : ℕ) (xs : List (Entry V)) → Within low high xs → Within q r (slice q r xs)
within_slice low high q r xs w = within_below q high r _ (drop (below q xs) xs) (omega arith) (within_above low high q xs w)

pub acts_slice : (K : Algebra) (k low high q r : ℕ) (xs : List (Entry Message)) (o : Option ℕ) → Within low high xs → q ≤ k → k < r → acts K k (slice q r xs) o ≡ acts K k xs o
acts_slice K k low high q r xs o w g h = acts_low K k q high r (drop (below q xs) xs) o (within_above low high q xs w) h ∙ acts_high K k low high q xs o w g

pages_from : (K : Algebra) (a : List Node) → Tree a → (l b k₀ low high : ℕ) → b < length a → (node a b).frame.level ≡ l → In k₀ (node a b).frame
    → low ≡ (node a (leaf_of l a b k₀)).frame.low → high ≡ (node a (leaf_of l a b k₀)).frame.high
    → Within low high (leaf_page K l a b k₀ low high) × ((k : ℕ) → low ≤ k → k < high → find k (leaf_page K l a b k₀ low high) ≡ look K l a b k)
pages_from K a t zero b k₀ low high hb e i el eh =
    (subst (λ x. Within x high (node a b).records) (sym el) (subst (λ x. Within (node a b).frame.low x (node a b).records) (sym eh) (leaf_sound a _ (node a b) e (t.sound b hb))), λ k g h. refl)
pages_from K a t (suc l) b k₀ low high hb e i el eh =
    let tk = took a t l b k₀ hb e i in
    let d = child (node a b).frame k₀ in
    let s = inner_sound a l _ (node a b) e (t.sound b hb) in
    let ih = pages_from K a t l d k₀ low high tk.inside tk.level_is tk.has el eh in
    let ld = leads a t l d k₀ tk.inside tk.level_is tk.has in
    let lb = leads a t (suc l) b k₀ hb e i in
    let ws = within_slice _ _ low high (node a b).messages s.0 in (
      within_acts_in K low high (leaf_page K l a d k₀ low high) (slice low high (node a b).messages) ih.0 ws,
      λ k g h.
          let same : child (node a b).frame k ≡ d =
          let tk' = took a t l b k hb e (record { low = omega (arith, lb.low); high = omega (arith, lb.high) }) in
          t.apart _ d k tk'.inside tk.inside (tk'.level_is ∙ sym tk.level_is) tk'.has (record { low = omega (arith, ld.low); high = omega (arith, ld.high) }) in
          find_acts_in K k low high (leaf_page K l a d k₀ low high) (slice low high (node a b).messages) ih.0 ws
          ∙ acts_slice K k _ _ low high (node a b).messages _ s.0 g h
          ∙ ap (acts K k (node a b).messages) (ih.1 k g h ∙ ap (λ x. look K l a x k) (sym same)),
    )

-- what the leaf that holds a key gives with all messages on their way to it
pub pages : (K : Algebra) (a : List Node) → Tree a → (k₀ : ℕ) → k₀ < 2 ^ 32
    → (((leaf_frame a k₀).low ≤ k₀) × (k₀ < (leaf_frame a k₀).high) × Within (leaf_frame a k₀).low (leaf_frame a k₀).high (whole_page K a k₀))
    × ((k : ℕ) → (leaf_frame a k₀).low ≤ k → k < (leaf_frame a k₀).high → find k (whole_page K a k₀) ≡ lookup K a k)
pages K a t k₀ h =
    let i : In k₀ (node a 0).frame = record { low = omega (arith, t.root_from_zero); high = omega (arith, t.root_to_end) } in
    let ld = leads a t (height a) 0 k₀ t.has_root refl i in
    let p = pages_from K a t (height a) 0 k₀ _ _ t.has_root refl i refl refl in
    ((ld.has.low, ld.has.high, p.0), p.1)

-- a page reads one block on each level below the root
pub length_path : (l : ℕ) (a : List Node) (b k : ℕ) → length (path l a b k) ≡ l
length_path zero a b k = refl
length_path (suc l) a b k = ap suc (length_path l a (child (node a b).frame k) k)

pub length_slice : {V : Type 0} (q r : ℕ) (xs : List (Entry V)) → length (slice q r xs) ≤ length xs
length_slice q r xs = simp (length-take, length-drop) (omega arith)

length_leaf_page : (K : Algebra) (a : List Node) → Tree a → AllSized a → (l b k low high : ℕ) → b < length a → (node a b).frame.level ≡ l → In k (node a b).frame
    → length (leaf_page K l a b k low high) ≤ 256 * (l + 1)
length_leaf_page K a t z zero b k low high hb e i = omega (arith, (z b hb).records_le)
length_leaf_page K a t z (suc l) b k low high hb e i =
    let tk = took a t l b k hb e i in
    let d = child (node a b).frame k in
    let ih = length_leaf_page K a t z l d k low high tk.inside tk.level_is tk.has in
    let n = length_acts K (leaf_page K l a d k low high) (slice low high (node a b).messages) in
    omega (arith, length_slice low high (node a b).messages, (z b hb).messages_le)

-- how long a page can be
pub length_page : (K : Algebra) (a : List Node) → Tree a → AllSized a → (first last : ℕ) → first < 2 ^ 32 → length (page K a first last).entries ≤ 256 * (height a + 1)
length_page K a t z first last h =
    let i : In first (node a 0).frame = record { low = omega (arith, t.root_from_zero); high = omega (arith, t.root_to_end) } in
    let n = length_leaf_page K a t z (height a) 0 first (leaf_frame a first).low (leaf_frame a first).high t.has_root refl i in
    omega (arith, length_slice first (suc last) (whole_page K a first))
