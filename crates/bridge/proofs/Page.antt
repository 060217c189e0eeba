-- A page on blocks that hold a tree is the tree's page.
use Rattle.std.proofs.Common.{◌≡◌, ℕ, zero, suc, ◌+◌, ◌^◌, ◌<◌, ◌≤◌, cond, eqb, ltb, List, [], ◌∷◌, length, take, Some, None, sym, refl, ap, ◌∙◌, subst, ⊎_elim, arith}
use Rattle.std.proofs.lemmas.Bool.{cases_order, cond-true, cond-false, lt-ltb, le-ltb, eq-eqb}
use Rattle.blocks.specs.Media.{most_blocks}
use Rattle.messages.specs.Algebra.{Algebra}
use Rattle.messages.specs.Lists.{Within, below, find, acts_in}
use Rattle.messages.specs.declared.entry.Entry.{Entry}
use Rattle.messages.specs.declared.message.Message.{Message}
use Rattle.plan.specs.Codes.{Code}
use Rattle.plan.specs.Images.{Image, image_read}
use Rattle.plan.specs.Pages.{Paged, gathered, page_end, page_from}
use Rattle.tree.specs.Lookup.{acts, look, lookup}
use Rattle.tree.specs.Nodes.{Node, node, child, height}
use Rattle.tree.specs.Query.{leaf_of, page, slice}
use Rattle.tree.specs.Shape.{AllSized, In, Tree}
use Rattle.tree.specs.Update.{grown}
use Rattle.tree.proofs.Grown.{held}
use Rattle.tree.proofs.Invariants.{tree}
use Rattle.tree.proofs.Lists.{acts_joins, acts_low, find_acts_in, find_under, within_acts_in, within_below, within_joins, within_wider}
use Rattle.tree.proofs.Move.{inner_sound, leaf_sound, took}
use Rattle.tree.proofs.Plain.{Plain, all_plain}
use Rattle.tree.proofs.Query.{acts_slice, length_path, within_slice}
use Rattle.tree.proofs.Total.{find_slice, one_page, within_min}
use Rattle.bridge.specs.Laws.{PageFound, PageBridge}
use Rattle.bridge.specs.Stored.{most_levels, RoundTrip, Stored}
use Rattle.bridge.specs.Work.{AllSound, Work}
use Rattle.bridge.proofs.Descent.{taking_child, taking_child_then}
use Rattle.bridge.proofs.Outcomes.{Ends, ends_with, when_accepted, never_stops}
use Rattle.bridge.proofs.Working.{no_work, read_more, same_work}

-- ---- lists by rising key that say the same of every key are the same
find_first : {V : Type 0} (x : Entry V) (xs : List (Entry V)) → find x.key (x ∷ xs) ≡ Some x.value
find_first x xs = cond-false (ltb x.key x.key) _ _ (le-ltb x.key x.key (omega arith)) ∙ cond-true (eqb x.key x.key) _ _ (eq-eqb x.key x.key refl)

none_some : {V : Type 0} (v : V) → None ≡ Some v → ⊥
none_some v e = let z : ◌≡◌ {A = ℕ} 0 1 = cc in omega arith

-- no key comes first in one list and later in the other
not_before : {V : Type 0} (high : ℕ) (x y : Entry V) (xs ys : List (Entry V)) → Within y.key high (y ∷ ys) → find x.key (x ∷ xs) ≡ find x.key (y ∷ ys) → x.key < y.key → ⊥
not_before high x y xs ys w e lt = none_some x.value (sym (find_under x.key y.key high (y ∷ ys) w lt) ∙ sym e ∙ find_first x xs)

same_entries : {V : Type 0} (low high : ℕ) (xs ys : List (Entry V)) → Within low high xs → Within low high ys → ((k : ℕ) → low ≤ k → k < high → find k xs ≡ find k ys) → xs ≡ ys
same_entries low high [] [] w v e = refl
same_entries low high [] (y ∷ ys) w v e = absurd (none_some y.value (e y.key v.0 v.1 ∙ find_first y ys))
same_entries low high (x ∷ xs) [] w v e = absurd (none_some x.value (sym (e x.key w.0 w.1) ∙ find_first x xs))
same_entries low high (x ∷ xs) (y ∷ ys) w v e =
    let key : x.key ≡ y.key = ⊎_elim (λ z. z) (⊎_elim
    (λ lt. absurd (not_before high x y xs ys (omega arith, v.1, v.2) (e x.key w.0 w.1) lt))
    (λ lt. absurd (not_before high y x ys xs (omega arith, w.1, w.2) (sym (e y.key v.0 v.1)) lt))) (cases_order x.key y.key) in
    let some : Some x.value ≡ Some y.value = sym (find_first x xs) ∙ e x.key w.0 w.1 ∙ ap (λ k. find k (y ∷ ys)) key ∙ find_first y ys in
    let value : x.value ≡ y.value = cc in
    let tail : xs ≡ ys = same_entries (suc x.key) high xs ys w.2 (subst (λ k. Within (suc k) high ys) (sym key) v.2) (λ k g h.
    sym (cond-true (ltb x.key k) (find k xs) _ (lt-ltb x.key k g)) ∙ e k (omega (arith, w.0)) h ∙ cond-true (ltb y.key k) (find k ys) _ (lt-ltb y.key k (omega arith))) in
    (λ i. record { key = key i; value = value i } ∷ tail i)

-- ---- the way down
module _ {F : Type 0} (C : Code F) (T : RoundTrip C) (a : List Node) (t : Tree a) (sized : AllSized a) (plain : (b : ℕ) → b < length a → Plain (node a b)) (d : Image)
    (inside : length a ≤ d.size) (numbers_fit : length a ≤ most_blocks) (first last : ℕ) where
  abbrev K : Algebra
  K = C.algebra

  -- the page s at the leaf x after n blocks read from the image d on
  record AtLeaf (n : ℕ) (x : Node) (s : Paged) : Type 0 where
    rising : Within first (page_end last x) s.entries
    exact : (k : ℕ) → first ≤ k → k < page_end last x → find k s.entries ≡ lookup K a k
    next_is : s.next ≡ cond (ltb last x.frame.high) None (Some x.frame.high)
    reads_are : s.reads ≡ n
    work : Work d s.image n 0 0

  -- the messages gathered above block b, of level l, make of what stands below it what stands in the tree
  record Gathered (l b : ℕ) (newer : List (Entry Message)) : Type 0 where
    in_page : Within first (page_end last (node a b)) newer
    complete : (k : ℕ) → first ≤ k → k < page_end last (node a b) → acts K k newer (look K l a b k) ≡ lookup K a k

  at_leaf : (b : ℕ) → b < length a → (node a b).frame.level ≡ 0 → In first (node a b).frame → (e : Image) (newer : List (Entry Message)) → Gathered 0 b newer → (n : ℕ) → Work d e n 0 0
      → AtLeaf n (node a b) (record { image = e; entries = slice first (page_end last (node a b)) (acts_in K (node a b).records newer); next = cond (ltb last (node a b).frame.high) None (Some (node a b).frame.high); reads = n })
  at_leaf b i level_is has e newer g n w =
      let x = node a b in
      let low = x.frame.low in
      let high = x.frame.high in
      let records = leaf_sound a _ x level_is (t.sound b i) in
      let messages : Within low high newer = within_wider first (page_end last x) low high newer has.low (omega arith) g.in_page in
      let all = within_acts_in K low high x.records newer records messages in
      record {
        rising = within_slice low high first (page_end last x) (acts_in K x.records newer) all;
        exact = λ k from upto. find_slice k low high first (page_end last x) (acts_in K x.records newer) all from upto ∙ find_acts_in K k low high x.records newer records messages ∙ g.complete k from upto;
        next_is = refl;
        reads_are = refl;
        work = w;
      }

  gathered_below : (l b : ℕ) → b < length a → (node a b).frame.level ≡ suc l → In first (node a b).frame → (newer : List (Entry Message)) → Gathered (suc l) b newer
      → Gathered l (child (node a b).frame first) (gathered K first (page_end last (node a (child (node a b).frame first))) (node a b) newer)
  gathered_below l b i level_is has newer g =
      let x = node a b in
      let c = child x.frame first in
      let p = taking_child a t l b first i level_is in
      let tk = took a t l b first i level_is has in
      let end = page_end last (node a c) in
      let messages = (inner_sound a l _ x level_is (t.sound b i)).0 in
      let own = within_slice _ _ first end x.messages messages in
      let above = within_below first (page_end last x) end (below end newer) newer (omega arith) g.in_page in
      record {
        in_page = within_joins K first end (slice first end x.messages) (take (below end newer) newer) own above;
        complete = λ k from upto.
            let same : child x.frame k ≡ c =
            let tk' = took a t l b k i level_is (record { low = omega (arith, has.low); high = omega (arith, p.under) }) in
            t.apart _ c k tk'.inside tk.inside (tk'.level_is ∙ sym tk.level_is) tk'.has (record { low = omega (arith, tk.has.low); high = omega arith }) in
            acts_joins K k first end (slice first end x.messages) (take (below end newer) newer) (look K l a c k) own above
            ∙ acts_low K k first (page_end last x) end newer _ g.in_page upto
            ∙ ap (acts K k newer) (acts_slice K k _ _ first end x.messages (look K l a c k) messages from upto ∙ ap (λ z. acts K k x.messages (look K l a z k)) (sym same))
            ∙ g.complete k from (omega (arith, p.under));
      }

  page_ends : (l b : ℕ) → l ≤ most_levels → b < length a → (node a b).frame.level ≡ l → (node a b).frame.high ≤ 2 ^ 32 → In first (node a b).frame
      → (e : Image) → Stored C e a → (newer : List (Entry Message)) → Gathered l b newer → (n : ℕ) → Work d e n 0 0
      → Ends (AllSound d) (page_from C l e (length a) (node a b) first last newer n) (AtLeaf (n + l) (node a (leaf_of l a b first)))
  page_ends zero b lev i level_is span has e st newer g n w =
      subst (λ m. AtLeaf m (node a b) (record { image = e; entries = slice first (page_end last (node a b)) (acts_in K (node a b).records newer); next = cond (ltb last (node a b).frame.high) None (Some (node a b).frame.high); reads = n }))
      (let z : n ≡ n + 0 = omega arith in z) (at_leaf b i level_is has e newer g n w)
  page_ends (suc l) b lev i level_is span has e st newer g n w =
      let c = child (node a b).frame first in
      let p = taking_child a t l b first i level_is in
      let newer' = gathered K first (page_end last (node a c)) (node a b) newer in
      taking_child_then C T a t sized plain d inside numbers_fit l b first (omega arith) i level_is span e st n w
      (λ x. page_from C l x.image (length a) x.child first last (gathered K first (page_end last x.child) (node a b) newer) (n + 1)) _
      (subst (λ m. Ends (AllSound d) (page_from C l (image_read e) (length a) (node a c) first last newer' (n + 1)) (AtLeaf m (node a (leaf_of l a c first))))
      (let z : n + 1 + l ≡ n + suc l = omega arith in z)
      (page_ends l c (omega arith) p.inside p.level_is (omega (arith, p.under)) (took a t l b first i level_is has).has (image_read e) (record { in_blocks = st.in_blocks; words_fit = st.words_fit }) newer' (gathered_below l b i level_is has newer g) (n + 1) (read_more d e n 0 0 w)))

  -- from the root on
  whole_ends : first ≤ last → last < 2 ^ 32 → height a ≤ most_levels → Stored C d a
      → Ends (AllSound d) (page_from C (height a) d (length a) (node a 0) first last [] 0) (PageFound C d a first last)
  whole_ends le lt lev st =
      let o = one_page K a t first last (omega arith) in
      let has : In first (node a 0).frame = record { low = omega (arith, t.root_from_zero); high = omega (arith, t.root_to_end) } in
      let x = node a (leaf_of (height a) a 0 first) in
      let reads : 0 + height a ≡ (page K a first last).reads = omega (arith, length_path (height a) a 0 first) in
      ends_with (AllSound d) (page_from C (height a) d (length a) (node a 0) first last [] 0) (AtLeaf (0 + height a) x) (PageFound C d a first last)
      (page_ends (height a) 0 lev t.has_root refl (omega (arith, t.root_to_end)) has d st [] (record { in_page = tt; complete = λ k from upto. refl }) 0 (no_work d 0))
      (λ s y. record {
        entries_are = same_entries first (page_end last x) s.entries (page K a first last).entries y.rising (within_min first (suc last) x.frame.high (page K a first last).entries o.in_range o.in_span)
            (λ k from upto. y.exact k from upto ∙ sym (o.exact k from (omega arith) (omega arith)));
        next_is = y.next_is;
        reads_are = y.reads_are ∙ reads;
        work = same_work d s.image _ _ 0 0 0 reads refl y.work;
      })

pub page_bridge : {F : Type 0} → PageBridge F
page_bridge C T h ks d st on first last le lt =
    let K = C.algebra in
    let a = grown K h in
    let i = held K h ks in
    let t = tree K a h i.moves i.reached in
    let asked = page_from C (height a) d (length a) (node a 0) first last [] 0 in
    let ends = whole_ends C T a t i.sized (all_plain K a h i.moves i.reached) d on.blocks (omega (arith, on.blocks, on.size_fits)) first last le lt on.levels st in
    record {
      accepted = when_accepted (AllSound d) asked (PageFound C d a first last) ends;
      never_stops = never_stops (AllSound d) asked (PageFound C d a first last) ends;
    }
