-- Page by page, every present key of a range is met once, in rising order.
use Rattle.std.proofs.Common.{◌≡◌, ℕ, zero, suc, ◌-◌, ◌^◌, ◌<◌, ◌≤◌, min, ltb, List, [], ◌∷◌, ◌++◌, take, drop, Some, None, sym, ap, ◌∙◌, ⊎_elim, arith}
use Rattle.std.proofs.lemmas.List.{take-append-drop, append-nil}
use Rattle.std.proofs.lemmas.Bool.{cases_lt, ltb-true, ltb-false, lt-ltb, le-ltb, cond_both}
use Rattle.messages.specs.Algebra.{Algebra}
use Rattle.messages.specs.Lists.{Within, below, find}
use Rattle.messages.specs.declared.entry.Entry.{Entry}
use Rattle.tree.specs.Lookup.{lookup}
use Rattle.tree.specs.Nodes.{Node}
use Rattle.tree.specs.Query.{entries_from, following, leaf_frame, page, slice, whole_page}
use Rattle.tree.specs.Shape.{Tree}
use Rattle.tree.proofs.Lists.{within_above, within_below, within_take, within_wider, find_under, find_append, find_append'}
use Rattle.tree.proofs.Query.{pages, within_slice}

find_low : (k low high q : ℕ) (xs : List (Entry ℕ)) → Within low high xs → k < q → find k (take (below q xs) xs) ≡ find k xs
find_low k low high q xs w h =
    sym (ap (find k) (sym (take-append-drop (below q xs) xs))
    ∙ find_append' k (take (below q xs) xs) (drop (below q xs) xs) (find_under k q high (drop (below q xs) xs) (within_above low high q xs w) h))

find_high : (k low high q : ℕ) (xs : List (Entry ℕ)) → Within low high xs → q ≤ k → find k (drop (below q xs) xs) ≡ find k xs
find_high k low high q xs w h =
    sym (ap (find k) (sym (take-append-drop (below q xs) xs))
    ∙ find_append k low q (take (below q xs) xs) (drop (below q xs) xs) (within_below low high q (below q xs) xs (omega arith) w) h)

pub find_slice : (k low high q r : ℕ) (xs : List (Entry ℕ)) → Within low high xs → q ≤ k → k < r → find k (slice q r xs) ≡ find k xs
find_slice k low high q r xs w g h = find_low k q high r (drop (below q xs) xs) (within_above low high q xs w) h ∙ find_high k low high q xs w g

within_append : (low mid high : ℕ) (xs ys : List (Entry ℕ)) → low ≤ mid → mid ≤ high → Within low mid xs → Within mid high ys → Within low high (xs ++ ys)
within_append low mid high [] ys g h w v = within_wider mid high low high ys g (omega arith) v
within_append low mid high (x ∷ xs) ys g h w v = (w.0, omega (arith, w.1), within_append (suc x.key) mid high xs ys w.1 h w.2 v)

-- a list below two bounds is below the smaller
pub within_min : (low q r : ℕ) (xs : List (Entry ℕ)) → Within low q xs → Within low r xs → Within low (min q r) xs
within_min low q r [] w v = tt
within_min low q r (x ∷ xs) w v = (w.0, omega (arith, w.1, v.1), within_min (suc x.key) q r xs w.2 v.2)

module _ (K : Algebra) (a : List Node) (t : Tree a) where
  -- what one page gives
  pub record OnePage (first last : ℕ) : Type 0 where
    pub from : (leaf_frame a first).low ≤ first
    pub upto : first < (leaf_frame a first).high
    pub in_range : Within first (suc last) (page K a first last).entries
    pub in_span : Within first (leaf_frame a first).high (page K a first last).entries
    pub exact : (k : ℕ) → first ≤ k → k ≤ last → k < (leaf_frame a first).high → find k (page K a first last).entries ≡ lookup K a k

  pub one_page : (first last : ℕ) → first < 2 ^ 32 → OnePage first last
  one_page first last h =
      let p = pages K a t first h in
      let xs = whole_page K a first in
      record {
        from = p.0.0;
        upto = p.0.1;
        in_range = within_slice _ _ first (suc last) xs p.0.2;
        in_span = within_take first _ _ (drop (below first xs) xs) (within_above _ _ first xs p.0.2);
        exact = λ k x y z. find_slice k _ _ first (suc last) xs p.0.2 x (omega arith) ∙ p.1 k (omega (arith, p.0.0)) z;
      }

  pub all_pages : (n first last : ℕ) → last < 2 ^ 32 → first ≤ last → last - first ≤ n
      → Within first (suc last) (entries_from K n a first last) × ((k : ℕ) → first ≤ k → k ≤ last → find k (entries_from K n a first last) ≡ lookup K a k)
  all_pages zero first last h g le = let o = one_page first last (omega arith) in (o.in_range, λ k x y. o.exact k x y (omega (arith, o.upto)))
  all_pages (suc n) first last h g le =
      let o = one_page first last (omega arith) in
      let c = (page K a first last).entries in
      let end = (leaf_frame a first).high in
      let go = following (λ k. entries_from K n a k last) in
      cond_both (ltb last end) None (Some end)
      (λ next. Within first (suc last) (c ++ go next) × ((k : ℕ) → first ≤ k → k ≤ last → find k (c ++ go next) ≡ lookup K a k))
      (λ e. (rw append-nil o.in_range, λ k x y. rw append-nil (o.exact k x y (omega (arith, ltb-true last end e)))))
      (λ e.
      let le' : end ≤ last = ltb-false last end e in
      let ih = all_pages n end last h le' (omega (arith, o.upto)) in (
        within_append first end (suc last) c (entries_from K n a end last) (omega (arith, o.upto)) (omega arith) o.in_span ih.0,
        λ k x y. ⊎_elim
            (λ (q : k < end). find_append' k c (entries_from K n a end last) (find_under k end (suc last) (entries_from K n a end last) ih.0 q) ∙ o.exact k x y q)
            (λ (q : end ≤ k). find_append k first end c (entries_from K n a end last) o.in_span q ∙ ih.1 k q y)
            (cases_lt k end),
      ))

  -- the key that a page gives
  pub next_none : (first last : ℕ) → last < (leaf_frame a first).high → (page K a first last).next ≡ None
  next_none first last h = rw (lt-ltb last (leaf_frame a first).high h)

  pub next_some : (first last : ℕ) → (leaf_frame a first).high ≤ last → (page K a first last).next ≡ Some (leaf_frame a first).high
  next_some first last h = rw (le-ltb last (leaf_frame a first).high h)
