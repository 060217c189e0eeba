-- What a store of a book keeps from call to call: the tree of its messages, and the count of its device's writes.
use Rattle.std.proofs.Common.{◌≡◌, ℕ, ◌+◌, ◌-◌, ◌*◌, ◌%◌, ◌^◌, ◌<◌, ◌≤◌, eqb, ltb, ◌⊎◌, List, length, Some, None, sym, refl, ap, ◌∙◌, subst, inl, inr, ⊎_elim, arith}
use Rattle.std.proofs.lemmas.Bool.{cases_lt, lt-ltb, ne_eqb, cond-true, cond-false}
use Rattle.blocks.specs.Media.{Medium, Lowered}
use Rattle.messages.specs.Algebra.{Algebra}
use Rattle.messages.specs.declared.entry.Entry.{Entry}
use Rattle.messages.specs.declared.message.Message.{Message}
use Rattle.plan.specs.Images.{Image, Try, image}
use Rattle.plan.specs.Images.Try.{stop}
use Rattle.plan.specs.Reports.{Report}
use Rattle.store_laws.specs.Held.{Holds, Rests}
use Rattle.store_laws.proofs.Openings.{open_law, stands_again, close_law}
use Rattle.store_plan.specs.Contents.{Contents}
use Rattle.store_plan.specs.Openings.{Opened, opened, opening, closed}
use Rattle.plan.specs.Reports.{store_report}
use Rattle.plan.specs.declared.refusal.StoreRefusal.TheVariants.{Spent}
use Rattle.tree.specs.Nodes.{height}
use Rattle.tree.specs.Update.{grown, tree_writes}
use Rattle.tree.proofs.Shapes.{good_trees}
use Rattle.tree.proofs.Grown.{wear}
use Rattle.traces.specs.Law.{Worn, one_if, one_if_none}
use Rattle.book_plan.specs.Readings.{stands, reading_of}

-- the device's count after o openings and l closings, and the tree writes of the messages h
abbrev pub WritesSo : Algebra → ℕ → ℕ → ℕ → List (Entry Message) → ℕ → Type 0
WritesSo K start o l h w = w % 2 ^ 64 ≡ (start + (2 + o + l + tree_writes K h)) % 2 ^ 64

-- a store at rest on an image
pub record Resting (K : Algebra) (start o l : ℕ) (h : List (Entry Message)) (d : Image) : Type 0 where
  pub rests : Rests K d h
  pub writes : WritesSo K start o l h d.writes

-- an open store, which has a write left for its closing
pub record Open (K : Algebra) (start o l : ℕ) (h : List (Entry Message)) (c : Contents) (a : ℕ) : Type 0 where
  pub holds : Holds K c h
  pub funded : 0 < a
  pub writes : WritesSo K start o l h c.image.writes

-- a store whose opening was refused: it rests
pub record Stopped (K : Algebra) (start o l : ℕ) (h : List (Entry Message)) (c : Contents) : Type 0 where
  pub report : Report
  pub first_is : c.first ≡ Some report
  pub no_root : c.root ≡ None
  pub resting : Resting K start o l h c.image

abbrev pub Kept : Algebra → ℕ → ℕ → ℕ → List (Entry Message) → Contents → ℕ → Type 0
Kept K start o l h c a = Open K start o l h c a ⊎ Stopped K start o l h c

module _ (K : Algebra) (start o l : ℕ) (h : List (Entry Message)) where
  -- ---- opening
  module _ (m : Medium) (a : ℕ) (resting : Resting K start o l h (image m)) (lowered : Lowered m.allowance a) where
    abbrev tried : Try Opened
    tried = opened K (image m) m.allowance

    opens : 2 ≤ m.allowance → Kept K start (o + one_if_none (opening tried).first) (l + 0) h (opening tried) a
    opens enough =
        let again = stands_again K (image m) h tried (open_law K (image m) h resting.rests m.allowance enough) in
        let count = ap (λ (e : Image). e.writes) again.image_is in
        inl (subst (λ x. Open K start (o + one_if_none x) (l + 0) h (opening tried) a) (sym again.holds.not_stopped)
        (record { holds = again.holds; funded = omega (arith, lowered.1); writes = omega (arith, count, resting.writes) }))

    some_size : (image m).size ≡ 0 → ⊥
    some_size e = omega (arith, resting.rests.on_device.blocks, (good_trees K h resting.rests.keys).two_blocks)

    spent : m.allowance < 2 → tried ≡ stop (image m) (store_report Spent)
    spent few =
        cond-false (eqb m.size 0) _ _ (ne_eqb m.size 0 some_size) ∙ cond-true (ltb m.allowance 2) _ _ (lt-ltb m.allowance 2 few)

    stays : m.allowance < 2 → Kept K start (o + one_if_none (opening tried).first) (l + 0) h (opening tried) a
    stays few =
        subst (λ t. Kept K start (o + one_if_none (opening t).first) (l + 0) h (opening t) a) (sym (spent few))
        (inr (record { report = store_report Spent; first_is = refl; no_root = refl; resting = record { rests = resting.rests; writes = omega (arith, resting.writes) } }))

    pub opening_kept : Kept K start (o + one_if_none (opening tried).first) (l + 0) h (opening tried) a
    opening_kept = ⊎_elim stays opens (cases_lt m.allowance 2)

  -- ---- closing
  module _ (c : Contents) (a : ℕ) where
    open_closes : Open K start o l h c a → Resting K start (o + 0) (l + one_if (stands c.root)) h (closed c.image c.root a)
    open_closes kept =
        let over = close_law K c h kept.holds a kept.funded in
        let count = ap (λ (e : Image). e.writes) over.image_is in
        let shut = closed c.image c.root a in
        subst (λ r. Resting K start (o + 0) (l + one_if (stands r)) h shut) (sym kept.holds.root_is)
        (record { rests = over.rests; writes = omega (arith, count, kept.writes) })

    stopped_closes : Stopped K start o l h c → Resting K start (o + 0) (l + one_if (stands c.root)) h (closed c.image c.root a)
    stopped_closes kept =
        subst (λ r. Resting K start (o + 0) (l + one_if (stands r)) h (closed c.image r a)) (sym kept.no_root)
        (record { rests = kept.resting.rests; writes = omega (arith, kept.resting.writes) })

    pub closing_kept : Kept K start o l h c a → Resting K start (o + 0) (l + one_if (stands c.root)) h (closed c.image c.root a)
    closing_kept kept = ⊎_elim open_closes stopped_closes kept

    -- ---- a reading of an open store
    pub worn : Open K start o l h c a → (reading_of c).writes < 2 ^ 64 → Worn start o l (length h) (reading_of c)
    worn kept fits =
        let figures = kept.holds.figures_are in
        let w = wear K h kept.holds.keys in
        let updates : c.figures.updates ≡ length h = ap (λ f. f.updates) figures in
        let high : c.figures.height ≡ height (grown K h) = ap (λ f. f.height) figures in
        let count : c.figures.tree_writes ≡ tree_writes K h % 2 ^ 64 = ap (λ f. f.tree_writes) figures in
        record {
          updates_are = updates;
          writes_are = omega (arith, kept.writes, count);
          pace = subst (λ n. 16 * c.figures.tree_writes ≤ n * (c.figures.height + 1)) (sym updates)
              (subst (λ n. 16 * c.figures.tree_writes ≤ length h * (n + 1)) (sym high) (omega (arith, w.pace, count)));
          tall = subst (λ n. 2 ≤ n → 113 * (2 * 4 ^ (n - 1) - 1) ≤ c.figures.updates) (sym high)
              (subst (λ n. 2 ≤ height (grown K h) → 113 * (2 * 4 ^ (height (grown K h) - 1) - 1) ≤ n) (sym updates) w.tall);
        }
