-- Updates, queries and pages of a store that holds the tree of its messages.
use Rattle.std.proofs.Common.{◌≡◌, ℕ, ◌+◌, ◌%◌, ◌^◌, ◌<◌, ◌≤◌, true, false, cond, ltb, List, [], ◌∷◌, length, Some, None, Option, sym, refl, ap, ◌∙◌, subst, arith}
use Rattle.std.proofs.lemmas.Bool.{ltb-false}
use Rattle.messages.specs.Algebra.{Algebra}
use Rattle.messages.specs.Lists.{entry}
use Rattle.messages.specs.declared.entry.Entry.{Entry}
use Rattle.messages.specs.declared.message.Message.{Message}
use Rattle.nodes.specs.Roots.{Root}
use Rattle.node_ops.specs.CodeOf.{code_of}
use Rattle.plan.specs.Images.{Image, Try}
use Rattle.plan.specs.Images.Try.{done}
use Rattle.plan.specs.Pages.{Paged, page_from}
use Rattle.plan.specs.Queries.{seek}
use Rattle.plan.specs.Queries as plan
use Rattle.plan.specs.Steps.{Settled, updated}
use Rattle.plan.specs.declared.refusal.StoreRefusal.{StoreRefusal}
use Rattle.plan.specs.declared.refusal.StoreRefusal.TheVariants.{EmptyRange, ShortPage}
use Rattle.bridge.specs.Laws.{Room, Updated, Found, PageFound}
use Rattle.bridge.specs.Stored.{WordFits}
use Rattle.bridge.specs.Work.{Work}
use Rattle.held.proofs.Laws.{store_updates, store_queries, store_pages}
use Rattle.store_plan.specs.Contents.{Contents}
use Rattle.store_plan.specs.Contents.Answer.{accepted}
use Rattle.store_plan.specs.Openings.{figures_of}
use Rattle.store_plan.specs.Pages.{table_length, filled, page_refusal, turned, unless_page_refused, paged_store}
use Rattle.store_plan.specs.Queries.{with_image, found, queried}
use Rattle.store_plan.specs.Updates.{settled, unless_refused, update_refusal, updated_root, updated_store}
use Rattle.tree.specs.Nodes.{node, height, next_free}
use Rattle.tree.specs.Query.{query}
use Rattle.tree.specs.Update.{writes, grown, tree_writes}
use Rattle.tree.proofs.Grown.{grown_tree}
use Rattle.tree.proofs.Laws.{map_law, page_law as page_law_of_trees}
use Rattle.store_laws.specs.Held.{root_of_tree, Holds}
use Rattle.store_laws.specs.Laws.{Accepted, UpdateOutcome, UpdateLaw, Answered, QueryLaw, PageGiven, PageOutcome, PageLaw}
use Rattle.store_laws.proofs.Images.{stored_after, on_device_after}
use Rattle.store_laws.proofs.Room.{Allowed, allowed, free_level}

-- ---- an update
module _ (K : Algebra) (c : Contents) (h : List (Entry Message)) (holds : Holds K c h) (k : ℕ) (m : Message) (key_fits : k < 2 ^ 32) (word_fits : WordFits m) where
  abbrev r : Root
  r = root_of_tree K h

  abbrev tried : Try Settled
  tried = updated (code_of K) c.image r.next_free r.tree_writes r.node k m

  module _ (free : Allowed r c.image.size) where
    room : Room c.image (grown K h)
    room = record { free_blocks = free.blocks; free_level = free_level (grown K h) (grown_tree K h holds.keys) holds.on_device.levels free.level }

    module _ (s : Settled) (came : Updated (code_of K) c.image r.tree_writes (grown K h) k m s) where
      root_after : updated_root r s ≡ root_of_tree K (entry k m ∷ h)
      root_after =
          let count : length h + 1 ≡ length (entry k m ∷ h) = omega arith in
          let rise : s.writes ≡ (tree_writes K h + writes K k m (grown K h)) % 2 ^ 64 = omega (arith, came.tree_writes_rise) in
          λ i. record { node = came.root_is i; kind = K.number; next_free = came.next_is i; updates = count i; tree_writes = rise i }

      settled_holds : Accepted K c h k m (settled c r (done s))
      settled_holds = record {
        answer_is = refl;
        holds = record {
          root_is = ap Some root_after;
          not_stopped = refl;
          figures_are = ap figures_of root_after;
          stored = came.stored;
          on_device = came.on_device;
          sound = came.work.stays_sound holds.sound;
          keys = (key_fits, holds.keys);
          few_updates = omega (arith, holds.few_updates, free.counted);
        };
        work = came.work;
      }

    accepted_update : Accepted K c h k m (settled c r tried)
    accepted_update =
        let over = store_updates K h holds.keys c.image r.tree_writes holds.stored holds.on_device (omega arith) room k m key_fits word_fits in
        let ended = over.never_stops holds.sound in
        subst (λ t. Accepted K c h k m (settled c r t)) (sym ended.1) (settled_holds ended.0 (over.accepted ended.0 ended.1))

  -- whatever the refusal is
  by_refusal : (o : Option StoreRefusal) → (o ≡ None → Allowed r c.image.size) → UpdateOutcome K c h k m (unless_refused c o (settled c r tried)) o
  by_refusal None free = accepted_update (free refl)
  by_refusal (Some y) free = record { answer_is = refl; contents_kept = refl }

pub update_law : UpdateLaw
update_law K c h holds allowance k m key_fits word_fits =
    let o = update_refusal (root_of_tree K h) c.image.size allowance in
    subst (λ root. UpdateOutcome K c h k m (updated_store K c root allowance k m) o) (sym holds.root_is)
    (by_refusal K c h holds k m key_fits word_fits o (allowed (root_of_tree K h) c.image.size allowance))

-- ---- reads
-- after reads alone the store holds what it held
read_holds : (K : Algebra) (c : Contents) (h : List (Entry Message)) → Holds K c h → (e : Image) (n : ℕ) → Work c.image e n 0 0 → Holds K (with_image c e) h
read_holds K c h holds e n work = record {
  root_is = holds.root_is;
  not_stopped = holds.not_stopped;
  figures_are = holds.figures_are;
  stored = stored_after (code_of K) c.image e (grown K h) (λ b below. work.bytes_kept b (λ _. omega arith)) holds.stored;
  on_device = on_device_after c.image e (grown K h) work.size_kept holds.on_device;
  sound = work.stays_sound holds.sound;
  keys = holds.keys;
  few_updates = holds.few_updates;
}

-- ---- a query
module _ (K : Algebra) (c : Contents) (h : List (Entry Message)) (holds : Holds K c h) (k : ℕ) (key_fits : k < 2 ^ 32) where
  found_holds : (s : plan.Answered) → Found (code_of K) c.image (grown K h) k s → Answered K c h k (found c (done s))
  found_holds s f =
      let says = map_law K h holds.keys k key_fits in
      let work = f.work in
      record {
        answer_is = λ i. accepted ((f.value_is ∙ says.value) i, f.reads_are i);
        reads_at_most = says.reads_at_most;
        holds = read_holds K c h holds s.image (query K (grown K h) k).reads work;
        work = work;
      }

  answered : Answered K c h k (found c (seek (code_of K) (height (grown K h)) c.image (next_free (grown K h)) (node (grown K h) 0) k None 0))
  answered =
      let over = store_queries K h holds.keys c.image holds.stored holds.on_device k in
      let ended = over.never_stops holds.sound in
      subst (λ t. Answered K c h k (found c t)) (sym ended.1) (found_holds ended.0 (over.accepted ended.0 ended.1))

pub query_law : QueryLaw
query_law K c h holds k key_fits = subst (λ root. Answered K c h k (queried K c root k)) (sym holds.root_is) (answered K c h holds k key_fits)

-- ---- a page
-- what passed both tests
page_passed : (low high n : ℕ) → page_refusal low high n ≡ None → low ≤ high
page_passed low high n =
    elim (ltb high low) as (λ v. ltb high low ≡ v → cond v (Some EmptyRange) (cond (ltb n table_length) (Some ShortPage) None) ≡ None → low ≤ high) [
      | true ↦ λ e none. absurd (let z : ◌≡◌ {A = ℕ} 0 1 = cc none in omega arith)
      | false ↦ λ e none. ltb-false high low e
    ] refl

module _ (K : Algebra) (c : Contents) (h : List (Entry Message)) (holds : Holds K c h) (low high : ℕ) (key_fits : high < 2 ^ 32) (table : List (Entry ℕ)) where
  abbrev tried_page : Try Paged
  tried_page = page_from (code_of K) (height (grown K h)) c.image (next_free (grown K h)) (node (grown K h) 0) low high [] 0

  module _ (forward : low ≤ high) where
    paged_holds : (s : Paged) → PageFound (code_of K) c.image (grown K h) low high s → PageGiven K c h low high table (turned c (length table) (done s))
    paged_holds s f =
        let says = page_law_of_trees K h holds.keys low high forward key_fits in
        let work = subst (λ n. Work c.image s.image n 0 0) says.reads f.work in
        record {
          answer_is = λ i. accepted (record { entries = length (f.entries_are i); reads = f.reads_are i; next = f.next_is i });
          table_is = ap (filled (length table)) f.entries_are;
          says = says;
          holds = read_holds K c h holds s.image (height (grown K h)) work;
          work = work;
        }

    given : PageGiven K c h low high table (turned c (length table) tried_page)
    given =
        let over = store_pages K h holds.keys c.image holds.stored holds.on_device low high forward key_fits in
        let ended = over.never_stops holds.sound in
        subst (λ t. PageGiven K c h low high table (turned c (length table) t)) (sym ended.1) (paged_holds ended.0 (over.accepted ended.0 ended.1))

  by_page_refusal : (o : Option StoreRefusal) → (o ≡ None → low ≤ high) → PageOutcome K c h low high table (unless_page_refused c table o (turned c (length table) tried_page)) o
  by_page_refusal None forward = given (forward refl)
  by_page_refusal (Some y) forward = record { answer_is = refl; contents_kept = refl; table_kept = refl }

pub page_law : PageLaw
page_law K c h holds low high key_fits table =
    let o = page_refusal low high (length table) in
    subst (λ root. PageOutcome K c h low high table (paged_store K c root low high table) o) (sym holds.root_is)
    (by_page_refusal K c h holds low high key_fits table o (page_passed low high (length table)))
