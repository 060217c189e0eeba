-- Formatting a device, closing a store that holds a tree, and opening it again.
use Rattle.std.proofs.Common.{◌≡◌, ℕ, ◌<◌, ◌≤◌, eqb, ltb, List, [], Some, None, sym, refl, ap, ◌∙◌, subst, arith}
use Rattle.std.proofs.lemmas.Bool.{cond-true, cond-false, eq-eqb, ne_eqb, le-ltb}
use Rattle.blocks.specs.Media.{most_blocks}
use Rattle.messages.specs.Algebra.{Algebra}
use Rattle.messages.specs.declared.entry.Entry.{Entry}
use Rattle.messages.specs.declared.message.Message.{Message}
use Rattle.nodes.specs.Blocks.{header_of}
use Rattle.nodes.specs.Checks.{root_fault}
use Rattle.nodes.specs.Roots.{Root, root_block, root_of, fresh_root}
use Rattle.nodes.proofs.RoundTrips.{root_back}
use Rattle.node_ops.specs.CodeOf.{code_of}
use Rattle.plan.specs.Images.{Image, Try, bind, image_read, image_written}
use Rattle.plan.specs.Images.Try.{done}
use Rattle.rules.specs.Marks.{mark_of}
use Rattle.rules.specs.declared.mark.Mark.TheVariants.{Closed, InUse}
use Rattle.bridge.proofs.Update.{fresh_bridge}
use Rattle.bridge.specs.Work.{AllSound}
use Rattle.store_plan.specs.Contents.{Contents}
use Rattle.store_plan.specs.Openings.{Opened, lost_block, format_refusal, format_writes, unless, by_kind, by_rule, loaded, opened, opening, image_after, closed}
use Rattle.tree.specs.Nodes.{node}
use Rattle.tree.specs.Operations.{fresh}
use Rattle.tree.specs.Update.{grown}
use Rattle.tree.proofs.Shapes.{good_trees}
use Rattle.store_laws.specs.Held.{root_of_tree, Holds, Rests}
use Rattle.store_laws.specs.Laws.{CloseLaw, OpenedAgain, OpenLaw, StandsAgain, FormatLaw}
use Rattle.store_laws.proofs.Images.{stored_after, on_device_after, others_kept, sound_written, load_sound, save_sound}
use Rattle.store_laws.proofs.Roots.{good_root}

-- ---- closing
module _ (K : Algebra) (c : Contents) (h : List (Entry Message)) (holds : Holds K c h) where
  abbrev root : Root
  root = root_of_tree K h

  closed_rests : Rests K (image_written c.image 0 (root_block Closed root)) h
  closed_rests =
      let d = c.image in
      let bs = root_block Closed root in
      let e = image_written d 0 bs in
      record {
        root_block_is = refl;
        stored = stored_after (code_of K) d e (grown K h) (λ b below. others_kept d 0 b bs (λ z. omega arith)) holds.stored;
        on_device = on_device_after d e (grown K h) refl holds.on_device;
        sound = sound_written d 0 bs holds.sound;
        keys = holds.keys;
        few_updates = holds.few_updates;
      }

  closed_is : (allowance : ℕ) → 0 < allowance → closed c.image (Some root) allowance ≡ image_written c.image 0 (root_block Closed root)
  closed_is allowance left =
      let inside : 0 < c.image.size = omega (arith, (good_trees K h holds.keys).two_blocks, holds.on_device.blocks) in
      cond-false (eqb allowance 0) c.image _ (ne_eqb allowance 0 (λ z. omega arith))
      ∙ ap (image_after c.image) (save_sound c.image 0 inside holds.sound (root_block Closed root))

pub close_law : CloseLaw
close_law K c h holds allowance left =
    let is = ap (λ r. closed c.image r allowance) holds.root_is ∙ closed_is K c h holds allowance left in
    record { image_is = is; rests = subst (λ d. Rests K d h) (sym is) (closed_rests K c h holds) }

-- ---- opening
module _ (K : Algebra) (d : Image) (h : List (Entry Message)) (rests : Rests K d h) where
  abbrev kept : Root
  kept = root_of_tree K h

  abbrev after : Image
  after = image_written (image_read d) 0 (root_block InUse kept)

  inside : 0 < d.size
  inside = omega (arith, (good_trees K h rests.keys).two_blocks, rests.on_device.blocks)

  loaded_is : loaded d ≡ done (record { image = image_read d; root = kept; mark = Closed })
  loaded_is =
      let bs = d.bytes 0 in
      let back = root_back d.size Closed kept (good_root K h rests.keys d rests.stored rests.on_device rests.few_updates) in
      let is = rests.root_block_is in
      let fault : root_fault d.size bs ≡ None = ap (root_fault d.size) is ∙ back.0 in
      let root : root_of bs ≡ kept = ap root_of is ∙ back.1 in
      let mark : mark_of (header_of bs).mark ≡ Closed = ap (λ x. mark_of (header_of x).mark) is ∙ back.2 in
      ap (λ t. bind t (λ e. by_rule (root_fault d.size bs) e bs)) (load_sound d 0 inside rests.sound)
      ∙ ap (λ o. by_rule o (image_read d) bs) fault
      ∙ (λ i. done (record { image = image_read d; root = root i; mark = mark i }))

  taken_is : by_kind K Closed (image_read d) kept ≡ done (record { image = after; root = kept })
  taken_is =
      cond-true (eqb K.number K.number) _ _ (eq-eqb K.number K.number refl)
      ∙ ap (λ t. bind t (λ e. done (record { image = e; root = kept }))) (save_sound (image_read d) 0 inside rests.sound (root_block InUse kept))

  opened_is : (allowance : ℕ) → 2 ≤ allowance → opened K d allowance ≡ done (record { image = after; root = kept })
  opened_is allowance left =
      cond-false (eqb d.size 0) _ _ (ne_eqb d.size 0 (λ z. omega (arith, inside)))
      ∙ cond-false (ltb allowance 2) _ _ (le-ltb allowance 2 left)
      ∙ ap (λ t. bind t (λ l. by_kind K l.mark l.image l.root)) loaded_is
      ∙ taken_is

  opened_holds : Holds K (opening (done (record { image = after; root = kept }))) h
  opened_holds = record {
    root_is = refl;
    not_stopped = refl;
    figures_are = refl;
    stored = stored_after (code_of K) d after (grown K h) (λ b below. others_kept (image_read d) 0 b (root_block InUse kept) (λ z. omega arith)) rests.stored;
    on_device = on_device_after d after (grown K h) refl rests.on_device;
    sound = sound_written (image_read d) 0 (root_block InUse kept) rests.sound;
    keys = rests.keys;
    few_updates = rests.few_updates;
  }

pub open_law : OpenLaw
open_law K d h rests allowance left =
    let is = opened_is K d h rests allowance left in
    record { opened_is = is; holds = subst (λ t. Holds K (opening t) h) (sym is) (opened_holds K d h rests) }

pub stands_again : (K : Algebra) (d : Image) (h : List (Entry Message)) (t : Try Opened) → OpenedAgain K d h t → StandsAgain K d h (opening t)
stands_again K d h t again = record { image_is = ap (λ x. (opening x).image) again.opened_is; holds = again.holds }

-- ---- formatting
module _ (K : Algebra) (d : Image) (sound : AllSound d) (blocks : 4 ≤ d.size) (size_fits : d.size ≤ most_blocks) where
  not_refused : (allowance : ℕ) → 2 ≤ allowance → format_refusal d allowance ≡ None
  not_refused allowance left =
      cond-false (ltb d.size 4) _ _ (le-ltb d.size 4 blocks)
      ∙ cond-false (ltb allowance 2) _ _ (le-ltb allowance 2 left)
      ∙ (λ i. lost_block (sound 0 (omega arith) i) (sound 1 (omega arith) i))

  formatted_rests : Rests K (format_writes K d) []
  formatted_rests =
      let leaf = (code_of K).encode (node fresh 1) in
      let bs = root_block Closed (fresh_root K.number) in
      record {
        root_block_is = refl;
        stored = fresh_bridge (code_of K) (format_writes K d) refl;
        on_device = record { blocks = omega (arith, blocks); size_fits = size_fits; levels = omega arith };
        sound = sound_written (image_written d 1 leaf) 0 bs (sound_written d 1 leaf sound);
        keys = tt;
        few_updates = omega arith;
      }

pub format_law : FormatLaw
format_law K d sound blocks size_fits allowance left = record {
  formatted_is = ap (λ o. unless o d (done (format_writes K d))) (not_refused K d sound blocks size_fits allowance left);
  rests = formatted_rests K d sound blocks size_fits;
}
