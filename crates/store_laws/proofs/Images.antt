-- What a tree in blocks keeps when the root's block is written.
use Rattle.std.proofs.Common.{◌≡◌, ℕ, ◌<◌, eqb, ltb, List, Some, refl, ap, ◌∙◌, arith}
use Rattle.std.proofs.lemmas.Bool.{cond-true, cond-false, cond_both, lt-ltb, ne_eqb}
use Rattle.blocks.specs.Media.{state_read, state_write}
use Rattle.blocks.specs.Refusals.{refusal_number}
use Rattle.blocks.specs.declared.refusal.Refusal.TheVariants.{NoSuchBlock}
use Rattle.blocks.specs.declared.state.State.TheVariants.{Sound}
use Rattle.plan.specs.Codes.{Code}
use Rattle.plan.specs.Images.{Image, unless_refused, load, save, image_read, image_written}
use Rattle.plan.specs.Images.Try.{done}
use Rattle.tree.specs.Nodes.{Node}
use Rattle.bridge.specs.Laws.{OnDevice}
use Rattle.bridge.specs.Stored.{Stored}
use Rattle.bridge.specs.Work.{AllSound}

-- the root has no block in a stored tree, so that only the other blocks count
pub stored_after : {F : Type 0} (C : Code F) (d e : Image) (a : List Node) → ((b : ℕ) → 0 < b → e.bytes b ≡ d.bytes b) → Stored C d a → Stored C e a
stored_after C d e a kept st = record { in_blocks = λ b inside below. kept b below ∙ st.in_blocks b inside below; words_fit = st.words_fit }

pub on_device_after : (d e : Image) (a : List Node) → e.size ≡ d.size → OnDevice d a → OnDevice e a
on_device_after d e a same on = record { blocks = omega (arith, on.blocks, same); size_fits = omega (arith, on.size_fits, same); levels = on.levels }

pub others_kept : (d : Image) (n b : ℕ) (bs : List ℕ) → (b ≡ n → ⊥) → (image_written d n bs).bytes b ≡ d.bytes b
others_kept d n b bs other = cond-false (eqb b n) bs (d.bytes b) (ne_eqb b n other)

pub sound_written : (d : Image) (n : ℕ) (bs : List ℕ) → AllSound d → AllSound (image_written d n bs)
sound_written d n bs sound b inside = cond_both (eqb b n) Sound (d.state b) (λ s. s ≡ Sound) (λ _. refl) (λ _. sound b inside)

-- a sound block is read and written
module _ (d : Image) (n : ℕ) (inside : n < d.size) (sound : AllSound d) where
  pub load_sound : load d n ≡ done (image_read d)
  load_sound =
      ap (λ o. unless_refused o d n (image_read d))
      (cond-true (ltb n d.size) (state_read (d.state n)) (Some (refusal_number NoSuchBlock)) (lt-ltb n d.size inside) ∙ ap state_read (sound n inside))

  pub save_sound : (bs : List ℕ) → save d n bs ≡ done (image_written d n bs)
  save_sound bs =
      ap (λ o. unless_refused o d n (image_written d n bs))
      (cond-true (ltb n d.size) (state_write (d.state n)) (Some (refusal_number NoSuchBlock)) (lt-ltb n d.size inside) ∙ ap state_write (sound n inside))
