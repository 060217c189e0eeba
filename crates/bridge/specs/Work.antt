-- What accepted reads and writes make of an image.
use Rattle.std.specs.Prelude.{◌≡◌, ℕ, ◌+◌, ◌%◌, ◌^◌, ◌<◌, ◌≤◌}
use Rattle.blocks.specs.declared.state.State.TheVariants.{Sound}
use Rattle.plan.specs.Images.{Image}

-- every block of an image is sound
abbrev pub AllSound : Image → Type 0
AllSound d = (b : ℕ) → b < d.size → d.state b ≡ Sound

-- the image e comes of d by so many accepted reads and writes, and writes went only to blocks from 1 on and below n
pub record Work (d e : Image) (reads writes n : ℕ) : Type 0 where
  pub size_kept : e.size ≡ d.size
  pub reads_rise : e.reads % 2 ^ 64 ≡ (d.reads + reads) % 2 ^ 64
  pub writes_rise : e.writes % 2 ^ 64 ≡ (d.writes + writes) % 2 ^ 64
  pub stays_sound : AllSound d → AllSound e
  pub bytes_kept : (b : ℕ) → (0 < b → n ≤ b) → e.bytes b ≡ d.bytes b
  pub states_kept : (b : ℕ) → (0 < b → n ≤ b) → e.state b ≡ d.state b
