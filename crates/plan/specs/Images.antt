-- A device without its allowance, and what is tried on it.
use Rattle.std.specs.Prelude.{ℕ, ◌+◌, ◌%◌, ◌^◌, cond, List, Some, None, Option, nat_lt}
use Rattle.blocks.specs.Media.{Medium, state_read, state_write, change}
use Rattle.blocks.specs.Refusals.{refusal_number}
use Rattle.blocks.specs.declared.refusal.Refusal.TheVariants.{NoSuchBlock}
use Rattle.blocks.specs.declared.state.State.{State}
use Rattle.blocks.specs.declared.state.State.TheVariants.{Sound}
use Rattle.plan.specs.Reports.{Report, device_report}

-- all of a medium but its allowance: how that falls is the device's choice
pub record Image : Type 0 where
  pub size : ℕ
  pub bytes : ℕ → List ℕ
  pub state : ℕ → State
  pub reads : ℕ
  pub writes : ℕ

abbrev pub image : Medium → Image
image m = record { size = m.size; bytes = m.bytes; state = m.state; reads = m.reads; writes = m.writes }

-- after an accepted read, and after an accepted write of b to block n
abbrev pub image_read : Image → Image
image_read d = record { size = d.size; bytes = d.bytes; state = d.state; reads = (d.reads + 1) % 2 ^ 64; writes = d.writes }

abbrev pub image_written : Image → ℕ → List ℕ → Image
image_written d n b = record { size = d.size; bytes = change d.bytes n b; state = change d.state n Sound; reads = d.reads; writes = (d.writes + 1) % 2 ^ 64 }

-- what comes of something tried: a value, or a stop, with the image as it then is and the refusal
pub data Try (A : Type 0) : Type 0 where
  done : A → Try A
  stop : Image → Report → Try A

abbrev pub bind : {A B : Type 0} → Try A → (A → Try B) → Try B
bind (done a) f = f a
bind (stop d y) f = stop d y

-- an accepted access gives the image e, a refused one of block n leaves d
abbrev pub unless_refused : Option ℕ → Image → ℕ → Image → Try Image
unless_refused None d n e = done e
unless_refused (Some number) d n e = stop d (device_report number n)

-- block n is read
abbrev pub load : Image → ℕ → Try Image
load d n = unless_refused (cond (nat_lt n d.size) (state_read (d.state n)) (Some (refusal_number NoSuchBlock))) d n (image_read d)

-- the bytes b are written to block n, with allowance left
abbrev pub save : Image → ℕ → List ℕ → Try Image
save d n b = unless_refused (cond (nat_lt n d.size) (state_write (d.state n)) (Some (refusal_number NoSuchBlock))) d n (image_written d n b)
