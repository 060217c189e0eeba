-- What a device in memory means: its bytes cut into blocks, one after another, all sound.
use Rattle.std.specs.Prelude.{◌≡◌, ℕ, ◌*◌, ◌/◌, ◌<◌, min, cond, List, length, take, drop, nat_lt}
use Rattle.std.proofs.Common.{length-take, length-drop, arith}
use Rattle.std.proofs.lemmas.Bool.{cond-false, le-ltb}
use Rattle.blocks.specs.declared.state.State.{State}
use Rattle.blocks.specs.declared.state.State.TheVariants.{Sound, Lost}
use Rattle.blocks.specs.declared.memory.MemoryDevice.{MemoryDevice}
use Rattle.blocks.specs.Media.{Medium, Sane, block_bytes, most_blocks}

-- the whole blocks in so many bytes, no more than a device can have
abbrev pub whole_blocks : ℕ → ℕ
whole_blocks len = min (len / block_bytes) most_blocks

-- block k of a row of bytes
abbrev pub block_of : List ℕ → ℕ → List ℕ
block_of bs k = take block_bytes (drop (block_bytes * k) bs)

-- the bytes past the last block: no read or write reaches them
abbrev pub left_over : List ℕ → List ℕ
left_over bs = drop (block_bytes * whole_blocks (length bs)) bs

abbrev pub memory_state : ℕ → ℕ → State
memory_state size k = cond (nat_lt k size) Sound Lost

abbrev pub memory : List ℕ → ℕ → ℕ → ℕ → Medium
memory bs allowance reads writes =
    record {
      size = whole_blocks (length bs);
      bytes = block_of bs;
      state = memory_state (whole_blocks (length bs));
      allowance = allowance;
      reads = reads;
      writes = writes;
    }

pub block_of_whole : (bs : List ℕ) (k : ℕ) → k < whole_blocks (length bs) → length (block_of bs k) ≡ block_bytes
block_of_whole bs k inside = simp (length-take, length-drop) (omega arith)

pub memory_sane : (bs : List ℕ) (a r w : ℕ) → Sane (memory bs a r w)
memory_sane bs a r w =
    record {
      small = omega arith;
      whole = block_of_whole bs;
      past = λ k outside. cond-false (nat_lt k (whole_blocks (length bs))) Sound Lost (le-ltb k (whole_blocks (length bs)) outside);
    }

-- what a device in memory means
abbrev pub held : MemoryDevice → Medium
held s = memory s.bytes.now s.allowance s.reads s.writes

pub held_sane : (s : MemoryDevice) → Sane (held s)
held_sane s = memory_sane s.bytes.now s.allowance s.reads s.writes
