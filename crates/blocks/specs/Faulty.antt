-- What a device for trials means: its bytes cut into blocks, and the states that it was given.
use Rattle.std.specs.Prelude.{ℕ, ◌-◌, ◌%◌, min, cond, List, length, ◌==◌, nat_lt, slice_index_or}
use Rattle.std.proofs.Common.{arith}
use Rattle.std.proofs.lemmas.Bool.{cond-false, le-ltb}
use Rattle.blocks.specs.declared.faulty.FaultyDevice.{FaultyDevice}
use Rattle.blocks.specs.declared.faulty.Wear.{Wear}
use Rattle.blocks.specs.declared.faulty.Wear.TheVariants.{EveryWrite, EverySecondWrite, NoWrite}
use Rattle.blocks.specs.declared.state.State.{State}
use Rattle.blocks.specs.declared.state.State.TheVariants.{Sound, Lost}
use Rattle.blocks.specs.Media.{Medium, Sane, change}
use Rattle.blocks.specs.Memory.{whole_blocks, block_of, block_of_whole}

-- as many blocks as there are whole ones with a state
abbrev pub faulty_size : List ℕ → List State → ℕ
faulty_size bs states = min (whole_blocks (length bs)) (length states)

abbrev pub faulty_state : ℕ → List State → ℕ → State
faulty_state size states k = cond (nat_lt k size) (slice_index_or states k Sound) Lost

abbrev pub faulty : List ℕ → List State → ℕ → ℕ → ℕ → Medium
faulty bs states allowance reads writes =
    record {
      size = faulty_size bs states;
      bytes = block_of bs;
      state = faulty_state (faulty_size bs states) states;
      allowance = allowance;
      reads = reads;
      writes = writes;
    }

pub faulty_sane : (bs : List ℕ) (states : List State) (a r w : ℕ) → Sane (faulty bs states a r w)
faulty_sane bs states a r w =
    record {
      small = omega arith;
      whole = λ k inside. block_of_whole bs k (omega arith);
      past = λ k outside. cond-false (nat_lt k (faulty_size bs states)) (slice_index_or states k Sound) Lost (le-ltb k (faulty_size bs states) outside);
    }

abbrev pub shown : FaultyDevice → Medium
shown s = faulty s.bytes.now s.states.now s.allowance s.reads s.writes

pub shown_sane : (s : FaultyDevice) → Sane (shown s)
shown_sane s = faulty_sane s.bytes.now s.states.now s.allowance s.reads s.writes

-- a medium that goes on from other counts
abbrev pub with_counts : Medium → ℕ → ℕ → Medium
with_counts m reads writes =
    record { size = m.size; bytes = m.bytes; state = m.state; allowance = m.allowance; reads = reads; writes = writes }

-- a medium with another state at block n, if it has that block
abbrev pub with_state : Medium → ℕ → State → Medium
with_state m n s =
    record {
      size = m.size;
      bytes = m.bytes;
      state = cond (nat_lt n m.size) (change m.state n s) m.state;
      allowance = m.allowance;
      reads = m.reads;
      writes = m.writes;
    }

-- what an accepted write, the one after so many, leaves of an allowance
abbrev pub worn_allowance : Wear → ℕ → ℕ → ℕ
worn_allowance EveryWrite allowance writes = allowance - 1
worn_allowance EverySecondWrite allowance writes = cond (writes % 2 == 0) (allowance - 1) allowance
worn_allowance NoWrite allowance writes = allowance
