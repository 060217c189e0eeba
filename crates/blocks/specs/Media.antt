-- What a device of blocks means, and what a read and a write do to it.
use Rattle.std.specs.Prelude.{◌≡◌, ℕ, ◌+◌, ◌%◌, ◌^◌, ◌<◌, ◌≤◌, cond, List, length, Some, None, Ok, Err, Option, Result, ◌==◌, nat_lt}
use Rattle.blocks.specs.declared.refusal.Refusal.TheVariants.{BadBuffer, NoSuchBlock, Spent as spent, Lost as lost, Damaged as damaged}
use Rattle.blocks.specs.declared.state.State.{State}
use Rattle.blocks.specs.declared.state.State.TheVariants.{Sound, Damaged, Lost}
use Rattle.blocks.specs.Refusals.{refusal_number}

-- the bytes of a block, and the most blocks of a device
abbrev pub block_bytes : ℕ
block_bytes = 4096

abbrev pub most_blocks : ℕ
most_blocks = 65536

-- the number of blocks, the bytes and the state of each, the writes that are left, and the reads and writes so far modulo 2 ^ 64
pub record Medium : Type 0 where
  pub size : ℕ
  pub bytes : ℕ → List ℕ
  pub state : ℕ → State
  pub allowance : ℕ
  pub reads : ℕ
  pub writes : ℕ

-- what is true of every medium
pub record Sane (m : Medium) : Type 0 where
  pub small : m.size ≤ most_blocks
  pub whole : (k : ℕ) → k < m.size → length (m.bytes k) ≡ block_bytes
  pub past : (k : ℕ) → m.size ≤ k → m.state k ≡ Lost

-- the number of the refusal that a result carries, none if it was accepted
abbrev pub refusal_of : {T F : Type 0} → (F → ℕ) → Result T F → Option ℕ
refusal_of number (Ok _) = None
refusal_of number (Err e) = Some (number e)

-- what the state of a block makes of a read of it
abbrev pub state_read : State → Option ℕ
state_read Sound = None
state_read Damaged = Some (refusal_number damaged)
state_read Lost = Some (refusal_number lost)

-- and of a write: a damaged block is written as a sound one is
abbrev pub state_write : State → Option ℕ
state_write Sound = None
state_write Damaged = None
state_write Lost = Some (refusal_number lost)

-- the refusal of a read of block n into a buffer of k bytes, the first that holds
abbrev pub read_refusal : Medium → ℕ → ℕ → Option ℕ
read_refusal m n k =
    cond (k == block_bytes) (cond (nat_lt n m.size) (state_read (m.state n)) (Some (refusal_number NoSuchBlock))) (Some (refusal_number BadBuffer))

-- the refusal of a write of k bytes to block n, the first that holds
abbrev pub write_refusal : Medium → ℕ → ℕ → Option ℕ
write_refusal m n k =
    cond (k == block_bytes)
    (cond (nat_lt n m.size) (cond (m.allowance == 0) (Some (refusal_number spent)) (state_write (m.state n))) (Some (refusal_number NoSuchBlock)))
    (Some (refusal_number BadBuffer))

-- f with the value x at n
abbrev pub change : {X : Type 0} → (ℕ → X) → ℕ → X → ℕ → X
change f n x k = cond (k == n) x (f k)

-- a medium after an accepted read
abbrev pub was_read : Medium → Medium
was_read m =
    record {
      size = m.size;
      bytes = m.bytes;
      state = m.state;
      allowance = m.allowance;
      reads = (m.reads + 1) % 2 ^ 64;
      writes = m.writes;
    }

-- a medium after an accepted write of b to block n that left the allowance a
abbrev pub was_written : Medium → ℕ → List ℕ → ℕ → Medium
was_written m n b a =
    record {
      size = m.size;
      bytes = change m.bytes n b;
      state = change m.state n Sound;
      allowance = a;
      reads = m.reads;
      writes = (m.writes + 1) % 2 ^ 64;
    }

-- a refused read or write leaves the medium as it was
abbrev pub after_read : {T F : Type 0} → Result T F → Medium → Medium
after_read (Ok _) m = was_read m
after_read (Err _) m = m

abbrev pub after_write : {T F : Type 0} → Result T F → Medium → ℕ → List ℕ → ℕ → Medium
after_write (Ok _) m n b a = was_written m n b a
after_write (Err _) m n b a = m

-- what a read leaves in a buffer that held old
abbrev pub read_into : {T F : Type 0} → Result T F → Medium → ℕ → List ℕ → List ℕ
read_into (Ok _) m n old = m.bytes n
read_into (Err _) m n old = old

-- a write lowers the allowance by 1 or not at all
abbrev pub Lowered : ℕ → ℕ → Type 0
Lowered before after = (after ≤ before) × (before ≤ after + 1)

-- n writes or fewer lower it by n at the most
abbrev pub LoweredBy : ℕ → ℕ → ℕ → Type 0
LoweredBy n before after = (after ≤ before) × (before ≤ after + n)
