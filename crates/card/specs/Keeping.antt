-- What becomes of an input that is put on a card in memory, block by block.
use Rattle.std.specs.Prelude.{◌≡◌, ℕ, zero, suc, ◌+◌, ◌-◌, ◌/◌, ◌%◌, ◌^◌, ◌<◌, ◌≤◌, min, cond, List, [], ◌∷◌, ◌++◌, length, replicate, codes, decimal, Ok, Err, Result, ◌==◌, nat_lt}
use Rattle.blocks.specs.declared.refusal.Refusal.TheVariants.{NoSuchBlock, Spent}
use Rattle.blocks.specs.Media.{Medium, block_bytes, was_read, was_written}
use Rattle.blocks.specs.Memory.{block_of}
use Rattle.blocks.specs.Refusals.{refusal_number}
use Rattle.card.specs.declared.outcome.KeepError.{KeepError}
use Rattle.card.specs.declared.outcome.KeepError.TheVariants.{Changed, Refused}

-- the most bytes of an input
abbrev pub input_bytes : ℕ
input_bytes = 81920

-- what comes of a block: it is kept, or not
abbrev pub Outcome : Type 0
Outcome = Result (Unit {0}) KeepError

-- a block with its outcome, as they are printed
abbrev pub line_text : ℕ → Outcome → List ℕ
line_text block (Ok _) = decimal block ++ codes " ok"
line_text block (Err Changed) = decimal block ++ codes " changed"
line_text block (Err (Refused refusal)) = decimal block ++ codes " no " ++ decimal (refusal_number refusal)

-- the blocks that so many bytes take
abbrev pub parts : ℕ → ℕ
parts len = (len + (block_bytes - 1)) / block_bytes

-- bytes filled up to a block with zeros
abbrev pub padded : List ℕ → List ℕ
padded bs = bs ++ replicate (block_bytes - length bs) 0

-- what comes of block n on a card of so many blocks with so many writes left
abbrev pub outcome_of : ℕ → ℕ → ℕ → Outcome
outcome_of size left n = cond (nat_lt n size) (cond (left == 0) (Err (Refused Spent)) (Ok tt)) (Err (Refused NoSuchBlock))

-- the card after that: a block that is kept was written once and read once
abbrev pub after_keep : Outcome → Medium → ℕ → List ℕ → Medium
after_keep (Ok _) m n bytes = was_read (was_written m n bytes (m.allowance - 1))
after_keep (Err Changed) m n bytes = was_read (was_written m n bytes (m.allowance - 1))
after_keep (Err (Refused _)) m n bytes = m

-- the outcomes of the first n blocks: each one kept costs a write
abbrev pub outcomes : ℕ → ℕ → ℕ → List Outcome
outcomes size allowance zero = []
outcomes size allowance (suc n) = outcomes size allowance n ++ outcome_of size (allowance - n) n ∷ []

-- how many of the first n blocks are kept: as many as there is room and allowance for
abbrev pub kept : Medium → ℕ → ℕ
kept m n = min n (min m.size m.allowance)

-- The first n blocks of an input came to the card m, which is t now.
pub record Keeps (m : Medium) (input : List ℕ) (n : ℕ) (t : Medium) (came : List Outcome) : Type 0 where
  pub came_to : came ≡ outcomes m.size m.allowance n
  pub size : t.size ≡ m.size
  pub allowance : t.allowance ≡ m.allowance - kept m n
  pub reads : t.reads % 2 ^ 64 ≡ (m.reads + kept m n) % 2 ^ 64
  pub writes : t.writes % 2 ^ 64 ≡ (m.writes + kept m n) % 2 ^ 64
  pub stored : (k : ℕ) → k < kept m n → t.bytes k ≡ padded (block_of input k)
  pub others : (k : ℕ) → kept m n ≤ k → t.bytes k ≡ m.bytes k
