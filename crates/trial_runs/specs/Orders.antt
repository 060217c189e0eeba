-- Which updates come, in which order.
use Rattle.std.specs.Prelude.{ℕ, zero, suc, ◌+◌, ◌-◌, ◌*◌, ◌%◌, ◌^◌, cond, List, ◌∷◌, ◌==◌}
use Rattle.messages.specs.Lists.{entry}
use Rattle.messages.specs.declared.entry.Entry.{Entry}
use Rattle.messages.specs.declared.message.Message.{Message}
use Rattle.messages.specs.declared.message.Message.TheVariants.{Put, Remove, Add}
use Rattle.trial_runs.specs.declared.order.Order.{Order}
use Rattle.trial_runs.specs.declared.order.Order.TheVariants.{Rising, Falling, Scattered, Mixed}

-- the key of the update that comes after i others
abbrev pub key_at : Order → ℕ → ℕ
key_at (Rising from) i = (from + i) % 2 ^ 32
key_at Falling i = (2000 + (2 ^ 32 - i)) % 2 ^ 32
key_at Scattered i = i * 2654435761 % 2 ^ 32
key_at Mixed i = i * 40503 % 2 ^ 32 % 4096

-- and its message
abbrev pub message_at : Order → ℕ → Message
message_at (Rising from) i = Add 1
message_at Falling i = Add 1
message_at Scattered i = Add 1
message_at Mixed i = cond (i % 5 == 0) (Put i) (cond (i % 7 == 0) Remove (Add ((2 ^ 64 - i) % 2 ^ 64)))

-- the messages h with those of the first n updates, the newest first
abbrev pub after_updates : Order → ℕ → List (Entry Message) → List (Entry Message)
after_updates order zero h = h
after_updates order (suc n) h = entry (key_at order n) (message_at order n) ∷ after_updates order n h
