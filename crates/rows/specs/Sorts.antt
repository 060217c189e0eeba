-- The sorts of messages, by the numbers that rows hold.
use Rattle.std.specs.Prelude.{◌≡◌, ℕ, Bool, false, ◌&&◌, nat_le, Result, MatchResult}
use Rattle.messages.specs.declared.message.Message.{Message}
use Rattle.messages.specs.declared.message.Message.TheVariants.{Put, Remove, Add}
use Rattle.rows.specs.declared.sort.Sort.{Sort}
use Rattle.rows.specs.declared.sort.Sort.TheVariants as sort
use Rattle.rows.specs.declared.sort.UnknownSort.{UnknownSort}

-- the byte of a message's sort
abbrev pub message_number : Message → ℕ
message_number (Put v) = 1
message_number Remove = 2
message_number (Add d) = 3

-- the number is that of a message
abbrev pub known : ℕ → Bool
known n = nat_le 1 n && nat_le n 3

-- the number that says a sort
abbrev pub sort_number : Sort → ℕ
sort_number sort.Put = 1
sort_number sort.Remove = 2
sort_number sort.Add = 3

-- a message is of a sort
abbrev pub HasSort : Message → Sort → Type 0
HasSort m s = sort_number s ≡ message_number m

-- what a number says: a sort, or that it is unknown
abbrev pub Decodes : ℕ → Result Sort UnknownSort → Type 0
Decodes n r = MatchResult r (λ s. sort_number s ≡ n) (λ e. (e.0 ≡ n) × (known n ≡ false))
