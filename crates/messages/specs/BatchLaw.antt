-- Which messages a batch takes, in the words of the rule.
use Rattle.std.specs.Prelude.{◌≡◌, ℕ, Bool, ◌&&◌, List, take, filter, nat_le, nat_lt}
use Rattle.messages.specs.Lists.{Within, most_moving, batch}
use Rattle.messages.specs.declared.entry.Entry.{Entry}
use Rattle.messages.specs.declared.message.Message.{Message}

-- the key lies in the span from low on and below high
abbrev pub in_span : ℕ → ℕ → Entry Message → Bool
in_span low high x = nat_le low x.key && nat_lt x.key high

-- where keys rise, the 16 of smallest key among those in the span
abbrev pub BatchIsSmallest : Type 0
BatchIsSmallest = (from upto low high : ℕ) (xs : List (Entry Message)) → Within from upto xs → batch low high xs ≡ take most_moving (filter (in_span low high) xs)
