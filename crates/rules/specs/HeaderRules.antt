-- The rules on a block's header as tests, in their order.
use Rattle.std.specs.Prelude.{ℕ, ◌<◌, ◌≤◌, Bool, cond, ◌&&◌, List, [], ◌∷◌, ◌==◌, nat_le}
use Rattle.tree.specs.Limits.{most_entries, most_children, fewest_children}
use Rattle.rules.specs.declared.header.Header.{Header}
use Rattle.rules.specs.declared.place.Place.{Place}
use Rattle.rules.specs.declared.rule.Rule.{Rule}
use Rattle.rules.specs.declared.rule.Rule.TheVariants.{Level, Mark, Count, Children, Kind, HeaderNumbers}

-- a number from one limit to another, both included
abbrev pub within : ℕ → ℕ → ℕ → Bool
within least most n = nat_le least n && nat_le n most

-- the children of a node below the root: none in a leaf, else 4 to 8
abbrev pub children_fit : ℕ → ℕ → Bool
children_fit level n = cond (level == 0) (n == 0) (within fewest_children most_children n)

-- the children of the root: 1 to 8 at level 1, else 2 to 8
abbrev pub root_children_fit : ℕ → ℕ → Bool
root_children_fit level n = cond (level == 1) (within 1 most_children n) (within 2 most_children n)

-- bytes 8 to 31 are zero
abbrev pub header_zero : Header → Bool
header_zero h = h.next_free == 0 && (h.gap == 0 && (h.updates == 0 && h.tree_writes == 0))

-- the rules on the header of a node below the root
abbrev pub header_rules : Place → Header → List (Bool × Rule)
header_rules p h =
    ((h.level == p.level), Level)
    ∷ ((h.mark == 0), Mark)
    ∷ (nat_le h.count most_entries, Count)
    ∷ (children_fit p.level h.children, Children)
    ∷ ((h.kind == p.kind), Kind)
    ∷ (header_zero h, HeaderNumbers)
    ∷ []

-- the rules on the header of the root, on a device of a size
abbrev pub root_header_rules : ℕ → Header → List (Bool × Rule)
root_header_rules size h =
    (within 1 8 h.level, Level)
    ∷ (within 1 2 h.mark, Mark)
    ∷ (nat_le h.count most_entries, Count)
    ∷ (root_children_fit h.level h.children, Children)
    ∷ (within 2 size h.next_free && nat_le h.updates 4294967296, HeaderNumbers)
    ∷ []

-- the bytes of the header that are never used: 6, 7 and 12 to 15
abbrev pub unused_zero : Header → Bool
unused_zero h = h.unused == 0 && h.gap == 0

-- the root has all keys, and says itself what its level, its kind and the next free number are
abbrev pub root_place : Header → Place
root_place h = record { level = h.level; span = record { low = 0; high = 4294967296 }; kind = h.kind; next_free = h.next_free }

-- a table has room for the sizes that the header of a node at a level gives
abbrev pub SizesFit : ℕ → Header → Type 0
SizesFit level h = (h.count ≤ 256) × (0 < level → (1 ≤ h.children) × (h.children ≤ 8))
