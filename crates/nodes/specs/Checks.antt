-- The rules on a block's tables as tests, and the first rule that a block breaks.
use Rattle.std.specs.Prelude.{ℕ, ◌-◌, ◌*◌, Bool, true, cond, ◌&&◌, List, [], ◌∷◌, ◌++◌, drop, Option, ◌==◌}
use Rattle.std.specs.List.{between}
use Rattle.rows.specs.Bytes.{all_zero}
use Rattle.rows.specs.Entries.{record_coding, message_entry_coding}
use Rattle.rules.specs.declared.header.Header.{Header}
use Rattle.rules.specs.declared.place.Place.{Place}
use Rattle.rules.specs.declared.rule.Rule.{Rule}
use Rattle.rules.specs.declared.rule.Rule.TheVariants.{Pivots, ChildNumbers, Keys, Unused}
use Rattle.nodes.specs.Blocks.{header_of, pivots_of, children_of}
use Rattle.rules.specs.Keys.{rising, numbers_below, known_row, exact_row, rows_in_order, rows_exact}
use Rattle.rules.specs.HeaderRules.{header_rules, root_header_rules, root_place, unused_zero}
use Rattle.rules.specs.Rules.{first_broken}

-- the rules on the table of a leaf
abbrev pub leaf_rules : Place → Header → List ℕ → List (Bool × Rule)
leaf_rules p h bs =
    (rows_in_order record_coding (λ e. e.key) (λ row. true) p.span.low p.span.high h.count (between 32 4096 bs), Keys)
    ∷ (unused_zero h && rows_exact record_coding (λ row. true) h.count (between 32 4096 bs), Unused)
    ∷ []

-- the rules on the tables of an inner node
abbrev pub inner_rules : Place → Header → List ℕ → List (Bool × Rule)
inner_rules p h bs =
    (rising p.span.low p.span.high (pivots_of h bs), Pivots)
    ∷ (numbers_below p.next_free (children_of h bs), ChildNumbers)
    ∷ (rows_in_order message_entry_coding (λ e. e.key) known_row p.span.low p.span.high h.count (between 92 4096 bs), Keys)
    ∷ (
      unused_zero h
          && (all_zero (drop (4 * (h.children - 1)) (between 32 60 bs))
          && (all_zero (drop (4 * h.children) (between 60 92 bs)) && rows_exact message_entry_coding exact_row h.count (between 92 4096 bs))),
      Unused,
    )
    ∷ []

-- the rules on the tables of a node
abbrev pub table_rules : Place → Header → List ℕ → List (Bool × Rule)
table_rules p h bs = cond (p.level == 0) (leaf_rules p h bs) (inner_rules p h bs)

-- the first rule that a block breaks at a place below the root
unfoldable pub node_fault : Place → List ℕ → Option Rule
node_fault p bs = first_broken (header_rules p (header_of bs) ++ table_rules p (header_of bs) bs)

-- the first rule that block 0 breaks on a device of a size
unfoldable pub root_fault : ℕ → List ℕ → Option Rule
root_fault size bs = first_broken (root_header_rules size (header_of bs) ++ table_rules (root_place (header_of bs)) (header_of bs) bs)
