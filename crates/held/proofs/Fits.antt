-- A node of a tree whose numbers fit breaks no rule of the format at its place.
use Rattle.std.proofs.Common.{◌≡◌, ℕ, ◌^◌, ◌<◌, ◌≤◌, true, false, cond, eqb, List, length, refl, ap, arith}
use Rattle.std.specs.List.{AllByRecursion}
use Rattle.std.proofs.ByRecursion.{All-from_get_or, All-weaker}
use Rattle.std.proofs.lemmas.Bool.{and_from, eq-eqb, eqb-true, eqb-false, le-leb, lt-ltb}
use Rattle.messages.specs.Algebra.{Algebra}
use Rattle.rows.specs.Coding.{number}
use Rattle.rows.specs.Entries.{message_coding}
use Rattle.rules.specs.HeaderRules.{children_fit, within}
use Rattle.nodes.specs.Blocks.{count_of}
use Rattle.nodes.specs.Laws.{FitsPlace, GoodNode}
use Rattle.tree.specs.Nodes.{Node, node, next_free}
use Rattle.bridge.specs.Stored.{WordFits, FitsBlock}
use Rattle.held.specs.Laws.{place_of}
use Rattle.held.proofs.Tables.{keys_rise, entries_fit, message_fits, pivots_rise, pivots_fit, all_below}

module _ (a : List Node) (b : ℕ) (f : FitsBlock a b) where
  few : count_of (node a b) ≤ 256
  few =
      elim (eqb (node a b).frame.level 0) as (λ v. cond v (length (node a b).records) (length (node a b).messages) ≤ 256)
      [ true ↦ f.breaks_no_rule.few_records | false ↦ f.breaks_no_rule.few_messages ]

  -- none in a leaf, else 4 to 8
  right_children : children_fit (node a b).frame.level (length (node a b).frame.children) ≡ true
  right_children =
      let g = f.breaks_no_rule in
      let level = (node a b).frame.level in
      let n = length (node a b).frame.children in
      elim (eqb level 0) as (λ v. eqb level 0 ≡ v → cond v (eqb n 0) (within 4 8 n) ≡ true) [
        | true ↦ λ e. eq-eqb n 0 (ap length (g.leaf_plain (eqb-true level 0 e)).2)
        | false ↦ λ e.
            let above : level ≡ 0 → ⊥ = eqb-false level 0 e in
            and_from _ _ (le-leb 4 n (g.inner_children f.below_root (omega (arith, above)))) (le-leb n 8 g.few_children)
      ] refl

  taken : AllByRecursion (λ c. (1 ≤ c) × (c < next_free a)) (node a b).frame.children
  taken =
      let g = f.breaks_no_rule in
      All-from_get_or (λ c. (1 ≤ c) × (c < next_free a)) (node a b).frame.children 0
      (λ j inside. ((g.children_good j inside).not_root, (g.children_good j inside).taken))

  numbers_fit : AllByRecursion (λ c. (number 4).fits c ≡ true) (node a b).frame.children
  numbers_fit =
      All-weaker (λ c. (1 ≤ c) × (c < next_free a)) (λ c. (number 4).fits c ≡ true)
      (λ c t. let small : c < 256 ^ 4 = omega (arith, t.1, f.numbers_fit) in lt-ltb c (256 ^ 4) small) (node a b).frame.children taken

  pub tables_fit : (K : Algebra) → FitsPlace (place_of K a b) (node a b)
  tables_fit K =
      let g = f.breaks_no_rule in
      let low = (node a b).frame.low in
      let high = (node a b).frame.high in
      record {
        level_is = refl;
        low_is = refl;
        high_is = refl;
        few = few;
        few_children = g.few_children;
        leaf_plain = λ e. let plain = g.leaf_plain e in (plain.1, plain.2, plain.0);
        inner_plain = g.inner_plain;
        pivots_between = g.pivots_between;
        pivots_rise = pivots_rise low low high (node a b).frame.pivots (omega arith) g.pivots_rise;
        children_below = all_below (next_free a) (node a b).frame.children taken;
        messages_rise = keys_rise low high (node a b).messages g.messages_rise;
        records_rise = keys_rise low high (node a b).records g.records_rise;
        pivots_fit = pivots_fit low high (node a b).frame.pivots f.span_fits g.pivots_rise;
        children_fit = numbers_fit;
        messages_fit = entries_fit message_coding WordFits message_fits low high (node a b).messages f.span_fits g.messages_rise f.words_fit.messages_fit;
        records_fit = entries_fit (number 8) (λ v. v < 2 ^ 64) (λ v small. lt-ltb v (256 ^ 8) small) low high (node a b).records f.span_fits g.records_rise f.words_fit.records_fit;
      }

  pub node_fits : (K : Algebra) → GoodNode (place_of K a b) (node a b)
  node_fits K = record { tables = tables_fit K; children = right_children; level_fits = omega (arith, f.level_fits); kind_fits = K.number_fits }
