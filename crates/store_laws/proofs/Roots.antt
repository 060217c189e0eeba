-- The root of a tree breaks no rule of the format.
use Rattle.std.proofs.Common.{◌≡◌, ℕ, ◌^◌, ◌<◌, ◌≤◌, true, false, cond, eqb, List, length, refl, subst₂, arith}
use Rattle.std.specs.List.{AllByRecursion}
use Rattle.std.proofs.ByRecursion.{All-from_get_or, All-weaker}
use Rattle.std.proofs.lemmas.Bool.{and_from, eqb-false, le-leb, lt-ltb}
use Rattle.messages.specs.Algebra.{Algebra}
use Rattle.messages.specs.Lists.{Within}
use Rattle.messages.specs.declared.entry.Entry.{Entry}
use Rattle.messages.specs.declared.message.Message.{Message}
use Rattle.rows.specs.Coding.{number}
use Rattle.rows.specs.Entries.{message_coding}
use Rattle.rules.specs.HeaderRules.{root_children_fit, within}
use Rattle.nodes.specs.Blocks.{count_of}
use Rattle.nodes.specs.Laws.{FitsPlace, GoodRoot, place_of_root}
use Rattle.node_ops.specs.CodeOf.{code_of}
use Rattle.plan.specs.Images.{Image}
use Rattle.tree.specs.Laws.{Keys}
use Rattle.tree.specs.Nodes.{Node, node, height, next_free}
use Rattle.tree.specs.Shape.{GoodTree, GoodNode, Rising}
use Rattle.tree.specs.Update.{grown}
use Rattle.tree.proofs.Shapes.{good_trees}
use Rattle.bridge.specs.Laws.{OnDevice}
use Rattle.bridge.specs.Stored.{WordFits, WordsFit, Stored}
use Rattle.held.proofs.Tables.{keys_rise, entries_fit, message_fits, pivots_rise, pivots_fit, all_below}
use Rattle.store_laws.specs.Held.{root_of_tree}

module _ (K : Algebra) (h : List (Entry Message)) (ks : Keys h) (d : Image) (st : Stored (code_of K) d (grown K h)) (on : OnDevice d (grown K h)) where
  abbrev a : List Node
  a = grown K h

  tree : GoodTree a
  tree = good_trees K h ks

  good : GoodNode a 0
  good = tree.nodes 0 (omega (arith, tree.two_blocks))

  words : WordsFit (node a 0)
  words = st.words_fit 0 (omega (arith, tree.two_blocks))

  above : 0 < height a
  above = good.root_inner refl

  few : count_of (node a 0) ≤ 256
  few =
      elim (eqb (height a) 0) as (λ v. cond v (length (node a 0).records) (length (node a 0).messages) ≤ 256)
      [ true ↦ good.few_records | false ↦ good.few_messages ]

  taken : AllByRecursion (λ c. (1 ≤ c) × (c < next_free a)) (node a 0).frame.children
  taken =
      All-from_get_or (λ c. (1 ≤ c) × (c < next_free a)) (node a 0).frame.children 0
      (λ j inside. ((good.children_good j inside).not_root, (good.children_good j inside).taken))

  numbers_fit : AllByRecursion (λ c. (number 4).fits c ≡ true) (node a 0).frame.children
  numbers_fit =
      All-weaker (λ c. (1 ≤ c) × (c < next_free a)) (λ c. (number 4).fits c ≡ true)
      (λ c t. let small : c < 256 ^ 4 = omega (arith, t.1, on.blocks, on.size_fits) in lt-ltb c (256 ^ 4) small) (node a 0).frame.children taken

  -- the root's span is all keys
  spanned : (P : ℕ → ℕ → Type 0) → P (node a 0).frame.low (node a 0).frame.high → P 0 4294967296
  spanned P p = subst₂ P tree.root_from_zero tree.root_to_end p

  tables : FitsPlace (place_of_root (root_of_tree K h)) (node a 0)
  tables =
      let pivots : Rising 0 4294967296 (node a 0).frame.pivots = spanned (λ low high. Rising low high (node a 0).frame.pivots) good.pivots_rise in
      let messages : Within 0 4294967296 (node a 0).messages = spanned (λ low high. Within low high (node a 0).messages) good.messages_rise in
      let records : Within 0 4294967296 (node a 0).records = spanned (λ low high. Within low high (node a 0).records) good.records_rise in
      record {
        level_is = refl;
        low_is = tree.root_from_zero;
        high_is = tree.root_to_end;
        few = few;
        few_children = good.few_children;
        leaf_plain = λ e. let plain = good.leaf_plain e in (plain.1, plain.2, plain.0);
        inner_plain = good.inner_plain;
        pivots_between = good.pivots_between;
        pivots_rise = pivots_rise 0 0 4294967296 (node a 0).frame.pivots (omega arith) pivots;
        children_below = all_below (next_free a) (node a 0).frame.children taken;
        messages_rise = keys_rise 0 4294967296 (node a 0).messages messages;
        records_rise = keys_rise 0 4294967296 (node a 0).records records;
        pivots_fit = pivots_fit 0 4294967296 (node a 0).frame.pivots (omega arith) pivots;
        children_fit = numbers_fit;
        messages_fit = entries_fit message_coding WordFits message_fits 0 4294967296 (node a 0).messages (omega arith) messages words.messages_fit;
        records_fit = entries_fit (number 8) (λ v. v < 2 ^ 64) (λ v small. lt-ltb v (256 ^ 8) small) 0 4294967296 (node a 0).records (omega arith) records words.records_fit;
      }

  -- 1 to 8 at level 1, else 2 to 8
  right_children : root_children_fit (height a) (length (node a 0).frame.children) ≡ true
  right_children =
      let n = length (node a 0).frame.children in
      let most = le-leb n 8 good.few_children in
      elim (eqb (height a) 1) as (λ v. eqb (height a) 1 ≡ v → cond v (within 1 8 n) (within 2 8 n) ≡ true) [
        | true ↦ λ e. and_from _ _ (le-leb 1 n (good.root_children refl)) most
        | false ↦ λ e.
            let high : 2 ≤ height a = omega (arith, above, eqb-false (height a) 1 e) in
            and_from _ _ (le-leb 2 n (good.high_root_children refl high)) most
      ] refl

  pub good_root : length h ≤ 4294967296 → GoodRoot d.size (root_of_tree K h)
  good_root few_updates =
      let small : (root_of_tree K h).tree_writes < 256 ^ 8 = omega arith in
      record {
        tables = tables;
        level = and_from _ _ (le-leb 1 (height a) above) (le-leb (height a) 8 on.levels);
        children = right_children;
        next_free = and_from _ _ (le-leb 2 (next_free a) tree.two_blocks) (le-leb (next_free a) d.size on.blocks);
        updates = few_updates;
        next_free_fits = omega (arith, on.blocks, on.size_fits);
        tree_writes_fit = small;
        kind_fits = K.number_fits;
      }
