-- Both round trips of nodes and of the root.
use Rattle.std.proofs.Common.{◌≡◌, ℕ, suc, ◌^◌, ◌<◌, ◌≤◌, Bool, true, false, cond, ◌&&◌, eqb, ltb, leb, List, [], ◌∷◌, ◌++◌, length, get_or, take, Some, None, sym, refl, ap, ◌∙◌, subst, ⊎_elim, arith, take-append-drop}
use Rattle.std.proofs.lemmas.Bool.{and_parts, and_from, eqb-true, leb-true, eqb-false, eq-eqb, le-leb, lt-ltb, ltb-true, cases_eq}
use Rattle.rows.specs.Bytes.{Bytes}
use Rattle.tree.specs.Nodes.{Node}
use Rattle.rules.specs.declared.header.Header.{Header}
use Rattle.rules.specs.declared.mark.Mark.{Mark}
use Rattle.rules.specs.declared.mark.Mark.TheVariants.{Closed, InUse}
use Rattle.rules.specs.declared.place.Place.{Place}
use Rattle.rules.specs.declared.rule.Rule.{Rule}
use Rattle.rules.specs.declared.rule.Rule.TheVariants.{Level, Mark as MarkRule, Count, Children, Kind, HeaderNumbers}
use Rattle.nodes.specs.Blocks.{tables_of, header_below, node_block, header_of, node_of}
use Rattle.nodes.specs.Checks.{table_rules, node_fault, root_fault}
use Rattle.rules.specs.HeaderRules.{header_rules, root_header_rules, root_place, children_fit, root_children_fit, within}
use Rattle.rules.specs.Headers.{header_coding}
use Rattle.nodes.specs.Laws.{Block, GoodNode, GoodRoot, place_of_root, NodeBlocksRoundTrip, RootBlocksRoundTrip}
use Rattle.rules.specs.Marks.{mark_of, mark_number}
use Rattle.nodes.specs.Roots.{Root, root_header, root_block, root_by, root_of}
use Rattle.rules.specs.Rules.{first_broken}
use Rattle.nodes.proofs.Loaded.{first_none}
use Rattle.nodes.proofs.TablesBack.{all_passed, tables_back, tables_forth, unused_forth, count_forth, children_forth, fits_forth}

-- the header of a block that begins with its encoding
header_back : (h : Header) (more : List ℕ) → header_coding.fits h ≡ true → header_of (header_coding.encode h ++ more) ≡ h
unfolding header_of
header_back h more f = header_coding.decode_encode h more f

-- the header of a block says its first 32 bytes
header_forth : (bs : List ℕ) → Block bs → header_coding.encode (header_of bs) ≡ take 32 bs
unfolding header_of
header_forth bs block = header_coding.encode_decode bs (omega (arith, block.0)) block.1 refl

header_fits : (bs : List ℕ) → Bytes bs → header_coding.fits (header_of bs) ≡ true
unfolding header_of
header_fits bs bytes = header_coding.decode_fits bs bytes

-- the numbers of a header that fits: its level, kind, next free number and tree writes
header_widths : (h : Header) → header_coding.fits h ≡ true → (h.level < 256) × (h.kind < 256) × (h.next_free < 256 ^ 4) × (h.tree_writes < 256 ^ 8)
header_widths h f =
    let a = and_parts (ltb h.level 256) _ f in
    let b = and_parts (ltb h.mark 256) _ a.1 in
    let c = and_parts (ltb h.count 65536) _ b.1 in
    let d = and_parts (ltb h.children 256) _ c.1 in
    let e = and_parts (ltb h.kind 256) _ d.1 in
    let u = and_parts (ltb h.unused 65536) _ e.1 in
    let n = and_parts (ltb h.next_free (256 ^ 4)) _ u.1 in
    let g = and_parts (ltb h.gap (256 ^ 4)) _ n.1 in
    let w = and_parts (ltb h.updates (256 ^ 8)) (ltb h.tree_writes (256 ^ 8)) g.1 in
    (ltb-true h.level 256 a.0, ltb-true h.kind 256 e.0, ltb-true h.next_free (256 ^ 4) n.0, ltb-true h.tree_writes (256 ^ 8) w.1)

-- where no rule is broken, the rules of the header and those of the tables are kept
parts_none : (ts us : List (Bool × Rule)) → first_broken (ts ++ us) ≡ None → (first_broken ts ≡ None) × (first_broken us ≡ None)
parts_none [] us = λ e. (refl, e)
parts_none (t ∷ ts) us =
    elim t.0 as (λ v. cond v (first_broken (ts ++ us)) (Some t.1) ≡ None → (cond v (first_broken ts) (Some t.1) ≡ None) × (first_broken us ≡ None))
    [ true ↦ λ e. parts_none ts us e | false ↦ λ e. let z : ◌≡◌ {A = ℕ} 0 1 = cc in absurd (omega arith) ]

-- the numbers of a header fit their widths
header_of_fits : (h : Header) → h.level < 256 → h.mark < 256 → h.count < 65536 → h.children < 256 → h.kind < 256 → h.unused ≡ 0 → h.next_free < 256 ^ 4 → h.gap ≡ 0 → h.updates < 256 ^ 8 → h.tree_writes < 256 ^ 8 → header_coding.fits h ≡ true
header_of_fits h level mark count children kind unused next gap updates writes =
    and_from _ _ (lt-ltb _ _ level)
    (and_from _ _ (lt-ltb _ _ mark)
    (and_from _ _ (lt-ltb _ _ count)
    (and_from _ _ (lt-ltb _ _ children)
    (and_from _ _ (lt-ltb _ _ kind)
    (and_from _ _ (lt-ltb _ _ (omega (arith, unused)))
    (and_from _ _ (lt-ltb _ _ next) (and_from _ _ (lt-ltb _ _ (omega (arith, gap))) (and_from _ _ (lt-ltb _ _ updates) (lt-ltb _ _ writes)))))))))

-- a good node and its block
module _ (p : Place) (x : Node) (good : GoodNode p x) where
  block_is : node_block p.kind x ≡ header_coding.encode (header_below p.kind x) ++ tables_of x
  unfolding node_block
  block_is = refl

  pub node_back : (node_fault p (node_block p.kind x) ≡ None) × (node_of p (header_of (node_block p.kind x)) (node_block p.kind x) ≡ x)
  unfolding node_fault
  node_back =
      let h = header_below p.kind x in
      let bs = node_block p.kind x in
      let g = good.tables in
      let fits = header_of_fits h (omega (arith, g.level_is, good.level_fits)) (omega arith) (omega (arith, g.few)) (omega (arith, g.few_children)) good.kind_fits refl (omega arith) refl (omega arith) (omega arith) in
      let is : header_of bs ≡ h = ap header_of block_is ∙ header_back h (tables_of x) fits in
      let back = tables_back p x g h (header_coding.encode h) (header_coding.encode_size h) refl refl refl in
      let level : eqb h.level p.level ≡ true = eq-eqb h.level p.level g.level_is in
      let count : leb h.count 256 ≡ true = le-leb h.count 256 g.few in
      let kind : eqb p.kind p.kind ≡ true = eq-eqb p.kind p.kind refl in
      let none : first_broken (header_rules p h) ≡ None
      = (λ i. first_broken ((level i, Level) ∷ (true, MarkRule) ∷ (count i, Count) ∷ (good.children i, Children) ∷ (kind i, Kind) ∷ (true, HeaderNumbers) ∷ [])) in
      let tables : first_broken (table_rules p h bs) ≡ None = ap (λ l. first_broken (table_rules p h l)) block_is ∙ back.0 in (
        ap (λ y. first_broken (header_rules p y ++ table_rules p y bs)) is ∙ sym (first_none (header_rules p h) (table_rules p h bs) (sym none)) ∙ tables,
        ap (λ y. node_of p y bs) is ∙ ap (node_of p h) block_is ∙ back.1,
      )

-- what the number of children says
children_shape : (level n : ℕ) → children_fit level n ≡ true → (level ≡ 0 → n ≡ 0) × (0 < level → (1 ≤ n) × (n ≤ 8))
children_shape level n =
    elim (eqb level 0) as (λ b. eqb level 0 ≡ b → cond b (eqb n 0) (within 4 8 n) ≡ true → (level ≡ 0 → n ≡ 0) × (0 < level → (1 ≤ n) × (n ≤ 8))) [
      | true ↦ λ e h. let z = eqb-true level 0 e in (λ l. eqb-true n 0 h, λ (above : 0 < level). absurd (omega (arith, z, above)))
      | false ↦ λ e h. let w = and_parts (leb 4 n) (leb n 8) h in (λ (l : level ≡ 0). absurd (eqb-false level 0 e l), λ above. (omega (arith, leb-true 4 n w.0), leb-true n 8 w.1))
    ] refl

-- a header that says what the node behind it is, and has zeros where it must
module _ (p : Place) (bs : List ℕ) (block : Block bs) (fine : node_fault p bs ≡ None) where
  parts : (first_broken (header_rules p (header_of bs)) ≡ None) × (first_broken (table_rules p (header_of bs) bs) ≡ None)
  unfolding node_fault
  parts = parts_none (header_rules p (header_of bs)) (table_rules p (header_of bs) bs) fine

  pub block_back : node_block p.kind (node_of p (header_of bs) bs) ≡ bs
  unfolding node_block
  block_back =
      let h = header_of bs in
      let t = all_passed (header_rules p h) parts.0 in
      let level = eqb-true h.level p.level t.0 in
      let mark = eqb-true h.mark 0 t.1.0 in
      let few = leb-true h.count 256 t.1.1.0 in
      let shape = children_shape p.level h.children t.1.1.1.0 in
      let kind = eqb-true h.kind p.kind t.1.1.1.1.0 in
      let zeros = and_parts (eqb h.next_free 0) _ t.1.1.1.1.1.0 in
      let zeros2 = and_parts (eqb h.gap 0) _ zeros.1 in
      let zeros3 = and_parts (eqb h.updates 0) (eqb h.tree_writes 0) zeros2.1 in
      let unused = and_parts (eqb h.unused 0) (eqb h.gap 0) (unused_forth p h bs block few shape.1 parts.1) in
      let same : header_below p.kind (node_of p h bs) ≡ h
      = (λ i. record {
        level = sym level i;
        mark = sym mark i;
        count = count_forth p h bs i;
        children = children_forth p h bs shape.0 i;
        kind = sym kind i;
        unused = sym (eqb-true h.unused 0 unused.0) i;
        next_free = sym (eqb-true h.next_free 0 zeros.0) i;
        gap = sym (eqb-true h.gap 0 zeros2.0) i;
        updates = sym (eqb-true h.updates 0 zeros3.0) i;
        tree_writes = sym (eqb-true h.tree_writes 0 zeros3.1) i;
      }) in
      (λ i. (ap header_coding.encode same ∙ header_forth bs block) i ++ tables_forth p h bs block few shape.1 parts.1 i) ∙ take-append-drop 32 bs

  pub node_good : GoodNode p (node_of p (header_of bs) bs)
  node_good =
      let h = header_of bs in
      let t = all_passed (header_rules p h) parts.0 in
      let few = leb-true h.count 256 t.1.1.0 in
      let shape = children_shape p.level h.children t.1.1.1.0 in
      let widths = header_widths h (header_fits bs block.1) in
      record {
        tables = fits_forth p h bs block few shape.1 parts.1;
        children = ap (children_fit p.level) (children_forth p h bs shape.0) ∙ t.1.1.1.0;
        level_fits = subst (λ (n : ℕ). n < 256) (eqb-true h.level p.level t.0) widths.0;
        kind_fits = subst (λ (n : ℕ). n < 256) (eqb-true h.kind p.kind t.1.1.1.1.0) widths.1;
      }

-- ---- the root
module _ (size : ℕ) (mark : Mark) (x : Root) (good : GoodRoot size x) where
  root_block_is : root_block mark x ≡ header_coding.encode (root_header mark x) ++ tables_of x.node
  unfolding root_block
  root_block_is = refl

  mark_fits : (m : Mark) → (within 1 2 (mark_number m) ≡ true) × (mark_number m < 256) × (mark_of (mark_number m) ≡ m)
  mark_fits Closed = (refl, omega arith, refl)
  mark_fits InUse = (refl, omega arith, refl)

  pub root_back : (root_fault size (root_block mark x) ≡ None) × (root_of (root_block mark x) ≡ x) × (mark_of (header_of (root_block mark x)).mark ≡ mark)
  unfolding root_fault
  root_back =
      let h = root_header mark x in
      let p = place_of_root x in
      let bs = root_block mark x in
      let g = good.tables in
      let level = and_parts (leb 1 h.level) (leb h.level 8) good.level in
      let top = leb-true h.level 8 level.1 in
      let m = mark_fits mark in
      let fits = header_of_fits h (omega (arith, top)) m.1 (omega (arith, g.few)) (omega (arith, g.few_children)) good.kind_fits refl good.next_free_fits refl (omega (arith, good.updates)) good.tree_writes_fit in
      let is : header_of bs ≡ h = ap header_of root_block_is ∙ header_back h (tables_of x.node) fits in
      let back = tables_back p x.node g h (header_coding.encode h) (header_coding.encode_size h) refl refl refl in
      let count : leb h.count 256 ≡ true = le-leb h.count 256 g.few in
      let numbers : (within 2 size h.next_free && leb h.updates 4294967296) ≡ true = and_from _ _ good.next_free (le-leb h.updates 4294967296 good.updates) in
      let none : first_broken (root_header_rules size h) ≡ None
      = (λ i. first_broken ((good.level i, Level) ∷ (m.0 i, MarkRule) ∷ (count i, Count) ∷ (good.children i, Children) ∷ (numbers i, HeaderNumbers) ∷ [])) in
      let tables : first_broken (table_rules p h bs) ≡ None = ap (λ l. first_broken (table_rules p h l)) root_block_is ∙ back.0 in
      let node : node_of p h bs ≡ x.node = ap (node_of p h) root_block_is ∙ back.1 in (
        ap (λ y. first_broken (root_header_rules size y ++ table_rules (root_place y) y bs)) is ∙ sym (first_none (root_header_rules size h) (table_rules p h bs) (sym none)) ∙ tables,
        ap (λ y. root_by y bs) is ∙ (λ i. record { node = node i; kind = x.kind; next_free = x.next_free; updates = x.updates; tree_writes = x.tree_writes }),
        ap (λ y. mark_of y.mark) is ∙ m.2,
      )

root_shape : (level n : ℕ) → root_children_fit level n ≡ true → (1 ≤ n) × (n ≤ 8)
root_shape level n =
    elim (eqb level 1) as (λ b. cond b (within 1 8 n) (within 2 8 n) ≡ true → (1 ≤ n) × (n ≤ 8)) [
      | true ↦ λ h. let w = and_parts (leb 1 n) (leb n 8) h in (leb-true 1 n w.0, leb-true n 8 w.1)
      | false ↦ λ h. let w = and_parts (leb 2 n) (leb n 8) h in (omega (arith, leb-true 2 n w.0), leb-true n 8 w.1)
    ]

-- a mark of 1 or 2 is that of the mark that it stands for
mark_forth : (n : ℕ) → within 1 2 n ≡ true → mark_number (mark_of n) ≡ n
mark_forth n h =
    let w = and_parts (leb 1 n) (leb n 2) h in
    ⊎_elim (λ (e : n ≡ 1). subst (λ (m : ℕ). mark_number (mark_of m) ≡ m) (sym e) refl)
    (λ (a : n ≡ 1 → ⊥). let e : n ≡ 2 = omega (arith, a, leb-true 1 n w.0, leb-true n 2 w.1) in subst (λ (m : ℕ). mark_number (mark_of m) ≡ m) (sym e) refl)
    (cases_eq n 1)

module _ (size : ℕ) (bs : List ℕ) (block : Block bs) (fine : root_fault size bs ≡ None) where
  root_parts : (first_broken (root_header_rules size (header_of bs)) ≡ None) × (first_broken (table_rules (root_place (header_of bs)) (header_of bs) bs) ≡ None)
  unfolding root_fault
  root_parts = parts_none (root_header_rules size (header_of bs)) (table_rules (root_place (header_of bs)) (header_of bs) bs) fine

  pub root_block_back : root_block (mark_of (header_of bs).mark) (root_of bs) ≡ bs
  unfolding root_block
  root_block_back =
      let h = header_of bs in
      let p = root_place h in
      let t = all_passed (root_header_rules size h) root_parts.0 in
      let least = leb-true 1 h.level (and_parts (leb 1 h.level) (leb h.level 8) t.0).0 in
      let few = leb-true h.count 256 t.1.1.0 in
      let shape = root_shape h.level h.children t.1.1.1.0 in
      let unused = and_parts (eqb h.unused 0) (eqb h.gap 0) (unused_forth p h bs block few (λ above. shape) root_parts.1) in
      let same : root_header (mark_of h.mark) (root_by h bs) ≡ h
      = (λ i. record {
        level = h.level;
        mark = mark_forth h.mark t.1.0 i;
        count = count_forth p h bs i;
        children = children_forth p h bs (λ (e : h.level ≡ 0). absurd (omega (arith, least, e))) i;
        kind = h.kind;
        unused = sym (eqb-true h.unused 0 unused.0) i;
        next_free = h.next_free;
        gap = sym (eqb-true h.gap 0 unused.1) i;
        updates = h.updates;
        tree_writes = h.tree_writes;
      }) in
      (λ i. (ap header_coding.encode same ∙ header_forth bs block) i ++ tables_forth p h bs block few (λ above. shape) root_parts.1 i) ∙ take-append-drop 32 bs

  pub root_good : GoodRoot size (root_of bs)
  root_good =
      let h = header_of bs in
      let p = root_place h in
      let t = all_passed (root_header_rules size h) root_parts.0 in
      let least = leb-true 1 h.level (and_parts (leb 1 h.level) (leb h.level 8) t.0).0 in
      let few = leb-true h.count 256 t.1.1.0 in
      let shape = root_shape h.level h.children t.1.1.1.0 in
      let numbers = and_parts (within 2 size h.next_free) (leb h.updates 4294967296) t.1.1.1.1.0 in
      let widths = header_widths h (header_fits bs block.1) in
      record {
        tables = fits_forth p h bs block few (λ above. shape) root_parts.1;
        level = t.0;
        children = ap (root_children_fit h.level) (children_forth p h bs (λ (e : h.level ≡ 0). absurd (omega (arith, least, e)))) ∙ t.1.1.1.0;
        next_free = numbers.0;
        updates = leb-true h.updates 4294967296 numbers.1;
        next_free_fits = widths.2;
        tree_writes_fit = widths.3;
        kind_fits = widths.1;
      }

pub node_blocks_round_trip : NodeBlocksRoundTrip
node_blocks_round_trip = record { node_back = node_back; block_back = block_back; node_good = node_good }

pub root_blocks_round_trip : RootBlocksRoundTrip
root_blocks_round_trip = record { root_back = root_back; block_back = root_block_back; root_good = root_good }

-- ---- what a successful read says of the block
all_bytes : (bs : List ℕ) → ((i : ℕ) → get_or bs i 0 < 256) → Bytes bs
all_bytes [] f = tt
all_bytes (b ∷ bs) f = (f 0, all_bytes bs (λ i. f (suc i)))

pub node_exact : (p : Place) (bs : List ℕ) (x : Node) → length bs ≡ 4096 → ((i : ℕ) → get_or bs i 0 < 256) → node_fault p bs ≡ None → x ≡ node_of p (header_of bs) bs → bs ≡ node_block p.kind x
node_exact p bs x long bytes good is = sym (block_back p bs (long, all_bytes bs bytes) good) ∙ ap (node_block p.kind) (sym is)

pub root_exact : (size : ℕ) (bs : List ℕ) (mark : Mark) (x : Root) → length bs ≡ 4096 → ((i : ℕ) → get_or bs i 0 < 256) → root_fault size bs ≡ None → mark ≡ mark_of (header_of bs).mark → x ≡ root_of bs → bs ≡ root_block mark x
root_exact size bs mark x long bytes good marked is = sym (root_block_back size bs (long, all_bytes bs bytes) good) ∙ (λ i. root_block (sym marked i) (sym is i))
