-- The tables of a node and their bytes come back from one another.
use Rattle.std.proofs.Common.{◌≡◌, ℕ, zero, suc, ◌+◌, ◌-◌, ◌*◌, ◌<◌, ◌≤◌, Bool, true, false, cond, ◌&&◌, eqb, List, [], ◌∷◌, ◌++◌, map, length, take, drop, replicate, Some, None, sym, refl, ap, ◌∙◌, subst, ⊎_elim, append_assoc, arith, length-append, length-drop, take-append-drop}
use Rattle.std.specs.List.{between, AllByRecursion}
use Rattle.std.proofs.ByRecursion.{All-take, All-drop}
use Rattle.std.proofs.lemmas.List.{take_at, drop_at, take_all, drop-drop, length-take-le}
use Rattle.std.proofs.lemmas.Bool.{and_parts, and_from, eq-eqb, ne_eqb, cases_eq}
use Rattle.messages.specs.declared.message.Message.{Message}
use Rattle.messages.specs.declared.message.Message.TheVariants.{Put, Remove, Add}
use Rattle.rows.specs.Bytes.{Bytes, all_zero}
use Rattle.rows.specs.Coding.{Coding, number}
use Rattle.rows.specs.Entries.{record_coding, message_entry_coding}
use Rattle.rows.specs.Tables.{rows_of, table_of, values_of, all_rows}
use Rattle.rows.proofs.Tables.{length_table, length_values, table_back, table_end, values_back, values_fit, all_rows_pass}
use Rattle.tree.specs.Nodes.{Node}
use Rattle.rules.specs.declared.header.Header.{Header}
use Rattle.rules.specs.declared.place.Place.{Place}
use Rattle.rules.specs.declared.rule.Rule.{Rule}
use Rattle.rules.specs.declared.rule.Rule.TheVariants.{Pivots, ChildNumbers, Keys, Unused}
use Rattle.nodes.specs.Blocks.{tables_of, count_of, node_of, pivots_of, children_of, messages_of, records_of}
use Rattle.nodes.specs.Checks.{leaf_rules, inner_rules, table_rules}
use Rattle.rules.specs.HeaderRules.{unused_zero}
use Rattle.rules.specs.Keys.{rising, numbers_below, known_row, exact_row, rows_in_order, rows_exact}
use Rattle.nodes.specs.Laws.{Block, FitsPlace}
use Rattle.rules.specs.Rules.{first_broken}

-- the part of a list that stands behind another
part_at : (a b c : List ℕ) (i n : ℕ) → length a ≡ i → length b ≡ n → take n (drop i (a ++ (b ++ c))) ≡ b
part_at a b c i n ea eb = ap (take n) (drop_at a (b ++ c) i ea) ∙ take_at b c n eb

-- no rule is broken: every test passed
pub all_passed : (ts : List (Bool × Rule)) → first_broken ts ≡ None → AllByRecursion (λ t. t.0 ≡ true) ts
all_passed [] = λ e. tt
all_passed (t ∷ ts) =
    elim t.0 as (λ v. cond v (first_broken ts) (Some t.1) ≡ None → (v ≡ true) × AllByRecursion (λ u. u.0 ≡ true) ts)
    [ true ↦ λ e. (refl, all_passed ts e) | false ↦ λ e. let z : ◌≡◌ {A = ℕ} 0 1 = cc in absurd (omega arith) ]

-- every row passes a test that all pass
any_row : (size n : ℕ) (bs : List ℕ) → all_rows (λ row. true) size n bs ≡ true
any_row size zero bs = refl
any_row size (suc n) bs = any_row size n (drop size bs)

-- rows that pass two tests pass both together
both_tests : (a b : List ℕ → Bool) (size n : ℕ) (bs : List ℕ) → all_rows a size n bs ≡ true → all_rows b size n bs ≡ true → all_rows (λ row. a row && b row) size n bs ≡ true
both_tests a b size zero bs h k = refl
both_tests a b size (suc n) bs h k =
    let p = and_parts (a bs) (all_rows a size n (drop size bs)) h in
    let q = and_parts (b bs) (all_rows b size n (drop size bs)) k in
    and_from _ _ (and_from _ _ p.0 q.0) (both_tests a b size n (drop size bs) p.1 q.1)

-- the row of a message is known and exact
known_encoded : (k : ℕ) (m : Message) (more : List ℕ) → known_row (message_entry_coding.encode (record { key = k; value = m }) ++ more) ≡ true
known_encoded k (Put v) more = refl
known_encoded k Remove more = refl
known_encoded k (Add d) more = refl

exact_encoded : (k : ℕ) (m : Message) (more : List ℕ) → exact_row (message_entry_coding.encode (record { key = k; value = m }) ++ more) ≡ true
exact_encoded k (Put v) more = refl
exact_encoded k Remove more = refl
exact_encoded k (Add d) more = refl

-- a node that fits its place, with a header that says its sizes, behind 32 bytes
module _ (p : Place) (x : Node) (good : FitsPlace p x) (h : Header) (front : List ℕ) (before : length front ≡ 32) (count : h.count ≡ count_of x) (children : h.children ≡ length x.frame.children) (unused : unused_zero h ≡ true) where
  leaf_back : p.level ≡ 0 → (first_broken (table_rules p h (front ++ tables_of x)) ≡ None) × (node_of p h (front ++ tables_of x) ≡ x)
  leaf_back leaf =
      let xs = x.records in
      let t = table_of record_coding 4064 xs in
      let zero_level = eq-eqb x.frame.level 0 (good.level_is ∙ leaf) in
      let few : length xs ≤ 256 = subst (λ (n : ℕ). n ≤ 256) (rw zero_level refl) good.few in
      let long : length t ≡ 4064 = length_table record_coding 4064 xs (omega arith) in
      let bs = front ++ tables_of x in
      let at : between 32 4096 bs ≡ t = ap (λ l. take 4064 (drop 32 (front ++ l))) (rw zero_level refl) ∙ ap (take 4064) (drop_at front t 32 before) ∙ take_all 4064 t (omega arith) in
      let n : h.count ≡ length xs = count ∙ rw zero_level refl in
      let values : records_of h bs ≡ xs = (λ i. values_of record_coding (n i) (at i)) ∙ values_back record_coding xs (replicate (4064 - length (rows_of record_coding xs)) 0) good.records_fit in
      let order : rows_in_order record_coding (λ e. e.key) (λ row. true) p.span.low p.span.high h.count (between 32 4096 bs) ≡ true
      = and_from _ _ (ap (λ l. rising p.span.low p.span.high (map (λ e. e.key) l)) values ∙ good.records_rise) (any_row 12 h.count (between 32 4096 bs)) in
      let ends : all_zero (drop (12 * h.count) (between 32 4096 bs)) ≡ true = (λ i. all_zero (drop (12 * n i) (at i))) ∙ table_end record_coding 4064 xs in
      let exact : (unused_zero h && rows_exact record_coding (λ row. true) h.count (between 32 4096 bs)) ≡ true = and_from _ _ unused (and_from _ _ (any_row 12 h.count (between 32 4096 bs)) ends) in
      let plain = good.leaf_plain leaf in (
        rw (eq-eqb p.level 0 leaf) (λ i. first_broken ((order i, Keys) ∷ (exact i, Unused) ∷ [])),
        rw (eq-eqb p.level 0 leaf) (λ i. record {
          frame = record { level = sym good.level_is i; low = sym good.low_is i; high = sym good.high_is i; pivots = sym plain.0 i; children = sym plain.1 i };
          messages = sym plain.2 i;
          records = values i;
        }),
      )

  inner_back : (p.level ≡ 0 → ⊥) → (first_broken (table_rules p h (front ++ tables_of x)) ≡ None) × (node_of p h (front ++ tables_of x) ≡ x)
  inner_back inner =
      let ps = x.frame.pivots in
      let cs = x.frame.children in
      let ms = x.messages in
      let above : 0 < p.level = omega (arith, inner) in
      let not_zero = ne_eqb x.frame.level 0 (λ (e : x.frame.level ≡ 0). inner (sym good.level_is ∙ e)) in
      let few : length ms ≤ 256 = subst (λ (n : ℕ). n ≤ 256) (rw not_zero refl) good.few in
      let one_less = good.pivots_between above in
      let eight = good.few_children in
      let P = table_of (number 4) 28 ps in
      let C = table_of (number 4) 32 cs in
      let M = table_of message_entry_coding 4004 ms in
      let lp : length P ≡ 28 = length_table (number 4) 28 ps (omega arith) in
      let lc : length C ≡ 32 = length_table (number 4) 32 cs (omega arith) in
      let lm : length M ≡ 4004 = length_table message_entry_coding 4004 ms (omega arith) in
      let bs = front ++ tables_of x in
      let is : bs ≡ front ++ (P ++ (C ++ M)) = ap (λ l. front ++ l) (rw not_zero refl) in
      let is2 : bs ≡ (front ++ P) ++ (C ++ M) = is ∙ sym (append_assoc front P (C ++ M)) in
      let is3 : bs ≡ ((front ++ P) ++ C) ++ M = is2 ∙ sym (append_assoc (front ++ P) C M) in
      let l2 : length (front ++ P) ≡ 60 = length-append front P ∙ omega (arith, lp) in
      let l3 : length ((front ++ P) ++ C) ≡ 92 = length-append (front ++ P) C ∙ omega (arith, l2, lc) in
      let at1 : between 32 60 bs ≡ P = ap (λ l. take 28 (drop 32 l)) is ∙ part_at front P (C ++ M) 32 28 before lp in
      let at2 : between 60 92 bs ≡ C = ap (λ l. take 32 (drop 60 l)) is2 ∙ part_at (front ++ P) C M 60 32 l2 lc in
      let at3 : between 92 4096 bs ≡ M = ap (λ l. take 4004 (drop 92 l)) is3 ∙ ap (take 4004) (drop_at ((front ++ P) ++ C) M 92 l3) ∙ take_all 4004 M (omega (arith, lm)) in
      let np : h.children - 1 ≡ length ps = omega arith in
      let nm : h.count ≡ length ms = count ∙ rw not_zero refl in
      let pivots : pivots_of h bs ≡ ps = (λ i. values_of (number 4) (np i) (at1 i)) ∙ values_back (number 4) ps (replicate (28 - length (rows_of (number 4) ps)) 0) good.pivots_fit in
      let child_numbers : children_of h bs ≡ cs = (λ i. values_of (number 4) (children i) (at2 i)) ∙ values_back (number 4) cs (replicate (32 - length (rows_of (number 4) cs)) 0) good.children_fit in
      let messages : messages_of h bs ≡ ms = (λ i. values_of message_entry_coding (nm i) (at3 i)) ∙ values_back message_entry_coding ms (replicate (4004 - length (rows_of message_entry_coding ms)) 0) good.messages_fit in
      let known_rows : all_rows known_row 13 h.count (between 92 4096 bs) ≡ true
      = (λ i. all_rows known_row 13 (nm i) (at3 i)) ∙ all_rows_pass message_entry_coding known_row (λ e more f. known_encoded e.key e.value more) ms (replicate (4004 - length (rows_of message_entry_coding ms)) 0) good.messages_fit in
      let exact_rows : all_rows exact_row 13 h.count (between 92 4096 bs) ≡ true
      = (λ i. all_rows exact_row 13 (nm i) (at3 i)) ∙ all_rows_pass message_entry_coding exact_row (λ e more f. exact_encoded e.key e.value more) ms (replicate (4004 - length (rows_of message_entry_coding ms)) 0) good.messages_fit in
      let rise : rising p.span.low p.span.high (pivots_of h bs) ≡ true = ap (rising p.span.low p.span.high) pivots ∙ good.pivots_rise in
      let range : numbers_below p.next_free (children_of h bs) ≡ true = ap (numbers_below p.next_free) child_numbers ∙ good.children_below in
      let order : rows_in_order message_entry_coding (λ e. e.key) known_row p.span.low p.span.high h.count (between 92 4096 bs) ≡ true
      = and_from _ _ (ap (λ l. rising p.span.low p.span.high (map (λ e. e.key) l)) messages ∙ good.messages_rise) known_rows in
      let end1 : all_zero (drop (4 * (h.children - 1)) (between 32 60 bs)) ≡ true = (λ i. all_zero (drop (4 * np i) (at1 i))) ∙ table_end (number 4) 28 ps in
      let end2 : all_zero (drop (4 * h.children) (between 60 92 bs)) ≡ true = (λ i. all_zero (drop (4 * children i) (at2 i))) ∙ table_end (number 4) 32 cs in
      let end3 : all_zero (drop (13 * h.count) (between 92 4096 bs)) ≡ true = (λ i. all_zero (drop (13 * nm i) (at3 i))) ∙ table_end message_entry_coding 4004 ms in
      let zeros : (unused_zero h && (all_zero (drop (4 * (h.children - 1)) (between 32 60 bs)) && (all_zero (drop (4 * h.children) (between 60 92 bs)) && rows_exact message_entry_coding exact_row h.count (between 92 4096 bs)))) ≡ true
      = and_from _ _ unused (and_from _ _ end1 (and_from _ _ end2 (and_from _ _ exact_rows end3))) in (
        rw (ne_eqb p.level 0 inner) (λ i. first_broken ((rise i, Pivots) ∷ (range i, ChildNumbers) ∷ (order i, Keys) ∷ (zeros i, Unused) ∷ [])),
        rw (ne_eqb p.level 0 inner) (λ i. record {
          frame = record { level = sym good.level_is i; low = sym good.low_is i; high = sym good.high_is i; pivots = pivots i; children = child_numbers i };
          messages = messages i;
          records = sym (good.inner_plain above) i;
        }),
      )

  pub tables_back : (first_broken (table_rules p h (front ++ tables_of x)) ≡ None) × (node_of p h (front ++ tables_of x) ≡ x)
  tables_back = ⊎_elim leaf_back inner_back (cases_eq p.level 0)

-- the tables of a block whose header is good and that break no rule
module _ (p : Place) (h : Header) (bs : List ℕ) (block : Block bs) (few : h.count ≤ 256) (shape : 0 < p.level → (1 ≤ h.children) × (h.children ≤ 8)) (fine : first_broken (table_rules p h bs) ≡ None) where
  size_at : (i n : ℕ) → i + n ≤ 4096 → length (take n (drop i bs)) ≡ n
  size_at i n within = length-take-le n (drop i bs) (rw length-drop (omega (arith, block.0)))

  bytes_at : (i n : ℕ) → Bytes (take n (drop i bs))
  bytes_at i n = All-take (λ b. b < 256) n (drop i bs) (All-drop (λ b. b < 256) i bs block.1)

  -- a part of the block that holds valid rows and zeros is the table of what it says
  table_at : {X : Type 0} (c : Coding X) (i n k : ℕ) → i + n ≤ 4096 → c.size * k ≤ n → all_rows c.valid c.size k (take n (drop i bs)) ≡ true → all_zero (drop (c.size * k) (take n (drop i bs))) ≡ true → table_of c n (values_of c k (take n (drop i bs))) ≡ take n (drop i bs)
  table_at c i n k within fits valid zeros =
      let long = size_at i n within in
      ap (λ m. table_of c m (values_of c k (take n (drop i bs)))) (sym long) ∙ table_back c k (take n (drop i bs)) (omega (arith, long)) (bytes_at i n) valid zeros

  leaf_forth : p.level ≡ 0 → tables_of (node_of p h bs) ≡ drop 32 bs
  leaf_forth leaf =
      let zero_level = eq-eqb p.level 0 leaf in
      let t = all_passed (leaf_rules p h bs) (subst (λ (b : Bool). first_broken (cond b (leaf_rules p h bs) (inner_rules p h bs)) ≡ None) zero_level fine) in
      let exact = (and_parts _ _ (and_parts (unused_zero h) _ t.1.0).1).1 in
      let table = table_at record_coding 32 4064 h.count (omega arith) (omega arith) (any_row 12 h.count (between 32 4096 bs)) exact in
      rw zero_level (table ∙ take_all 4064 (drop 32 bs) (rw length-drop (omega (arith, block.0))))

  inner_forth : (p.level ≡ 0 → ⊥) → tables_of (node_of p h bs) ≡ drop 32 bs
  inner_forth inner =
      let not_zero = ne_eqb p.level 0 inner in
      let above : 0 < p.level = omega (arith, inner) in
      let eight = shape above in
      let t = all_passed (inner_rules p h bs) (subst (λ (b : Bool). first_broken (cond b (leaf_rules p h bs) (inner_rules p h bs)) ≡ None) not_zero fine) in
      let known_rows = (and_parts _ _ t.1.1.0).1 in
      let z0 = (and_parts (unused_zero h) _ t.1.1.1.0).1 in
      let z1 = and_parts _ _ z0 in
      let z2 = and_parts _ _ z1.1 in
      let z3 = and_parts _ _ z2.1 in
      let pivots = table_at (number 4) 32 28 (h.children - 1) (omega arith) (omega (arith, eight)) (any_row 4 (h.children - 1) (between 32 60 bs)) z1.0 in
      let child_numbers = table_at (number 4) 60 32 h.children (omega arith) (omega (arith, eight)) (any_row 4 h.children (between 60 92 bs)) z2.0 in
      let messages = table_at message_entry_coding 92 4004 h.count (omega arith) (omega arith) (both_tests known_row exact_row 13 h.count (between 92 4096 bs) known_rows z3.0) z3.1 in
      let last : take 4004 (drop 92 bs) ≡ drop 92 bs = take_all 4004 (drop 92 bs) (rw length-drop (omega (arith, block.0))) in
      let d1 : take 28 (drop 32 bs) ++ drop 60 bs ≡ drop 32 bs = ap (λ l. take 28 (drop 32 bs) ++ l) (sym (drop-drop 28 32 bs)) ∙ take-append-drop 28 (drop 32 bs) in
      let d2 : take 32 (drop 60 bs) ++ drop 92 bs ≡ drop 60 bs = ap (λ l. take 32 (drop 60 bs) ++ l) (sym (drop-drop 32 60 bs)) ∙ take-append-drop 32 (drop 60 bs) in
      rw not_zero ((λ i. pivots i ++ (child_numbers i ++ (messages ∙ last) i)) ∙ ap (λ l. take 28 (drop 32 bs) ++ l) d2 ∙ d1)

  pub tables_forth : tables_of (node_of p h bs) ≡ drop 32 bs
  tables_forth = ⊎_elim leaf_forth inner_forth (cases_eq p.level 0)

  -- the header's unused bytes are zero
  pub unused_forth : unused_zero h ≡ true
  unused_forth =
      ⊎_elim
      (λ (leaf : p.level ≡ 0).
      let t = all_passed (leaf_rules p h bs) (subst (λ (b : Bool). first_broken (cond b (leaf_rules p h bs) (inner_rules p h bs)) ≡ None) (eq-eqb p.level 0 leaf) fine) in
      (and_parts (unused_zero h) _ t.1.0).0)
      (λ (inner : p.level ≡ 0 → ⊥).
      let t = all_passed (inner_rules p h bs) (subst (λ (b : Bool). first_broken (cond b (leaf_rules p h bs) (inner_rules p h bs)) ≡ None) (ne_eqb p.level 0 inner) fine) in
      (and_parts (unused_zero h) _ t.1.1.1.0).0)
      (cases_eq p.level 0)

  leaf_fits : p.level ≡ 0 → FitsPlace p (node_of p h bs)
  leaf_fits leaf =
      let zero_level = eq-eqb p.level 0 leaf in
      let t = all_passed (leaf_rules p h bs) (subst (λ (b : Bool). first_broken (cond b (leaf_rules p h bs) (inner_rules p h bs)) ≡ None) zero_level fine) in
      let x : Node = record { frame = record { level = p.level; low = p.span.low; high = p.span.high; pivots = []; children = [] }; messages = []; records = records_of h bs } in
      let is : x ≡ node_of p h bs = rw zero_level refl in
      let many = length_values record_coding h.count (between 32 4096 bs) in
      let good : FitsPlace p x
      = record {
        level_is = refl;
        low_is = refl;
        high_is = refl;
        few = rw zero_level (omega (arith, many, few));
        few_children = omega arith;
        leaf_plain = λ e. (refl, refl, refl);
        inner_plain = λ (above : 0 < p.level). absurd (omega (arith, leaf, above));
        pivots_between = λ (above : 0 < p.level). absurd (omega (arith, leaf, above));
        pivots_rise = refl;
        children_below = refl;
        messages_rise = refl;
        records_rise = (and_parts (rising p.span.low p.span.high (map (λ e. e.key) (records_of h bs))) _ t.0).0;
        pivots_fit = tt;
        children_fit = tt;
        messages_fit = tt;
        records_fit = values_fit record_coding h.count (between 32 4096 bs) (bytes_at 32 4064);
      } in
      subst (FitsPlace p) is good

  inner_fits : (p.level ≡ 0 → ⊥) → FitsPlace p (node_of p h bs)
  inner_fits inner =
      let not_zero = ne_eqb p.level 0 inner in
      let above : 0 < p.level = omega (arith, inner) in
      let eight = shape above in
      let t = all_passed (inner_rules p h bs) (subst (λ (b : Bool). first_broken (cond b (leaf_rules p h bs) (inner_rules p h bs)) ≡ None) not_zero fine) in
      let x : Node = record { frame = record { level = p.level; low = p.span.low; high = p.span.high; pivots = pivots_of h bs; children = children_of h bs }; messages = messages_of h bs; records = [] } in
      let is : x ≡ node_of p h bs = rw not_zero refl in
      let many = length_values message_entry_coding h.count (between 92 4096 bs) in
      let pivots = length_values (number 4) (h.children - 1) (between 32 60 bs) in
      let child_numbers = length_values (number 4) h.children (between 60 92 bs) in
      let good : FitsPlace p x
      = record {
        level_is = refl;
        low_is = refl;
        high_is = refl;
        few = rw not_zero (omega (arith, many, few));
        few_children = omega (arith, child_numbers, eight.1);
        leaf_plain = λ (leaf : p.level ≡ 0). absurd (inner leaf);
        inner_plain = λ e. refl;
        pivots_between = λ e. omega (arith, pivots, child_numbers, eight.0);
        pivots_rise = t.0;
        children_below = t.1.0;
        messages_rise = (and_parts (rising p.span.low p.span.high (map (λ e. e.key) (messages_of h bs))) _ t.1.1.0).0;
        records_rise = refl;
        pivots_fit = values_fit (number 4) (h.children - 1) (between 32 60 bs) (bytes_at 32 28);
        children_fit = values_fit (number 4) h.children (between 60 92 bs) (bytes_at 60 32);
        messages_fit = values_fit message_entry_coding h.count (between 92 4096 bs) (bytes_at 92 4004);
        records_fit = tt;
      } in
      subst (FitsPlace p) is good

  pub fits_forth : FitsPlace p (node_of p h bs)
  fits_forth = ⊎_elim leaf_fits inner_fits (cases_eq p.level 0)

-- the sizes of a node are those that the header says
pub count_forth : (p : Place) (h : Header) (bs : List ℕ) → count_of (node_of p h bs) ≡ h.count
count_forth p h bs =
    elim (eqb p.level 0) as (λ b. cond b (length (cond b (records_of h bs) [])) (length (cond b [] (messages_of h bs))) ≡ h.count)
    [ true ↦ length_values record_coding h.count (between 32 4096 bs) | false ↦ length_values message_entry_coding h.count (between 92 4096 bs) ]

pub children_forth : (p : Place) (h : Header) (bs : List ℕ) → (p.level ≡ 0 → h.children ≡ 0) → length (node_of p h bs).frame.children ≡ h.children
children_forth p h bs none =
    ⊎_elim (λ (leaf : p.level ≡ 0). rw (eq-eqb p.level 0 leaf) (sym (none leaf)))
    (λ (inner : p.level ≡ 0 → ⊥). rw (ne_eqb p.level 0 inner) (length_values (number 4) h.children (between 60 92 bs))) (cases_eq p.level 0)
