-- The laws of queries, updates, pages and totals.
use Rattle.std.proofs.Common.{suc, ◌-◌, ◌*◌, ◌^◌, ◌<◌, ◌∷◌, length, sym, refl, ap, ◌∙◌, mul-le-mul_left, arith}
use Rattle.std.proofs.lemmas.Bool.{eq-eqb, ne_eqb}
use Rattle.messages.specs.Lists.{entry}
use Rattle.messages.specs.Messages.{effect}
use Rattle.messages.specs.Quantity.{quantity_algebra}
use Rattle.tree.specs.Laws.{MapLaw, UpdateLaw, PageLaw, TotalLaw, SumLaw}
use Rattle.tree.specs.Nodes.{height}
use Rattle.tree.specs.Update.{grown}
use Rattle.tree.proofs.Grown.{held, grown_tree, grown_says}
use Rattle.tree.proofs.Query.{queries, query_reads, length_path, length_page}
use Rattle.tree.proofs.Sum.{exact_sum, exact_quantity}
use Rattle.tree.proofs.Total.{one_page, all_pages, within_min, next_none, next_some}

pub map_law : MapLaw
map_law K h ks k lt =
    let q = queries K (grown K h) (grown_tree K h ks) k lt in
    record { stands = grown_says K h ks k lt; value = q.0 ∙ grown_says K h ks k lt; reads = query_reads K (grown K h) k; reads_at_most = q.1 }

pub update_law : UpdateLaw
update_law K h ks k m lt =
    let after = grown_says K (entry k m ∷ h) (lt, ks) in
    let before = grown_says K h ks in
    record {
      here = after k lt ∙ rw (eq-eqb k k refl) (ap (effect K m) (sym (before k lt)));
      elsewhere = λ j up ne. after j up ∙ rw (ne_eqb k j (λ e. ne (sym e))) (sym (before j up));
    }

pub page_law : PageLaw
page_law K h ks first last le lt =
    let a = grown K h in
    let t = grown_tree K h ks in
    let o = one_page K a t first last (omega arith) in
    let n = length_page K a t (held K h ks).sized first last (omega arith) in
    record {
      span_from = o.from;
      span_upto = o.upto;
      rising = within_min first _ _ _ o.in_range o.in_span;
      exact = λ k x y z. o.exact k x y z ∙ grown_says K h ks k (omega arith);
      next_none = next_none K a t first last;
      next_some = next_some K a t first last;
      reads = length_path (height a) a 0 first;
      few = n;
      table = λ g. omega arith;
    }

pub total_law : TotalLaw
total_law K h ks first last le lt =
    let o = all_pages K (grown K h) (grown_tree K h ks) (last - first) first last lt le (omega arith) in
    record { rising = o.0; exact = λ k x y. o.1 k x y ∙ grown_says K h ks k (omega arith) }

pub sum_law : SumLaw
sum_law h ks amounts few =
    let small : 10 ^ 9 * length h < 2 ^ 63 = omega (arith, mul-le-mul_left (10 ^ 9) few) in
    record {
      quantities = λ k. exact_quantity (10 ^ 9) k h amounts small;
      sums = λ first last le lt.
          let o = total_law quantity_algebra h ks first last le lt in
          exact_sum (10 ^ 9) h first (suc last) _ amounts small o.rising (λ k x y. o.exact k x (omega arith));
    }
