-- An update that is not refused has room for its writes.
use Rattle.std.proofs.Common.{◌≡◌, ℕ, suc, ◌+◌, ◌-◌, ◌≤◌, Bool, true, false, cond, ◌&&◌, eqb, ltb, ◌≢◌, List, length, Some, None, Option, refl, ap, arith}
use Rattle.std.proofs.lemmas.Bool.{eqb-true, eqb-false, ltb-false, eq-eqb, and_from}
use Rattle.nodes.specs.Roots.{Root}
use Rattle.plan.specs.declared.refusal.StoreRefusal.{StoreRefusal}
use Rattle.plan.specs.declared.refusal.StoreRefusal.TheVariants.{FullCount, NoRoom}
use Rattle.store_plan.specs.Updates.{update_refusal}
use Rattle.tree.specs.Nodes.{Node, node, height}
use Rattle.tree.specs.Operations.{cut_root}
use Rattle.tree.specs.Shape.{Tree}
use Rattle.tree.specs.Update.{raised}
use Rattle.tree.proofs.Cut as ct
use Rattle.tree.proofs.Invariants.{root_halved}

-- where nothing is refused the first test fails, and the later ones refuse nothing
passed : (b : Bool) (y : StoreRefusal) (o : Option StoreRefusal) → cond b (Some y) o ≡ None → (b ≡ false) × (o ≡ None)
passed true y o e = let z : ◌≡◌ {A = ℕ} 0 1 = cc in absurd (omega arith)
passed false y o e = (refl, e)

-- what holds of a root and a size where an update is not refused
pub record Allowed (r : Root) (size : ℕ) : Type 0 where
  pub counted : r.updates ≢ 4294967296
  pub blocks : r.next_free + (r.node.frame.level + 1) ≤ size
  pub level : (eqb (length r.node.frame.children) 8 && eqb r.node.frame.level 8) ≡ false

pub allowed : (r : Root) (size allowance : ℕ) → update_refusal r size allowance ≡ None → Allowed r size
allowed r size allowance e =
    let count = passed (eqb r.updates 4294967296) FullCount _ e in
    let blocks = passed (ltb (size - r.next_free) (r.node.frame.level + 1)) NoRoom _ count.1 in
    let level = passed (eqb (length r.node.frame.children) 8 && eqb r.node.frame.level 8) NoRoom _ blocks.1 in
    record {
      counted = eqb-false r.updates 4294967296 count.0;
      blocks = omega (arith, ltb-false (size - r.next_free) (r.node.frame.level + 1) blocks.0);
      level = level.0;
    }

-- a root that is cut has a level left for it
module _ (a : List Node) (t : Tree a) (levels : height a ≤ 8) (level : (eqb (length (node a 0).frame.children) 8 && eqb (height a) 8) ≡ false) where
  below_top : length (node a 0).frame.children ≡ 8 → height a ≢ 8
  below_top full top =
      let both = and_from _ _ (eq-eqb (length (node a 0).frame.children) 8 full) (eq-eqb (height a) 8 top) in
      let z : ◌≡◌ {A = Bool} true false = cc in
      let o : ◌≡◌ {A = ℕ} 0 1 = cc in omega arith

  cut_height : length (node a 0).frame.children ≡ 8 → height (cut_root a) ≡ suc (height a)
  cut_height full = ap (λ (x : Node). x.frame.level) (ct.at_root a t _ _ _ (root_halved a t full))

  pub free_level : height (raised a) ≤ 8
  free_level =
      elim (eqb (length (node a 0).frame.children) 8) as (λ v. eqb (length (node a 0).frame.children) 8 ≡ v → height (cond v (cut_root a) a) ≤ 8) [
        | true ↦ λ e. let full = eqb-true (length (node a 0).frame.children) 8 e in omega (arith, cut_height full, below_top full)
        | false ↦ λ e. levels
      ] refl
