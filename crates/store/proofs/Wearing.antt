-- What an update of a laid out store takes of the allowance.
use Rattle.std.proofs.Common.{◌≡◌, ℕ, ◌+◌, ◌%◌, ◌^◌, ◌≤◌, true, List, is_ok as isOk, Some, None, Ok, Err, Option, Result, refl, ap, subst, arith}
use Rattle.messages.specs.Algebra.{Algebra}
use Rattle.messages.specs.declared.entry.Entry.{Entry}
use Rattle.messages.specs.declared.message.Message.{Message}
use Rattle.nodes.specs.Roots.{Root}
use Rattle.steps.specs.Allowances.{rise, Spent}
use Rattle.plan.specs.declared.cause.Cause.{Cause}
use Rattle.store_laws.specs.Held.{Holds}
use Rattle.store_laws.specs.LaidOut.{wear_of}
use Rattle.store_laws.specs.Laws.{UpdateOutcome}
use Rattle.store_plan.specs.Contents.{Contents, Called}
use Rattle.store_plan.specs.Contents.Answer.{accepted}
use Rattle.store_plan.specs.declared.figures.Figures.{Figures}
use Rattle.plan.specs.declared.refusal.StoreRefusal.{StoreRefusal}
use Rattle.tree.specs.Update.{grown, writes, tree_writes}
use Rattle.store.specs.Views.{answer, open_root}
use Rattle.store.specs.declared.fault.Fault.{Fault}
use Rattle.store.specs.declared.fault.Fault.TheVariants.{Met, Stopped}

-- an accepted answer is an `Ok`
pub is_ok : {F : Type 0} (number : F → ℕ) (r : Result (Unit {0}) (Fault F)) → answer number r ≡ accepted tt → isOk r ≡ true
is_ok number (Ok x) e = refl
is_ok number (Err (Met c)) e = let z : ◌≡◌ {A = ℕ} 0 1 = cc e in absurd (omega arith)
is_ok number (Err (Stopped c)) e = let z : ◌≡◌ {A = ℕ} 0 1 = cc e in absurd (omega arith)

-- a root that is open is the root in memory
pub in_memory : {F : Type 0} (o : Option (Cause F)) (r s : Root) → open_root o r ≡ Some s → r ≡ s
in_memory None r s e = cc e
in_memory (Some c) r s e = let z : ◌≡◌ {A = ℕ} 0 1 = cc e in absurd (omega arith)

rise_of : (t n : ℕ) → rise (t % 2 ^ 64) ((t + n) % 2 ^ 64) ≤ n
rise_of t n = omega arith

pub worn : (K : Algebra) (c : Contents) (h : List (Entry Message)) (k : ℕ) (m : Message) (r : Called (Unit {0})) (before after most : ℕ) → Holds K c h
    → (r.answer ≡ accepted tt → Spent most c.figures.tree_writes r.contents.figures.tree_writes before after)
    → (o : Option StoreRefusal) → ((y : StoreRefusal) → o ≡ Some y → after ≡ before) → UpdateOutcome K c h k m r o → before ≤ after + wear_of K h k m o
worn K c h k m r before after most holds spent None spared out =
    let from = ap (λ (f : Figures). f.tree_writes) holds.figures_are in
    let to = ap (λ (f : Figures). f.tree_writes) out.holds.figures_are in
    let fell : before ≤ after + rise (tree_writes K h % 2 ^ 64) ((tree_writes K h + writes K k m (grown K h)) % 2 ^ 64) =
    subst (λ v. before ≤ after + rise (tree_writes K h % 2 ^ 64) v) to (subst (λ w. before ≤ after + rise w r.contents.figures.tree_writes) from (spent out.answer_is).fell) in
    omega (arith, rise_of (tree_writes K h) (writes K k m (grown K h)))
worn K c h k m r before after most holds spent (Some y) spared out = omega (arith, spared y refl)
