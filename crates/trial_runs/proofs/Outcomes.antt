-- What an update's answer says of a store that holds messages.
use Rattle.std.proofs.Common.{◌≡◌, ℕ, ◌+◌, ◌≤◌, ◌≢◌, true, false, List, ◌∷◌, Some, None, Ok, Err, Option, Result, is_err, arith}
use Rattle.messages.specs.Algebra.{Algebra}
use Rattle.messages.specs.Lists.{entry}
use Rattle.messages.specs.declared.entry.Entry.{Entry}
use Rattle.messages.specs.declared.message.Message.{Message}
use Rattle.plan.specs.Reports.{Report}
use Rattle.store.specs.Views.{answer}
use Rattle.store.specs.declared.fault.Fault.{Fault}
use Rattle.store.specs.declared.fault.Fault.TheVariants.{Met, Stopped}
use Rattle.store_laws.specs.Held.{root_of_tree, Holds}
use Rattle.store_laws.specs.LaidOut.{wear_of}
use Rattle.store_laws.specs.Laws.{UpdateOutcome}
use Rattle.store_plan.specs.Contents.{Contents, Called}
use Rattle.store_plan.specs.Contents.Answer.{accepted, refused}
use Rattle.store_plan.specs.Updates.{update_refusal}
use Rattle.plan.specs.declared.refusal.StoreRefusal.{StoreRefusal}
use Rattle.trial_runs.specs.Made.{Made}
use Rattle.trial_runs.specs.Orders.{after_updates}
use Rattle.trial_runs.specs.declared.run.Run.{Run}

-- an error is no acceptance, and no error is no refusal
pub not_accepted : {F : Type 0} (number : F → ℕ) (r : Result (Unit {0}) (Fault F)) → is_err r ≡ true → answer number r ≡ accepted tt → ⊥
not_accepted number (Ok x) e same = let never : ◌≡◌ {A = ℕ} 0 1 = cc in omega arith
not_accepted number (Err (Met c)) e same = let never : ◌≡◌ {A = ℕ} 0 1 = cc in omega arith
not_accepted number (Err (Stopped c)) e same = let never : ◌≡◌ {A = ℕ} 0 1 = cc in omega arith

pub not_refused : {F : Type 0} (number : F → ℕ) (r : Result (Unit {0}) (Fault F)) (y : Report) → is_err r ≡ false → answer number r ≡ refused y → ⊥
not_refused number (Ok x) y e same = let never : ◌≡◌ {A = ℕ} 0 1 = cc in omega arith
not_refused number (Err (Met c)) y e same = let never : ◌≡◌ {A = ℕ} 0 1 = cc in omega arith
not_refused number (Err (Stopped c)) y e same = let never : ◌≡◌ {A = ℕ} 0 1 = cc in omega arith

module _ (K : Algebra) (c : Contents) (h : List (Entry Message)) (k : ℕ) (m : Message) (r : Called (Unit {0})) where
  -- an accepted update is held
  pub one_more : (o : Option StoreRefusal) → UpdateOutcome K c h k m r o → ((y : Report) → r.answer ≡ refused y → ⊥) → Holds K r.contents (entry k m ∷ h)
  one_more None u taken = u.holds
  one_more (Some y) u taken = absurd (taken _ u.answer_is)

  -- a refused one leaves the store and the allowance, and would be refused again
  pub same_contents : (o : Option StoreRefusal) → UpdateOutcome K c h k m r o → (r.answer ≡ accepted tt → ⊥) → r.contents ≡ c
  same_contents None u failed = absurd (failed u.answer_is)
  same_contents (Some y) u failed = u.contents_kept

  pub same_allowance : (o : Option StoreRefusal) (a b : ℕ) → UpdateOutcome K c h k m r o → (r.answer ≡ accepted tt → ⊥) → b ≤ a → a ≤ b + wear_of K h k m o → b ≡ a
  same_allowance None a b u failed less most = absurd (failed u.answer_is)
  same_allowance (Some y) a b u failed less most = omega arith

  pub refused_again : (o : Option StoreRefusal) → UpdateOutcome K c h k m r o → (r.answer ≡ accepted tt → ⊥) → o ≢ None
  refused_again None u failed = absurd (failed u.answer_is)
  refused_again (Some y) u failed = λ e. let never : ◌≡◌ {A = ℕ} 0 1 = cc in omega arith

-- the updates made so far, where the next is refused
pub made_so_far : (K : Algebra) (run : Run) (h : List (Entry Message)) (n : ℕ) (c d : Contents) (a b : ℕ) → Holds K c (after_updates run.order n h) → d ≡ c → b ≡ a
    → update_refusal (root_of_tree K (after_updates run.order n h)) c.image.size a ≢ None → Made K run h n d b
made_so_far K run h n c d a b held kept left none = record { holds = rw kept held; short = λ less. rw (kept, left) none }
