-- A query on blocks of any content.
use Rattle.std.specs.Prelude.{ℕ, zero, suc, ◌+◌, cond, List, [], ◌∷◌, Some, None, Option, nat_lt}
use Rattle.messages.specs.Algebra.{Algebra}
use Rattle.messages.specs.Lists.{find}
use Rattle.messages.specs.declared.message.Message.{Message}
use Rattle.messages.specs.declared.message.Message.TheVariants.{Put, Remove, Add}
use Rattle.tree.specs.Nodes.{Node}
use Rattle.tree.specs.Query.{acted, joined_before}
use Rattle.plan.specs.declared.verdict.Verdict.{Verdict}
use Rattle.plan.specs.declared.verdict.Verdict.TheVariants.{Settled, Down}
use Rattle.plan.specs.Codes.{Code}
use Rattle.plan.specs.Images.{Image, Try, bind}
use Rattle.plan.specs.Images.Try.{done}
use Rattle.plan.specs.Steps.{fetch_child}

-- the place of the child that takes a key
abbrev pub place_among : List ℕ → ℕ → ℕ
place_among [] k = 0
place_among (p ∷ ps) k = cond (nat_lt k p) 0 (suc (place_among ps k))

-- what a node's message on the key says, with the newer deltas met above it
abbrev pub judged : Algebra → Option Message → Option ℕ → Verdict
judged K None met = Down met
judged K (Some (Put v)) met = Settled (acted K met (Some v))
judged K (Some Remove) met = Settled (acted K met None)
judged K (Some (Add d)) met = Down (Some (joined_before K d met))

pub record Answered : Type 0 where
  pub image : Image
  pub value : Option ℕ
  pub reads : ℕ

abbrev pub by_verdict : Verdict → Image → ℕ → (Option ℕ → Try Answered) → Try Answered
by_verdict (Settled o) d n go = done (record { image = d; value = o; reads = n })
by_verdict (Down met) d n go = go met

-- a query from the node x of level l on, with the deltas met and the blocks read so far
abbrev pub seek : {F : Type 0} → Code F → ℕ → Image → ℕ → Node → ℕ → Option ℕ → ℕ → Try Answered
seek C zero d next x k met n = done (record { image = d; value = acted C.algebra met (find k x.records); reads = n })
seek C (suc l) d next x k met n =
    by_verdict (judged C.algebra (find k x.messages) met) d n (λ met.
    bind (fetch_child C d next x (place_among x.frame.pivots k)) (λ g. seek C l g.image next g.child k met (n + 1)))
