use Rattle.std.proofs.Common.{Some, Ok}
use Rattle.std.specs.Option.{option_to_list}
use Rattle.std.proofs.lemmas.Iterator.{YieldsList-from_slice}
use Rattle.std.proofs.lemmas.Iterator.Consumers.{YieldsList-from_copied, YieldsList-from_chain, YieldsList-at}
use Rattle.std.proofs.lemmas.Iterator.Adapters.{YieldsList-from_once, YieldsList-from_flatten, items_from_extend}
use Rattle.calls.specs.declared.call.Call.TheVariants.{Open, Close}
use Rattle.requests.proofs.input.run_of.Goals as goal

pub returns-clause-calls : goal.returns-clause-calls
returns-clause-calls c =
    let lines = YieldsList-from_copied (YieldsList-at c.copied.ensures.source (YieldsList-from_slice c.args.lines.now cc)) in
    let made =
    items_from_extend {E = Unit {0}} (Ok (tt {0})) c.in_ok-extend.ensures.ran
    (YieldsList-from_chain
    (YieldsList-at c.chain-2.ensures.first
    (YieldsList-from_chain
    (YieldsList-at c.chain.ensures.first (YieldsList-from_once (Some Open) c.once.ensures.item))
    (YieldsList-at c.chain.ensures.second (YieldsList-from_flatten _ _ (λ x. x) option_to_list (λ x j is. YieldsList-from_once x (is.0)) (YieldsList-at c.flatten-good.ensures.source lines) c.flatten-good.ensures.front c.flatten-good.ensures.back c.flatten-good.ensures.done))
    c.chain.ensures.first_done c.chain.ensures.second_done))
    (YieldsList-at c.chain-2.ensures.second (YieldsList-from_once (Some Close) c.once-2.ensures.item))
    c.chain-2.ensures.first_done c.chain-2.ensures.second_done) in
    rw c.in_ok-calls.ensures.items at made.0
