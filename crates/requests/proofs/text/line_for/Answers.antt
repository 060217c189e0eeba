use Rattle.std.proofs.Common.{refl, ap, ◌∙◌}
use Rattle.requests.specs.Asked.{asked}
use Rattle.requests.specs.Reads.{Fitting}
use Rattle.requests.proofs.Back.{shown_back}
use Rattle.requests.proofs.text.line_for.Goals as goal

pub returns : goal.returns
returns c =
    let text = c.in_ok-text.ensures.ok in
    let fits : Fitting c.args.call = c.if-not-is_asked.ensures.0 refl in
    record { reads = record { text = text; fits = fits }; back = ap asked text ∙ shown_back c.args.call fits }
