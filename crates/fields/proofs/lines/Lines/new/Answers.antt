use Rattle.fields.proofs.Lined.{lines_lined}
use Rattle.fields.proofs.lines.Lines.new.Goals as goal

pub returns-clause-lined : goal.returns-clause-lined
returns-clause-lined c = lines_lined c.args.input.now
