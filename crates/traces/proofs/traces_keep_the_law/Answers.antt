use Rattle.traces.proofs.Laws.{trace_law}
use Rattle.traces.proofs.traces_keep_the_law.Goals as goal

pub returns : goal.returns
returns c = trace_law
