use Rattle.fields.proofs.Cut.{ended_is}
use Rattle.fields.proofs.line_reader.LineReader.ended.Goals as goal

pub returns : goal.returns
returns c = rw (← c.self.view_is) (ended_is c.self.inside.line.now c.self.inside.place)
