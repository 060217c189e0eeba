use Rattle.std.proofs.Common.{sym, subst}
use Rattle.fields.specs.Laws.{Parted}
use Rattle.fields.proofs.Parted.{fields_parted}
use Rattle.fields.proofs.Cut.{from_start}
use Rattle.fields.proofs.line_reader.LineReader.new.Goals as goal

pub returns-clause-parted : goal.returns-clause-parted
returns-clause-parted c = subst (Parted c.args.line.now) (sym (from_start c.args.line.now)) (fields_parted c.args.line.now)
