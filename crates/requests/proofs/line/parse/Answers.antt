use Rattle.std.proofs.Common.{Some, arith, rules}
use Rattle.requests.proofs.Back.{alone_none, reads_just}
use Rattle.requests.proofs.line.parse.Goals as goal

pub returns-in_err-end-clause-reads : goal.returns-in_err-end-clause-reads
returns-in_err-end-clause-reads c = reads_just c.args.line.now c.from_residual-in_err-end.result (grind (arith, alone_none))

pub returns-clause-reads : goal.returns-clause-reads
returns-clause-reads c = reads_just c.args.line.now (Some c.match-branch-2.call) (search rules)
