use Rattle.nodes.specs.Views.{view}
use Rattle.nodes.proofs.Written.{leaf_written, inner_written}
use Rattle.nodes.proofs.node.Node.write_tables.Goals as goal

pub returns-then-self-eq0 : goal.returns-then-self-eq0
returns-then-self-eq0 c =
    leaf_written (view c.args.self.now) c.args.block.now c.told-block c.write_table.new.table c.deref.result.now c.if-self-eq0.true c.deref.ensures.value c.write_table.ensures

pub returns-else-self-eq0 : goal.returns-else-self-eq0
returns-else-self-eq0 c =
    inner_written (view c.args.self.now) c.args.block.now c.told-block c.write_table-else-self-eq0.new.table c.write_table-else-self-eq0-2.new.table c.write_table-else-self-eq0-3.new.table
    c.deref-else-self-eq0.result.now c.deref-else-self-eq0-2.result.now c.deref-else-self-eq0-3.result.now c.if-self-eq0.false c.write_table-else-self-eq0.auto.table c.write_table-else-self-eq0-2.auto.table
    c.deref-else-self-eq0.ensures.value c.deref-else-self-eq0-2.ensures.value c.deref-else-self-eq0-3.ensures.value c.write_table-else-self-eq0.ensures c.write_table-else-self-eq0-2.ensures c.write_table-else-self-eq0-3.ensures
