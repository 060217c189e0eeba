-- What is read off a store: whether it stands, its figures, and its device's own counts.
use Rattle.std.specs.Prelude.{Bool, false, is_some, Option}
use Rattle.blocks.specs.Media.{Medium}
use Rattle.nodes.specs.Roots.{Root}
use Rattle.store_plan.specs.Contents.{Contents}
use Rattle.calls.specs.declared.point.Reading.{Reading}

-- a store is open if it has a root in memory
abbrev pub stands : Option Root → Bool
stands o = is_some o

abbrev pub reading_of : Contents → Reading
reading_of c = record {
  stands = stands c.root;
  figures = c.figures;
  reads = c.image.reads;
  writes = c.image.writes;
}

-- of a closed store just the device's counts are seen
abbrev pub at_rest : Medium → Reading
at_rest m = record { stands = false; figures = record { updates = 0; height = 0; tree_writes = 0 }; reads = m.reads; writes = m.writes }
