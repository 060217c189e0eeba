use Rattle.std.proofs.Common.{◌≡◌, ◌+◌, ◌*◌, ◌<◌, ◌≤◌, [], vec_items, vec_len}
use Rattle.node_ops.specs.CodeOf.{code_of}
use Rattle.nodes.specs.Views.{view}
use Rattle.plan.specs.Pages.{page_from}
use Rattle.steps.specs.Outcomes.{allowance_of, image_of}
use Rattle.steps.proofs.bench.Bench.page.Given as goal

-- the page from here is the page from the root; there is room for the messages of the levels that are left
abbrev pub invariant-down : goal.invariant-down
invariant-down g l =
    let C = code_of g.K.Kind.algebra in
    record {
      same : page_from C l.self.here.level (image_of g.D.Device l.device) l.root.next_free (view l.self.here) l.first l.last (vec_items l.self.gathering.gathered) l._reads
          ≡ page_from C l.root.node.level (image_of g.D.Device l.fn.device) l.root.next_free (view l.root.node) l.first l.last [] 0;
      allowance : allowance_of g.D.Device l.device ≡ allowance_of g.D.Device l.fn.device;
      level : l.self.here.level + l._reads ≡ l.height;
      few : vec_len l.self.here.messages ≤ 256;
      room : vec_len l.self.gathering.gathered + 256 * l.self.here.level ≤ 2048;
      within : l.first < l.self.here.span.high;
    }
