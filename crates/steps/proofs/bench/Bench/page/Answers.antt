use Rattle.std.proofs.Common.{◌≡◌, ◌+◌, [], length, vec_items, vec_len, refl, ap, ◌∙◌, arith}
use Rattle.std.proofs.lemmas.Result.{err_from_is_err_and}
use Rattle.node_ops.specs.CodeOf.{code_of}
use Rattle.nodes.specs.declared.node.Node.{Node as NodeInMemory}
use Rattle.nodes.specs.Views.{view}
use Rattle.plan.specs.Pages.{gathered, leaf_paged, page_end, page_from}
use Rattle.steps.specs.Outcomes.{image_of}
use Rattle.steps.specs.declared.gathering.Gathering.{Gathering}
use Rattle.steps.proofs.Paging.{stops, goes, ends}
use Rattle.steps.proofs.bench.Bench.page.Goals as goal

pub down-init : goal.down-init
down-init g c =
    let C = code_of g.K.Kind.algebra in
    let x = c.args.root.now.node in
    let e = c.enter.new in
    let told = c.in_ok-enter.ensures in
    let less = told.level refl in
    let none : vec_items e.self.gathering.gathered ≡ [] = ap (λ (y : Gathering). vec_items y.gathered) told.gathering ∙ c.clear.ensures.items in
    let items = c.gather.ensures.items ∙ ap (λ n. gathered C.algebra c.args.first (page_end c.args.last (view e.self.here)) (view x) n) none in
    record {
      same = ap (λ n. page_from C e.self.here.level (image_of g.D.Device e.device) c.args.root.now.next_free (view e.self.here) c.args.first c.args.last n 1) items
          ∙ goes C (image_of g.D.Device c.args.device.now) c.args.root.now.next_free (view x) c.args.first c.args.last [] 0 x.level _ _ _ refl less told.value;
      allowance = told.allowance;
      level = omega (arith, less);
      few = told.messages refl;
      room = omega (arith, less, c.gather.ensures.bound, ap length none);
      within = told.past refl c.requires.within;
    }

pub returns-in_err-go_down-clause-value : goal.returns-in_err-go_down-clause-value
returns-in_err-go_down-clause-value g c =
    let C = code_of g.K.Kind.algebra in
    let x = c.down.self.here in
    let met = err_from_is_err_and c.from_residual-in_err-go_down.result c.from_residual-in_err-go_down.ensures.1 in
    rw (met.1, met.2)
    (stops C (image_of g.D.Device c.down.device) c.args.root.now.next_free (view x) c.args.first c.args.last (vec_items c.down.self.gathering.gathered) c.down._reads x.level _ _ _ c.down.invariant.same (omega arith) c.in_err-go_down.ensures.value)

pub down-preserved : goal.down-preserved
down-preserved g c =
    let C = code_of g.K.Kind.algebra in
    let x = c.down.self.here in
    let e = c.go_down.new in
    let told = c.in_ok-go_down.ensures in
    let less = told.level refl in
    let before = ap (λ (y : Gathering). vec_items y.gathered) told.gathering in
    let items = c.gather-in-down.ensures.items
    ∙ ap (λ (y : NodeInMemory). gathered C.algebra c.args.first (page_end c.args.last (view e.self.here)) (view y) (vec_items e.self.gathering.gathered)) (told.left refl)
    ∙ ap (λ n. gathered C.algebra c.args.first (page_end c.args.last (view e.self.here)) (view x) n) before in
    record {
      same = ap (λ n. page_from C e.self.here.level (image_of g.D.Device e.device) c.args.root.now.next_free (view e.self.here) c.args.first c.args.last n (c.down._reads + 1)) items
          ∙ goes C (image_of g.D.Device c.down.device) c.args.root.now.next_free (view x) c.args.first c.args.last (vec_items c.down.self.gathering.gathered) c.down._reads x.level _ _ _ c.down.invariant.same less told.value;
      allowance = told.allowance ∙ c.down.invariant.allowance;
      level = omega (arith, less);
      few = told.messages refl;
      room = omega (arith, less, c.gather-in-down.ensures.bound, ap (λ (y : Gathering). vec_len y.gathered) told.gathering, ap (λ (y : NodeInMemory). vec_len y.messages) (told.left refl));
      within = told.past refl c.down.invariant.within;
    }

pub returns-clause-value : goal.returns-clause-value
returns-clause-value g c =
    let C = code_of g.K.Kind.algebra in
    let x = c.down.self.here in
    let d = image_of g.D.Device c.down.device in
    let newer = vec_items c.down.self.gathering.gathered in
    let all : c.from-height.result ≡ c.down._reads = omega arith in
    ends C d c.args.root.now.next_free (view x) c.args.first c.args.last newer c.down._reads x.level _ _ c.down.invariant.same (omega arith)
    (c.end_page.ensures.value d ∙ ap (leaf_paged C.algebra d (view x) c.args.first c.args.last newer) all)
