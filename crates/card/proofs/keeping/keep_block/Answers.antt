use Rattle.std.proofs.Common.{◌≡◌, ℕ, eqb, refl, ap, ◌∙◌, arith}
use Rattle.std.proofs.lemmas.Slice.Eq.{slice_eq-Decides}
use Rattle.std.proofs.lemmas.Bool.{cond-true, eq-eqb}
use Rattle.std.proofs.lemmas.Bool.Decides.{Decides-eqb}
use Rattle.blocks.specs.Media.{Medium}
use Rattle.blocks.specs.Memory.{held}
use Rattle.card.proofs.keeping.keep_block.Goals as goal

-- the bytes that come back are those that were written
pub returns-else-eq-clause-outcome : goal.returns-else-eq-clause-outcome
returns-else-eq-clause-outcome c =
    let n = c.args.block in
    let came_back : c.read.new.buffer ≡ c.args.bytes.now =
    c.in_ok-read.ensures.buffer
    ∙ ap (λ (m : Medium). m.bytes n) c.in_ok-write.ensures.after
    ∙ cond-true (eqb n n) c.args.bytes.now ((held c.args.card.now).bytes n) (eq-eqb n n refl) in
    let equal = (slice_eq-Decides Decides-eqb _ _ _ c.eq.ensures).1 came_back in
    let never : ◌≡◌ {A = ℕ} 0 1 = cc (equal, c.if-eq.false) in
    absurd (omega arith)
