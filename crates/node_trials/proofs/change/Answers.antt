use Rattle.std.proofs.Common.{◌≡◌, ℕ, ◌+◌, ◌<◌, ◌≤◌, List, length, get_or, drop, set, sym, ap, ◌∙◌, arith}
use Rattle.std.proofs.lemmas.List.{at_drop_more, at_drop_all, set_past}
use Rattle.node_trials.specs.Trials.{changed}
use Rattle.node_trials.specs.declared.tables.Change.{Change}
use Rattle.node_trials.proofs.change.Goals as goal
use Rattle.node_trials.proofs.change.Goals.{then-place-lt-BLOCK_BYTES, else-place-lt-BLOCK_BYTES}

-- one change more, made or past the end
one_more : (cs : List Change) (i : ℕ) (before after all : List ℕ) → i < length cs → changed (drop i cs) before ≡ all → after ≡ set before (get_or cs i (record { 0 = 0; 1 = 0 })).0 (get_or cs i (record { 0 = 0; 1 = 0 })).1 → changed (drop (i + 1) cs) after ≡ all
one_more cs i before after all less inv e = ap (changed (drop (i + 1) cs)) e ∙ sym (at_drop_more (λ l. changed l before) cs i (record { 0 = 0; 1 = 0 }) less) ∙ inv

pub loop-place-preserved : goal.loop-place-preserved
loop-place-preserved c =
    let cs = c.args.changes.now in
    let i = c.loop-place.place-index in
    let past : 4096 ≤ (get_or cs i (record { 0 = 0; 1 = 0 })).0 → c.loop-place.block ≡ set c.loop-place.block (get_or cs i (record { 0 = 0; 1 = 0 })).0 (get_or cs i (record { 0 = 0; 1 = 0 })).1
    = λ h. sym (set_past c.loop-place.block _ _ (omega (arith, h, c.loop-place.invariant.0))) in (
      c.if-place-lt-BLOCK_BYTES.array_long,
      one_more cs i c.loop-place.block c.if-place-lt-BLOCK_BYTES.block _ c.loop-place-test.true c.loop-place.invariant.1
          (elim c.if-place-lt-BLOCK_BYTES.branch [ then-place-lt-BLOCK_BYTES w ↦ w.block-is | else-place-lt-BLOCK_BYTES w ↦ w.block-is ∙ past w.if-place-lt-BLOCK_BYTES.false ]),
    )

pub returns : goal.returns
returns c = sym (at_drop_all (λ l. changed l c.loop-place.block) c.args.changes.now c.loop-place.place-index c.loop-place-test.false) ∙ c.loop-place.invariant.1
