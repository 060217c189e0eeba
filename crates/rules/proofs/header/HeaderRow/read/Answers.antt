use Rattle.std.proofs.lemmas.List.{take_rest, drop-drop}
use Rattle.rules.proofs.header.HeaderRow.read.Goals as goal

pub returns : goal.returns
returns c =
    let bs = c.args.bytes.now in
    let r1 = take_rest bs 1 in
    let r2 = take_rest bs 2 in
    let r4 = take_rest bs 4 in
    let r5 = take_rest bs 5 in
    let r6 = take_rest bs 6 in
    let r8 = take_rest bs 8 in
    let r12 = take_rest bs 12 in
    let r16 = take_rest bs 16 in
    let r24 = take_rest bs 24 in
    let d2 = drop-drop 1 1 bs in
    let d4 = drop-drop 2 2 bs in
    let d5 = drop-drop 1 4 bs in
    let d6 = drop-drop 1 5 bs in
    let d8 = drop-drop 2 6 bs in
    let d12 = drop-drop 4 8 bs in
    let d16 = drop-drop 4 12 bs in
    let d24 = drop-drop 8 16 bs in
    cc
