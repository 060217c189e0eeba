use Rattle.std.proofs.Common.{[], refl, arith}
use Rattle.rows.specs.Bytes.{bytes_of}
use Rattle.rules.proofs.Fields.{Begun, field, whole}
use Rattle.rules.proofs.header.HeaderRow.write.Goals as goal

pub returns : goal.returns
returns c =
    let h = c.args.self in
    let b0 : Begun 0 c.args.row.now [] = record { long = c.requires; begins = refl } in
    let b1 = field 0 1 _ [] _ (bytes_of 1 h.level) (omega arith) b0 c.write.ensures refl in
    let b2 = field 1 1 _ _ _ (bytes_of 1 h.mark) (omega arith) b1 c.write-2.ensures refl in
    let b3 = field 2 2 _ _ _ (bytes_of 2 h.count) (omega arith) b2 c.write-3.ensures refl in
    let b4 = field 4 1 _ _ _ (bytes_of 1 h.children) (omega arith) b3 c.write-4.ensures refl in
    let b5 = field 5 1 _ _ _ (bytes_of 1 h.kind) (omega arith) b4 c.write-5.ensures refl in
    let b6 = field 6 2 _ _ _ (bytes_of 2 h.unused) (omega arith) b5 c.write-6.ensures refl in
    let b7 = field 8 4 _ _ _ (bytes_of 4 h.next_free) (omega arith) b6 c.write-7.ensures refl in
    let b8 = field 12 4 _ _ _ (bytes_of 4 h.gap) (omega arith) b7 c.write-8.ensures refl in
    let b9 = field 16 8 _ _ _ (bytes_of 8 h.updates) (omega arith) b8 c.write-9.ensures refl in
    let b10 = field 24 8 _ _ _ (bytes_of 8 h.tree_writes) (omega arith) b9 c.write-10.ensures refl in
    whole _ _ b10
