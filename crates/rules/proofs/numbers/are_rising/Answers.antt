use Rattle.std.proofs.Common.{◌≡◌, ℕ, suc, ◌+◌, ◌<◌, ◌&&◌, ltb, leb, List, length, get_or, drop, add-one, arith}
use Rattle.std.proofs.lemmas.List.{at_drop_more, at_drop_all}
use Rattle.std.proofs.lemmas.Bool.Decides.{nat_tests}
use Rattle.rules.specs.Keys.{rising}
use Rattle.rules.proofs.numbers.are_rising.Goals as goal

one_more : (low high : ℕ) (ks : List ℕ) (i : ℕ) → i < length ks → rising low high (drop i ks) ≡ (leb low (get_or ks i 0) && (ltb (get_or ks i 0) high && rising (suc (get_or ks i 0)) high (drop (i + 1) ks)))
one_more low high ks i h = at_drop_more (rising low high) ks i 0 h

pub returns-then-not-contains : goal.returns-then-not-contains
returns-then-not-contains c = let h = one_more c.loop-k.next c.args.span.high c.args.keys.now c.loop-k.k-index (omega arith) in let t = c.if-not-contains.ensures in grind (arith, nat_tests)

pub loop-k-preserved : goal.loop-k-preserved
loop-k-preserved c = let h = one_more c.loop-k.next c.args.span.high c.args.keys.now c.loop-k.k-index (omega arith) in let t = c.if-not-contains.ensures in rw add-one (grind (arith, nat_tests))

pub returns : goal.returns
returns c = let e = at_drop_all (rising c.loop-k.next c.args.span.high) c.args.keys.now c.loop-k.k-index (omega arith) in cc c.loop-k.invariant
