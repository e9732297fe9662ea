use Rattle.std.proofs.Common.{refl, arith, length}
use Rattle.std.proofs.lemmas.Option.{slice_get_read}
use Rattle.votes.proofs.Places.{told_with, told_without}
use Rattle.votes.proofs.tables.places.Goals as goal
use Rattle.votes.proofs.tables.places.Goals.{then-test, else-test}

pub loop-i-preserved : goal.loop-i-preserved
loop-i-preserved g c =
    let heads = c.args.heads.now in
    let i = c.loop-i.i in
    let h = c.index-heads-i.result in
    let here = slice_get_read heads (length heads) i h refl c.loop-i-test.true c.index-heads-i.is in
    elim c.if-test.branch [
      | then-test w ↦ told_with heads _ i c.loop-i.set h c.test.result (omega arith) here c.test.ensures c.loop-i.invariant _ w.if-test.true w.set-is
      | else-test w ↦ told_without heads _ i c.loop-i.set h c.test.result (omega arith) here c.test.ensures c.loop-i.invariant _ w.if-test.false w.set-is
    ]
