use Rattle.std.proofs.Common.{◌≡◌}
use Rattle.heads.specs.Heard.{ballots_below}
use Rattle.heads.proofs.ballots_heard.ballots_heard.Given as goal

abbrev pub invariant-loop-i : goal.invariant-loop-i
invariant-loop-i g l =
    let walk = l.i-iterator in
    (walk.set ≡ l.word) × (l.heard ≡ ballots_below g.B.Ballot.earlier l.heads l.word walk.from)
