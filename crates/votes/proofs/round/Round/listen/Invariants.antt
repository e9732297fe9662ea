use Rattle.std.proofs.Common.{◌≡◌}
use Rattle.heads.specs.Heard.{ballots_of}
use Rattle.votes.specs.Tables.{rewrite}
use Rattle.votes.specs.Passes.{note_at}
use Rattle.votes.proofs.round.Round.listen.Given as goal

abbrev pub invariant-loop-i : goal.invariant-loop-i
invariant-loop-i g l =
    (l.ballots ≡ ballots_of g.B.Ballot.earlier l.initial.table l.last)
    × (l.table ≡ rewrite (note_at g.B.Ballot.earlier l.initial.table l.report.words.now l.report.stops) l.i l.initial.table)
