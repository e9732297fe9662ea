use Rattle.std.proofs.Common.{◌≡◌}
use Rattle.votes.specs.Tables.{rewrite}
use Rattle.votes.specs.Reports.{reported}
use Rattle.votes.specs.Passes.{take_at}
use Rattle.votes.proofs.round.Round.step_all.Given as goal

abbrev pub invariant-loop-i : goal.invariant-loop-i
invariant-loop-i g l =
    l.table ≡ rewrite (take_at g.V.Method.scheme l.self.senders l.self.number (reported l.report)) l.i l.initial.table
