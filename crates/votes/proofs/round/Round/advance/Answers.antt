use Rattle.std.proofs.Common.{length, refl, ap, ◌∙◌}
use Rattle.heads.specs.Rules.{of_ballots}
use Rattle.votes.specs.Tables.{rewrite}
use Rattle.votes.specs.Reports.{reported}
use Rattle.votes.specs.Passes.{take_at}
use Rattle.votes.proofs.Rounds.{one_round}
use Rattle.votes.proofs.round.Round.advance.Goals as goal

pub returns : goal.returns
returns g c =
    let s = g.V.Method.scheme in
    let self = c.args.self in
    let k = length c.args.report.words.now in
    let q = reported c.args.report in
    c.step_all.ensures ∙ ap (rewrite (take_at s self.senders self.number q) k) c.listen.ensures
    ∙ one_round g.B.Ballot.earlier s k self.senders self.number c.args.table.now q (of_ballots s self.number) refl
