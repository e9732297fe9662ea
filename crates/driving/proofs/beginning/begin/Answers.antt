use Rattle.runs.proofs.Promised.{promised}
use Rattle.driving.proofs.beginning.begin.Goals as goal

pub returns : goal.returns
returns g c = record {
  answer = c.begin.ensures;
  promise = promised g.B.Ballot.earlier g.met.B.Ballot.total g.V.Method.scheme g.met.V.Fitted.fit;
}
