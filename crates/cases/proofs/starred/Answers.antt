use Rattle.cases.proofs.Settled.{settled}
use Rattle.cases.proofs.starred.Goals as goal

pub returns : goal.returns
returns c = settled
