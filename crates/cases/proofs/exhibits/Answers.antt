use Rattle.cases.proofs.Exhibited.{shown}
use Rattle.cases.proofs.exhibits.Goals as goal

pub returns : goal.returns
returns c = shown
