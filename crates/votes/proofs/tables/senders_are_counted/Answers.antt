use Rattle.sets.proofs.Words.{count_set}
use Rattle.votes.specs.Rounds.{sends, senders}
use Rattle.votes.proofs.tables.senders_are_counted.Goals as goal

pub returns : goal.returns
unfolding senders
returns g c s round hs n turns h = count_set n (sends s round hs n turns) h
