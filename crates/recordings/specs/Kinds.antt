-- What the bytes of a header stand for.
use Rattle.std.specs.Prelude.{ℕ, cond, Ok, Err, Result, ◌==◌}
use Rattle.recordings.specs.declared.faults.RecordFault.{RecordFault}
use Rattle.recordings.specs.declared.faults.RecordFault.TheVariants.{Header}
use Rattle.recordings.specs.declared.kinds.VoteKind.{VoteKind}
use Rattle.recordings.specs.declared.kinds.VoteKind.TheVariants as vote
use Rattle.recordings.specs.declared.kinds.BallotKind.{BallotKind}
use Rattle.recordings.specs.declared.kinds.BallotKind.TheVariants as kind

abbrev pub vote_in : ℕ → Result VoteKind RecordFault
vote_in byte = cond (byte == 1) (Ok vote.Short) (cond (byte == 2) (Ok vote.Bit) (cond (byte == 3) (Ok vote.Split) (Err Header)))

abbrev pub kind_in : ℕ → Result BallotKind RecordFault
kind_in byte = cond (byte == 1) (Ok kind.Recipe) (cond (byte == 2) (Ok kind.Ticket) (Err Header))
