use Rattle.std.proofs.Common.{add-zero, arith}
use Rattle.recordings.specs.Bytes.{number}
use Rattle.recordings.proofs.bytes.read_u64.Goals as goal

pub returns : goal.returns
unfolding number
returns c = rw (c.from_le_bytes.ensures, add-zero) (omega arith)
