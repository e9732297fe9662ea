use Rattle.std.proofs.Common.{◌≡◌}
use Rattle.sets.specs.Search.{first}
use Rattle.sets.proofs.Searches.{left}
use Rattle.heads.specs.Rules.{fresh}
use Rattle.votes.specs.Tables.{rewrite}
use Rattle.recordings.specs.Files.{code_at, strange}
use Rattle.recordings.proofs.header.enroll_all.Given as goal

abbrev pub invariant-loop-i : goal.invariant-loop-i
invariant-loop-i g l =
    (l.roll.n ≡ l.i)
    × (first (strange g.B.Coded.encoded g.B.Coded.decoded l.file.bytes.now) l.file.heads ≡ left (strange g.B.Coded.encoded g.B.Coded.decoded l.file.bytes.now) l.file.heads l.i)
    × (l.table ≡ rewrite (λ j _. fresh (g.B.Coded.decoded (code_at l.file.bytes.now j))) l.i l.initial.table)
