use Rattle.std.proofs.Common.{◌≡◌, ◌-◌, ◌≤◌, List, [], length}
use Rattle.votes.specs.declared.stages.Figures.{Figures}
use Rattle.recordings.specs.Files.{played_from}
use Rattle.recordings.specs.Files.Progress.{going}
use Rattle.recordings.proofs.rounds.play_rounds.Given as goal

abbrev pub invariant-loop-at : goal.invariant-loop-at
invariant-loop-at g l =
    (figures : List Figures) × (l.vote.n ≡ l.initial.vote.n) × (length l.words ≡ l.initial.vote.n) × (l.vote.heard ≡ length figures)
    × (l.vote.heard ≤ l.at) × (l.at ≤ length l.bytes) × g.S.Sink.takes l.initial.rounds figures l.rounds
    × (played_from g.B.Ballot.earlier g.V.Method.scheme l.initial.vote.n l.bytes (length l.bytes) l.from (going [] l.initial.table)
    ≡ played_from g.B.Ballot.earlier g.V.Method.scheme l.initial.vote.n l.bytes (length l.bytes - l.vote.heard) l.at (going figures l.table))

abbrev pub decreases-loop-at : goal.decreases-loop-at
decreases-loop-at g l = length l.bytes - l.at
