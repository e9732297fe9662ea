use Rattle.std.proofs.Common.{map, drop}
use Rattle.sinks.proofs.Givens.{Left}
use Rattle.recordings.specs.Files.{outcome_of}
use Rattle.recordings.proofs.into.list_outcomes.Given as goal

abbrev pub invariant-loop-h : goal.invariant-loop-h
invariant-loop-h g l =
    let outcomes = map (outcome_of g.B.Coded.encoded) in
    Left g.S.Sink.takes g.S.Sink.stops l.initial.heads (outcomes l.table) l.heads (outcomes (drop l.h-index l.table))
