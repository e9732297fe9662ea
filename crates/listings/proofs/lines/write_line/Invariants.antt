use Rattle.std.proofs.Common.{[], ◌∷◌, ◌++◌, drop}
use Rattle.sinks.proofs.Givens.{Left}
use Rattle.listings.specs.Values.{values_text, line_text}
use Rattle.listings.proofs.lines.write_line.Given as goal

abbrev pub invariant-loop-value : goal.invariant-loop-value
invariant-loop-value g l =
    Left g.S.Sink.takes g.S.Sink.stops l.fn.out (line_text l.fn.letter l.values) l.out (values_text (drop l.value-index l.values) ++ (10 ∷ []))
