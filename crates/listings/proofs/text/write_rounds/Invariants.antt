use Rattle.std.proofs.Common.{drop}
use Rattle.sinks.proofs.Givens.{Left}
use Rattle.listings.specs.Texts.{round_lines}
use Rattle.listings.proofs.text.write_rounds.Given as goal

abbrev pub invariant-loop-figures : goal.invariant-loop-figures
invariant-loop-figures g l = Left g.S.Sink.takes g.S.Sink.stops l.initial.out (round_lines l.rounds) l.out (round_lines (drop l.figures-index l.rounds))
