use Rattle.std.proofs.Common.{drop}
use Rattle.sinks.proofs.Givens.{Left}
use Rattle.listings.specs.Texts.{head_lines}
use Rattle.listings.proofs.text.write_heads.Given as goal

abbrev pub invariant-loop-i : goal.invariant-loop-i
invariant-loop-i g l = Left g.S.Sink.takes g.S.Sink.stops l.initial.out (head_lines 0 l.heads) l.out (head_lines l.i (drop l.i l.heads))
