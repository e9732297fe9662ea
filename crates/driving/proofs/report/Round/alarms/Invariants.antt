use Rattle.std.proofs.Common.{◌≡◌, get_or}
use Rattle.sets.specs.Sets.{word_of}
use Rattle.runs.specs.Driving.{alarm_for}
use Rattle.driving.proofs.report.Round.alarms.Given as goal

abbrev pub invariant-loop-i : goal.invariant-loop-i
invariant-loop-i g l = l.alarms ≡ word_of l.i (λ i. alarm_for (g.D.Detector.meaning l.detector) l.self.number l.self.running l.self.senders (get_or l.words i 0) i)
