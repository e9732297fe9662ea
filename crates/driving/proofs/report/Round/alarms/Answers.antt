use Rattle.std.proofs.Common.{◌≡◌, ℕ, Bool, get_or, sym, ◌∙◌, arith}
use Rattle.sets.proofs.Words.{word_none, word_with, word_without}
use Rattle.runs.specs.Driving.{alarm_for}
use Rattle.driving.proofs.report.Round.alarms.Goals as goal
use Rattle.driving.proofs.report.Round.alarms.Goals.{then-alarm_for, else-alarm_for}

pub loop-i-init : goal.loop-i-init
loop-i-init g c = sym (word_none _)

pub loop-i-preserved : goal.loop-i-preserved
loop-i-preserved g c =
    let i = c.loop-i.i in
    let p : ℕ → Bool = λ j. alarm_for (g.D.Detector.meaning c.args.detector.now) c.args.self.number c.args.self.running c.args.self.senders (get_or c.args.words.now j 0) j in
    let is : p i ≡ c.alarm_for.result = sym c.alarm_for.ensures in
    elim c.if-alarm_for.branch [
      | then-alarm_for w ↦ w.alarms-is ∙ word_with i p c.loop-i.alarms (omega arith) (is ∙ w.if-alarm_for.true) c.loop-i.invariant
      | else-alarm_for w ↦ w.alarms-is ∙ word_without i p c.loop-i.alarms (is ∙ w.if-alarm_for.false) c.loop-i.invariant
    ]
