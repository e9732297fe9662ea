use Rattle.std.proofs.Common.{◌≡◌, ℕ, ◌<◌, get_or}
use Rattle.runs.specs.Driving.{word_for}
use Rattle.driving.proofs.report.Round.put_words.Given as goal

abbrev pub invariant-loop-i : goal.invariant-loop-i
invariant-loop-i g l = (k : ℕ) → k < l.i → get_or l.list k 0 ≡ word_for (g.C.Channel.meaning l.channel) l.self.number l.self.running l.self.senders k
