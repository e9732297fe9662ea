use Rattle.std.proofs.Common.{◌≡◌, Ok}
use Rattle.sets.specs.Search.{first}
use Rattle.sets.proofs.Searches.{left}
use Rattle.votes.specs.Rounds.{stranger, breach_at}
use Rattle.votes.proofs.round.Round.check_report.Given as goal

abbrev pub invariant-check : goal.invariant-check
invariant-check g l =
    let breach = breach_at g.V.Method.scheme l.running l.self.senders l.self.number l.report.words.now l.report.alarms in
    (l.found ≡ Ok tt) × (first breach 64 ≡ left breach 64 l.head)

abbrev pub invariant-loop-other : goal.invariant-loop-other
invariant-loop-other g l =
    first (stranger l.self.senders l.self.number l.r.word l.head) 64 ≡ left (stranger l.self.senders l.self.number l.r.word l.head) 64 l.other
