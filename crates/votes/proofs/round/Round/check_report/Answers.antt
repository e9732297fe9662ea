use Rattle.std.proofs.Common.{◌≡◌, ℕ, ◌||◌, None, sym, ap, ◌∙◌, arith}
use Rattle.std.proofs.lemmas.Bool.{and_parts, eqb-true}
use Rattle.sets.specs.Sets.{bit}
use Rattle.sets.proofs.Words.{bit_word}
use Rattle.sets.specs.Search.{first}
use Rattle.sets.proofs.Searches.{left_more, left_found, left_all, when_true, when_false, or_else_next, or_else_this}
use Rattle.votes.specs.Rounds.{late_breach, stranger, breach_of, report_breach}
use Rattle.votes.specs.Calls.{breach_in}
use Rattle.votes.proofs.Breaches.{here, no_stranger, left_fault, ok_is, not_is, out}
use Rattle.votes.proofs.round.Round.check_report.Goals as goal
use Rattle.votes.proofs.round.Round.check_report.Goals.{then-has_stranger+else-loop-other-test, else-has_stranger}

pub loop-other-preserved : goal.loop-other-preserved
unfolding report_breach
loop-other-preserved g c =
    left_more _ (stranger c.args.self.senders c.args.self.number c.reception-r.result.word c.check.head) 64 c.loop-other.other (omega arith)
    (when_false _ _ (sym c.if-only_in.ensures)) c.loop-other.invariant

pub check-preserved-then-is_out : goal.check-preserved-then-is_out
unfolding report_breach
check-preserved-then-is_out g c =
    let self = c.args.self in
    let s = g.V.Method.scheme in
    let report = c.args.report in
    let i = c.check.head in
    let same = c.reception-r.ensures in
    let both = and_parts _ _ (sym c.is_out.ensures ∙ c.if-is_out.true) in
    let idle = and_parts _ _ both.0 in
    let blank = sym (ap (λ x. x.word) same) ∙ eqb-true _ 0 idle.1 in
    let runs = sym (ap (λ x. x.runs) same) ∙ not_is _ idle.0 in
    let none = sym (bit_word 64 (λ j. bit self.senders j || bit report.alarms j) i (omega arith))
    ∙ ap (λ w. bit w i) (sym c.joined-marked.ensures) ∙ ap (bit c.joined-marked.result) (sym (ap (λ x. x.head) same))
    ∙ not_is _ both.1 in (
      c.check.invariant.0,
      left_more _ _ 64 i (omega arith)
          (ap (λ (w : ℕ). breach_of s self.senders self.number (bit c.args.running i) w (bit report.alarms i) i) blank ∙ out s self.senders self.number _ _ i runs none)
          c.check.invariant.1,
    )

pub check-preserved : goal.check-preserved
unfolding report_breach
check-preserved g c =
    let self = c.args.self in
    let r = c.reception-r.result in
    let strangers = stranger self.senders self.number r.word c.check.head in
    let none = ok_is c.check_late-found.result (sym c.if-is_err.ensures.value) in
    let alone : first strangers 64 ≡ None = elim c.if-has_stranger.branch [
      | then-has_stranger+else-loop-other-test w ↦ left_all _ strangers 64 w.loop-other.other (omega arith) w.loop-other.invariant
      | else-has_stranger w ↦ no_stranger _ _ _ _ (c.has_stranger.ensures w.if-has_stranger.false)
    ] in
    let at = here g.V.Method.scheme c.args.running self.senders self.number c.args.report.words.now c.args.report.alarms c.check.head r c.reception-r.ensures in
    let late = c.check_late-found.ensures ∙ ap (late_breach g.V.Method.scheme self.senders self.number r.runs r.word r.alarm) (ap (λ x. x.head) c.reception-r.ensures) in (
      none,
      left_more _ _ 64 c.check.head (omega arith)
          (at ∙ or_else_next _ _ (when_false _ _ (sym c.if-idle_noise.ensures)) ∙ or_else_next _ _ alone ∙ sym late ∙ ap breach_in none)
          c.check.invariant.1,
    )

pub returns-after-check : goal.returns-after-check
unfolding report_breach
returns-after-check g c = ap breach_in c.check.invariant.0 ∙ sym (left_all _ _ 64 c.check.head (omega arith) c.check.invariant.1)

pub returns-then-idle_noise : goal.returns-then-idle_noise
unfolding report_breach
returns-then-idle_noise g c =
    let self = c.args.self in
    let at = here g.V.Method.scheme c.args.running self.senders self.number c.args.report.words.now c.args.report.alarms c.check.head c.reception-r.result c.reception-r.ensures in
    sym (left_found _ _ 64 c.check.head _ (omega arith) (at ∙ or_else_this _ _ _ (when_true _ _ (sym c.if-idle_noise.ensures))) c.check.invariant.1)

pub returns-then-only_in : goal.returns-then-only_in
unfolding report_breach
returns-then-only_in g c =
    let self = c.args.self in
    let at = here g.V.Method.scheme c.args.running self.senders self.number c.args.report.words.now c.args.report.alarms c.check.head c.reception-r.result c.reception-r.ensures in
    sym (left_found _ _ 64 c.check.head _ (omega arith)
    (at ∙ or_else_next _ _ (when_false _ _ (sym c.if-idle_noise.ensures))
    ∙ or_else_this _ _ _ (left_found _ _ 64 c.loop-other.other _ (omega arith) (when_true _ _ (sym c.if-only_in.ensures)) c.loop-other.invariant))
    c.check.invariant.1)

pub returns-then-is_err : goal.returns-then-is_err
unfolding report_breach
returns-then-is_err g c =
    let self = c.args.self in
    let r = c.reception-r.result in
    let strangers = stranger self.senders self.number r.word c.check.head in
    let alone : first strangers 64 ≡ None = elim c.if-has_stranger.branch [
      | then-has_stranger+else-loop-other-test w ↦ left_all _ strangers 64 w.loop-other.other (omega arith) w.loop-other.invariant
      | else-has_stranger w ↦ no_stranger _ _ _ _ (c.has_stranger.ensures w.if-has_stranger.false)
    ] in
    let at = here g.V.Method.scheme c.args.running self.senders self.number c.args.report.words.now c.args.report.alarms c.check.head r c.reception-r.ensures in
    let late = c.check_late-found.ensures ∙ ap (late_breach g.V.Method.scheme self.senders self.number r.runs r.word r.alarm) (ap (λ x. x.head) c.reception-r.ensures) in
    sym (left_fault _ _ 64 c.check.head c.check_late-found.result (omega arith) (sym c.if-is_err.ensures.value)
    (at ∙ or_else_next _ _ (when_false _ _ (sym c.if-idle_noise.ensures)) ∙ or_else_next _ _ alone ∙ sym late)
    c.check.invariant.1)
