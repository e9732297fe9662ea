use Rattle.std.proofs.Common.{◌≡◌, Bool, get_or, set, sym, ap, ◌∙◌, ap₂, arith}
use Rattle.sets.specs.Sets.{bit}
use Rattle.heads.specs.declared.head.Heard.{Heard}
use Rattle.votes.specs.Reports.{reported}
use Rattle.votes.specs.Rounds.{stepped}
use Rattle.votes.specs.Passes.{recalls, take_at}
use Rattle.votes.proofs.Rewrites.{rewrite_none, rewrite_more}
use Rattle.votes.proofs.round.Round.step_all.Goals as goal

pub loop-i-init : goal.loop-i-init
loop-i-init g c = sym (rewrite_none _ _)

pub loop-i-preserved : goal.loop-i-preserved
loop-i-preserved g c =
    let s = g.V.Method.scheme in
    let i = c.loop-i.i in
    let h = c.index-table-i.result in
    let q = reported c.args.report in
    let self = c.args.self in
    let heard : c.recall-heard.result ≡ recalls s self.senders self.number (get_or q.words i 0) (bit q.alarms i) h.ballots =
    c.recall-heard.ensures ∙ ap (λ (t : Bool). recalls s self.senders self.number (get_or q.words i 0) t h.ballots) c.has.ensures in
    let told : c.step.result ≡ take_at s self.senders self.number q i h =
    c.step.ensures ∙ ap₂ (λ (t : Bool) (x : Heard g.row.B.Denot). stepped s self.number t x h.state h) c.has-in-loop-i.ensures heard in
    ap (set c.loop-i.table i) told
    ∙ rewrite_more (take_at s self.senders self.number q) c.args.table.now c.loop-i.table i h (omega arith) c.loop-i.invariant c.index-table-i.is
