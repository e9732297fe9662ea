use Rattle.std.proofs.Common.{◌≡◌, ℕ, ap, ◌∙◌}
use Rattle.sets.specs.Sets.{bit, count}
use Rattle.sets.proofs.Words.{count_set}
use Rattle.heads.specs.declared.head.State.TheVariants.{Running, Decided}
use Rattle.votes.specs.Tables.{stands, in_state}
use Rattle.votes.specs.Calls.{figures_of}
use Rattle.votes.proofs.enrolled.Enrolled.figures.Goals as goal

pub returns : goal.returns
unfolding figures_of in_state
returns g c =
    let hs = c.args.self.now.table.now in
    let n = c.args.self.now.n in
    let senders = c.size.ensures.value in
    let alarms = c.size-2.ensures.value in
    let decided : c.size-3.result ≡ count n (stands Decided hs n) =
    c.size-3.ensures.value ∙ ap (λ (w : ℕ). count 64 (bit w)) c.in_state.ensures ∙ count_set n (stands Decided hs n) c.args.self.now.few in
    let running : c.size-4.result ≡ count n (stands Running hs n) =
    c.size-4.ensures.value ∙ ap (λ (w : ℕ). count 64 (bit w)) c.in_state-2.ensures ∙ count_set n (stands Running hs n) c.args.self.now.few in
    cc
