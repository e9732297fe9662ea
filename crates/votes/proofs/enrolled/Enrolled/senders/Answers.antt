use Rattle.std.proofs.Common.{◌≡◌, ◌&&◌, rules, sym, ap, ap₂, ◌∙◌}
use Rattle.std.proofs.lemmas.Bool.{lt-ltb}
use Rattle.sets.specs.Sets.{bit}
use Rattle.heads.specs.declared.head.State.TheVariants.{Running}
use Rattle.heads.specs.Rules.{says}
use Rattle.votes.specs.Tables.{head_in, same_state}
use Rattle.votes.specs.Rounds.{speaks, sends, senders}
use Rattle.votes.proofs.Places.{told_word}
use Rattle.votes.proofs.enrolled.Enrolled.senders.Goals as goal

pub returns : goal.returns
unfolding senders
returns g c =
    let self = c.args.self.now in
    let s = g.V.Method.scheme in
    told_word self.table.now c.heads.result.now self.n c.places.result (sends s c.args.round self.table.now self.n c.args.turns) c.heads.ensures self.inside c.places.ensures.below
    (λ i h low e f.
    let each = c.places.ensures.each i h e in
    let told : bit c.places.result i ≡ (same_state h.state Running && says s c.args.round (bit c.args.turns i) h) = search rules in
    told ∙ sym (ap₂ ◌&&◌ (ap₂ ◌&&◌ (lt-ltb i self.n low) (ap (head_in Running) f)) (ap (speaks s c.args.round (bit c.args.turns i)) f)))
