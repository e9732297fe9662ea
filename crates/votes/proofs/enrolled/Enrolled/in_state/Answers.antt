use Rattle.std.proofs.Common.{◌≡◌, ◌&&◌, rules, sym, ap, ap₂, ◌∙◌}
use Rattle.std.proofs.lemmas.Bool.{lt-ltb}
use Rattle.sets.specs.Sets.{bit}
use Rattle.votes.specs.Tables.{in_state, head_in, stands, same_state}
use Rattle.votes.proofs.Places.{told_word}
use Rattle.votes.proofs.enrolled.Enrolled.in_state.Goals as goal

pub returns : goal.returns
unfolding in_state
returns g c =
    let self = c.args.self.now in
    told_word self.table.now c.heads.result.now self.n c.places.result (stands c.args.state self.table.now self.n) c.heads.ensures self.inside c.places.ensures.below
    (λ i h low e f.
    let each = c.places.ensures.each i h e in
    let told : bit c.places.result i ≡ same_state h.state c.args.state = search rules in
    told ∙ sym (ap₂ ◌&&◌ (lt-ltb i self.n low) (ap (head_in c.args.state) f)))
