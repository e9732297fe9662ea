use Rattle.std.proofs.Common.{◌≡◌, ◌&&◌, rules, sym, ap, ◌∙◌}
use Rattle.std.specs.Option.{option_map}
use Rattle.sets.specs.Sets.{bit}
use Rattle.heads.specs.Heard.{estimate_at}
use Rattle.votes.specs.Leaders.{alike, holds, having}
use Rattle.votes.proofs.Places.{told_word}
use Rattle.votes.proofs.enrolled.Enrolled.with_ballot.Goals as goal

pub returns : goal.returns
unfolding having
returns g c =
    let self = c.args.self.now in
    let earlier = g.B.Ballot.earlier in
    let hs = self.table.now in
    told_word hs c.heads.result.now self.n c.places.result (λ i. bit c.args.senders i && holds earlier c.args.ballot (estimate_at hs i)) c.heads.ensures self.inside c.places.ensures.below
    (λ i h low e f.
    let each = c.places.ensures.each i h e in
    let told : bit c.places.result i ≡ (bit c.args.senders i && alike earlier h.estimate c.args.ballot) = search rules in
    told ∙ sym (ap (λ o. bit c.args.senders i && holds earlier c.args.ballot (option_map (λ x. x.estimate) o)) f))
