use Rattle.std.proofs.Common.{[], ◌∷◌, ◌∙◌, subst}
use Rattle.sinks.specs.Sinks.{Given}
use Rattle.votes.specs.Faults.{refusal_breach}
use Rattle.listings.specs.declared.lines.Value.TheVariants.{Number}
use Rattle.listings.specs.Values.{line_text}
use Rattle.listings.proofs.Steps.{refusal_is}
use Rattle.listings.proofs.lines.write_refusal.Goals as goal

pub returns : goal.returns
returns g c =
    let r = c.args.refusal in
    subst (λ text. Given g.S.Sink.takes g.S.Sink.stops c.args.out.now text c.write_line.result c.write_line.new.out)
    ((λ i. line_text 70 (Number r.number ∷ c.from.ensures i ∷ c.from-2.ensures i ∷ c.from-3.ensures i ∷ c.from-4.ensures i ∷ [])) ∙ refusal_is c.args.byte (refusal_breach r)) c.write_line.ensures
