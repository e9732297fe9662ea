use Rattle.std.proofs.Common.{[], ◌∷◌, ◌∙◌, ap₂, subst}
use Rattle.sinks.specs.Sinks.{Given}
use Rattle.listings.specs.declared.lines.Value.TheVariants.{Number}
use Rattle.listings.specs.Values.{line_text}
use Rattle.listings.proofs.Steps.{head_is}
use Rattle.listings.proofs.lines.write_head.Goals as goal

pub returns : goal.returns
returns g c =
    subst (λ text. Given g.S.Sink.takes g.S.Sink.stops c.args.out.now text c.write_line.result c.write_line.new.out)
    (ap₂ (λ a b. line_text 72 (Number c.args.head ∷ a ∷ b ∷ [])) c.letter_of.ensures c.code_of.ensures ∙ head_is c.args.head c.args.outcome) c.write_line.ensures
