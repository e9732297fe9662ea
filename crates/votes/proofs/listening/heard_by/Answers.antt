use Rattle.std.proofs.Common.{ℕ, Bool, not, ◌&&◌, eqb, sym, ◌∙◌}
use Rattle.std.proofs.lemmas.Option.{MatchOption-at_some}
use Rattle.std.proofs.lemmas.Bool.{not-true, not-false, eqb-true, eqb-false}
use Rattle.sets.specs.Sets.{bit}
use Rattle.votes.specs.Leaders.{LeadsIn}
use Rattle.votes.proofs.Leading.{none_in, some_in, led_ballots}
use Rattle.votes.proofs.listening.heard_by.Goals as goal

pub returns-then-is_led : goal.returns-then-is_led
returns-then-is_led g c =
    let earlier = g.B.Ballot.earlier in
    let hs = c.args.table.now in
    let l = c.in-Some.l in
    let word = c.args.word in
    let both : ℕ → Bool = λ i. bit word i && bit l.others i in
    let leads : LeadsIn earlier hs l = MatchOption-at_some (Unit {0}) (λ x. LeadsIn earlier hs x) l c.in-Some.is c.requires in
    led_ballots earlier g.met.B.Ballot.total hs leads.0 leads.1 leads.2 l leads.3 word (c.is_led.ensures c.if-is_led.true)
    (not (eqb c.shared.result 0))
    (λ e. none_in both (sym c.shared.ensures ∙ eqb-true _ _ (not-false _ e)))
    (λ e. some_in both (λ z. eqb-false _ _ (not-true _ e) (c.shared.ensures ∙ z)))
