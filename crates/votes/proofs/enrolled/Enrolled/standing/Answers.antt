use Rattle.std.proofs.Common.{◌≡◌, ◌<◌, length, Some, sym, refl, ap, ◌∙◌, arith}
use Rattle.std.proofs.lemmas.Bool.{lt-ltb, le-ltb, ltb-true, ltb-false, cond-true, cond-false}
use Rattle.std.proofs.lemmas.List.{length-take-le}
use Rattle.std.proofs.lemmas.Option.{slice_get_read}
use Rattle.std.specs.List.{slice_get}
use Rattle.votes.specs.Calls.{standing_of, standing_at}
use Rattle.votes.proofs.Places.{read_first}
use Rattle.votes.proofs.enrolled.Enrolled.standing.Goals as goal

pub returns-in-Some : goal.returns-in-Some
unfolding standing_at
returns-in-Some g c =
    let self = c.args.self.now in
    let xs = c.heads.result.now in
    let i = c.args.i in
    let few : length xs ≡ self.n = ap length c.heads.ensures ∙ length-take-le self.n self.table.now self.inside in
    let low : i < length xs = ltb-true i (length xs) (sym c.in-Some.ensures.lookup.0) in
    let read = slice_get_read xs (length xs) i c.in-Some.h.now refl low c.in-Some.ensures.lookup.1 in
    let is : slice_get self.table.now i ≡ Some c.in-Some.h.now = sym (read_first self.table.now self.n i (omega arith)) ∙ ap (λ ys. slice_get ys i) (sym c.heads.ensures) ∙ read in
    c.standing.ensures ∙ ap standing_of (sym is) ∙ sym (cond-true _ _ _ (lt-ltb i self.n (omega arith)))

pub returns-in-None : goal.returns-in-None
unfolding standing_at
returns-in-None g c =
    let self = c.args.self.now in
    let xs = c.heads.result.now in
    let few : length xs ≡ self.n = ap length c.heads.ensures ∙ length-take-le self.n self.table.now self.inside in
    let past = ltb-false c.args.i (length xs) (sym c.in-None.ensures.lookup.0) in
    sym (cond-false _ _ _ (le-ltb c.args.i self.n (omega arith)))
