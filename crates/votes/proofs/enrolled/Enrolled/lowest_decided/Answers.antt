use Rattle.std.proofs.Common.{List, length, take, ap, ◌∙◌, arith}
use Rattle.std.proofs.lemmas.List.{length-take-le}
use Rattle.std.specs.List.{slice_get}
use Rattle.sets.specs.Search.{first}
use Rattle.sets.proofs.Searches.{first_same}
use Rattle.heads.specs.declared.head.Head.{Head}
use Rattle.votes.specs.Calls.{ballot_of}
use Rattle.votes.proofs.Places.{read_first}
use Rattle.votes.proofs.enrolled.Enrolled.lowest_decided.Goals as goal

pub returns : goal.returns
returns g c =
    let self = c.args.self.now in
    let hs = self.table.now in
    c.first_decided.ensures
    ∙ ap (λ (xs : List (Head g.row.B.Denot)). first (λ i. ballot_of (slice_get xs i)) (length xs)) c.heads.ensures
    ∙ ap (first (λ i. ballot_of (slice_get (take self.n hs) i))) (length-take-le self.n hs self.inside)
    ∙ first_same _ _ 0 self.n (λ j h. ap ballot_of (read_first hs self.n j (omega arith)))
