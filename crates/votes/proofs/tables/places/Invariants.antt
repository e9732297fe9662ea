use Rattle.votes.proofs.Places.{Told}
use Rattle.votes.proofs.tables.places.Given as goal

abbrev pub invariant-loop-i : goal.invariant-loop-i
invariant-loop-i g l = Told l.heads (λ i h t. goal.F-post g l.test i h t) l.i l.set
