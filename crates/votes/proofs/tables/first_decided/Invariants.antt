use Rattle.std.proofs.Common.{◌≡◌, length}
use Rattle.std.specs.List.{slice_get}
use Rattle.sets.specs.Search.{first}
use Rattle.sets.proofs.Searches.{left}
use Rattle.votes.specs.Calls.{ballot_of}
use Rattle.votes.proofs.tables.first_decided.Given as goal

abbrev pub invariant-loop-h : goal.invariant-loop-h
invariant-loop-h g l =
    first (λ i. ballot_of (slice_get l.heads i)) (length l.heads) ≡ left (λ i. ballot_of (slice_get l.heads i)) (length l.heads) l.h-index
