-- What is in the sinks that a file was played into.
use Rattle.std.specs.Prelude.{◌≡◌, ◌≤◌, ◌⊎◌, List, length, Ok, Err, Result}
use Rattle.heads.specs.declared.head.Head.{Head}
use Rattle.votes.specs.declared.stages.Figures.{Figures}
use Rattle.recordings.specs.declared.faults.FileFault.{FileFault}
use Rattle.recordings.specs.declared.listing.Outcome.{Outcome}
use Rattle.recordings.specs.Files.{Played, Progress, ended_by, ending_as, file_breach}
use Rattle.recordings.specs.Slices.{heads_of}

-- the sink s stopped at some figures, of 10,000 rounds at most, and is t
abbrev pub RoundsStopped : {S : Type 0} → (S → List Figures → S → Type 0) → S → S → Type 0
RoundsStopped stops s t = (figures : List Figures) × ((length figures ≤ 10000) × stops s figures t)

-- the rounds played to p with the heads' records hs: their figures were put into the sink s, which is t
abbrev pub RoundsTo : {S F B : Type 0} → (S → List Figures → S → Type 0) → (S → List Figures → S → Type 0)
    → Progress B → S → Result (Result (Unit {0}) FileFault) F → S → List (Head B) → Type 0
RoundsTo takes stops p s (Ok ending) t hs = (figures : List Figures) × (takes s figures t × (p ≡ ended_by ending figures hs))
RoundsTo takes stops p s (Err e) t hs = RoundsStopped stops s t

-- the file tells p: its figures were put into the sink r, which is r', and its outcomes into h, which is h'
abbrev pub PlayedTo : {R H F : Type 0} → (R → List Figures → R → Type 0) → (R → List Figures → R → Type 0) → (H → List Outcome → H → Type 0) → (H → List Outcome → H → Type 0)
    → Played → R → R → H → H → Result (Result (Unit {0}) FileFault) F → Type 0
PlayedTo takes stops takes' stops' p r r' h h' (Ok ending) =
    takes r p.rounds r' × takes' h (heads_of p) h' × (p.ending ≡ ending_as ending (λ u. heads_of p) file_breach)
PlayedTo takes stops takes' stops' p r r' h h' (Err e) = RoundsStopped stops r r' ⊎ ((outcomes : List Outcome) × ((length outcomes ≤ 64) × stops' h outcomes h'))
