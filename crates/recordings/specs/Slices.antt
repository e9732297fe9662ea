-- What playing answers that writes to the caller's slices, and what it writes there.
use Rattle.std.specs.Prelude.{ℕ, Bool, ◌&&◌, List, [], length, take, Some, None, Ok, Err, Option, Result, nat_le}
use Rattle.std.specs.Borrow.{Bor}
use Rattle.votes.specs.declared.stages.Figures.{Figures}
use Rattle.recordings.specs.declared.faults.FileFault.{FileFault}
use Rattle.sinks.specs.declared.front.NoRoom.{NoRoom}
use Rattle.recordings.specs.declared.listing.Outcome.{Outcome}
use Rattle.recordings.specs.declared.listing.Told.{Told}
use Rattle.recordings.specs.Files.{Located, Played, ending_as, file_breach}

-- the outcomes that are told; a fault tells none
abbrev pub heads_of : Played → List Outcome
heads_of p = elim p.ending [ Ok heads ↦ heads | Err fault ↦ [] ]

-- the number of rounds, and then the number of heads, or the fault
pub record Counted : Type 0 where
  pub rounds : ℕ
  pub ending : Result ℕ Located

abbrev pub counted : Played → Counted
counted p = record { rounds = length p.rounds; ending = elim p.ending [ Ok heads ↦ Ok (length heads) | Err fault ↦ Err fault ] }

abbrev pub summary_as : Told ℕ ℕ → Counted
summary_as s = record { rounds = s.rounds; ending = elim s.ending [ Ok heads ↦ Ok heads | Err fault ↦ Err (file_breach fault) ] }

abbrev pub ending_by : Result ℕ FileFault → List Outcome → Result (List Outcome) Located
ending_by (Ok n) heads = Ok (take n heads)
ending_by (Err fault) heads = Err (file_breach fault)

-- what a summary tells of the figures and outcomes at the front of two lists
abbrev pub told_by : Told ℕ ℕ → List Figures → List Outcome → Played
told_by s rounds heads = record { rounds = take s.rounds rounds; ending = ending_by s.ending heads }

abbrev pub play_told : Result (Told ℕ ℕ) NoRoom → Option Counted
play_told (Ok s) = Some (summary_as s)
play_told (Err e) = None

-- there is room for 10,000 rounds and 64 heads
abbrev pub roomy : List Figures → List Outcome → Bool
roomy rounds heads = nat_le 10000 (length rounds) && nat_le 64 (length heads)

-- what is told of figures and outcomes in slices
abbrev pub slices_as : Told (Bor (List Figures)) (Bor (List Outcome)) → Played
slices_as t = record { rounds = t.rounds.now; ending = ending_as t.ending (λ heads. heads.now) file_breach }
