-- The text of a listing.
use Rattle.std.specs.Prelude.{ℕ, ◌+◌, List, [], ◌∷◌, ◌++◌, Some, None, Ok, Err, codes, decimal, Option, Result}
use Rattle.ballots.specs.Faults.{Breach}
use Rattle.votes.specs.declared.stages.Figures.{Figures}
use Rattle.recordings.specs.declared.listing.Outcome.{Outcome}
use Rattle.recordings.specs.declared.listing.Outcome.TheVariants as outcome
use Rattle.recordings.specs.Files.{Located, Played}

infixl 20 ◌▹◌
-- two texts with a blank between them
abbrev pub ◌▹◌ : List ℕ → List ℕ → List ℕ
a ▹ b = a ++ (32 ∷ b)

-- a number, or a dash where there is none
abbrev pub or_dash : Option ℕ → List ℕ
or_dash (Some n) = decimal n
or_dash None = 45 ∷ []

-- R: round, senders, alarms, decided, running
unfoldable pub round_line : Figures → List ℕ
round_line f = (codes "R" ▹ decimal f.round ▹ decimal f.senders ▹ decimal f.alarms ▹ decimal f.decided ▹ decimal f.running) ++ codes "\n"

-- r, s or d, and the code of the ballot that was decided
abbrev pub outcome_text : Outcome → List ℕ
outcome_text outcome.Running = codes "r -"
outcome_text outcome.Stopped = codes "s -"
outcome_text (outcome.Decided code) = codes "d" ▹ decimal code

-- H: head, outcome
unfoldable pub head_line : ℕ → Outcome → List ℕ
head_line i o = (codes "H" ▹ decimal i ▹ outcome_text o) ++ codes "\n"

-- F: number, byte, round, head, other
unfoldable pub refusal_line : Option ℕ → Breach → List ℕ
refusal_line byte b =
    (codes "F" ▹ decimal b.number ▹ or_dash byte ▹ or_dash b.round ▹ or_dash b.head ▹ or_dash b.other) ++ codes "\n"

abbrev pub fault_line : Located → List ℕ
fault_line l = refusal_line (Some l.byte) l.breach

unfoldable pub round_lines : List Figures → List ℕ
round_lines [] = []
round_lines (f ∷ fs) = round_line f ++ round_lines fs

-- the heads from number i on
unfoldable pub head_lines : ℕ → List Outcome → List ℕ
head_lines i [] = []
head_lines i (o ∷ os) = head_line i o ++ head_lines (i + 1) os

abbrev pub end_lines : Result (List Outcome) Located → List ℕ
end_lines (Ok heads) = head_lines 0 heads
end_lines (Err fault) = fault_line fault

-- the rounds heard, and then the heads, or the fault that ended the playing
abbrev pub listing_text : Played → List ℕ
listing_text p = round_lines p.rounds ++ end_lines p.ending
