-- What a driving answers, and what it leaves of the table, the list and the contention manager.
use Rattle.std.specs.Prelude.{◌≡◌, ℕ, Bool, List, Some, None, Option, Result}
use Rattle.ballots.specs.Faults.{Breach}
use Rattle.heads.specs.declared.head.Head.{Head}
use Rattle.heads.specs.Rules.{Scheme}
use Rattle.parts.specs.Channels as channels
use Rattle.parts.specs.Detectors as detectors
use Rattle.parts.specs.Managers as managers
use Rattle.votes.specs.declared.faults.Refused.{Refused}
use Rattle.votes.specs.declared.stages.Vote.{Vote}
use Rattle.votes.specs.declared.stages.HeardRound.{HeardRound}
use Rattle.votes.specs.Rounds.{sent}
use Rattle.runs.specs.Driving.{Driving, driving, round, sending, alarms, drive_breach, drive_answer, driven, driven_table, driven_list}

-- a driving of a vote with that table and those stops, by the three parts' meanings
abbrev pub by_parts : {V B : Type 0} → Scheme B → Vote V → List (Head B) → ℕ → channels.Meaning → detectors.Meaning → managers.Meaning → Driving B
by_parts s vote hs stops channel detector manager = driving s vote hs stops (record { channel = channel; detector = detector; manager = manager })

-- the contention manager is told of a heard round, and of nothing else: its own relation says what becomes of it, with
-- that round as the one last told and the single round as it was
abbrev pub Managed : {M : Type 0} → Option Breach → (M → ℕ → ℕ → ℕ → M → Type 0) → (M → managers.Meaning) → (before : M) → (round c alarms : ℕ) → (after : M) → Type 0
Managed (Some b) tells meant before round c alarms after = after ≡ before
Managed None tells meant before round c alarms after = tells before round c alarms after × managers.Told (meant before) round c (meant after)

pub record Drives {V B M : Type 0} (earlier : B → B → Bool) (tells : M → ℕ → ℕ → ℕ → M → Type 0) (meant : M → managers.Meaning) (vote : Vote V) (d : Driving B) (list : List ℕ) (before : M)
    (answer : Result (HeardRound V) (Refused (Vote V))) (table' : List (Head B)) (list' : List ℕ) (after : M) : Type 0 where
  pub answers : drive_answer answer ≡ driven earlier vote d list
  pub table : table' ≡ driven_table d earlier list
  pub words : list' ≡ driven_list d list
  pub manager : Managed (drive_breach d list) tells meant before (round d) (sent (sending d)) (alarms d) after
