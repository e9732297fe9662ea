-- Votes played round by round, by the definitions that the calls' contracts cite.
use Rattle.std.specs.Prelude.{ℕ, zero, suc, ◌+◌, Bool, List, [], ◌∷◌, map, replicate, Some, None, Ok, Err, Option, Result}
use Rattle.sets.specs.Search.{or_else}
use Rattle.ballots.specs.Faults.{Breach}
use Rattle.heads.specs.declared.head.Head.{Head}
use Rattle.heads.specs.Rules.{Scheme, fresh}
use Rattle.votes.specs.declared.stages.Standing.{Standing}
use Rattle.votes.specs.Rounds.{Report, senders, after}
use Rattle.votes.specs.Calls.{open_breach, hear_breach, standing_as}
use Rattle.runs.specs.Driving.{Parts, Driving, sending, report, drive_breach}

-- the turns of a round, and its report
pub record Round : Type 0 where
  pub turns : ℕ
  pub report : Report

abbrev pub unless_broken : {A : Type 0} → Option Breach → A → Result A Breach
unless_broken (Some b) a = Err b
unless_broken None a = Ok a

module _ {B : Type 0} (earlier : B → B → Bool) (s : Scheme B) (n : ℕ) where
  abbrev pub broken_by : ℕ → List (Head B) → Round → Option Breach
  broken_by r hs x = or_else (open_breach n (r + 1) hs x.turns) (hear_breach s n (r + 1) (senders s (r + 1) hs n x.turns) hs x.report)

  -- the heads' records after a round, or the rule broken
  abbrev pub one : ℕ → List (Head B) → Round → Result (List (Head B)) Breach
  one r hs x = unless_broken (broken_by r hs x) (after earlier s n (senders s (r + 1) hs n x.turns) (r + 1) hs x.report)

  -- after r rounds and those that follow
  unfoldable pub plays : ℕ → Result (List (Head B)) Breach → List Round → Result (List (Head B)) Breach
  plays r hs [] = hs
  plays r (Err b) (x ∷ xs) = Err b
  plays r (Ok hs) (x ∷ xs) = plays (r + 1) (one r hs x) xs

  -- driven by the parts, with stops by the round; the list has a word for each head
  abbrev pub driving_at : Parts → (ℕ → ℕ) → ℕ → List (Head B) → Driving B
  driving_at parts stops r hs = record { scheme = s; n = n; heard = r; table = hs; stops = stops (r + 1); parts = parts }

  abbrev pub driven_one : Driving B → Result (List (Head B)) Breach
  driven_one d = unless_broken (drive_breach d (replicate n 0)) (after earlier s n (sending d) (d.heard + 1) d.table (report d))

  -- k drivings more, after r rounds
  unfoldable pub drives : Parts → (ℕ → ℕ) → ℕ → ℕ → Result (List (Head B)) Breach → Result (List (Head B)) Breach
  drives parts stops zero r hs = hs
  drives parts stops (suc k) r (Err b) = Err b
  drives parts stops (suc k) r (Ok hs) = drives parts stops k (r + 1) (driven_one (driving_at parts stops r hs))

-- ---- how heads stand

abbrev pub standings : {B : Type 0} → (B → ℕ) → Result (List (Head B)) Breach → Result (List (Standing ℕ)) Breach
standings code (Ok hs) = Ok (map (λ h. standing_as h.state (code h.estimate)) hs)
standings code (Err b) = Err b

abbrev pub estimates : {B : Type 0} → (B → ℕ) → Result (List (Head B)) Breach → Result (List ℕ) Breach
estimates code (Ok hs) = Ok (map (λ h. code h.estimate) hs)
estimates code (Err b) = Err b

abbrev pub begun : {B : Type 0} → List B → Result (List (Head B)) Breach
begun ballots = Ok (map fresh ballots)
