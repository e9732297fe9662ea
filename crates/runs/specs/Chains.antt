-- Chains of calls on a vote: opening and driving take a vote, hearing and withdrawing an open round, each as the call
-- before left it, with the heads' records as they then stand. Turns, words, alarms, stops and parts are free at each call.
use Rattle.std.specs.Prelude.{◌≡◌, ℕ, ◌+◌, ◌<◌, ◌≤◌, Bool, cond, ◌⊎◌, List, length, Some, None, Ok, Err, Option, Result, nat_lt}
use Rattle.std.specs.List.{slice_get}
use Rattle.ballots.specs.Faults.{Breach}
use Rattle.heads.specs.declared.head.Head.{Head}
use Rattle.heads.specs.Rules.{Scheme, fresh}
use Rattle.votes.specs.declared.faults.Refused.{Refused}
use Rattle.votes.specs.declared.stages.Vote.{Vote}
use Rattle.votes.specs.declared.stages.OpenRound.{OpenRound}
use Rattle.votes.specs.declared.stages.HeardRound.{HeardRound}
use Rattle.votes.specs.Tables.{running}
use Rattle.votes.specs.Rounds.{Report}
use Rattle.votes.specs.Calls.{begun_as, open_answer, opened, withdrawn, hear_breach, hear_answer, heard, heard_table}
use Rattle.runs.specs.Calm.{Calm}
use Rattle.runs.specs.Driving.{Parts, driving, drive_breach, drive_answer, driven, driven_table, turns, runners, sending, report}

-- a vote, or an open round with the turns that it was opened with
pub data Stage (V : Type 0) : Type 0 where
  voting : Vote V → Stage V
  in_open_round : OpenRound V → ℕ → Stage V

-- the number of heads, and of rounds heard
abbrev pub heads : {V : Type 0} → Stage V → ℕ
heads (voting vote) = vote.n
heads (in_open_round round turns) = round.n

abbrev pub rounds : {V : Type 0} → Stage V → ℕ
rounds (voting vote) = vote.heard
rounds (in_open_round round turns) = round.heard

-- what a call hands on: its answer, or what it hands back
abbrev pub after_opening : {V : Type 0} → ℕ → Result (OpenRound V) (Refused (Vote V)) → Stage V
after_opening turns (Ok round) = in_open_round round turns
after_opening turns (Err e) = voting e.back

abbrev pub after_hearing : {V : Type 0} → ℕ → Result (HeardRound V) (Refused (OpenRound V)) → Stage V
after_hearing turns (Ok h) = voting h.vote
after_hearing turns (Err e) = in_open_round e.back turns

abbrev pub after_driving : {V : Type 0} → Result (HeardRound V) (Refused (Vote V)) → Stage V
after_driving (Ok h) = voting h.vote
after_driving (Err e) = voting e.back

-- the table that a call is handed: the heads' records as they stand, with any records past the roll; or a table shorter
-- than the roll
pub data Handed {B : Type 0} (n : ℕ) (hs given : List (Head B)) : Type 0 where
  whole : n ≤ length given → ((i : ℕ) → i < n → slice_get given i ≡ slice_get hs i) → Handed n hs given
  too_short : length given < n → Handed n hs given

-- the heads' records after a call that leaves its table so
abbrev pub standing : {B : Type 0} → ℕ → List (Head B) → List (Head B) → List (Head B)
standing n hs left = cond (nat_lt (length left) n) hs left

-- how many calm rounds were heard in a row: a refused call leaves the number, a heard round sets it to 0 or, if it is
-- calm, may add 1
abbrev pub Counts : Option Breach → Type 0 → ℕ → ℕ → Type 0
Counts (Some b) Calm k k' = k' ≡ k
Counts None Calm k k' = (k' ≡ 0) ⊎ (Calm × (k' ≡ k + 1))

module _ {V B : Type 0} (earlier : B → B → Bool) (s : Scheme B) where
  -- the calls that lead from one stage, with the heads' records and the number of calm rounds in a row, to another
  pub data Calls (from : Stage V) (start : List (Head B)) (k₀ : ℕ) : Stage V → List (Head B) → ℕ → Type 0 where
    none : Calls from start k₀ from start k₀
    opens : {vote : Vote V} {hs : List (Head B)} {k : ℕ} → Calls from start k₀ (voting vote) hs k
        → (given : List (Head B)) → Handed vote.n hs given → (turns : ℕ)
        → (answer : Result (OpenRound V) (Refused (Vote V))) → open_answer answer ≡ opened s vote given turns
        → Calls from start k₀ (after_opening turns answer) hs k
    withdraws : {round : OpenRound V} {turns : ℕ} {hs : List (Head B)} {k : ℕ} → Calls from start k₀ (in_open_round round turns) hs k
        → (vote : Vote V) → begun_as vote ≡ withdrawn round
        → Calls from start k₀ (voting vote) hs k
    hears : {round : OpenRound V} {turns : ℕ} {hs : List (Head B)} {k : ℕ} → Calls from start k₀ (in_open_round round turns) hs k
        → (given : List (Head B)) → Handed round.n hs given → (q : Report)
        → (answer : Result (HeardRound V) (Refused (OpenRound V))) → hear_answer answer ≡ heard earlier s round given q
        → (k' : ℕ) → Counts (hear_breach s round.n (round.heard + 1) round.senders given q) (Calm s turns (running given round.n) round.senders q) k k'
        → Calls from start k₀ (after_hearing turns answer) (standing round.n hs (heard_table earlier s round given q)) k'
    drives : {vote : Vote V} {hs : List (Head B)} {k : ℕ} → Calls from start k₀ (voting vote) hs k
        → (given : List (Head B)) → Handed vote.n hs given → (stops : ℕ) → (list : List ℕ) → (parts : Parts)
        → (answer : Result (HeardRound V) (Refused (Vote V))) → drive_answer answer ≡ driven earlier vote (driving s vote given stops parts) list
        → (k' : ℕ) → Counts (drive_breach (driving s vote given stops parts) list)
        (Calm s (turns (driving s vote given stops parts)) (runners (driving s vote given stops parts)) (sending (driving s vote given stops parts)) (report (driving s vote given stops parts))) k k'
        → Calls from start k₀ (after_driving answer) (standing vote.n hs (driven_table (driving s vote given stops parts) earlier list)) k'

-- a vote just begun: some heads, no round heard, and every head as it was enrolled
pub record Begins {V B : Type 0} (vote : Vote V) (hs : List (Head B)) : Type 0 where
  pub some : 1 ≤ vote.n
  pub no_round : vote.heard ≡ 0
  pub long : vote.n ≤ length hs
  pub enrolled : (i : ℕ) → i < vote.n → (ballot : B) × (slice_get hs i ≡ Some (fresh ballot))
