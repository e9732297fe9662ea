-- The promise: what holds of every chain of calls from a vote just begun.
use Rattle.std.specs.Prelude.{◌≡◌, ℕ, ◌+◌, ◌<◌, ◌≤◌, max, Bool, List, Some, None, Option, ◌≢◌}
use Rattle.std.specs.List.{slice_get}
use Rattle.sets.specs.Search.{or_else}
use Rattle.ballots.specs.Faults.{Breach}
use Rattle.heads.specs.declared.alarms.Class.TheVariants.{Majority}
use Rattle.heads.specs.declared.head.Head.{Head}
use Rattle.heads.specs.declared.head.Heard.{Heard}
use Rattle.heads.specs.declared.head.State.TheVariants.{Running, Decided}
use Rattle.heads.specs.Rules.{Scheme, Detecting, detecting, calmness, calm_bound, fresh}
use Rattle.heads.specs.Rules.Detecting.{majority_only, any_class, ever_quiet}
use Rattle.heads.specs.Rules.Calmness.{one_turn}
use Rattle.parts.specs.Channels as channels
use Rattle.parts.specs.Detectors as detectors
use Rattle.parts.specs.Managers as managers
use Rattle.votes.specs.declared.stages.Vote.{Vote}
use Rattle.votes.specs.Tables.{lowest_idle}
use Rattle.votes.specs.Rounds.{stepped}
use Rattle.votes.specs.Calls.{short_table, word_count, at_lowest, rounds_spent, none_runs}
use Rattle.runs.specs.Calm.{Calm}
use Rattle.runs.specs.Driving.{Parts, Driving, driving, round, runners, turns, sending, report, drive_breach}
use Rattle.runs.specs.Chains.{Stage, voting, rounds, Calls, Begins}

-- ---- a head moves only by the rules of its vote: in each heard round it takes that round's step, by what it heard

pub data Steps {B : Type 0} (s : Scheme B) (h₀ : Head B) : ℕ → Head B → Type 0 where
  none : Steps s h₀ 0 h₀
  step : {r : ℕ} {h : Head B} → Steps s h₀ r h → (stops : Bool) → (heard : Heard B) → Steps s h₀ (r + 1) (stepped s (r + 1) stops heard h.state h)

-- ---- parts that keep their meanings, with a detector that the vote takes

abbrev pub Takes : Detecting → detectors.Meaning → Type 0
Takes majority_only m = m.class ≡ Majority
Takes any_class m = Unit {0}
Takes ever_quiet m = m.quiet ≡ 1

pub record Fitting {B : Type 0} (s : Scheme B) (p : Parts) : Type 0 where
  pub channel : channels.Keeps p.channel
  pub detector : detectors.Keeps p.detector
  pub manager : managers.Keeps p.manager
  pub taken : Takes (detecting s) p.detector

-- the largest of the three numbers of a driving
abbrev pub largest : Parts → ℕ
largest p = max p.channel.clear (max p.detector.quiet p.manager.single)

-- refused by 4, 8, 5, 6 or 9, in this order, and by nothing else
abbrev pub plain_breach : {B : Type 0} → Driving B → List ℕ → Option Breach
plain_breach d list =
    or_else (short_table d.n d.table)
    (or_else (word_count d.n (round d) list)
    (or_else (rounds_spent (round d))
    (or_else (none_runs (round d) (runners d))
    (at_lowest 9 (round d) (lowest_idle d.stops (runners d))))))

-- ---- the promise

pub record Promise (V B : Type 0) (earlier : B → B → Bool) (s : Scheme B) : Type 0 where
  -- every head moves only by the rules
  pub ruled : (vote : Vote V) (start : List (Head B)) → Begins vote start
      → (g : Stage V) (hs : List (Head B)) (k : ℕ) → Calls earlier s (voting vote) start 0 g hs k
      → (i : ℕ) → i < vote.n → (h₀ h : Head B) → slice_get start i ≡ Some h₀ → slice_get hs i ≡ Some h → Steps s h₀ (rounds g) h
  -- no two heads decide different ballots
  pub agreement : (vote : Vote V) (start : List (Head B)) → Begins vote start
      → (g : Stage V) (hs : List (Head B)) (k : ℕ) → Calls earlier s (voting vote) start 0 g hs k
      → (i j : ℕ) → i < vote.n → j < vote.n → (a b : Head B) → slice_get hs i ≡ Some a → slice_get hs j ≡ Some b
      → a.state ≡ Decided → b.state ≡ Decided → a.estimate ≡ b.estimate
  -- no head decides a ballot that none brought
  pub validity : (vote : Vote V) (start : List (Head B)) → Begins vote start
      → (g : Stage V) (hs : List (Head B)) (k : ℕ) → Calls earlier s (voting vote) start 0 g hs k
      → (i : ℕ) → i < vote.n → (h : Head B) → slice_get hs i ≡ Some h → h.state ≡ Decided
      → (j : ℕ) × (j < vote.n) × (slice_get start j ≡ Some (fresh h.estimate))
  -- no decision is undone
  pub irrevocable : (vote : Vote V) (start : List (Head B)) → Begins vote start
      → (g : Stage V) (hs : List (Head B)) (k : ℕ) → Calls earlier s (voting vote) start 0 g hs k
      → (g' : Stage V) (hs' : List (Head B)) (k' : ℕ) → Calls earlier s g hs k g' hs' k'
      → (i : ℕ) → i < vote.n → (h : Head B) → slice_get hs i ≡ Some h → h.state ≡ Decided → slice_get hs' i ≡ Some h
  -- no head still runs after so many calm rounds in a row
  pub ends : (vote : Vote V) (start : List (Head B)) → Begins vote start
      → (g : Stage V) (hs : List (Head B)) (k : ℕ) → Calls earlier s (voting vote) start 0 g hs k
      → calm_bound s ≤ k → (i : ℕ) → i < vote.n → (h : Head B) → slice_get hs i ≡ Some h → h.state ≢ Running
  -- over fitting parts a driving is refused exactly when 4, 5, 6, 8 or 9 applies
  pub carried_out : (vote : Vote V) (hs : List (Head B)) (stops : ℕ) (list : List ℕ) (p : Parts) → Fitting s p
      → drive_breach (driving s vote hs stops p) list ≡ plain_breach (driving s vote hs stops p) list
  -- and in a vote whose calm rounds are those with one turn, its heard round is calm from the largest number on
  pub calm_driving : (vote : Vote V) (hs : List (Head B)) (stops : ℕ) (list : List ℕ) (p : Parts) → Fitting s p
      → calmness s ≡ one_turn → drive_breach (driving s vote hs stops p) list ≡ None → largest p ≤ vote.heard + 1
      → Calm s (turns (driving s vote hs stops p)) (runners (driving s vote hs stops p)) (sending (driving s vote hs stops p)) (report (driving s vote hs stops p))
