-- What each call answers, and what it leaves.
use Rattle.std.specs.Prelude.{◌≡◌, ℕ, ◌+◌, Bool, true, false, cond, not, ◌||◌, List, length, is_some, Some, None, Ok, Err, Option, Result, ◌==◌, nat_le, nat_lt, slice_set}
use Rattle.std.specs.List.{slice_get}
use Rattle.sets.specs.Search.{when, or_else, first}
use Rattle.sets.specs.Sets.{bit, count, lowest}
use Rattle.ballots.specs.Faults.{Breach, numbered, in_round, at_head}
use Rattle.heads.specs.declared.head.Head.{Head}
use Rattle.heads.specs.declared.head.State.{State}
use Rattle.heads.specs.declared.head.State.TheVariants.{Running, Decided, Stopped}
use Rattle.heads.specs.Rules.{Scheme, fresh}
use Rattle.votes.specs.declared.enrolled.Enrolled.{Enrolled}
use Rattle.votes.specs.declared.faults.VoteFault.{VoteFault}
use Rattle.votes.specs.declared.faults.VoteFault.TheVariants.{ShortTable}
use Rattle.votes.specs.declared.faults.Refused.{Refused}
use Rattle.votes.specs.declared.stages.Roll.{Roll}
use Rattle.votes.specs.declared.stages.Vote.{Vote}
use Rattle.votes.specs.declared.stages.OpenRound.{OpenRound}
use Rattle.votes.specs.declared.stages.Closed.{Closed}
use Rattle.votes.specs.declared.stages.Figures.{Figures}
use Rattle.votes.specs.declared.stages.HeardRound.{HeardRound}
use Rattle.votes.specs.declared.stages.Standing.{Standing}
use Rattle.votes.specs.declared.stages.Standing.TheVariants as standing
use Rattle.votes.specs.Faults.{vote_breach, still_runs}
use Rattle.votes.specs.Tables.{running, stands, lowest_idle}
use Rattle.votes.specs.Rounds.{Report, senders, sent, report_breach, after}

-- an accepted call's answer, or the rule broken and what is handed back
pub data Answer (A R : Type 0) : Type 0 where
  done : A → Answer A R
  refused : Breach → R → Answer A R

abbrev pub unless : {A R : Type 0} → Option Breach → A → R → Answer A R
unless (Some b) a back = refused b back
unless None a back = done a

-- the rule that an answer says is broken, if one is
abbrev pub breach_in : {A : Type 0} → Result A VoteFault → Option Breach
breach_in (Ok a) = None
breach_in (Err fault) = Some (vote_breach fault)

-- an answer with that value where no rule is broken, and else with the fault of the rule
abbrev pub Answers : {A : Type 0} → Result A VoteFault → Option Breach → A → Type 0
Answers (Ok a) breach value = (breach ≡ None) × (a ≡ value)
Answers (Err fault) breach value = breach ≡ Some (vote_breach fault)

-- what a refused call leaves as it was, an accepted one changes
abbrev pub changed : {A : Type 0} → Option Breach → A → A → A
changed (Some b) new old = old
changed None new old = new

-- the records of the n heads enrolled in a table, or the refusal of a table that is shorter
abbrev pub EnrolledIn : {B : Type 0} → Result (Enrolled B) VoteFault → List (Head B) → ℕ → Type 0
EnrolledIn (Ok heads) hs n = (heads.table.now ≡ hs) × (heads.n ≡ n) × (nat_lt (length hs) n ≡ false)
EnrolledIn (Err fault) hs n = (fault ≡ ShortTable) × (nat_lt (length hs) n ≡ true)

-- ---- the stages as plain values

pub record Begun (V : Type 0) : Type 0 where
  pub n : ℕ
  pub heard : ℕ
  pub method : V

pub record Opened (V : Type 0) : Type 0 where
  pub n : ℕ
  pub heard : ℕ
  pub method : V
  pub senders : ℕ
  pub spent : Bool

abbrev pub begun_as : {V : Type 0} → Vote V → Begun V
begun_as v = record { n = v.n; heard = v.heard; method = v.method }

abbrev pub opened_as : {V : Type 0} → OpenRound V → Opened V
opened_as o = record { n = o.n; heard = o.heard; method = o.method; senders = o.senders; spent = o.spent }

-- ---- enrolling

abbrev pub roll_answer : Result Roll (Refused Roll) → Answer ℕ Roll
roll_answer (Ok r) = done r.n
roll_answer (Err e) = refused (vote_breach e.fault) e.back

-- 64 heads, or as many as the table has room for
abbrev pub full : ℕ → ℕ → Bool
full n room = nat_le 64 n || nat_le room n

abbrev pub enrolled : {B : Type 0} → Roll → List (Head B) → Answer ℕ Roll
enrolled roll hs = cond (full roll.n (length hs)) (refused (numbered 2) roll) (done (roll.n + 1))

abbrev pub enrolled_table : {B : Type 0} → Roll → List (Head B) → B → List (Head B)
enrolled_table roll hs b = cond (full roll.n (length hs)) hs (slice_set hs roll.n (fresh b))

-- ---- beginning

abbrev pub begin_answer : {V : Type 0} → Result (Vote V) (Refused Roll) → Answer (Begun V) Roll
begin_answer (Ok v) = done (begun_as v)
begin_answer (Err e) = refused (vote_breach e.fault) e.back

abbrev pub begun : {V : Type 0} → Roll → V → Answer (Begun V) Roll
begun roll method = unless (when (roll.n == 0) (numbered 3)) (record { n = roll.n; heard = 0; method = method }) roll

-- ---- opening

abbrev pub at_lowest : ℕ → ℕ → Option ℕ → Option Breach
at_lowest k round (Some head) = Some (at_head k round head)
at_lowest k round None = None

abbrev pub short_table : {B : Type 0} → ℕ → List (Head B) → Option Breach
short_table n hs = when (nat_lt (length hs) n) (numbered 4)

abbrev pub rounds_spent : ℕ → Option Breach
rounds_spent round = when (nat_lt 10000 round) (in_round 5 round)

abbrev pub none_runs : ℕ → ℕ → Option Breach
none_runs round runners = when (not (is_some (lowest (bit runners) 64))) (in_round 6 round)

abbrev pub open_breach : {B : Type 0} → ℕ → ℕ → List (Head B) → ℕ → Option Breach
open_breach n round hs turns =
    or_else (short_table n hs)
    (or_else (rounds_spent round)
    (or_else (none_runs round (running hs n))
    (at_lowest 7 round (lowest_idle turns (running hs n)))))

abbrev pub open_answer : {V : Type 0} → Result (OpenRound V) (Refused (Vote V)) → Answer (Opened V) (Vote V)
open_answer (Ok o) = done (opened_as o)
open_answer (Err e) = refused (vote_breach e.fault) e.back

abbrev pub opened : {V B : Type 0} → Scheme B → Vote V → List (Head B) → ℕ → Answer (Opened V) (Vote V)
opened s vote hs turns =
    unless (open_breach vote.n (vote.heard + 1) hs turns)
    (record { n = vote.n; heard = vote.heard; method = vote.method; senders = senders s (vote.heard + 1) hs vote.n turns; spent = false })
    vote

-- ---- withdrawing

abbrev pub withdrawn : {V : Type 0} → OpenRound V → Begun V
withdrawn o = record { n = o.n; heard = o.heard; method = o.method }

-- ---- hearing

abbrev pub word_count : ℕ → ℕ → List ℕ → Option Breach
word_count n round words = when (not (length words == n)) (in_round 8 round)

unfoldable pub hear_breach : {B : Type 0} → Scheme B → ℕ → ℕ → ℕ → List (Head B) → Report → Option Breach
hear_breach s n round senders hs q =
    or_else (short_table n hs)
    (or_else (when (nat_lt 10000 round) (in_round 15 round))
    (or_else (word_count n round q.words)
    (or_else (at_lowest 9 round (lowest_idle q.stops (running hs n)))
    (report_breach s (running hs n) senders round q.words q.alarms))))

-- the figures of a heard round, from the records after it
unfoldable pub figures_of : {B : Type 0} → ℕ → ℕ → ℕ → ℕ → List (Head B) → Figures
figures_of n round senders alarms hs =
    record { round = round; senders = sent senders; alarms = count 64 (bit alarms); decided = count n (stands Decided hs n); running = count n (stands Running hs n) }

abbrev pub hear_answer : {V : Type 0} → Result (HeardRound V) (Refused (OpenRound V)) → Answer (Begun V × Figures) (OpenRound V)
hear_answer (Ok h) = done (begun_as h.vote, h.figures)
hear_answer (Err e) = refused (vote_breach e.fault) e.back

abbrev pub heard : {V B : Type 0} → (B → B → Bool) → Scheme B → OpenRound V → List (Head B) → Report → Answer (Begun V × Figures) (OpenRound V)
heard earlier s o hs q =
    unless (hear_breach s o.n (o.heard + 1) o.senders hs q)
    (record { n = o.n; heard = o.heard + 1; method = o.method }, figures_of o.n (o.heard + 1) o.senders q.alarms (after earlier s o.n o.senders (o.heard + 1) hs q))
    o

abbrev pub heard_table : {V B : Type 0} → (B → B → Bool) → Scheme B → OpenRound V → List (Head B) → Report → List (Head B)
heard_table earlier s o hs q =
    changed (hear_breach s o.n (o.heard + 1) o.senders hs q) (after earlier s o.n o.senders (o.heard + 1) hs q) hs

-- ---- closing, and asking

abbrev pub decided_ballot : {B : Type 0} → State → B → Option B
decided_ballot Running b = None
decided_ballot Decided b = Some b
decided_ballot Stopped b = None

abbrev pub ballot_of : {B : Type 0} → Option (Head B) → Option B
ballot_of None = None
ballot_of (Some h) = decided_ballot h.state h.estimate

abbrev pub close_answer : {V B : Type 0} → Result (Closed B) (Refused (Vote V)) → Answer (Option B) (Vote V)
close_answer (Ok c) = done c.ballot
close_answer (Err e) = refused (vote_breach e.fault) e.back

abbrev pub still_running : Option ℕ → Option Breach
still_running (Some head) = Some (still_runs head)
still_running None = None

abbrev pub close_breach : {B : Type 0} → ℕ → List (Head B) → Option Breach
close_breach n hs = or_else (short_table n hs) (still_running (lowest (bit (running hs n)) 64))

-- the ballot of the lowest head that has decided
abbrev pub decided_in : {B : Type 0} → ℕ → List (Head B) → Option B
decided_in n hs = first (λ i. ballot_of (slice_get hs i)) n

abbrev pub closed : {V B : Type 0} → Vote V → List (Head B) → Answer (Option B) (Vote V)
closed vote hs = unless (close_breach vote.n hs) (decided_in vote.n hs) vote

abbrev pub standing_as : {B : Type 0} → State → B → Standing B
standing_as Running b = standing.Running
standing_as Decided b = standing.Decided b
standing_as Stopped b = standing.Stopped

abbrev pub standing_of : {B : Type 0} → Option (Head B) → Standing B
standing_of None = standing.NoSuchHead
standing_of (Some h) = standing_as h.state h.estimate

-- how head i of n heads stands; a number from n on names none
unfoldable pub standing_at : {B : Type 0} → List (Head B) → ℕ → ℕ → Standing B
standing_at hs n i = cond (nat_lt i n) (standing_of (slice_get hs i)) standing.NoSuchHead

abbrev pub asked : {B : Type 0} → ℕ → List (Head B) → ℕ → Result (Standing B) VoteFault
asked n hs i = cond (nat_lt (length hs) n) (Err ShortTable) (Ok (standing_at hs n i))

-- the heads that run, as a set
abbrev pub running_in : {B : Type 0} → ℕ → List (Head B) → Result ℕ VoteFault
running_in n hs = cond (nat_lt (length hs) n) (Err ShortTable) (Ok (running hs n))
