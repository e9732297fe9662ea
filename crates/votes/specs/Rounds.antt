-- One round: who sends, which report of it is refused, and the heads' records after it.
use Rattle.std.specs.Prelude.{◌≡◌, ℕ, ◌≤◌, Bool, false, cond, not, ◌&&◌, ◌||◌, List, Some, None, Option, ◌==◌, slice_index}
use Rattle.std.specs.List.{slice_get}
use Rattle.sets.specs.Search.{when, or_else, first}
use Rattle.sets.specs.Sets.{bit, count, word_of}
use Rattle.ballots.specs.Faults.{Breach, at_head}
use Rattle.heads.specs.declared.head.Head.{Head}
use Rattle.heads.specs.declared.head.Heard.{Heard}
use Rattle.heads.specs.declared.head.State.{State}
use Rattle.heads.specs.declared.head.State.TheVariants.{Running, Decided, Stopped}
use Rattle.heads.specs.Rules.{Scheme, of_ballots, due, false_alarm, strict, says, keeps, stopped}
use Rattle.heads.specs.Heard.{no_ballots, ballots_of}
use Rattle.votes.specs.Faults.{not_sender}
use Rattle.votes.specs.Tables.{stands, rewrite}

-- the report of a round: a hear word for each head, the heads alarmed and the heads that stop
pub record Report : Type 0 where
  pub words : List ℕ
  pub alarms : ℕ
  pub stops : ℕ

-- ---- who sends

abbrev pub speaks : {B : Type 0} → Scheme B → ℕ → Bool → Option (Head B) → Bool
speaks s round turn None = false
speaks s round turn (Some h) = says s round turn h

-- head i runs and sends in a round with those turns
abbrev pub sends : {B : Type 0} → Scheme B → ℕ → List (Head B) → ℕ → ℕ → ℕ → Bool
sends s round hs n turns i = stands Running hs n i && speaks s round (bit turns i) (slice_get hs i)

-- the heads that send, as a set
unfoldable pub senders : {B : Type 0} → Scheme B → ℕ → List (Head B) → ℕ → ℕ → ℕ
senders s round hs n turns = word_of n (sends s round hs n turns)

-- c: how many heads send
abbrev pub sent : ℕ → ℕ
sent senders = count 64 (bit senders)

-- t: how many of the senders a hear word has
abbrev pub heard_of : ℕ → ℕ → ℕ
heard_of senders word = count 64 (λ i. bit word i && bit senders i)

-- the ones of the senders' set are as many as the heads of the table that send
abbrev pub Counted : Type 0 → Type 0
Counted B = (s : Scheme B) (round : ℕ) (hs : List (Head B)) (n turns : ℕ) → n ≤ 64 → sent (senders s round hs n turns) ≡ count n (sends s round hs n turns)

-- ---- which report is refused: the first rule broken at head i, and at the lowest head

-- a head that does not run hears nothing and is not alarmed
abbrev pub idle_noise : Bool → ℕ → Bool → Bool
idle_noise runs word alarm = not runs && (not (word == 0) || alarm)

-- a head that did not send is heard
abbrev pub stranger : ℕ → ℕ → ℕ → ℕ → ℕ → Option Breach
stranger senders round word i j = when (bit word j && not (bit senders j)) (not_sender round i j)

-- a sender hears itself, a due alarm is there, and in some votes no alarm is false
abbrev pub late_breach : {B : Type 0} → Scheme B → ℕ → ℕ → Bool → ℕ → Bool → ℕ → Option Breach
late_breach s senders round runs word alarm i =
    or_else (when (bit senders i && not (bit word i)) (at_head 12 round i))
    (or_else (when (runs && (due s (sent senders) (heard_of senders word) && not alarm)) (at_head 13 round i))
    (when (strict s && (alarm && false_alarm (sent senders) (heard_of senders word))) (at_head 14 round i)))

abbrev pub breach_of : {B : Type 0} → Scheme B → ℕ → ℕ → Bool → ℕ → Bool → ℕ → Option Breach
breach_of s senders round runs word alarm i =
    or_else (when (idle_noise runs word alarm) (at_head 10 round i))
    (or_else (first (stranger senders round word i) 64)
    (late_breach s senders round runs word alarm i))

abbrev pub breach_at : {B : Type 0} → Scheme B → ℕ → ℕ → ℕ → List ℕ → ℕ → ℕ → Option Breach
breach_at s runners senders round words alarms i = breach_of s senders round (bit runners i) (slice_index words i) (bit alarms i) i

unfoldable pub report_breach : {B : Type 0} → Scheme B → ℕ → ℕ → ℕ → List ℕ → ℕ → Option Breach
report_breach s runners senders round words alarms = first (breach_at s runners senders round words alarms) 64

-- ---- the records after the round

-- what a head hears: messages, in a round of ballots the ballots, and an alarm or none
abbrev pub hears : {B : Type 0} → (B → B → Bool) → Scheme B → ℕ → ℕ → List (Head B) → ℕ → Bool → Heard B
hears earlier s senders round hs word alarm =
    record { count = heard_of senders word; ballots = cond (of_ballots s round) (ballots_of earlier hs word) no_ballots; alarm = alarm }

-- a running head that does not stop keeps what its vote's rules say; no other head takes a step
abbrev pub stepped : {B : Type 0} → Scheme B → ℕ → Bool → Heard B → State → Head B → Head B
stepped s round stop heard Running h = cond stop (stopped h) (keeps s round heard h)
stepped s round stop heard Decided h = h
stepped s round stop heard Stopped h = h

abbrev pub step_at : {B : Type 0} → (B → B → Bool) → Scheme B → ℕ → ℕ → List (Head B) → Report → ℕ → Head B → Head B
step_at earlier s senders round hs q i h =
    stepped s round (bit q.stops i) (hears earlier s senders round hs (slice_index q.words i) (bit q.alarms i)) h.state h

unfoldable pub after : {B : Type 0} → (B → B → Bool) → Scheme B → ℕ → ℕ → ℕ → List (Head B) → Report → List (Head B)
after earlier s n senders round hs q = rewrite (step_at earlier s senders round hs q) n hs
