-- The step of a round in two passes over the table: first every head notes the ballots that it heard, while the
-- estimates stay; then every head goes on from its own record.
use Rattle.std.specs.Prelude.{ℕ, Bool, cond, List, slice_index}
use Rattle.sets.specs.Sets.{bit}
use Rattle.heads.specs.declared.head.Ballots.{Ballots}
use Rattle.heads.specs.declared.head.Head.{Head}
use Rattle.heads.specs.declared.head.Heard.{Heard}
use Rattle.heads.specs.declared.head.State.{State}
use Rattle.heads.specs.declared.head.State.TheVariants.{Running, Decided, Stopped}
use Rattle.heads.specs.Rules.{Scheme, of_ballots}
use Rattle.heads.specs.Heard.{no_ballots, ballots_of}
use Rattle.votes.specs.Rounds.{Report, heard_of, stepped}
use Rattle.votes.specs.Tables.{rewrite}

abbrev pub with_ballots : {B : Type 0} → Ballots B → Head B → Head B
with_ballots ballots h = record { state = h.state; first = h.first; estimate = h.estimate; ballots = ballots; flag = h.flag; prefix = h.prefix; noise = h.noise }

abbrev pub noted : {B : Type 0} → Bool → Ballots B → State → Head B → Head B
noted stop ballots Running h = cond stop h (with_ballots ballots h)
noted stop ballots Decided h = h
noted stop ballots Stopped h = h

abbrev pub note_at : {B : Type 0} → (B → B → Bool) → List (Head B) → List ℕ → ℕ → ℕ → Head B → Head B
note_at earlier hs words stops i h = noted (bit stops i) (ballots_of earlier hs (slice_index words i)) h.state h

abbrev pub listened : {B : Type 0} → (B → B → Bool) → Scheme B → ℕ → ℕ → List (Head B) → List ℕ → ℕ → List (Head B)
listened earlier s n round hs words stops = cond (of_ballots s round) (rewrite (note_at earlier hs words stops) n hs) hs

-- what a head hears, with the ballots that its record has noted
abbrev pub recalls : {B : Type 0} → Scheme B → ℕ → ℕ → ℕ → Bool → Ballots B → Heard B
recalls s senders round word alarm ballots =
    record { count = heard_of senders word; ballots = cond (of_ballots s round) ballots no_ballots; alarm = alarm }

abbrev pub take_at : {B : Type 0} → Scheme B → ℕ → ℕ → Report → ℕ → Head B → Head B
take_at s senders round q i h =
    stepped s round (bit q.stops i) (recalls s senders round (slice_index q.words i) (bit q.alarms i) h.ballots) h.state h
