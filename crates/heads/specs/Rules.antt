-- The three votes: when a head sends, what it keeps of what it hears, and when it decides.
use Rattle.std.specs.Prelude.{ℕ, ◌+◌, ◌-◌, ◌*◌, ◌/◌, ◌%◌, ◌^◌, Bool, true, false, cond, not, ◌&&◌, ◌||◌, is_some, ◌==◌, nat_le, nat_lt}
use Rattle.std.specs.Option.{unwrap_or}
use Rattle.sets.specs.Sets.{bit}
use Rattle.ballots.specs.Order.{Coding}
use Rattle.heads.specs.declared.alarms.Class.{Class}
use Rattle.heads.specs.declared.alarms.Class.TheVariants.{Zero, Majority}
use Rattle.heads.specs.declared.bitwise.Place.{Place}
use Rattle.heads.specs.declared.bitwise.Place.TheVariants as place
use Rattle.heads.specs.declared.head.Ballots.{Ballots}
use Rattle.heads.specs.declared.head.Head.{Head}
use Rattle.heads.specs.declared.head.Heard.{Heard}
use Rattle.heads.specs.declared.head.State.TheVariants.{Running, Decided, Stopped}
use Rattle.heads.specs.Heard.{no_ballots}

-- the votes; those on codes have the width W of a code, a ballot's code and the way back
pub data Scheme (B : Type 0) : Type 0 where
  short : Scheme B
  bitwise : (width : ℕ) → (code : B → ℕ) → Scheme B
  split : (width : ℕ) → (code : B → ℕ) → (back : ℕ → B) → Scheme B

-- ---- rounds, counted from 1

abbrev pub odd : ℕ → Bool
odd round = round % 2 == 1

-- where a round stands in its cycle of W + 2 rounds: 0 for the ballots, 1 to W for the code bits, W + 1 for the vetoes
abbrev pub in_cycle : ℕ → ℕ → ℕ
in_cycle w round = (round - 1) % (w + 2)

-- what the round is for
abbrev pub place_of : ℕ → ℕ → Place
place_of w round =
    cond (in_cycle w round == 0) place.Ballots (cond (nat_le (in_cycle w round) w) (place.Bit (in_cycle w round)) place.Vetoes)

-- the rounds in which heads with a turn send their estimate
abbrev pub of_ballots : {B : Type 0} → Scheme B → ℕ → Bool
of_ballots short round = odd round
of_ballots (bitwise w code) round = in_cycle w round == 0
of_ballots (split w code back) round = false

-- ---- alarms: c senders, of which a head heard t

-- the class of detector that a vote asks for: the one whose alarms are due where the vote's are
abbrev pub class_of : {B : Type 0} → Scheme B → Class
class_of short = Majority
class_of (bitwise w code) = Zero
class_of (split w code back) = Zero

-- an alarm is due at half of the messages or fewer in a short vote, and at none of them in the others;
-- never in a silent round
abbrev pub due : {B : Type 0} → Scheme B → ℕ → ℕ → Bool
due short c t = nat_lt 0 c && nat_le (2 * t) c
due (bitwise w code) c t = nat_lt 0 c && t == 0
due (split w code back) c t = nat_lt 0 c && t == 0

-- an alarm is false where every message was heard
abbrev pub false_alarm : ℕ → ℕ → Bool
false_alarm c t = t == c

-- the votes that refuse a false alarm
abbrev pub strict : {B : Type 0} → Scheme B → Bool
strict short = false
strict (bitwise w code) = false
strict (split w code back) = true

-- noise: a message heard, or an alarm
abbrev pub noisy : {B : Type 0} → Heard B → Bool
noisy heard = nat_lt 0 heard.count || heard.alarm

-- ---- what a running head says

-- bit p of W of a code, counted from 1, the highest first
abbrev pub code_bit : ℕ → ℕ → ℕ → Bool
code_bit w code p = bit code (w - p)

-- a code begins with a prefix and one bit more
abbrev pub begins : ℕ → ℕ → ℕ → ℕ → ℕ → Bool
begins w code bits length b = code / 2 ^ (w - (length + 1)) == 2 * bits + b

-- whether it sends: a ballot if it has a turn, a code bit that is 1, a veto if its flag is down,
-- or a mark if its first ballot's code begins with the prefix and the bit of the round
abbrev pub says : {B : Type 0} → Scheme B → ℕ → Bool → Head B → Bool
says short round turn h = cond (odd round) turn (not h.flag)
says (bitwise w code) round turn h =
    cond (in_cycle w round == 0) turn
    (cond (nat_le (in_cycle w round) w) (code_bit w (code h.estimate) (in_cycle w round)) (not h.flag))
says (split w code back) round turn h =
    begins w (code h.first) h.prefix.bits h.prefix.length (cond (odd round) 0 1)

-- ---- what a running head keeps

-- a head that runs, with its first ballot as its estimate
abbrev pub fresh : {B : Type 0} → B → Head B
fresh b = record { state = Running; first = b; estimate = b; ballots = no_ballots; flag = true; prefix = record { bits = 0; length = 0 }; noise = false }

abbrev pub decided : {B : Type 0} → Head B → Head B
decided h = record { state = Decided; first = h.first; estimate = h.estimate; ballots = h.ballots; flag = h.flag; prefix = h.prefix; noise = h.noise }

abbrev pub stopped : {B : Type 0} → Head B → Head B
stopped h = record { state = Stopped; first = h.first; estimate = h.estimate; ballots = h.ballots; flag = h.flag; prefix = h.prefix; noise = h.noise }

abbrev pub lowered : {B : Type 0} → Head B → Head B
lowered h = record { state = h.state; first = h.first; estimate = h.estimate; ballots = h.ballots; flag = false; prefix = h.prefix; noise = h.noise }

-- a head without alarm that heard a ballot takes the least as its estimate
abbrev pub adopted : {B : Type 0} → Heard B → B → B
adopted heard estimate = cond heard.alarm estimate (unwrap_or heard.ballots.least estimate)

-- after a round of ballots
abbrev pub moved : {B : Type 0} → Bool → Heard B → Head B → Head B
moved flag heard h = record { state = h.state; first = h.first; estimate = adopted heard h.estimate; ballots = heard.ballots; flag = flag; prefix = h.prefix; noise = h.noise }

-- only one ballot was heard, however often
abbrev pub only_one : {B : Type 0} → Ballots B → Bool
only_one ballots = is_some ballots.least && not ballots.differ

-- the prefix and one bit more, as a number of at most W bits
abbrev pub longer : {B : Type 0} → ℕ → Head B → ℕ → ℕ
longer w h b = (2 * h.prefix.bits + b) % 2 ^ w

-- a prefix of W bits is decided
abbrev pub grown : {B : Type 0} → ℕ → (ℕ → B) → Head B → ℕ → Head B
grown w back h b =
    cond (nat_le w (h.prefix.length + 1))
    (record { state = Decided; first = h.first; estimate = back (longer w h b); ballots = h.ballots; flag = h.flag; prefix = h.prefix; noise = false })
    (record { state = h.state; first = h.first; estimate = h.estimate; ballots = h.ballots; flag = h.flag; prefix = record { bits = longer w h b; length = h.prefix.length + 1 }; noise = false })

abbrev pub emptied : {B : Type 0} → Head B → Head B
emptied h = record { state = h.state; first = h.first; estimate = h.estimate; ballots = h.ballots; flag = h.flag; prefix = record { bits = 0; length = 0 }; noise = false }

abbrev pub noted : {B : Type 0} → Bool → Head B → Head B
noted noise h = record { state = h.state; first = h.first; estimate = h.estimate; ballots = h.ballots; flag = h.flag; prefix = h.prefix; noise = noise }

abbrev pub keeps : {B : Type 0} → Scheme B → ℕ → Heard B → Head B → Head B
keeps short round heard h =
    cond (odd round) (moved (not (heard.alarm || heard.ballots.differ)) heard h)
    (cond (not (noisy heard) && only_one h.ballots) (decided h) h)
keeps (bitwise w code) round heard h =
    cond (in_cycle w round == 0) (moved true heard h)
    (cond (nat_le (in_cycle w round) w)
    (cond (noisy heard && not (code_bit w (code h.estimate) (in_cycle w round))) (lowered h) h)
    (cond (noisy heard) h (decided h)))
keeps (split w code back) round heard h =
    cond (odd round) (noted (noisy heard) h)
    (cond h.noise (grown w back h 0) (cond (noisy heard) (grown w back h 1) (emptied h)))

-- ---- which collision detectors a vote takes: those of class majority, those of any class, or those of any class that
-- are quiet from round 1 on

pub data Detecting : Type 0 where
  majority_only : Detecting
  any_class : Detecting
  ever_quiet : Detecting

abbrev pub detecting : {B : Type 0} → Scheme B → Detecting
detecting short = majority_only
detecting (bitwise w code) = any_class
detecting (split w code back) = ever_quiet

-- ---- calm rounds

-- what makes a round calm: that one head alone has a turn and is heard, or that no head stops
pub data Calmness : Type 0 where
  one_turn : Calmness
  no_stop : Calmness

abbrev pub calmness : {B : Type 0} → Scheme B → Calmness
calmness short = one_turn
calmness (bitwise w code) = one_turn
calmness (split w code back) = no_stop

-- no head runs after so many calm rounds in a row
abbrev pub calm_bound : {B : Type 0} → Scheme B → ℕ
calm_bound short = 3
calm_bound (bitwise w code) = 2 * w + 3
calm_bound (split w code back) = 2 * w + 3

-- what a vote on codes asks of its codes
abbrev pub Fit : {B : Type 0} → Scheme B → Type 0
Fit short = Unit {0}
Fit {B} (bitwise w code) = (back : ℕ → B) × Coding w code back
Fit (split w code back) = Coding w code back
