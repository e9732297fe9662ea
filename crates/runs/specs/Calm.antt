-- Calm rounds.
use Rattle.std.specs.Prelude.{◌≡◌, ℕ, ◌<◌, true, false, slice_index}
use Rattle.sets.specs.Sets.{bit, Within, Lone}
use Rattle.heads.specs.Rules.{Scheme, false_alarm, Calmness, calmness}
use Rattle.heads.specs.Rules.Calmness.{one_turn, no_stop}
use Rattle.votes.specs.Rounds.{Report, sent, heard_of}

-- exactly one head has a turn, no alarm is false, and a lone sender is heard by all running heads
pub record OneTurn (turns running senders : ℕ) (q : Report) : Type 0 where
  pub one : Lone turns
  pub no_false : (i : ℕ) → i < 64 → bit q.alarms i ≡ true → false_alarm (sent senders) (heard_of senders (slice_index q.words i)) ≡ false
  pub heard : Lone senders → (i : ℕ) → i < 64 → bit running i ≡ true → Within senders (slice_index q.words i)

-- no head stops
pub record NoStop (q : Report) : Type 0 where
  pub none : (i : ℕ) → i < 64 → bit q.stops i ≡ false

abbrev pub CalmBy : Calmness → (turns running senders : ℕ) → Report → Type 0
CalmBy one_turn turns running senders q = OneTurn turns running senders q
CalmBy no_stop turns running senders q = NoStop q

-- a calm round of a vote, with those turns, running heads and senders, and that report
abbrev pub Calm : {B : Type 0} → Scheme B → (turns running senders : ℕ) → Report → Type 0
Calm s turns running senders q = CalmBy (calmness s) turns running senders q
