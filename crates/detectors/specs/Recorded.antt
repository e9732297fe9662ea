-- The detector of recorded alarms: a word a round.
use Rattle.std.specs.Prelude.{ℕ, ◌+◌, ◌-◌, min, Bool, ◌&&◌, ◌||◌, List, length, nat_le, slice_index}
use Rattle.sets.specs.Sets.{bit}
use Rattle.heads.specs.declared.alarms.Class.{Class}
use Rattle.heads.specs.Alarms.{due_by}
use Rattle.parts.specs.Ranges.{counted}
use Rattle.parts.specs.Detectors.{Meaning}

abbrev pub rounds_of : List ℕ → ℕ
rounds_of words = min (length words) 10000

-- an alarm of the head is recorded in the round
abbrev pub noted : List ℕ → ℕ → ℕ → Bool
noted words round head = nat_le round (rounds_of words) && bit (slice_index words (round - 1)) head

-- it alarms where an alarm is due by its class, and where one is recorded
abbrev pub recorded : List ℕ → Class → Meaning
recorded words class = record {
  rule = λ round head c t. counted round head c t && (due_by class c t || noted words round head);
  class = class;
  quiet = rounds_of words + 1;
}
