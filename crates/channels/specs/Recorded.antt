-- The channel of recorded rounds: n words a round.
use Rattle.std.specs.Prelude.{ℕ, ◌+◌, ◌-◌, ◌*◌, ◌/◌, ◌%◌, min, Bool, cond, ◌&&◌, ◌||◌, List, length, ◌==◌, nat_le, nat_lt, slice_index}
use Rattle.sets.specs.Sets.{bit, word_of}
use Rattle.parts.specs.Ranges.{at_head}
use Rattle.parts.specs.Channels.{Meaning}
use Rattle.channels.specs.Own.{is_own}

-- whole rounds of 1 to 64 words, at most 10,000
abbrev pub fitting : List ℕ → ℕ → Bool
fitting words n = (nat_le 1 n && nat_le n 64) && (length words % n == 0 && nat_le (length words / n) 10000)

abbrev pub rounds_of : List ℕ → ℕ → ℕ
rounds_of words n = min (length words / n) 10000

-- the recorded word of a head; 0 for a head past the n of the list
abbrev pub word_at : List ℕ → ℕ → ℕ → ℕ → ℕ
word_at words n round hearer = cond (nat_lt hearer n) (slice_index words ((round - 1) * n + hearer)) 0

-- itself, and the senders that the recorded word has
abbrev pub played : ℕ → ℕ → ℕ → ℕ
played word hearer senders = word_of 64 (λ i. is_own hearer senders i || (bit senders i && bit word i))

-- all are heard after the recorded rounds
abbrev pub recorded : List ℕ → ℕ → Meaning
recorded words n = record {
  rule = λ round hearer senders. cond (at_head round hearer) (cond (nat_le round (rounds_of words n)) (played (word_at words n round hearer) hearer senders) senders) 0;
  clear = rounds_of words n + 1;
}
