-- What the half-duplex channel means.
use Rattle.std.specs.Prelude.{ℕ, cond, nat_eq}
use Rattle.sets.specs.Sets.{bit, word_of}
use Rattle.parts.specs.Ranges.{at_head}
use Rattle.parts.specs.Channels.{Meaning}

-- the set of one head
abbrev pub alone : ℕ → ℕ
alone head = word_of 64 (λ i. nat_eq i head)

-- a head that sends hears itself alone, another head all who send
abbrev pub hearing : ℕ → ℕ → ℕ
hearing hearer senders = cond (bit senders hearer) (alone hearer) senders

-- in range, and from round 1 on a lone sender is heard by all
abbrev pub half_duplex : Meaning
half_duplex = record { rule = λ round hearer senders. cond (at_head round hearer) (hearing hearer senders) 0; clear = 1 }
