-- Managers that give one running head the turn.
use Rattle.std.specs.Prelude.{ℕ, ◌-◌, ◌%◌, cond, Some, None, Option, nat_eq}
use Rattle.sets.specs.Search.{or_else}
use Rattle.sets.specs.Sets.{bit, word_of, lowest_from, lowest}
use Rattle.parts.specs.Ranges.{in_time}
use Rattle.parts.specs.Managers.{Meaning}

-- the turn of head i alone, or nobody's
abbrev pub turn_of : Option ℕ → ℕ
turn_of (Some i) = word_of 64 (λ j. nat_eq j i)
turn_of None = 0

abbrev pub lowest_of : ℕ → Option ℕ
lowest_of running = lowest (bit running) 64

-- the first running head from the start upward, and then from 0
abbrev pub next_of : ℕ → ℕ → Option ℕ
next_of running start = or_else (lowest_from (bit running) start (64 - start)) (lowest_of running)

-- ---- managers that give turns by the round last told and by the running heads

-- in every round the turns that are given
abbrev pub by_last_told : (ℕ → ℕ → ℕ) → ℕ → ℕ → Meaning
by_last_told gives single told = record { rule = λ round running. cond (in_time round) (gives told running) 0; single = single; told = told }

-- to the lowest running head
abbrev pub lowest_gives : ℕ → ℕ → ℕ
lowest_gives told running = turn_of (lowest_of running)

abbrev pub lowest_turns : ℕ → Meaning
lowest_turns told = by_last_told lowest_gives 1 told

-- to the first running head from the round last told, mod 64
abbrev pub rotation_gives : ℕ → ℕ → ℕ
rotation_gives told running = turn_of (next_of running (told % 64))

abbrev pub rotation_turns : ℕ → Meaning
rotation_turns told = by_last_told rotation_gives 1 told
