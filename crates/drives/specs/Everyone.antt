-- The manager that gives every running head a turn.
use Rattle.std.specs.Prelude.{ℕ}
use Rattle.parts.specs.Managers.{Meaning}
use Rattle.managers.specs.Turns.{by_last_told}

abbrev pub all_running : ℕ → ℕ → ℕ
all_running told running = running

-- it never comes to give exactly one: its single round is past the last one
abbrev pub everyone : ℕ → Meaning
everyone told = by_last_told all_running 10001 told
