-- What a collision detector means.
use Rattle.std.specs.Prelude.{◌≡◌, ℕ, ◌<◌, ◌≤◌, Bool, true, false}
use Rattle.heads.specs.declared.alarms.Class.{Class}
use Rattle.heads.specs.Alarms.{due_by}
use Rattle.parts.specs.Ranges.{counted}

-- a rule from round, head, c and t to an alarm or none, a class, and a quiet round
pub record Meaning : Type 0 where
  pub rule : ℕ → ℕ → ℕ → ℕ → Bool
  pub class : Class
  pub quiet : ℕ

-- the sentences of its meaning
pub record Keeps (m : Meaning) : Type 0 where
  -- the quiet round is from 1 to 10,001
  pub some : 1 ≤ m.quiet
  pub most : m.quiet ≤ 10001
  -- it leaves out no alarm that its class makes due
  pub duly : (round head c t : ℕ) → counted round head c t ≡ true → due_by m.class c t ≡ true → m.rule round head c t ≡ true
  -- from the quiet round on it alarms only where a message was missed
  pub quietly : (round head c t : ℕ) → m.quiet ≤ round → m.rule round head c t ≡ true → t < c
  -- out of range nobody is alarmed
  pub outside : (round head c t : ℕ) → counted round head c t ≡ false → m.rule round head c t ≡ false
