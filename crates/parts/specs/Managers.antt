-- What a contention manager means.
use Rattle.std.specs.Prelude.{◌≡◌, ℕ, ◌<◌, ◌≤◌, true, false, cond}
use Rattle.sets.specs.Sets.{bit, Within, Lone}
use Rattle.parts.specs.Ranges.{in_time, tellable}

-- a present rule from round and running heads to turns, a single round, and the round last told
pub record Meaning : Type 0 where
  pub rule : ℕ → ℕ → ℕ
  pub single : ℕ
  pub told : ℕ

-- the sentences of its meaning
pub record Keeps (m : Meaning) : Type 0 where
  -- the single round is from 1 to 10,001
  pub some : 1 ≤ m.single
  pub most : m.single ≤ 10001
  -- turns go to running heads
  pub running : (round running : ℕ) → Within (m.rule round running) running
  -- from the single round on exactly one has a turn, if any runs
  pub one : (round running i : ℕ) → in_time round ≡ true → m.single ≤ round → i < 64 → bit running i ≡ true → Lone (m.rule round running)
  -- out of range nobody has a turn
  pub outside : (round running : ℕ) → in_time round ≡ false → m.rule round running ≡ 0

-- what telling of a round with c senders makes of a meaning: the round becomes the one last told, and the single round
-- stays. The present rule after it is open; it keeps the sentences above, as every manager's does.
pub record Told (m : Meaning) (round c : ℕ) (m' : Meaning) : Type 0 where
  pub last : m'.told ≡ cond (tellable round c) round m.told
  pub single : m'.single ≡ m.single
  -- out of range telling does nothing
  pub outside : tellable round c ≡ false → m' ≡ m
