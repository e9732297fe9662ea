-- What a channel means.
use Rattle.std.specs.Prelude.{◌≡◌, ℕ, ◌^◌, ◌<◌, ◌≤◌, true, false}
use Rattle.sets.specs.Sets.{bit, Within, Lone}
use Rattle.parts.specs.Ranges.{at_head}

-- a rule from round, hearer and senders to those heard, and a clear round
pub record Meaning : Type 0 where
  pub rule : ℕ → ℕ → ℕ → ℕ
  pub clear : ℕ

-- the sentences of its meaning
pub record Keeps (m : Meaning) : Type 0 where
  -- the clear round is from 1 to 10,001
  pub some : 1 ≤ m.clear
  pub most : m.clear ≤ 10001
  -- those heard are senders, the hearer among them if it sends
  pub senders : (round hearer senders : ℕ) → Within (m.rule round hearer senders) senders
  pub own : (round hearer senders : ℕ) → at_head round hearer ≡ true → bit senders hearer ≡ true → bit (m.rule round hearer senders) hearer ≡ true
  -- from the clear round on all hear a lone sender
  pub lone : (round hearer senders : ℕ) → senders < 2 ^ 64 → at_head round hearer ≡ true → m.clear ≤ round → Lone senders → Within senders (m.rule round hearer senders)
  -- out of range nobody is heard
  pub outside : (round hearer senders : ℕ) → at_head round hearer ≡ false → m.rule round hearer senders ≡ 0
