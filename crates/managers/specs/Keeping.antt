-- The managers keep the sentences of their meanings.
use Rattle.std.specs.Prelude.{◌≡◌, ℕ, ◌-◌, ◌%◌, ◌<◌, true, false, cond, Some, None, Option, refl}
use Rattle.std.proofs.Common.{sym, ap, subst, ◌∙◌, arith}
use Rattle.std.proofs.lemmas.Bool.{eqb-true, cond-true, cond-false, cond_both, true≢false}
use Rattle.sets.specs.Search.{or_else}
use Rattle.sets.specs.Sets.{bit, lowest_from, Within, Lone}
use Rattle.sets.proofs.Words.{none_within, word_within}
use Rattle.sets.proofs.Lone.{lone_one}
use Rattle.sets.proofs.Searches.{lowest_some, lowest_none}
use Rattle.parts.specs.Ranges.{in_time, tellable}
use Rattle.parts.specs.Managers.{Meaning, Keeps, Told}
use Rattle.managers.specs.Turns.{turn_of, lowest_of, next_of, by_last_told, lowest_turns, rotation_turns}

-- a running head is picked, if there is one
abbrev Picks : ℕ → Option ℕ → Type 0
Picks running (Some i) = (i < 64) × (bit running i ≡ true)
Picks running None = (i : ℕ) → i < 64 → bit running i ≡ false

turn_within : (running : ℕ) (o : Option ℕ) → Picks running o → Within (turn_of o) running
turn_within running (Some i) p = word_within 64 _ running (λ j s. subst (λ (k : ℕ). bit running k ≡ true) (sym (eqb-true j i s)) p.1)
turn_within running None p = none_within running

turn_one : (running : ℕ) (o : Option ℕ) → Picks running o → (i : ℕ) → i < 64 → bit running i ≡ true → Lone (turn_of o)
turn_one running (Some k) p i h r = lone_one k p.0
turn_one running None p i h r = absurd (true≢false (sym r ∙ p i h))

-- turns of a running head that is picked
picking_keeps : (pick : ℕ → ℕ → Option ℕ) (told : ℕ) → ((running : ℕ) → Picks running (pick told running)) → Keeps (by_last_told (λ told running. turn_of (pick told running)) 1 told)
picking_keeps pick told p = record {
  some = omega arith;
  most = omega arith;
  running = λ r s. cond_both (in_time r) (turn_of (pick told s)) 0 (λ w. Within w s) (λ _. turn_within s (pick told s) (p s)) (λ _. none_within s);
  one = λ r s i b _ h e. rw (cond-true (in_time r) (turn_of (pick told s)) 0 b) (turn_one s (pick told s) (p s) i h e);
  outside = λ r s b. cond-false (in_time r) (turn_of (pick told s)) 0 b;
}

lowest_picks : (running : ℕ) (o : Option ℕ) → lowest_of running ≡ o → Picks running o
lowest_picks running (Some i) e = let f = lowest_some (bit running) 0 64 i e in (omega (arith, f.below), f.holds)
lowest_picks running None e = λ i l. lowest_none (bit running) 0 64 e i (omega arith) (omega arith)

next_picks : (running start : ℕ) (o : Option ℕ) → lowest_from (bit running) start (64 - start) ≡ o → start < 64 → Picks running (or_else o (lowest_of running))
next_picks running start (Some i) e l = let f = lowest_some (bit running) start (64 - start) i e in (omega (arith, f.below), f.holds)
next_picks running start None e l = lowest_picks running (lowest_of running) refl

pub lowest_keeps : (told : ℕ) → Keeps (lowest_turns told)
lowest_keeps told = picking_keeps (λ _. lowest_of) told (λ running. lowest_picks running (lowest_of running) refl)

pub rotation_keeps : (told : ℕ) → Keeps (rotation_turns told)
rotation_keeps told = picking_keeps (λ told running. next_of running (told % 64)) told (λ running. next_picks running (told % 64) _ refl (omega arith))

-- telling, for a meaning that depends on the round last told alone, with the same single round throughout
pub told_by : (m : ℕ → Meaning) (single : ℕ) → ((told : ℕ) → (m told).told ≡ told) → ((told : ℕ) → (m told).single ≡ single) → (told round c : ℕ) → Told (m told) round c (m (cond (tellable round c) round told))
told_by m single t s told round c = record {
  last = t (cond (tellable round c) round told) ∙ ap (λ x. cond (tellable round c) round x) (sym (t told));
  single = s (cond (tellable round c) round told) ∙ sym (s told);
  outside = λ b. ap m (cond-false (tellable round c) round told b);
}
