-- The detectors keep the sentences of their meanings.
use Rattle.std.specs.Prelude.{◌≡◌, ℕ, ◌*◌, ◌<◌, ◌≤◌, true, false, ◌||◌, List, ◌==◌, nat_le, nat_lt}
use Rattle.std.proofs.Common.{⊎_elim, arith}
use Rattle.std.proofs.lemmas.Bool.{and_parts, and_from, and_left, or_cases, or_left, ltb-true, leb-true, eqb-true, lt-ltb, cond_both}
use Rattle.heads.specs.declared.alarms.Class.{Class}
use Rattle.heads.specs.declared.alarms.Class.TheVariants.{Zero, Majority}
use Rattle.heads.specs.Alarms.{due_by}
use Rattle.parts.specs.Ranges.{counted}
use Rattle.parts.specs.Detectors.{Meaning, Keeps}
use Rattle.parts.specs.declared.spells.Spell.{Spell}
use Rattle.parts.specs.Spells.{spanned, past}
use Rattle.parts.proofs.Spanning.{none_past}
use Rattle.detectors.specs.Exact.{counting, squelch}
use Rattle.detectors.specs.Recorded.{rounds_of, noted, recorded}
use Rattle.detectors.specs.Interference.{disturbed}

-- an alarm is due only where a message was missed
due_missed : (class : Class) (c t : ℕ) → due_by class c t ≡ true → t < c
due_missed Zero c t d = let p = and_parts (nat_lt 0 c) (t == 0) d in omega (arith, ltb-true 0 c p.0, eqb-true t 0 p.1)
due_missed Majority c t d = let p = and_parts (nat_lt 0 c) (nat_le (2 * t) c) d in omega (arith, ltb-true 0 c p.0, leb-true (2 * t) c p.1)

pub counting_keeps : Keeps counting
counting_keeps = record {
  some = omega arith;
  most = omega arith;
  duly = λ r h c t b d. and_from (counted r h c t) (nat_lt t c) b (lt-ltb t c (due_missed Majority c t d));
  quietly = λ r h c t _ e. ltb-true t c (and_parts (counted r h c t) (nat_lt t c) e).1;
  outside = λ r h c t b. and_left (counted r h c t) (nat_lt t c) b;
}

pub squelch_keeps : Keeps squelch
squelch_keeps = record {
  some = omega arith;
  most = omega arith;
  duly = λ r h c t b d. and_from (counted r h c t) (due_by Zero c t) b d;
  quietly = λ r h c t _ e. due_missed Zero c t (and_parts (counted r h c t) (due_by Zero c t) e).1;
  outside = λ r h c t b. and_left (counted r h c t) (due_by Zero c t) b;
}

pub recorded_keeps : (words : List ℕ) (class : Class) → Keeps (recorded words class)
recorded_keeps words class = record {
  some = omega arith;
  most = omega arith;
  duly = λ r h c t b d. and_from (counted r h c t) (due_by class c t || noted words r h) b (or_left (due_by class c t) (noted words r h) d);
  quietly = λ r h c t q e. ⊎_elim (due_missed class c t) (λ n. absurd (let l = leb-true r (rounds_of words) (and_parts (nat_le r (rounds_of words)) _ n).0 in omega arith))
      (or_cases (due_by class c t) (noted words r h) (and_parts (counted r h c t) (due_by class c t || noted words r h) e).1);
  outside = λ r h c t b. and_left (counted r h c t) (due_by class c t || noted words r h) b;
}

pub disturbed_keeps : (spells : List Spell) (m : Meaning) → past spells ≤ 10001 → Keeps m → Keeps (disturbed spells m)
disturbed_keeps spells m most k = record {
  some = omega (arith, k.some);
  most = omega (arith, k.most);
  duly = λ r h c t b d. cond_both (spanned spells r) (counted r h c t) (m.rule r h c t) (λ a. a ≡ true) (λ _. b) (λ _. k.duly r h c t b d);
  quietly = λ r h c t q e. k.quietly r h c t (omega arith) (rw (none_past spells r (omega arith)) at e);
  outside = λ r h c t b. cond_both (spanned spells r) (counted r h c t) (m.rule r h c t) (λ a. a ≡ false) (λ _. b) (λ _. k.outside r h c t b);
}
