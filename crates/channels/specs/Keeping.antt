-- The channels keep the sentences of their meanings.
use Rattle.std.specs.Prelude.{◌≡◌, ℕ, ◌<◌, ◌≤◌, Bool, true, cond, ◌||◌, List, ◌==◌, nat_le, refl}
use Rattle.std.proofs.Common.{◌∙◌, ⊎_elim, arith}
use Rattle.std.proofs.lemmas.Bool.{and_parts, and_from, or_cases, or_left, lt-leb, eq-eqb, cond-true, cond-false, cond_both}
use Rattle.sets.specs.Sets.{bit, word_of, Within}
use Rattle.sets.proofs.Words.{bit_word, none_within, word_within}
use Rattle.parts.specs.Ranges.{at_head}
use Rattle.parts.specs.Channels.{Meaning, Keeps}
use Rattle.parts.specs.declared.spells.Spell.{Spell}
use Rattle.parts.specs.Spells.{spanned, past}
use Rattle.parts.proofs.Heads.{head_below}
use Rattle.parts.proofs.Spanning.{none_past}
use Rattle.channels.specs.Own.{is_own, own_of}
use Rattle.channels.specs.Clear.{clear}
use Rattle.channels.specs.Dead.{deadened}
use Rattle.channels.specs.Recorded.{rounds_of, word_at, played, recorded}

-- ---- a head's own message

pub own_is : (hearer senders : ℕ) → bit senders hearer ≡ true → is_own hearer senders hearer ≡ true
own_is hearer senders o = and_from (bit senders hearer) (hearer == hearer) o (eq-eqb hearer hearer refl)

pub own_sends : (hearer senders i : ℕ) → is_own hearer senders i ≡ true → bit senders i ≡ true
own_sends hearer senders i e = (and_parts (bit senders i) (i == hearer) e).0

-- what a head hears beside its own message, by a test that holds of senders alone
pub beside_within : (p : ℕ → Bool) (hearer senders : ℕ) → ((i : ℕ) → p i ≡ true → bit senders i ≡ true) → Within (word_of 64 (λ i. is_own hearer senders i || p i)) senders
beside_within p hearer senders f = word_within 64 _ senders (λ i e. ⊎_elim (own_sends hearer senders i) (f i) (or_cases (is_own hearer senders i) (p i) e))

pub beside_own : (p : ℕ → Bool) (hearer senders : ℕ) → hearer < 64 → bit senders hearer ≡ true → bit (word_of 64 (λ i. is_own hearer senders i || p i)) hearer ≡ true
beside_own p hearer senders h o = bit_word 64 _ hearer h ∙ or_left (is_own hearer senders hearer) (p hearer) (own_is hearer senders o)

own_within : (hearer senders : ℕ) → Within (own_of hearer senders) senders
own_within hearer senders = word_within 64 (is_own hearer senders) senders (own_sends hearer senders)

own_heard : (hearer senders : ℕ) → hearer < 64 → bit senders hearer ≡ true → bit (own_of hearer senders) hearer ≡ true
own_heard hearer senders h o = bit_word 64 (is_own hearer senders) hearer h ∙ own_is hearer senders o

-- ---- the channels

pub clear_keeps : Keeps clear
clear_keeps = record {
  some = omega arith;
  most = omega arith;
  senders = λ r h s. cond_both (at_head r h) s 0 (λ w. Within w s) (λ _ i e. e) (λ _. none_within s);
  own = λ r h s a o. rw (cond-true (at_head r h) s 0 a) o;
  lone = λ r h s _ a _ _. rw (cond-true (at_head r h) s 0 a) (λ i e. e);
  outside = λ r h s a. cond-false (at_head r h) s 0 a;
}

pub recorded_keeps : (words : List ℕ) (n : ℕ) → Keeps (recorded words n)
recorded_keeps words n = record {
  some = omega arith;
  most = omega arith;
  senders = λ r h s. cond_both (at_head r h) (here r h s) 0 (λ w. Within w s)
      (λ _. cond_both (nat_le r rounds) (told r h s) s (λ w. Within w s) (λ _. beside_within _ h s (λ i e. (and_parts (bit s i) _ e).0)) (λ _ i e. e))
      (λ _. none_within s);
  own = λ r h s a o. rw (cond-true (at_head r h) (here r h s) 0 a)
      (cond_both (nat_le r rounds) (told r h s) s (λ w. bit w h ≡ true) (λ _. beside_own _ h s (head_below r h a) o) (λ _. o));
  lone = λ r h s _ a c _. rw (cond-true (at_head r h) (here r h s) 0 a, cond-false (nat_le r rounds) (told r h s) s (lt-leb r rounds (omega arith))) (λ i e. e);
  outside = λ r h s a. cond-false (at_head r h) (here r h s) 0 a;
}
  where
    rounds : ℕ
    rounds = rounds_of words n

    told : ℕ → ℕ → ℕ → ℕ
    told r h s = played (word_at words n r h) h s

    here : ℕ → ℕ → ℕ → ℕ
    here r h s = cond (nat_le r rounds) (told r h s) s

pub deadened_keeps : (spells : List Spell) (m : Meaning) → past spells ≤ 10001 → Keeps m → Keeps (deadened spells m)
deadened_keeps spells m most k = record {
  some = omega (arith, k.some);
  most = omega (arith, k.most);
  senders = λ r h s. cond_both (spanned spells r) (alone r h s) (m.rule r h s) (λ w. Within w s)
      (λ _. cond_both (at_head r h) (own_of h s) 0 (λ w. Within w s) (λ _. own_within h s) (λ _. none_within s))
      (λ _. k.senders r h s);
  own = λ r h s a o. cond_both (spanned spells r) (alone r h s) (m.rule r h s) (λ w. bit w h ≡ true)
      (λ _. rw (cond-true (at_head r h) (own_of h s) 0 a) (own_heard h s (head_below r h a) o))
      (λ _. k.own r h s a o);
  lone = λ r h s b a c l. rw (none_past spells r (omega arith)) (k.lone r h s b a (omega arith) l);
  outside = λ r h s a. cond_both (spanned spells r) (alone r h s) (m.rule r h s) (λ w. w ≡ 0)
      (λ _. cond-false (at_head r h) (own_of h s) 0 a)
      (λ _. k.outside r h s a);
}
  where
    alone : ℕ → ℕ → ℕ → ℕ
    alone r h s = cond (at_head r h) (own_of h s) 0
