-- The channel on which the nearest sender is heard.
use Rattle.std.specs.Prelude.{◌≡◌, ℕ, ◌^◌, ◌<◌, true, false, not, ◌&&◌, ◌||◌, List, ◌==◌}
use Rattle.std.proofs.Common.{sym, ap, subst, ◌∙◌, ⊎_elim, arith}
use Rattle.std.proofs.lemmas.Bool.{and_parts, and_from, and_left, and_right, or_left, or_right, eqb-true, eq-eqb, ne_eqb, cond-true, cond-false, cond_both, cases_Bool, cases_eq, not_from_false, true≢false}
use Rattle.sets.specs.Sets.{bit, word_of, Within, Lone}
use Rattle.sets.proofs.Words.{bit_word, none_within}
use Rattle.sets.proofs.Lone.{count_none, none_counted, lone_same}
use Rattle.parts.specs.Ranges.{at_head}
use Rattle.parts.specs.Channels.{Keeps}
use Rattle.channels.specs.Own.{is_own}
use Rattle.channels.specs.Capture.{is_other, before, is_nearest, First, capture}
use Rattle.parts.proofs.Heads.{head_below, sender_below}
use Rattle.channels.specs.Keeping.{beside_within, beside_own}
use Rattle.channels.specs.Nearest.{not_itself, other_way}

other_sends : (h s i : ℕ) → is_other h s i ≡ true → bit s i ≡ true
other_sends h s i e = (and_parts (bit s i) (not (i == h)) e).0

-- no other sender is before head i
nearest_from : (positions : List ℕ) (h s i : ℕ) → is_other h s i ≡ true → ((j : ℕ) → j < 64 → is_other h s j ≡ true → before positions h j i ≡ false) → is_nearest positions h s i ≡ true
nearest_from positions h s i o f =
    and_from (is_other h s i) _ o (eq-eqb _ 0 (count_none 64 _ (λ j l.
    ⊎_elim (λ t. and_right (is_other h s j) (before positions h j i) (f j l t)) (λ n. and_left (is_other h s j) (before positions h j i) n) (cases_Bool (is_other h s j)))))

-- the one that a search found is the nearest, and no other is
pub nearest_some : (positions : List ℕ) (h s b : ℕ) → First positions h s 64 b → (i : ℕ) → i < 64 → (bit s i && i == b) ≡ is_nearest positions h s i
nearest_some positions h s b f i l = ⊎_elim
    (λ e. and_from (bit s i) (i == b) (ap (bit s) e ∙ other_sends h s b f.sends) (eq-eqb i b e) ∙ sym (ap (is_nearest positions h s) e ∙ nearest_from positions h s b f.sends f.least))
    (λ ne. and_right (bit s i) (i == b) (ne_eqb i b ne) ∙ sym (⊎_elim
    (λ t. absurd (true≢false (sym (and_from (is_other h s b) (before positions h b i) f.sends (other_way positions h i b (f.least i l (and_parts (is_other h s i) _ t).0) ne))
    ∙ none_counted 64 (λ j. is_other h s j && before positions h j i) (eqb-true _ 0 (and_parts (is_other h s i) _ t).1) b f.below)))
    (λ n. n) (cases_Bool (is_nearest positions h s i))))
    (cases_eq i b)

pub nearest_none : (positions : List ℕ) (h s : ℕ) → ((j : ℕ) → j < 64 → is_other h s j ≡ false) → (i : ℕ) → i < 64 → is_nearest positions h s i ≡ false
nearest_none positions h s f i l = and_left (is_other h s i) _ (f i l)

-- a lone sender is heard by itself, and is the nearest to all others
lone_heard : (positions : List ℕ) (h s : ℕ) → s < 2 ^ 64 → Lone s → Within s (word_of 64 (λ i. is_own h s i || is_nearest positions h s i))
lone_heard positions h s b l i e =
    let in' = sender_below s i b e in
    bit_word 64 _ i in' ∙ ⊎_elim
    (λ q. or_left (is_own h s i) _ (and_from (bit s i) (i == h) e (eq-eqb i h q)))
    (λ ne. or_right (is_own h s i) _ (nearest_from positions h s i (and_from (bit s i) (not (i == h)) e (not_from_false (i == h) (ne_eqb i h ne)))
    (λ j m o. let same : j ≡ i = lone_same 64 (bit s) l j i m in' (other_sends h s j o) e in
    subst (λ (x : ℕ). before positions h x i ≡ false) (sym same) (not_itself positions h i))))
    (cases_eq i h)

pub capture_keeps : (positions : List ℕ) → Keeps (capture positions)
capture_keeps positions = record {
  some = omega arith;
  most = omega arith;
  senders = λ r h s. cond_both (at_head r h) (here h s) 0 (λ w. Within w s)
      (λ _. beside_within _ h s (λ i e. other_sends h s i (and_parts (is_other h s i) _ e).0)) (λ _. none_within s);
  own = λ r h s a o. rw (cond-true (at_head r h) (here h s) 0 a) (beside_own _ h s (head_below r h a) o);
  lone = λ r h s b a _ l. rw (cond-true (at_head r h) (here h s) 0 a) (lone_heard positions h s b l);
  outside = λ r h s a. cond-false (at_head r h) (here h s) 0 a;
}
  where
    here : ℕ → ℕ → ℕ
    here h s = word_of 64 (λ i. is_own h s i || is_nearest positions h s i)
