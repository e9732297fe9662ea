-- A test for calm rounds.
use Rattle.std.proofs.Common.{◌≡◌, ℕ, zero, suc, ◌<◌, ◌≤◌, Bool, true, false, not, ◌&&◌, ◌||◌, eqb, ◌⊎◌, get_or, sym, refl, ap, ◌∙◌, subst, inl, inr, arith, eqb→eq}
use Rattle.std.proofs.lemmas.Bool.{and_parts, cases_lt, true≢false}
use Rattle.sets.specs.Sets.{bit, count, Lone}
use Rattle.sets.proofs.Words.{bit_past}
use Rattle.heads.specs.Rules.{Calmness, false_alarm}
use Rattle.heads.specs.Rules.Calmness.{one_turn, no_stop}
use Rattle.votes.specs.Rounds.{Report, sent, heard_of}
use Rattle.runs.specs.Calm.{CalmBy}
use Rattle.runs.proofs.Tests.{holds}

-- the test holds of every number below n
unfoldable pub all : ℕ → (ℕ → Bool) → Bool
all zero p = true
all (suc n) p = p n && all n p

pub all_at : (n : ℕ) (p : ℕ → Bool) → all n p ≡ true → (i : ℕ) → i < n → p i ≡ true
unfolding all
all_at zero p e i l = absurd (omega arith)
all_at (suc n) p e i l = go (cases_lt i n) (all_at n p (and_parts (p n) (all n p) e).1 i)
  where
    go : (i < n) ⊎ (n ≤ i) → (i < n → p i ≡ true) → p i ≡ true
    go (inl m) below = below m
    go (inr m) below = let same : n ≡ i = omega arith in subst (λ (k : ℕ). p k ≡ true) same (and_parts (p n) (all n p) e).0

-- a test that follows from another
abbrev implies : Bool → Bool → Bool
implies a b = not a || b

implied : (a b : Bool) → implies a b ≡ true → a ≡ true → b ≡ true
implied true b e f = e
implied false b e f = absurd (true≢false (sym f))

refuted : (a b : Bool) → implies a (not b) ≡ true → a ≡ true → b ≡ false
refuted true true e f = sym e
refuted true false e f = refl
refuted false b e f = absurd (true≢false (sym f))

abbrev pub calm_test : Calmness → ℕ → ℕ → ℕ → Report → Bool
calm_test one_turn turns running senders q =
    eqb (count 64 (bit turns)) 1
    && (all 64 (λ i. implies (bit q.alarms i) (not (false_alarm (sent senders) (heard_of senders (get_or q.words i 0)))))
    && implies (eqb (count 64 (bit senders)) 1) (all 64 (λ i. implies (bit running i) (all 64 (λ j. implies (bit senders j) (bit (get_or q.words i 0) j))))))
calm_test no_stop turns running senders q = all 64 (λ i. not (bit q.stops i))

not-true : (b : Bool) → not b ≡ true → b ≡ false
not-true true e = sym e
not-true false e = refl

-- a round that passes the test is calm; the senders are heads 0 to 63
pub calm_by : (c : Calmness) (turns running senders : ℕ) (q : Report) → senders < 18446744073709551616 → calm_test c turns running senders q ≡ true → CalmBy c turns running senders q
calm_by one_turn turns running senders q small e =
    let a = and_parts (eqb (count 64 (bit turns)) 1) _ e in
    let b = and_parts (all 64 (λ i. implies (bit q.alarms i) (not (false_alarm (sent senders) (heard_of senders (get_or q.words i 0)))))) _ a.1 in
    record {
      one = eqb→eq (count 64 (bit turns)) 1 (holds a.0);
      no_false = λ i l t. refuted (bit q.alarms i) (false_alarm (sent senders) (heard_of senders (get_or q.words i 0))) (all_at 64 _ b.0 i l) t;
      heard = λ lone i l t j u.
          let hears = implied (eqb (count 64 (bit senders)) 1) _ b.1 (is_lone lone) in
          let hearer = implied (bit running i) _ (all_at 64 (λ i. implies (bit running i) (all 64 (λ j. implies (bit senders j) (bit (get_or q.words i 0) j)))) hears i l) t in
          implied (bit senders j) (bit (get_or q.words i 0) j) (all_at 64 (λ j. implies (bit senders j) (bit (get_or q.words i 0) j)) hearer j (below j u)) u;
    }
  where
    is_lone : Lone senders → eqb (count 64 (bit senders)) 1 ≡ true
    is_lone e = ap (λ (x : ℕ). eqb x 1) e

    below : (j : ℕ) → bit senders j ≡ true → j < 64
    below j u = go (cases_lt j 64)
      where
        go : (j < 64) ⊎ (64 ≤ j) → j < 64
        go (inl l) = l
        go (inr l) = absurd (true≢false (sym u ∙ bit_past 64 senders j small l))
calm_by no_stop turns running senders q small e = record { none = λ i l. not-true (bit q.stops i) (all_at 64 _ e i l) }
