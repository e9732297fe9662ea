-- The bit vote, at any width: the invariant of every run, and calm rounds.
use Rattle.std.proofs.Common.{◌≡◌, ℕ, suc, ◌+◌, ◌-◌, ◌*◌, ◌%◌, ◌<◌, ◌≤◌, Bool, true, false, cond, not, ◌&&◌, T, eqb, leb, ◌≢◌, ◌⊎◌, sym, refl, ap, ◌∙◌, subst, inl, inr, mod-lt, mod-eq_of_lt, arith, eqb→eq, leb→le}
use native.Mathlib.Nat.{suc-mod, zero-mod, mod_self}
use Rattle.std.proofs.lemmas.Bool.{eq-eqb, le-leb, cases_lt, cases_eq}
use Rattle.sets.specs.Sets.{bit}
use Rattle.sets.proofs.Words.{same_bits}
use Rattle.ballots.specs.Order.{Coding}
use Rattle.heads.specs.declared.head.Head.{Head}
use Rattle.heads.specs.Rules.{Scheme, in_cycle, code_bit, says, keeps, noisy, moved, lowered, decided}
use Rattle.heads.specs.Rules.Scheme.{bitwise}
use Rattle.runs.proofs.Tests.{Or, decide, and_right, and_both, not_in, not_out, cond-true, cond-false, holds, same_test}
use Rattle.runs.proofs.Steps.{Heads, is_running, is_decided, runs, done, Alive, not_both, Events, hears, sends, Step, Quiet, Small, NoHeadRuns, sender_runs, runs_back, went, done_back, alive_back, small_on, none_on, adopted_from, silence, no_noise, quiet_adopts}

-- ---- where the round after r heard ones stands in its cycle

abbrev pub place : ℕ → ℕ → ℕ
place w r = in_cycle w (r + 1)

place_mod : (w r : ℕ) → place w r ≡ r % (w + 2)
place_mod w r = let e : r + 1 - 1 ≡ r = omega arith in ap (λ (x : ℕ). x % (w + 2)) e

place_most : (w r : ℕ) → place w r ≤ w + 1
place_most w r = let some : 0 < w + 2 = omega arith in let l : r % (w + 2) < w + 2 = mod-lt r some in omega (arith, place_mod w r)

place_next : (w r : ℕ) → place w (r + 1) ≡ suc (place w r) % (w + 2)
place_next w r =
    let e : r + 1 ≡ suc r = omega arith in
    place_mod w (r + 1) ∙ ap (λ (x : ℕ). x % (w + 2)) e ∙ suc-mod r (w + 2) ∙ ap (λ (x : ℕ). suc x % (w + 2)) (sym (place_mod w r))

place_on : (w r : ℕ) → place w r ≤ w → place w (r + 1) ≡ place w r + 1
place_on w r l = let e : suc (place w r) < w + 2 = omega arith in place_next w r ∙ mod-eq_of_lt e ∙ omega arith

place_over : (w r : ℕ) → w < place w r → place w (r + 1) ≡ 0
place_over w r l =
    let m = place_most w r in
    let e : suc (place w r) ≡ w + 2 = omega arith in
    place_next w r ∙ ap (λ (x : ℕ). x % (w + 2)) e ∙ mod_self (w + 2)

module _ {B : Type 0} (w : ℕ) (code : B → ℕ) (back : ℕ → B) (coded : Coding w code back) where
  abbrev vote : Scheme B
  vote = bitwise w code

  -- after r heard rounds
  pub record Inv (n : ℕ) (first : ℕ → B) (r : ℕ) (st : Heads B) : Type 0 where
    pub small : Small st
    -- an estimate was brought by some head
    pub valid : (i : ℕ) → Alive st i → (j : ℕ) × (j < n) × (first j ≡ (st i).estimate)
    -- once a ballot is decided, every head that has not stopped has it as its estimate
    pub agree : (i j : ℕ) → T (done st i) → Alive st j → (st i).estimate ≡ (st j).estimate
    -- a head that keeps its flag has every bit asked so far in this cycle that another running head has
    pub bits : (i j : ℕ) → T (runs st i) → T (runs st j) → T (st j).flag → (k : ℕ) → k < w → w < k + place w r
        → T (bit (code (st i).estimate) k) → T (bit (code (st j).estimate) k)

  -- before the first round no bit was asked
  pub bits_none : (st : Heads B) (i j : ℕ) → T (runs st i) → T (runs st j) → T (st j).flag → (k : ℕ) → k < w → w < k + place w 0
      → T (bit (code (st i).estimate) k) → T (bit (code (st j).estimate) k)
  bits_none st i j ti tj f k low high =
      let none : place w 0 ≡ 0 = place_mod w 0 ∙ zero-mod (w + 2) in
      absurd (omega arith)

  module _ {r : ℕ} {st : Heads B} {q : Events B} {st' : Heads B} (d : Step vote r st q st') where
    abbrev p : ℕ
    p = place w r

    -- ---- the three sorts of round

    at_ballots : p ≡ 0 → T (eqb p 0)
    at_ballots e = holds (eq-eqb p 0 e)

    past_ballots : 1 ≤ p → T (eqb p 0) → ⊥
    past_ballots l t = let e = eqb→eq p 0 t in omega arith

    at_bits : p ≤ w → T (leb p w)
    at_bits l = holds (le-leb p w l)

    past_bits : w < p → T (leb p w) → ⊥
    past_bits l t = let e = leb→le p w t in omega arith

    abbrev own_bit : ℕ → Bool
    own_bit i = code_bit w (code (st i).estimate) p

    -- what a head that goes on keeps
    keeps_ballots : p ≡ 0 → (i : ℕ) → keeps vote (r + 1) (hears q i) (st i) ≡ moved true (hears q i) (st i)
    keeps_ballots e i = cond-true (eqb p 0) _ _ (at_ballots e)

    keeps_bit : 1 ≤ p → p ≤ w → (i : ℕ) → keeps vote (r + 1) (hears q i) (st i) ≡ cond (noisy (hears q i) && not (own_bit i)) (lowered (st i)) (st i)
    keeps_bit l m i = cond-false (eqb p 0) _ _ (past_ballots l) ∙ cond-true (leb p w) _ _ (at_bits m)

    keeps_veto : w < p → (i : ℕ) → keeps vote (r + 1) (hears q i) (st i) ≡ cond (noisy (hears q i)) (st i) (decided (st i))
    keeps_veto l i = cond-false (eqb p 0) _ _ (past_ballots (omega arith)) ∙ cond-false (leb p w) _ _ (past_bits l)

    sends_bit : 1 ≤ p → p ≤ w → (k : ℕ) → says vote (r + 1) (q.turn k) (st k) ≡ own_bit k
    sends_bit l m k = cond-false (eqb p 0) _ _ (past_ballots l) ∙ cond-true (leb p w) _ _ (at_bits m)

    sends_veto : w < p → (k : ℕ) → says vote (r + 1) (q.turn k) (st k) ≡ not (st k).flag
    sends_veto l k = cond-false (eqb p 0) _ _ (past_ballots (omega arith)) ∙ cond-false (leb p w) _ _ (past_bits l)

    abbrev Sort : Type 0
    Sort = (p ≡ 0) ⊎ (((1 ≤ p) × (p ≤ w)) ⊎ (w < p))

    sort : Sort
    sort = go (cases_eq p 0) (cases_lt w p)
      where
        go : (p ≡ 0) ⊎ (p ≢ 0) → (w < p) ⊎ (p ≤ w) → Sort
        go (inl e) b = inl e
        go (inr e) (inl l) = inr (inr l)
        go (inr e) (inr l) = inr (inl (omega arith, l))

    -- ---- who decides, and which estimates move

    abbrev Newly : ℕ → Type 0
    Newly i = T (runs st i) × (w < p) × (T (noisy (hears q i)) → ⊥)

    decides : (i : ℕ) → T (done st' i) → (T (done st i) × (st' i ≡ st i)) ⊎ Newly i
    decides i t = go (done_back d i t) sort
      where
        quiet : (b : Bool) (h : Head B) → T (is_running h.state) → T (is_decided (cond b h (decided h)).state) → T b → ⊥
        quiet true h u t x = not_both h.state u t
        quiet false h u t x = x

        flagged : (b : Bool) (h : Head B) → T (is_running h.state) → T (is_decided (cond b (lowered h) h).state) → ⊥
        flagged true h u t = not_both h.state u t
        flagged false h u t = not_both h.state u t

        go : (T (done st i) × (st' i ≡ st i)) ⊎ (T (runs st i) × (st' i ≡ keeps vote (r + 1) (hears q i) (st i))) → Sort
            → (T (done st i) × (st' i ≡ st i)) ⊎ Newly i
        go (inl x) o = inl x
        go (inr x) (inl e) = absurd (not_both (st i).state x.0 (subst (λ (h : Head B). T (is_decided h.state)) (x.1 ∙ keeps_ballots e i) t))
        go (inr x) (inr (inl l)) = absurd (flagged (noisy (hears q i) && not (own_bit i)) (st i) x.0 (subst (λ (h : Head B). T (is_decided h.state)) (x.1 ∙ keeps_bit l.0 l.1 i) t))
        go (inr x) (inr (inr l)) = inr (x.0, l, quiet (noisy (hears q i)) (st i) x.0 (subst (λ (h : Head B). T (is_decided h.state)) (x.1 ∙ keeps_veto l i) t))

    -- only a round of ballots moves an estimate
    keeps_same : 1 ≤ p → (i : ℕ) → (keeps vote (r + 1) (hears q i) (st i)).estimate ≡ (st i).estimate
    keeps_same l i = go (cases_lt w p)
      where
        low : (b : Bool) (h : Head B) → (cond b (lowered h) h).estimate ≡ h.estimate
        low true h = refl
        low false h = refl

        high : (b : Bool) (h : Head B) → (cond b h (decided h)).estimate ≡ h.estimate
        high true h = refl
        high false h = refl

        go : (w < p) ⊎ (p ≤ w) → (keeps vote (r + 1) (hears q i) (st i)).estimate ≡ (st i).estimate
        go (inl m) = ap (λ (h : Head B). h.estimate) (keeps_veto m i) ∙ high (noisy (hears q i)) (st i)
        go (inr m) = ap (λ (h : Head B). h.estimate) (keeps_bit l m i) ∙ low (noisy (hears q i) && not (own_bit i)) (st i)

    est_same : 1 ≤ p → (i : ℕ) → (st' i).estimate ≡ (st i).estimate
    est_same l i = go (decide (runs st i)) (decide (q.stop i))
      where
        go : Or (runs st i) → Or (q.stop i) → (st' i).estimate ≡ (st i).estimate
        go (inr v) x = ap (λ (h : Head B). h.estimate) (d.idle i v)
        go (inl u) (inl x) = ap (λ (h : Head B). h.estimate) (d.halts i u x)
        go (inl u) (inr x) = ap (λ (h : Head B). h.estimate) (d.goes_on i u x) ∙ keeps_same l i

    -- every estimate was one before
    est_from : (i : ℕ) → (k : ℕ) × (Alive st i → Alive st k) × ((st' i).estimate ≡ (st k).estimate)
    est_from i = go (decide (runs st i)) (decide (q.stop i)) (cases_eq p 0)
      where
        go : Or (runs st i) → Or (q.stop i) → (p ≡ 0) ⊎ (p ≢ 0) → (k : ℕ) × (Alive st i → Alive st k) × ((st' i).estimate ≡ (st k).estimate)
        go (inr v) x o = (i, λ a. a, ap (λ (h : Head B). h.estimate) (d.idle i v))
        go (inl u) (inl x) o = (i, λ a. a, ap (λ (h : Head B). h.estimate) (d.halts i u x))
        go (inl u) (inr x) (inl e) = let f = adopted_from d (at_ballots e) i in (f.0, f.1, ap (λ (h : Head B). h.estimate) (d.goes_on i u x ∙ keeps_ballots e i) ∙ f.2)
        go (inl u) (inr x) (inr e) = (i, λ a. a, est_same (omega arith) i)

    -- ---- the invariant goes on

    -- of two running heads that differ in the bit asked, the one with 0 lowers its flag
    module _ (l : 1 ≤ p) (m : p ≤ w) where
      flag_kept : (j : ℕ) → T (runs st' j) → T (st' j).flag → T (st j).flag × ((T (noisy (hears q j)) → ⊥) ⊎ T (own_bit j))
      flag_kept j t f = go (noisy (hears q j)) (own_bit j) (λ x. x) (λ x. x) (subst (λ (h : Head B). T h.flag) (went d j t ∙ keeps_bit l m j) f)
        where
          go : (a b : Bool) → (T (noisy (hears q j)) → T (noisy (hears q j))) → (T b → T b) → T (cond (a && not b) (lowered (st j)) (st j)).flag
              → T (st j).flag × ((T a → ⊥) ⊎ T b)
          go true true x y f = (f, inr tt)
          go true false x y f = absurd f
          go false b x y f = (f, inl (λ z. z))

      asked : Small st → (i j : ℕ) → T (runs st' i) → T (runs st' j) → T (st' j).flag → T (own_bit i) → T (own_bit j)
      asked small i j ti tj f one = go (flag_kept j tj f).1
        where
          u : T (runs st i)
          u = (runs_back d i ti).0

          go : (T (noisy (hears q j)) → ⊥) ⊎ T (own_bit j) → T (own_bit j)
          go (inr t) = t
          go (inl quiet) = absurd (silence d small j (runs_back d j tj).0 quiet i (and_both (runs st i) _ u (subst T (sym (sends_bit l m i)) one)))

    bits_step : {n : ℕ} {first : ℕ → B} → Inv n first r st → (i j : ℕ) → T (runs st' i) → T (runs st' j) → T (st' j).flag → (k : ℕ) → k < w → w < k + place w (r + 1)
        → T (bit (code (st' i).estimate) k) → T (bit (code (st' j).estimate) k)
    bits_step I i j ti tj f k low high t = go sort
      where
        go : Sort → T (bit (code (st' j).estimate) k)
        go (inl e) = let z = place_on w r (omega arith) in absurd (omega arith)
        go (inr (inr l)) = let z = place_over w r l in absurd (omega arith)
        go (inr (inl l)) = subst (λ (b : B). T (bit (code b) k)) (sym (est_same l.0 j)) (pick (cases_eq k (w - p)))
          where
            t' : T (bit (code (st i).estimate) k)
            t' = subst (λ (b : B). T (bit (code b) k)) (est_same l.0 i) t

            pick : (k ≡ w - p) ⊎ (k ≢ w - p) → T (bit (code (st j).estimate) k)
            pick (inl e) =
                subst (λ (x : ℕ). T (bit (code (st j).estimate) x)) (sym e)
                (asked l.0 l.1 I.small i j ti tj f (subst (λ (x : ℕ). T (bit (code (st i).estimate) x)) e t'))
            pick (inr e) =
                let z = place_on w r l.1 in
                I.bits i j (runs_back d i ti).0 (runs_back d j tj).0 (flag_kept l.0 l.1 j tj f).0 k low (omega (arith, l.1)) t'

    -- a head that decides finds every flag up, and so every estimate the same
    fresh_agree : {n : ℕ} {first : ℕ → B} → Inv n first r st → (i j : ℕ) → Newly i → Alive st j → (st i).estimate ≡ (st j).estimate
    fresh_agree I i j x (inr t) = sym (I.agree j i t (inl x.0))
    fresh_agree I i j x (inl v) =
        sym (coded.back (st i).estimate)
        ∙ ap back (same_bits w (code (st i).estimate) (code (st j).estimate) (coded.below (st i).estimate) (coded.below (st j).estimate)
        (λ k l. let b = x.1 in same_test (bit (code (st i).estimate) k) (bit (code (st j).estimate) k)
        (I.bits i j x.0 v (up j v) k l (omega arith)) (I.bits j i v x.0 (up i x.0) k l (omega arith))))
        ∙ coded.back (st j).estimate
      where
        up : (k : ℕ) → T (runs st k) → T (st k).flag
        up k u = pick (decide (st k).flag)
          where
            pick : Or (st k).flag → T (st k).flag
            pick (inl t) = t
            pick (inr f) = absurd (silence d I.small i x.0 x.2 k (and_both (runs st k) _ u (subst T (sym (sends_veto x.1 k)) (not_in (st k).flag f))))

    pub inv_step : {n : ℕ} {first : ℕ → B} → Inv n first r st → Inv n first (r + 1) st'
    inv_step I = record {
      small = small_on d I.small;
      valid = λ i a. let f = est_from i in let v = I.valid f.0 (f.1 (alive_back d i a)) in (v.0, v.1, v.2 ∙ sym f.2);
      agree = λ i j t a. agrees i j (alive_back d j a) (decides i t);
      bits = bits_step I;
    }
      where
        agrees : (i j : ℕ) → Alive st j → (T (done st i) × (st' i ≡ st i)) ⊎ Newly i → (st' i).estimate ≡ (st' j).estimate
        agrees i j a (inl x) = let f = est_from j in ap (λ (h : Head B). h.estimate) x.1 ∙ I.agree i f.0 x.0 (f.1 a) ∙ sym f.2
        agrees i j a (inr x) =
            let l = x.1 in
            est_same (omega arith) i ∙ fresh_agree I i j x a ∙ sym (est_same (omega arith) j)

  -- ---- calm rounds

  -- all flags up, and one estimate
  pub record Same (st : Heads B) : Type 0 where
    pub up : (i : ℕ) → T (runs st i) → T (st i).flag
    pub one : (i j : ℕ) → T (runs st i) → T (runs st j) → (st i).estimate ≡ (st j).estimate

  module _ {r : ℕ} {st : Heads B} {q : Events B} {st' : Heads B} (d : Step vote r st q st') (C : Quiet vote r st q) where
    calm_ballots : Small st → place w r ≡ 0 → Same st'
    calm_ballots small e = record {
      up = λ i t. subst (λ (h : Head B). T h.flag) (sym (went d i t ∙ keeps_ballots d e i)) tt;
      one = λ i j ti tj. takes i ti ∙ sym (takes j tj);
    }
      where
        by_turn : (t : Bool) (h : Head B) → says vote (r + 1) t h ≡ t
        by_turn t h = cond-true (eqb (place w r) 0) _ _ (at_ballots d e)

        takes : (i : ℕ) → T (runs st' i) → (st' i).estimate ≡ (st C.holder).estimate
        takes i t = ap (λ (h : Head B). h.estimate) (went d i t ∙ keeps_ballots d e i) ∙ quiet_adopts d C (at_ballots d e) by_turn small i (runs_back d i t).0

    calm_bit : (1 ≤ place w r) → (place w r ≤ w) → Same st → Same st'
    calm_bit l m S = record {
      up = λ i t. subst (λ (h : Head B). T h.flag) (sym (went d i t ∙ keeps_bit d l m i)) (stays i (runs_back d i t).0 (noisy (hears q i)) (own_bit d i) (λ x. x) (λ x. x));
      one = λ i j ti tj. est_same d l i ∙ S.one i j (runs_back d i ti).0 (runs_back d j tj).0 ∙ sym (est_same d l j);
    }
      where
        -- noise at a head whose bit is 0 would come from one whose bit is 1
        disturbed : (i : ℕ) → T (runs st i) → (T (own_bit d i) → ⊥) → T (noisy (hears q i)) → ⊥
        disturbed i u f = no_noise d C (λ j t.
            f (subst (λ (b : B). T (code_bit w (code b) (place w r))) (S.one j i (sender_runs d j t) u)
            (subst T (sends_bit d l m j) (and_right (runs st j) _ t)))) i

        stays : (i : ℕ) → T (runs st i) → (a b : Bool) → (T a → T (noisy (hears q i))) → (T (own_bit d i) → T b) → T (cond (a && not b) (lowered (st i)) (st i)).flag
        stays i u true true x y = S.up i u
        stays i u true false x y = absurd (disturbed i u y (x tt))
        stays i u false b x y = S.up i u

    calm_veto : w < place w r → Same st → NoHeadRuns st'
    calm_veto l S i t =
        subst (λ (h : Head B). T (is_running h.state) → ⊥)
        (sym (went d i t ∙ keeps_veto d l i ∙ cond-false (noisy (hears q i)) (st i) (decided (st i)) (no_noise d C nobody i))) (λ x. x) t
      where
        nobody : (j : ℕ) → T (sends vote r st q j) → ⊥
        nobody j x = not_out (st j).flag (subst T (sends_veto d l j) (and_right (runs st j) _ x)) (S.up j (sender_runs d j x))

  -- how many calm rounds are left until no head runs: to the end of this cycle if it began with a calm round of
  -- ballots, else to the end of the next one
  pub data Left (r : ℕ) (st : Heads B) (m : ℕ) : Type 0 where
    over : NoHeadRuns st → Left r st m
    this_cycle : (1 ≤ place w r → Same st) → w + 2 ≤ m + place w r → Left r st m
    next_cycle : 1 ≤ place w r → 2 * w + 4 ≤ m + place w r → Left r st m

  pub left_all : (r : ℕ) (st : Heads B) → Left r st (2 * w + 3)
  left_all r st = go (cases_eq (place w r) 0)
    where
      go : (place w r ≡ 0) ⊎ (place w r ≢ 0) → Left r st (2 * w + 3)
      go (inl e) = this_cycle (λ l. absurd (omega arith)) (omega arith)
      go (inr e) = next_cycle (omega arith) (omega arith)

  pub left_none : {r : ℕ} {st : Heads B} → Left r st 0 → NoHeadRuns st
  left_none (over f) = f
  left_none {r} (this_cycle f l) = let m = place_most w r in absurd (omega arith)
  left_none {r} (next_cycle f l) = let m = place_most w r in absurd (omega arith)

  pub left_step : {r m : ℕ} {st : Heads B} {q : Events B} {st' : Heads B} → Small st → Step vote r st q st' → Quiet vote r st q → Left r st (suc m) → Left (r + 1) st' m
  left_step small d C (over f) = over (none_on d f)
  left_step {r} {m} {st' = st'} small d C (this_cycle f l) = go (sort d)
    where
      go : Sort d → Left (r + 1) st' m
      go (inl e) = let z = place_on w r (omega arith) in this_cycle (λ _. calm_ballots d C small e) (omega arith)
      go (inr (inl x)) = let z = place_on w r x.1 in this_cycle (λ _. calm_bit d C x.0 x.1 (f x.0)) (omega arith)
      go (inr (inr x)) = over (calm_veto d C x (f (omega arith)))
  left_step {r} {m} {st' = st'} small d C (next_cycle f l) = go (cases_lt w (place w r))
    where
      go : (w < place w r) ⊎ (place w r ≤ w) → Left (r + 1) st' m
      go (inl x) = let z = place_over w r x in let y = place_most w r in this_cycle (λ k. absurd (omega arith)) (omega arith)
      go (inr x) = let z = place_on w r x in next_cycle (omega arith) (omega arith)
