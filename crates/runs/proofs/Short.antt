-- The short vote: the invariant of every run, and calm rounds.
use Rattle.std.proofs.Common.{◌≡◌, ℕ, suc, ◌+◌, ◌*◌, ◌<◌, ◌≤◌, Bool, true, false, cond, not, ◌&&◌, ◌||◌, T, ltb, leb, ◌⊎◌, is_some, Some, None, Option, unwrap_or, sym, refl, ap, ◌∙◌, subst, inl, inr, lt_of_not-le, arith}
use Rattle.std.proofs.lemmas.Bool.{lt-ltb, le-leb}
use Rattle.heads.specs.declared.head.Head.{Head}
use Rattle.heads.specs.Rules.{odd, says, keeps, noisy, moved, decided, only_one}
use Rattle.heads.specs.Rules.Scheme.{short}
use Rattle.runs.proofs.Tests.{Or, decide, and_left, and_right, and_both, or_left, or_right, or_cases, not_in, not_out, cond-true, cond-false, holds, is_false}
use Rattle.runs.proofs.Parity.{odd_then, even_then}
use Rattle.runs.proofs.Counts.{count_pos, majorities_meet}
use Rattle.runs.proofs.Steps.{Heads, is_running, is_decided, runs, done, Alive, not_both, Events, heard, hears, sends, total, Step, Quiet, Small, NoHeadRuns, sender_runs, runs_back, done_back, alive_back, small_on, none_on, adopted_from, silence, no_noise, quiet_alarm, quiet_least, quiet_same}

module _ {B : Type 0} where
  -- after r heard rounds
  pub record Inv (n : ℕ) (first : ℕ → B) (r : ℕ) (st : Heads B) : Type 0 where
    pub small : Small st
    -- an estimate was brought by some head
    pub valid : (i : ℕ) → Alive st i → (j : ℕ) × (j < n) × (first j ≡ (st i).estimate)
    -- once a ballot is decided, every head that has not stopped has it as its estimate
    pub agree : (i j : ℕ) → T (done st i) → Alive st j → (st i).estimate ≡ (st j).estimate
    -- before a round of vetoes: heads without veto, one of which heard only one ballot, share their estimate
    pub mid : (T (odd (r + 1)) → ⊥) → (i j : ℕ) → T (runs st i) → T (runs st j) → T (st i).flag → T (st j).flag → T (only_one (st i).ballots)
        → (st i).estimate ≡ (st j).estimate

  -- ---- one round
  module _ {r : ℕ} {st : Heads B} {q : Events B} {st' : Heads B} (d : Step short r st q st') where
    abbrev sole : ℕ → Bool
    sole i = only_one (st i).ballots

    after_odd : T (odd (r + 1)) → (i : ℕ) → T (runs st i) → (T (q.stop i) → ⊥) → st' i ≡ moved (not (q.alarm i || (q.ballots i).differ)) (hears q i) (st i)
    after_odd o i u p = d.goes_on i u p ∙ cond-true (odd (r + 1)) _ _ o

    after_even : (T (odd (r + 1)) → ⊥) → (i : ℕ) → T (runs st i) → (T (q.stop i) → ⊥) → st' i ≡ cond (not (noisy (hears q i)) && sole i) (decided (st i)) (st i)
    after_even o i u p = d.goes_on i u p ∙ cond-false (odd (r + 1)) _ _ o

    -- decided in this round: a round of vetoes without noise, and only one ballot before
    abbrev Newly : ℕ → Type 0
    Newly i = T (runs st i) × (T (odd (r + 1)) → ⊥) × (T (noisy (hears q i)) → ⊥) × T (sole i)

    decides : (i : ℕ) → T (done st' i) → (T (done st i) × (st' i ≡ st i)) ⊎ Newly i
    decides i t = go (done_back d i t) (decide (odd (r + 1)))
      where
        chosen : (b : Bool) (h : Head B) → T (is_running h.state) → T (is_decided (cond b (decided h) h).state) → T b
        chosen true h u t = tt
        chosen false h u t = not_both h.state u t

        go : (T (done st i) × (st' i ≡ st i)) ⊎ (T (runs st i) × (st' i ≡ keeps short (r + 1) (hears q i) (st i))) → Or (odd (r + 1))
            → (T (done st i) × (st' i ≡ st i)) ⊎ Newly i
        go (inl w) o = inl w
        go (inr w) (inl o) = absurd (not_both (st i).state w.0 (subst (λ (h : Head B). T (is_decided h.state)) (w.1 ∙ cond-true (odd (r + 1)) _ _ o) t))
        go (inr w) (inr o) =
            let c = chosen (not (noisy (hears q i)) && sole i) (st i) w.0 (subst (λ (h : Head B). T (is_decided h.state)) (w.1 ∙ cond-false (odd (r + 1)) _ _ o) t) in
            inr (w.0, o, not_out (noisy (hears q i)) (and_left (not (noisy (hears q i))) (sole i) c), and_right (not (noisy (hears q i))) (sole i) c)

    -- in a round of vetoes no estimate moves
    est_even : (T (odd (r + 1)) → ⊥) → (i : ℕ) → (st' i).estimate ≡ (st i).estimate
    est_even o i = go (decide (runs st i)) (decide (q.stop i))
      where
        either : (b : Bool) (h : Head B) → (cond b (decided h) h).estimate ≡ h.estimate
        either true h = refl
        either false h = refl

        go : Or (runs st i) → Or (q.stop i) → (st' i).estimate ≡ (st i).estimate
        go (inr v) p = ap (λ (h : Head B). h.estimate) (d.idle i v)
        go (inl u) (inl p) = ap (λ (h : Head B). h.estimate) (d.halts i u p)
        go (inl u) (inr p) = ap (λ (h : Head B). h.estimate) (after_even o i u p) ∙ either (not (noisy (hears q i)) && sole i) (st i)

    -- every estimate was one before
    est_from : (i : ℕ) → (k : ℕ) × (Alive st i → Alive st k) × ((st' i).estimate ≡ (st k).estimate)
    est_from i = go (decide (runs st i)) (decide (q.stop i)) (decide (odd (r + 1)))
      where
        go : Or (runs st i) → Or (q.stop i) → Or (odd (r + 1)) → (k : ℕ) × (Alive st i → Alive st k) × ((st' i).estimate ≡ (st k).estimate)
        go (inr v) p o = (i, λ x. x, ap (λ (h : Head B). h.estimate) (d.idle i v))
        go (inl u) (inl p) o = (i, λ x. x, ap (λ (h : Head B). h.estimate) (d.halts i u p))
        go (inl u) (inr p) (inr o) = (i, λ x. x, est_even o i)
        go (inl u) (inr p) (inl o) = let f = adopted_from d o i in (f.0, f.1, ap (λ (h : Head B). h.estimate) (after_odd o i u p) ∙ f.2)

    -- a head with its flag up after a round of ballots was not alarmed, and its ballots did not differ
    flag_up : T (odd (r + 1)) → (i : ℕ) → T (runs st' i) → T (st' i).flag → (T (q.alarm i) → ⊥) × (T (q.ballots i).differ → ⊥)
    flag_up o i t f =
        let b = runs_back d i t in
        let g = not_out (q.alarm i || (q.ballots i).differ) (subst (λ (h : Head B). T h.flag) (after_odd o i b.0 b.1) f) in
        (λ a. g (or_left (q.alarm i) (q.ballots i).differ a), λ a. g (or_right (q.alarm i) (q.ballots i).differ a))

    -- its estimate is then any ballot that it heard
    est_is : T (odd (r + 1)) → (i k : ℕ) → T (runs st' i) → T (st' i).flag → T (q.word i k) → (st' i).estimate ≡ (st k).estimate
    est_is o i k t f w =
        ap (λ (h : Head B). h.estimate) (let b = runs_back d i t in after_odd o i b.0 b.1)
        ∙ cond-false (q.alarm i) (st i).estimate (unwrap_or (q.ballots i).least (st i).estimate) (flag_up o i t f).0
        ∙ least_is (q.ballots i).least refl
      where
        least_is : (x : Option B) → (q.ballots i).least ≡ x → unwrap_or x (st i).estimate ≡ (st k).estimate
        least_is None e = absurd (d.none_heard o i e k w)
        least_is (Some b) e =
            let g = d.least_heard o i b e in
            sym g.2 ∙ d.one_heard o i (is_false (q.ballots i).differ (flag_up o i t f).1) g.0 k g.1 w

    -- ---- the invariant goes on
    pub inv_step : {n : ℕ} {first : ℕ → B} → Inv n first r st → Inv n first (r + 1) st'
    inv_step {n} {first} I = record {
      small = small_on d I.small;
      valid = λ i a. let w = est_from i in let v = I.valid w.0 (w.1 (alive_back d i a)) in (v.0, v.1, v.2 ∙ sym w.2);
      agree = λ i j t a. agrees i j (alive_back d j a) (decides i t);
      mid = mids;
    }
      where
        -- where a head decides, no running head has a veto
        no_veto : (i : ℕ) → Newly i → (k : ℕ) → T (runs st k) → T (st k).flag
        no_veto i w k u = go (decide (st k).flag)
          where
            veto : (T (st k).flag → ⊥) → T (sends short r st q k)
            veto f =
                and_both (runs st k) (says short (r + 1) (q.turn k) (st k)) u
                (subst T (sym (cond-false (odd (r + 1)) (q.turn k) (not (st k).flag) w.1)) (not_in (st k).flag f))

            go : Or (st k).flag → T (st k).flag
            go (inl t) = t
            go (inr f) = absurd (silence d I.small i w.0 w.2 k (veto f))

        agrees : (i j : ℕ) → Alive st j → (T (done st i) × (st' i ≡ st i)) ⊎ Newly i → (st' i).estimate ≡ (st' j).estimate
        agrees i j a (inl w) = let f = est_from j in ap (λ (h : Head B). h.estimate) w.1 ∙ I.agree i f.0 w.0 (f.1 a) ∙ sym f.2
        agrees i j (inl u) (inr w) =
            est_even w.1 i ∙ I.mid w.1 i j w.0 u (no_veto i w i w.0) (no_veto i w j u) w.3 ∙ sym (est_even w.1 j)
        agrees i j (inr u) (inr w) = est_even w.1 i ∙ sym (I.agree j i u (inl w.0)) ∙ sym (est_even w.1 j)

        mids : (T (odd (r + 1 + 1)) → ⊥) → (i j : ℕ) → T (runs st' i) → T (runs st' j) → T (st' i).flag → T (st' j).flag → T (only_one (st' i).ballots)
            → (st' i).estimate ≡ (st' j).estimate
        mids o' i j ti tj fi fj si = est_is o i k ti fi m.2 ∙ sym (est_is o j k tj fj m.3)
          where
            o : T (odd (r + 1))
            o = go (decide (odd (r + 1)))
              where
                go : Or (odd (r + 1)) → T (odd (r + 1))
                go (inl t) = t
                go (inr f) = absurd (o' (even_then (r + 1) f))

            some-heard : (k : ℕ) × T (q.word i k)
            some-heard = go (q.ballots i).least refl one
              where
                one : T (is_some (q.ballots i).least)
                one =
                    let b = runs_back d i ti in
                    and_left (is_some (q.ballots i).least) (not (q.ballots i).differ) (subst (λ (h : Head B). T (only_one h.ballots)) (after_odd o i b.0 b.1) si)

                go : (x : Option B) → (q.ballots i).least ≡ x → T (is_some x) → (k : ℕ) × T (q.word i k)
                go None e t = absurd t
                go (Some b) e t = let f = d.least_heard o i b e in (f.0, f.1)

            some-sent : 0 < total short r st q
            some-sent =
                let s = d.senders_heard i some-heard.0 some-heard.1 in
                count_pos (sends short r st q) 64 some-heard.0 (I.small some-heard.0 (inl (sender_runs d some-heard.0 s))) s

            -- a head without alarm heard more than half of the messages
            most : (x : ℕ) → T (runs st' x) → T (st' x).flag → total short r st q < 2 * heard q x
            most x t f = lt_of_not-le (λ l. (flag_up o x t f).0 (d.alarms_due x (runs_back d x t).0
                (and_both (ltb 0 (total short r st q)) (leb (2 * heard q x) (total short r st q)) (holds (lt-ltb 0 _ some-sent)) (holds (le-leb _ _ l)))))

            m : (k : ℕ) × (k < 64) × T (q.word i k) × T (q.word j k)
            m = majorities_meet (sends short r st q) (q.word i) (q.word j) (d.senders_heard i) (d.senders_heard j) 64 (most i ti fi) (most j tj fj)

            k : ℕ
            k = m.0

    -- ---- calm rounds

    -- every running head will decide in the next round, if nothing disturbs it
    pub calm_odd : T (odd (r + 1)) → Small st → Quiet short r st q → (i : ℕ) → T (runs st' i) → T (st' i).flag × T (only_one (st' i).ballots)
    calm_odd o small C i t = (
      subst (λ (h : Head B). T h.flag) (sym here) (not_in (q.alarm i || (q.ballots i).differ) undisturbed),
      subst (λ (h : Head B). T (only_one h.ballots)) (sym here) (and_both (is_some (q.ballots i).least) (not (q.ballots i).differ) (subst (λ (x : Option B). T (is_some x)) (sym (quiet_least d C o by_turn small i u)) tt) (not_in (q.ballots i).differ same)),
    )
      where
        u : T (runs st i)
        u = (runs_back d i t).0

        here : st' i ≡ moved (not (q.alarm i || (q.ballots i).differ)) (hears q i) (st i)
        here = after_odd o i u (runs_back d i t).1

        by_turn : (x : Bool) (h : Head B) → says short (r + 1) x h ≡ x
        by_turn x h = cond-true (odd (r + 1)) x (not h.flag) o

        same : T (q.ballots i).differ → ⊥
        same x = subst T (quiet_same d C o by_turn small i u) x

        undisturbed : T (q.alarm i || (q.ballots i).differ) → ⊥
        undisturbed x = go (or_cases (q.alarm i) (q.ballots i).differ x)
          where
            go : T (q.alarm i) ⊎ T (q.ballots i).differ → ⊥
            go (inl a) = quiet_alarm d C o by_turn small i u a
            go (inr a) = same a

    pub calm_even : (T (odd (r + 1)) → ⊥) → ((i : ℕ) → T (runs st i) → T (st i).flag × T (only_one (st i).ballots)) → Quiet short r st q → NoHeadRuns st'
    calm_even o ready C i t =
        subst (λ (h : Head B). T (is_running h.state) → ⊥) (sym (after_even o i u (runs_back d i t).1 ∙ cond-true (not (noisy (hears q i)) && sole i) (decided (st i)) (st i) will)) (λ x. x) t
      where
        u : T (runs st i)
        u = (runs_back d i t).0

        nobody : (j : ℕ) → T (sends short r st q j) → ⊥
        nobody j x =
            let v = and_right (runs st j) (says short (r + 1) (q.turn j) (st j)) x in
            not_out (st j).flag (subst T (cond-false (odd (r + 1)) (q.turn j) (not (st j).flag) o) v) (ready j (sender_runs d j x)).0

        will : T (not (noisy (hears q i)) && sole i)
        will = and_both (not (noisy (hears q i))) (sole i) (not_in (noisy (hears q i)) (no_noise d C nobody i)) (ready i u).1

  -- ---- how many calm rounds are left until no head runs

  pub data Left (r : ℕ) (st : Heads B) (m : ℕ) : Type 0 where
    over : NoHeadRuns st → Left r st m
    ready : (T (odd (r + 1)) → ⊥) → ((i : ℕ) → T (runs st i) → T (st i).flag × T (only_one (st i).ballots)) → 1 ≤ m → Left r st m
    odd_next : T (odd (r + 1)) → 2 ≤ m → Left r st m
    even_next : (T (odd (r + 1)) → ⊥) → 3 ≤ m → Left r st m

  pub left_all : (r : ℕ) (st : Heads B) → Left r st 3
  left_all r st = go (decide (odd (r + 1)))
    where
      go : Or (odd (r + 1)) → Left r st 3
      go (inl o) = odd_next o (omega arith)
      go (inr o) = even_next o (omega arith)

  pub left_none : {r : ℕ} {st : Heads B} → Left r st 0 → NoHeadRuns st
  left_none (over f) = f
  left_none (ready o f l) = absurd (omega arith)
  left_none (odd_next o l) = absurd (omega arith)
  left_none (even_next o l) = absurd (omega arith)

  pub left_step : {r m : ℕ} {st : Heads B} {q : Events B} {st' : Heads B} → Small st → Step short r st q st' → Quiet short r st q → Left r st (suc m) → Left (r + 1) st' m
  left_step small d C (over f) = over (none_on d f)
  left_step small d C (ready o f l) = over (calm_even d o f C)
  left_step {r} small d C (odd_next o l) = ready (odd_then (r + 1) o) (calm_odd d o small C) (omega arith)
  left_step {r} small d C (even_next o l) = odd_next (even_then (r + 1) o) (omega arith)
