-- One heard round, head by head: what all three votes' proofs go by.
use Rattle.std.proofs.Common.{◌≡◌, ℕ, ◌+◌, ◌*◌, ◌<◌, ◌≤◌, Bool, true, false, ◌&&◌, T, ltb, leb, ◌≢◌, ◌⊎◌, Some, None, Option, unwrap_or, sym, refl, ap, ◌∙◌, subst, inl, inr, arith, ltb→lt}
use Rattle.std.proofs.lemmas.Bool.{lt-ltb, le-leb, ltb-false}
use Rattle.sets.specs.Sets.{count}
use Rattle.heads.specs.declared.head.Ballots.{Ballots}
use Rattle.heads.specs.declared.head.Head.{Head}
use Rattle.heads.specs.declared.head.Heard.{Heard}
use Rattle.heads.specs.declared.head.State.{State}
use Rattle.heads.specs.declared.head.State.TheVariants.{Running, Decided, Stopped}
use Rattle.heads.specs.Alarms.{due_by}
use Rattle.heads.specs.declared.alarms.Class.{Class}
use Rattle.heads.specs.declared.alarms.Class.TheVariants.{Zero, Majority}
use Rattle.heads.specs.Rules.{Scheme, of_ballots, class_of, strict, noisy, adopted, says, keeps, stopped}
use Rattle.runs.proofs.Tests.{Or, decide, and_left, and_right, and_both, or_left, or_right, or_cases, cond-true, cond-false, holds, is_false}
use Rattle.runs.proofs.Counts.{count_pos, count_none, count_lone, count_same}

-- ---- the heads by their numbers; a number that names no head has a record that is stopped

abbrev pub Heads : Type 0 → Type 0
Heads B = ℕ → Head B

abbrev pub is_running : State → Bool
is_running Running = true
is_running Decided = false
is_running Stopped = false

abbrev pub is_decided : State → Bool
is_decided Running = false
is_decided Decided = true
is_decided Stopped = false

abbrev pub runs : {B : Type 0} → Heads B → ℕ → Bool
runs st i = is_running (st i).state

abbrev pub done : {B : Type 0} → Heads B → ℕ → Bool
done st i = is_decided (st i).state

-- a head that has not stopped
abbrev pub Alive : {B : Type 0} → Heads B → ℕ → Type 0
Alive st i = T (runs st i) ⊎ T (done st i)

pub not_both : (x : State) → T (is_running x) → T (is_decided x) → ⊥
not_both Running a b = b
not_both Decided a b = a
not_both Stopped a b = a

-- ---- what happened in a round

pub record Events (B : Type 0) : Type 0 where
  pub turn : ℕ → Bool
  -- word i j: head i heard head j
  pub word : ℕ → ℕ → Bool
  pub alarm : ℕ → Bool
  pub stop : ℕ → Bool
  -- the ballots that head i heard
  pub ballots : ℕ → Ballots B

-- t: how many messages head i heard
abbrev pub heard : {B : Type 0} → Events B → ℕ → ℕ
heard q i = count 64 (q.word i)

abbrev pub hears : {B : Type 0} → Events B → ℕ → Heard B
hears q i = record { count = heard q i; ballots = q.ballots i; alarm = q.alarm i }

-- head i sends in the round after r heard ones
abbrev pub sends : {B : Type 0} → Scheme B → ℕ → Heads B → Events B → ℕ → Bool
sends s r st q i = runs st i && says s (r + 1) (q.turn i) (st i)

-- c: how many heads send
abbrev pub total : {B : Type 0} → Scheme B → ℕ → Heads B → Events B → ℕ
total s r st q = count 64 (sends s r st q)

-- the heads after r heard rounds, and after one more
pub record Step {B : Type 0} (s : Scheme B) (r : ℕ) (st : Heads B) (q : Events B) (st' : Heads B) : Type 0 where
  pub turns_run : (i : ℕ) → T (q.turn i) → T (runs st i)
  pub senders_heard : (i j : ℕ) → T (q.word i j) → T (sends s r st q j)
  pub alarms_due : (i : ℕ) → T (runs st i) → T (due_by (class_of s) (total s r st q) (heard q i)) → T (q.alarm i)
  pub none_false : T (strict s) → (i : ℕ) → T (q.alarm i) → heard q i ≡ total s r st q → ⊥
  -- the ballots heard, in a round of ballots
  pub none_heard : T (of_ballots s (r + 1)) → (i : ℕ) → (q.ballots i).least ≡ None → (j : ℕ) → T (q.word i j) → ⊥
  pub least_heard : T (of_ballots s (r + 1)) → (i : ℕ) (b : B) → (q.ballots i).least ≡ Some b → (j : ℕ) × T (q.word i j) × ((st j).estimate ≡ b)
  pub one_heard : T (of_ballots s (r + 1)) → (i : ℕ) → (q.ballots i).differ ≡ false → (j k : ℕ) → T (q.word i j) → T (q.word i k) → (st j).estimate ≡ (st k).estimate
  pub two_heard : T (of_ballots s (r + 1)) → (i : ℕ) → (q.ballots i).differ ≡ true → (j : ℕ) × (k : ℕ) × T (q.word i j) × T (q.word i k) × ((st j).estimate ≢ (st k).estimate)
  -- what becomes of each head
  pub idle : (i : ℕ) → (T (runs st i) → ⊥) → st' i ≡ st i
  pub halts : (i : ℕ) → T (runs st i) → T (q.stop i) → st' i ≡ stopped (st i)
  pub goes_on : (i : ℕ) → T (runs st i) → (T (q.stop i) → ⊥) → st' i ≡ keeps s (r + 1) (hears q i) (st i)

-- a round in which one head alone has a turn, no alarm is false, and a lone sender is heard by all
pub record Quiet {B : Type 0} (s : Scheme B) (r : ℕ) (st : Heads B) (q : Events B) : Type 0 where
  pub holder : ℕ
  pub holder_turn : T (q.turn holder)
  pub lone_turn : (i : ℕ) → T (q.turn i) → i ≡ holder
  pub no_false : (i : ℕ) → T (q.alarm i) → heard q i ≡ total s r st q → ⊥
  pub lone_heard : total s r st q ≡ 1 → (i j : ℕ) → T (runs st i) → T (sends s r st q j) → T (q.word i j)

abbrev pub Small : {B : Type 0} → Heads B → Type 0
Small st = (i : ℕ) → Alive st i → i < 64

abbrev pub NoHeadRuns : {B : Type 0} → Heads B → Type 0
NoHeadRuns st = (i : ℕ) → T (runs st i) → ⊥

due_deaf : (k : Class) (c : ℕ) → 0 < c → T (due_by k c 0)
due_deaf Zero c l = and_both (ltb 0 c) true (holds (lt-ltb 0 c l)) tt
due_deaf Majority c l = and_both (ltb 0 c) (leb (2 * 0) c) (holds (lt-ltb 0 c l)) (holds (le-leb (2 * 0) c (omega arith)))

lt_ltb_not : (x : ℕ) → (T (ltb 0 x) → ⊥) → x ≤ 0
lt_ltb_not x f = ltb-false 0 x (is_false (ltb 0 x) f)

-- ---- what holds in every vote

module _ {B : Type 0} {s : Scheme B} {r : ℕ} {st : Heads B} {q : Events B} {st' : Heads B} (d : Step s r st q st') where
  pub sender_runs : (j : ℕ) → T (sends s r st q j) → T (runs st j)
  sender_runs j t = and_left (runs st j) (says s (r + 1) (q.turn j) (st j)) t

  -- a head that still runs went on by the rules
  pub runs_back : (i : ℕ) → T (runs st' i) → T (runs st i) × (T (q.stop i) → ⊥)
  runs_back i t = go (decide (runs st i)) (decide (q.stop i))
    where
      go : Or (runs st i) → Or (q.stop i) → T (runs st i) × (T (q.stop i) → ⊥)
      go (inr v) w = absurd (v (subst (λ (h : Head B). T (is_running h.state)) (d.idle i v) t))
      go (inl u) (inl p) = absurd (subst (λ (h : Head B). T (is_running h.state)) (d.halts i u p) t)
      go (inl u) (inr w) = (u, w)

  pub went : (i : ℕ) → T (runs st' i) → st' i ≡ keeps s (r + 1) (hears q i) (st i)
  went i t = let b = runs_back i t in d.goes_on i b.0 b.1

  -- a head that has decided had decided before, or ran and went on
  pub done_back : (i : ℕ) → T (done st' i) → (T (done st i) × (st' i ≡ st i)) ⊎ (T (runs st i) × (st' i ≡ keeps s (r + 1) (hears q i) (st i)))
  done_back i t = go (decide (runs st i)) (decide (q.stop i))
    where
      go : Or (runs st i) → Or (q.stop i) → (T (done st i) × (st' i ≡ st i)) ⊎ (T (runs st i) × (st' i ≡ keeps s (r + 1) (hears q i) (st i)))
      go (inr v) p = inl (subst (λ (h : Head B). T (is_decided h.state)) (d.idle i v) t, d.idle i v)
      go (inl u) (inl p) = absurd (subst (λ (h : Head B). T (is_decided h.state)) (d.halts i u p) t)
      go (inl u) (inr p) = inr (u, d.goes_on i u p)

  pub alive_back : (i : ℕ) → Alive st' i → Alive st i
  alive_back i (inl t) = inl (runs_back i t).0
  alive_back i (inr t) = go (done_back i t)
    where
      go : (T (done st i) × (st' i ≡ st i)) ⊎ (T (runs st i) × (st' i ≡ keeps s (r + 1) (hears q i) (st i))) → Alive st i
      go (inl w) = inr w.0
      go (inr w) = inl w.0

  pub small_on : Small st → Small st'
  small_on small i a = small i (alive_back i a)

  pub none_on : NoHeadRuns st → NoHeadRuns st'
  none_on none i t = none i (runs_back i t).0

  -- a decision is never undone
  pub done_stays : (i : ℕ) → T (done st i) → st' i ≡ st i
  done_stays i t = d.idle i (λ u. not_both (st i).state u t)

  -- the estimate that a head takes in a round of ballots is that of some head that has not stopped
  pub adopted_from : T (of_ballots s (r + 1)) → (i : ℕ) → (k : ℕ) × (Alive st i → Alive st k) × (adopted (hears q i) (st i).estimate ≡ (st k).estimate)
  adopted_from b i = by_alarm (decide (q.alarm i))
    where
      Found : B → Type 0
      Found x = (k : ℕ) × (Alive st i → Alive st k) × (x ≡ (st k).estimate)

      by_least : (o : Option B) → (q.ballots i).least ≡ o → Found (unwrap_or o (st i).estimate)
      by_least None e = (i, λ a. a, refl)
      by_least (Some x) e =
          let f = d.least_heard b i x e in
          (f.0, λ a. inl (sender_runs f.0 (d.senders_heard i f.0 f.1)), sym f.2)

      by_alarm : Or (q.alarm i) → Found (adopted (hears q i) (st i).estimate)
      by_alarm (inl a) = (i, λ x. x, cond-true (q.alarm i) (st i).estimate _ a)
      by_alarm (inr a) =
          let f = by_least (q.ballots i).least refl in
          (f.0, f.1, cond-false (q.alarm i) (st i).estimate (unwrap_or (q.ballots i).least (st i).estimate) a ∙ f.2)

  -- where a running head has no noise, no head sends
  pub silence : Small st → (i : ℕ) → T (runs st i) → (T (noisy (hears q i)) → ⊥) → (k : ℕ) → T (sends s r st q k) → ⊥
  silence small i u quiet k t =
      quiet (or_right (ltb 0 (heard q i)) (q.alarm i) (d.alarms_due i u (subst (λ (x : ℕ). T (due_by (class_of s) (total s r st q) x)) (sym zero_heard) (due_deaf (class_of s) (total s r st q) some-sent))))
    where
      some-sent : 0 < total s r st q
      some-sent = count_pos (sends s r st q) 64 k (small k (inl (sender_runs k t))) t

      zero_heard : heard q i ≡ 0
      zero_heard = let l : heard q i ≤ 0 = lt_ltb_not (heard q i) (λ x. quiet (or_left (ltb 0 (heard q i)) (q.alarm i) x)) in omega arith

  -- ---- calm rounds by turns

  module _ (C : Quiet s r st q) where
    -- noise comes from a sender
    pub no_noise : ((j : ℕ) → T (sends s r st q j) → ⊥) → (i : ℕ) → T (noisy (hears q i)) → ⊥
    no_noise nobody i t = go (or_cases (ltb 0 (heard q i)) (q.alarm i) t)
      where
        deaf : heard q i ≡ 0
        deaf = count_none (q.word i) 64 (λ j l w. nobody j (d.senders_heard i j w))

        go : T (ltb 0 (heard q i)) ⊎ T (q.alarm i) → ⊥
        go (inl x) = let l = ltb→lt 0 (heard q i) x in omega (arith, deaf)
        go (inr x) = C.no_false i x (deaf ∙ sym (count_none (sends s r st q) 64 (λ j l. nobody j)))

    -- a calm round of ballots: all hear the one head that has a turn
    module _ (b : T (of_ballots s (r + 1))) (by_turn : (t : Bool) (h : Head B) → says s (r + 1) t h ≡ t) (small : Small st) where
      sends_turn : (j : ℕ) → T (sends s r st q j) → T (q.turn j)
      sends_turn j t = subst T (by_turn (q.turn j) (st j)) (and_right (runs st j) (says s (r + 1) (q.turn j) (st j)) t)

      holder_runs : T (runs st C.holder)
      holder_runs = d.turns_run C.holder C.holder_turn

      holder_sends : T (sends s r st q C.holder)
      holder_sends = and_both (runs st C.holder) _ holder_runs (subst T (sym (by_turn (q.turn C.holder) (st C.holder))) C.holder_turn)

      one_sent : total s r st q ≡ 1
      one_sent = count_lone (sends s r st q) C.holder holder_sends (λ j t. C.lone_turn j (sends_turn j t)) 64 (small C.holder (inl holder_runs))

      all_heard : (i : ℕ) → T (runs st i) → (j : ℕ) → T (sends s r st q j) → T (q.word i j)
      all_heard i u j t = C.lone_heard one_sent i j u t

      holder_heard : (i : ℕ) → T (runs st i) → T (q.word i C.holder)
      holder_heard i u = all_heard i u C.holder holder_sends

      is_holder : (i j : ℕ) → T (q.word i j) → j ≡ C.holder
      is_holder i j w = C.lone_turn j (sends_turn j (d.senders_heard i j w))

      pub quiet_alarm : (i : ℕ) → T (runs st i) → T (q.alarm i) → ⊥
      quiet_alarm i u a = C.no_false i a (count_same (q.word i) (sends s r st q) (d.senders_heard i) (all_heard i u) 64)

      pub quiet_least : (i : ℕ) → T (runs st i) → (q.ballots i).least ≡ Some (st C.holder).estimate
      quiet_least i u = go (q.ballots i).least refl
        where
          go : (o : Option B) → (q.ballots i).least ≡ o → o ≡ Some (st C.holder).estimate
          go None e = absurd (d.none_heard b i e C.holder (holder_heard i u))
          go (Some x) e = let f = d.least_heard b i x e in ap Some (sym f.2 ∙ ap (λ (k : ℕ). (st k).estimate) (is_holder i f.0 f.1))

      pub quiet_same : (i : ℕ) → T (runs st i) → (q.ballots i).differ ≡ false
      quiet_same i u = go (q.ballots i).differ refl
        where
          go : (x : Bool) → (q.ballots i).differ ≡ x → x ≡ false
          go false e = refl
          go true e =
              let f = d.two_heard b i e in
              absurd (f.4 (ap (λ (k : ℕ). (st k).estimate) (is_holder i f.0 f.2 ∙ sym (is_holder i f.1 f.3))))

      pub quiet_adopts : (i : ℕ) → T (runs st i) → adopted (hears q i) (st i).estimate ≡ (st C.holder).estimate
      quiet_adopts i u =
          cond-false (q.alarm i) (st i).estimate (unwrap_or (q.ballots i).least (st i).estimate) (quiet_alarm i u)
          ∙ ap (λ o. unwrap_or o (st i).estimate) (quiet_least i u)
