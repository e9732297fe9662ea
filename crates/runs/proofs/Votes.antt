-- The three votes' invariants and calm rounds, under one name each.
use Rattle.std.proofs.Common.{◌≡◌, ℕ, suc, ◌+◌, ◌<◌, ◌≤◌, T, ◌⊎◌, sym, ap, ◌∙◌, subst, inl, inr, arith}
use Rattle.std.proofs.lemmas.Bool.{cases_lt}
use Rattle.heads.specs.declared.head.Head.{Head}
use Rattle.heads.specs.declared.head.State.{State}
use Rattle.heads.specs.declared.head.State.TheVariants.{Stopped}
use Rattle.heads.specs.Rules.{Scheme, Fit, odd, Calmness, calmness, calm_bound, fresh}
use Rattle.heads.specs.Rules.Scheme.{short, bitwise, split}
use Rattle.heads.specs.Rules.Calmness.{one_turn, no_stop}
use Rattle.runs.proofs.Steps.{Heads, is_running, is_decided, done, Alive, Events, Step, Quiet, Small, NoHeadRuns}
use Rattle.runs.proofs.Short as of-short
use Rattle.runs.proofs.Bitwise as of-bits
use Rattle.runs.proofs.Split as of-split

-- the heads of a vote just begun
pub record Fresh {B : Type 0} (n : ℕ) (first : ℕ → B) (st : Heads B) : Type 0 where
  pub enrolled : (i : ℕ) → i < n → st i ≡ fresh (first i)
  pub past : (i : ℕ) → n ≤ i → (st i).state ≡ Stopped

abbrev pub CalmAt : {B : Type 0} → Calmness → Scheme B → ℕ → Heads B → Events B → Type 0
CalmAt one_turn s r st q = Quiet s r st q
CalmAt no_stop s r st q = (i : ℕ) → T (q.stop i) → ⊥

-- a calm round, head by head
abbrev pub CalmStep : {B : Type 0} → Scheme B → ℕ → Heads B → Events B → Type 0
CalmStep s r st q = CalmAt (calmness s) s r st q

-- m calm rounds are enough until no head runs
abbrev pub Left : {B : Type 0} (s : Scheme B) → Fit s → ℕ → Heads B → ℕ → Type 0
Left short fit r st m = of-short.Left r st m
Left (bitwise w code) fit r st m = of-bits.Left w code fit.0 fit.1 r st m
Left (split w code back) fit r st m = of-split.Left w code back fit r st m

pub left_all : {B : Type 0} (s : Scheme B) (fit : Fit s) (r : ℕ) (st : Heads B) → Left s fit r st (calm_bound s)
left_all short fit r st = of-short.left_all r st
left_all (bitwise w code) fit r st = of-bits.left_all w code fit.0 fit.1 r st
left_all (split w code back) fit r st = of-split.left_all w code back fit r st

module _ {B : Type 0} (n : ℕ) (first : ℕ → B) where
  abbrev pub Inv : (s : Scheme B) → Fit s → ℕ → Heads B → Type 0
  Inv short fit r st = of-short.Inv n first r st
  Inv (bitwise w code) fit r st = of-bits.Inv w code fit.0 fit.1 n first r st
  Inv (split w code back) fit r st = of-split.Inv w code back fit n first r st

  -- ---- a vote just begun

  module _ {st : Heads B} (few : n ≤ 64) (f : Fresh n first st) where
    alive_first : (i : ℕ) → Alive st i → (i < n) × (st i ≡ fresh (first i))
    alive_first i a = go (cases_lt i n)
      where
        stopped_head : (x : State) → x ≡ Stopped → T (is_running x) ⊎ T (is_decided x) → ⊥
        stopped_head x e (inl t) = subst (λ (y : State). T (is_running y)) e t
        stopped_head x e (inr t) = subst (λ (y : State). T (is_decided y)) e t

        go : (i < n) ⊎ (n ≤ i) → (i < n) × (st i ≡ fresh (first i))
        go (inl l) = (l, f.enrolled i l)
        go (inr l) = absurd (stopped_head (st i).state (f.past i l) a)

    none_done : (i : ℕ) → T (done st i) → ⊥
    none_done i t = subst (λ (h : Head B). T (is_decided h.state)) (alive_first i (inr t)).1 t

    small_first : Small st
    small_first i a = let l = (alive_first i a).0 in omega arith

    brought : (i : ℕ) → Alive st i → (j : ℕ) × (j < n) × (first j ≡ (st i).estimate)
    brought i a = let w = alive_first i a in (i, w.0, sym (ap (λ (h : Head B). h.estimate) w.1))

    first_round : T (odd (0 + 1))
    first_round = tt

    pub inv_base : (s : Scheme B) (fit : Fit s) → Inv s fit 0 st
    inv_base short fit = record {
      small = small_first;
      valid = brought;
      agree = λ i j t a. absurd (none_done i t);
      mid = λ even. absurd (even first_round);
    }
    inv_base (bitwise w code) fit = record {
      small = small_first;
      valid = brought;
      agree = λ i j t a. absurd (none_done i t);
      bits = of-bits.bits_none w code fit.0 fit.1 st;
    }
    inv_base (split w code back) fit = record {
      few = few;
      roll = λ i a. (alive_first i a).0;
      own = λ i l. ap (λ (h : Head B). h.first) (f.enrolled i l);
      shared = λ i j u v. ap (λ (h : Head B). h.prefix) (alive_first i (inl u)).1 ∙ sym (ap (λ (h : Head B). h.prefix) (alive_first j (inl v)).1);
      noise = λ i j u v. ap (λ (h : Head B). h.noise) (alive_first i (inl u)).1 ∙ sym (ap (λ (h : Head B). h.noise) (alive_first j (inl v)).1);
      together = λ i j t u. none_done i t;
      agree = λ i j t u. absurd (none_done i t);
      brought = λ i t. absurd (none_done i t);
      short = λ i u. of-split.short_none w code back fit (st i) (first i) (alive_first i (inl u)).1;
      valid = λ i u. (i, (alive_first i (inl u)).0, of-split.valid_none w code back fit (st i) (first i) (alive_first i (inl u)).1);
      noisy_valid = λ even. absurd (even first_round);
    }

  -- ---- one round more

  pub inv_step : (s : Scheme B) (fit : Fit s) {r : ℕ} {st : Heads B} {q : Events B} {st' : Heads B} → Step s r st q st' → Inv s fit r st → Inv s fit (r + 1) st'
  inv_step short fit d I = of-short.inv_step d I
  inv_step (bitwise w code) fit d I = of-bits.inv_step w code fit.0 fit.1 d I
  inv_step (split w code back) fit d I = of-split.inv_step w code back fit I d

  -- ---- what the invariants say of decided heads

  pub agrees : (s : Scheme B) (fit : Fit s) (r : ℕ) (st : Heads B) → Inv s fit r st → (i j : ℕ) → T (done st i) → T (done st j) → (st i).estimate ≡ (st j).estimate
  agrees short fit r st I i j t u = I.agree i j t (inr u)
  agrees (bitwise w code) fit r st I i j t u = I.agree i j t (inr u)
  agrees (split w code back) fit r st I i j t u = I.agree i j t u

  pub brings : (s : Scheme B) (fit : Fit s) (r : ℕ) (st : Heads B) → Inv s fit r st → (i : ℕ) → T (done st i) → (j : ℕ) × (j < n) × (first j ≡ (st i).estimate)
  brings short fit r st I i t = I.valid i (inr t)
  brings (bitwise w code) fit r st I i t = I.valid i (inr t)
  brings (split w code back) fit r st I i t = I.brought i t

  -- ---- calm rounds

  pub left_none : (s : Scheme B) (fit : Fit s) (r : ℕ) (st : Heads B) → Inv s fit r st → Left s fit r st 0 → NoHeadRuns st
  left_none short fit r st I L = of-short.left_none L
  left_none (bitwise w code) fit r st I L = of-bits.left_none w code fit.0 fit.1 L
  left_none (split w code back) fit r st I L = of-split.left_none w code back fit I L

  pub left_step : (s : Scheme B) (fit : Fit s) {r : ℕ} {st : Heads B} {q : Events B} {st' : Heads B} → Step s r st q st' → Inv s fit r st → CalmStep s r st q
      → (m : ℕ) → Left s fit r st (suc m) → Left s fit (r + 1) st' m
  left_step short fit d I C m L = of-short.left_step I.small d C L
  left_step (bitwise w code) fit d I C m L = of-bits.left_step w code fit.0 fit.1 I.small d C L
  left_step (split w code back) fit d I C m L = of-split.left_step w code back fit I d C m L
