-- The promise holds.
use Rattle.std.proofs.Common.{◌≡◌, ℕ, zero, suc, ◌+◌, ◌<◌, ◌≤◌, Bool, cond, T, ltb, ◌⊎◌, List, Some, unwrap_or, sym, refl, ap, ◌∙◌, subst, inl, inr, arith}
use Rattle.std.proofs.lemmas.Bool.{lt-ltb, le-ltb}
use Rattle.std.specs.List.{slice_get}
use Rattle.ballots.specs.Order.{Total}
use Rattle.heads.specs.declared.head.Head.{Head}
use Rattle.heads.specs.declared.head.State.{State}
use Rattle.heads.specs.declared.head.State.TheVariants.{Running, Decided, Stopped}
use Rattle.heads.specs.Rules.{Scheme, Fit, calm_bound, stopped, fresh}
use Rattle.votes.specs.declared.stages.Vote.{Vote}
use Rattle.runs.specs.Driving.{driving}
use Rattle.runs.specs.Chains.{Stage, voting, rounds, Calls, Begins}
use Rattle.runs.specs.Promise.{Steps, Promise}
use Rattle.runs.proofs.Tests.{holds, fails, cond-true, cond-false}
use Rattle.runs.proofs.Steps.{Heads, is_running, is_decided, done, NoHeadRuns}
use Rattle.runs.proofs.Votes.{Inv, inv_base, left_all, left_none, agrees, brings, Left}
use Rattle.runs.proofs.Views.{same_some}
use Rattle.runs.proofs.Chained.{Good, good_on, kept_on}
use Rattle.runs.proofs.Fitted.{carries_out, calm_in_time}
use Rattle.runs.specs.Promise.Steps.{none as no_step}

module _ {V B : Type 0} (earlier : B → B → Bool) (order : Total earlier) (s : Scheme B) (fit : Fit s) where
  module _ (vote : Vote V) (start : List (Head B)) (b : Begins vote start) where
    abbrev n : ℕ
    n = vote.n

    -- head 0 is there; its record stands in for numbers that name no head
    abbrev someone : Head B
    someone = fresh (b.enrolled 0 b.some).0

    abbrev st₀ : Heads B
    st₀ i = cond (ltb i n) (unwrap_or (slice_get start i) someone) (stopped someone)

    abbrev brought : ℕ → B
    brought i = (st₀ i).first

    first_is : (i : ℕ) (l : i < n) → st₀ i ≡ fresh (b.enrolled i l).0
    first_is i l = cond-true (ltb i n) _ _ (holds (lt-ltb i n l)) ∙ ap (λ o. unwrap_or o someone) (b.enrolled i l).1

    first_fresh : (i : ℕ) → i < n → st₀ i ≡ fresh (brought i)
    first_fresh i l = first_is i l ∙ ap fresh (sym (ap (λ (h : Head B). h.first) (first_is i l)))

    first_past : (i : ℕ) → n ≤ i → (st₀ i).state ≡ Stopped
    first_past i l = ap (λ (h : Head B). h.state) (cond-false (ltb i n) _ _ (fails (le-ltb i n l)))

    first_reads : (i : ℕ) → i < n → slice_get start i ≡ Some (st₀ i)
    first_reads i l = (b.enrolled i l).1 ∙ ap Some (sym (first_is i l))

    begins_good : Good earlier order s fit n vote.few brought st₀ (voting vote) start 0
    begins_good = record {
      roll = refl;
      held = record {
        st = st₀;
        view = record { long = b.long; reads = first_reads; past = first_past };
        inv = subst (λ (r : ℕ). Inv n brought s fit r st₀) (sym b.no_round) (inv_base n brought vote.few (record { enrolled = first_fresh; past = first_past }) s fit);
        ahead = inr (calm_bound s, omega arith, left_all s fit vote.heard st₀);
        steps = λ i l. subst (λ (r : ℕ). Steps s (st₀ i) r (st₀ i)) (sym b.no_round) no_step;
      };
      facts = tt;
    }

    abbrev Kept : Stage V → List (Head B) → ℕ → Type 0
    Kept g hs k = Good earlier order s fit n vote.few brought st₀ g hs k

    kept : (g : Stage V) (hs : List (Head B)) (k : ℕ) → Calls earlier s (voting vote) start 0 g hs k → Kept g hs k
    kept g hs k c = good_on earlier order s fit n vote.few brought st₀ begins_good c

    module _ (g : Stage V) (hs : List (Head B)) (k : ℕ) (good : Kept g hs k) where
      abbrev st : Heads B
      st = good.held.st

      reads : (i : ℕ) → i < n → (h : Head B) → slice_get hs i ≡ Some h → st i ≡ h
      reads i l h e = same_some (sym (good.held.view.reads i l) ∙ e)

      decided_done : (i : ℕ) → i < n → (h : Head B) → slice_get hs i ≡ Some h → h.state ≡ Decided → T (done st i)
      decided_done i l h e d = subst (λ (x : State). T (is_decided x)) (sym (ap (λ (y : Head B). y.state) (reads i l h e) ∙ d)) tt

      ruled : (i : ℕ) → i < n → (h₀ h : Head B) → slice_get start i ≡ Some h₀ → slice_get hs i ≡ Some h → Steps s h₀ (rounds g) h
      ruled i l h₀ h e₀ e =
          subst (λ (x : Head B). Steps s x (rounds g) h) (same_some (sym (first_reads i l) ∙ e₀))
          (subst (λ (x : Head B). Steps s (st₀ i) (rounds g) x) (reads i l h e) (good.held.steps i l))

      agreement : (i j : ℕ) → i < n → j < n → (x y : Head B) → slice_get hs i ≡ Some x → slice_get hs j ≡ Some y → x.state ≡ Decided → y.state ≡ Decided → x.estimate ≡ y.estimate
      agreement i j l m x y e f d d' =
          sym (ap (λ (h : Head B). h.estimate) (reads i l x e))
          ∙ agrees n brought s fit (rounds g) st good.held.inv i j (decided_done i l x e d) (decided_done j m y f d')
          ∙ ap (λ (h : Head B). h.estimate) (reads j m y f)

      validity : (i : ℕ) → i < n → (h : Head B) → slice_get hs i ≡ Some h → h.state ≡ Decided → (j : ℕ) × (j < n) × (slice_get start j ≡ Some (fresh h.estimate))
      validity i l h e d =
          let v = brings n brought s fit (rounds g) st good.held.inv i (decided_done i l h e d) in
          (v.0, v.1, first_reads v.0 v.1 ∙ ap Some (first_fresh v.0 v.1 ∙ ap fresh (v.2 ∙ ap (λ (x : Head B). x.estimate) (reads i l h e))))

      ends : calm_bound s ≤ k → (i : ℕ) → i < n → (h : Head B) → slice_get hs i ≡ Some h → h.state ≡ Running → ⊥
      ends long i l h e r = over good.held.ahead i (subst (λ (x : State). T (is_running x)) (sym (ap (λ (y : Head B). y.state) (reads i l h e) ∙ r)) tt)
        where
          over : NoHeadRuns st ⊎ ((m : ℕ) × (m + k ≡ calm_bound s) × Left s fit (rounds g) st m) → NoHeadRuns st
          over (inl f) = f
          over (inr (zero, e, L)) = left_none n brought s fit (rounds g) st good.held.inv L
          over (inr (suc m, e, L)) = absurd (omega arith)

  pub promised : Promise V B earlier s
  promised = record {
    ruled = λ vote start b g hs k c. ruled vote start b g hs k (kept vote start b g hs k c);
    agreement = λ vote start b g hs k c. agreement vote start b g hs k (kept vote start b g hs k c);
    validity = λ vote start b g hs k c. validity vote start b g hs k (kept vote start b g hs k c);
    irrevocable = λ vote start b g hs k c g' hs' k' c' i l h e d.
        kept_on earlier order s fit vote.n vote.few (brought vote start b) (st₀ vote start b) (kept vote start b g hs k c) c' i h l e d;
    ends = λ vote start b g hs k c. ends vote start b g hs k (kept vote start b g hs k c);
    carried_out = λ vote hs stops list p f. carries_out (driving s vote hs stops p) vote.few f list;
    calm_driving = λ vote hs stops list p f kind e late. calm_in_time (driving s vote hs stops p) vote.few f list kind e late;
  }
