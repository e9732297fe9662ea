-- Drivings, one after the other, are a chain of calls.
use Rattle.std.proofs.Common.{◌≡◌, ℕ, zero, suc, ◌+◌, ◌≤◌, Bool, true, false, cond, ltb, ◌⊎◌, List, length, replicate, Some, None, Ok, Err, Option, Result, sym, refl, ap, ◌∙◌, subst, inl, inr, arith}
use Rattle.std.proofs.lemmas.Bool.{le-ltb, ltb-false, true≢false}
use Rattle.ballots.specs.Faults.{Breach, in_round}
use Rattle.heads.specs.declared.head.Head.{Head}
use Rattle.heads.specs.Rules.{Scheme, calmness}
use Rattle.votes.specs.declared.stages.Vote.{Vote}
use Rattle.votes.specs.declared.stages.Figures.{Figures}
use Rattle.votes.specs.Rounds.{after}
use Rattle.votes.specs.Calls.{unless, changed, begun_as, figures_of, short_table, rounds_spent}
use Rattle.runs.specs.Calm.{Calm}
use Rattle.runs.specs.Driving.{Parts, Driving, turns, runners, sending, alarms, report, drive_breach, drive_answer, driven, driven_table}
use Rattle.runs.specs.Chains.{Stage, voting, whole, standing, Counts, Calls, drives}
use Rattle.runs.proofs.Tests.{fails, cond-false}
use Rattle.runs.proofs.Views.{none_both, when_none, after_length}
use Rattle.runs.proofs.Drivings.{DrivenOn, driven_on}
use Rattle.runs.proofs.Fitted.{sending_below}
use Rattle.cases.specs.Plays.{unless_broken, driving_at, driven_one, drives as drivesFor}
use Rattle.cases.proofs.Calmly.{calm_test, calm_by}

module _ {B : Type 0} (earlier : B → B → Bool) (s : Scheme B) (parts : Parts) (stops : ℕ → ℕ) (n : ℕ) (few : n ≤ 64) where
  abbrev is_calm : Driving B → Bool
  is_calm d = calm_test (calmness s) (turns d) (runners d) (sending d) (report d)

  -- how many calm rounds in a row there are after m drivings more
  unfoldable pub tally : ℕ → ℕ → Result (List (Head B)) Breach → ℕ → ℕ
  tally zero r hs k = k
  tally (suc m) r (Err b) k = k
  tally (suc m) r (Ok hs) k =
      tally m (r + 1) (driven_one earlier s n (driving_at earlier s n parts stops r hs)) (cond (is_calm (driving_at earlier s n parts stops r hs)) (k + 1) 0)

  abbrev pub vote_at : (r : ℕ) → r ≤ 10000 → Vote (Unit {0})
  vote_at r l = record { n = n; heard = r; method = tt; few = few; rounds = l }

  module _ (from : Stage (Unit {0})) (start : List (Head B)) (k₀ : ℕ) where
    abbrev Reached : ℕ → List (Head B) → ℕ → Type 0
    Reached r hs k = (l : r ≤ 10000) × Calls earlier s from start k₀ (voting (vote_at r l)) hs k

    one_more : {r : ℕ} {hs : List (Head B)} {k : ℕ} → Reached r hs k → drive_breach (driving_at earlier s n parts stops r hs) (replicate n 0) ≡ None
        → Reached (r + 1) (after earlier s n (sending (driving_at earlier s n parts stops r hs)) (r + 1) hs (report (driving_at earlier s n parts stops r hs))) (cond (is_calm (driving_at earlier s n parts stops r hs)) (k + 1) 0)
    one_more {r} {hs} {k} (l, c) e = (
      within_time,
      subst (λ (x : List (Head B)). Calls earlier s from start k₀ (voting (vote_at (r + 1) within_time)) x k') table_is
          (drives c hs (whole on.long (λ i m. refl)) (stops (r + 1)) (replicate n 0) parts (Ok (record { vote = vote_at (r + 1) within_time; figures = figures })) answer_is k' counted),
    )
      where
        d : Driving B
        d = driving_at earlier s n parts stops r hs

        on : DrivenOn d
        on = driven_on d (replicate n 0) e

        k' : ℕ
        k' = cond (is_calm d) (k + 1) 0

        within_time : r + 1 ≤ 10000
        within_time =
            let a = none_both (short_table n hs) _ on.opened in
            ltb-false 10000 (r + 1) (when_none (ltb 10000 (r + 1)) (in_round 5 (r + 1)) (none_both (rounds_spent (r + 1)) _ a.1).0)

        moved : List (Head B)
        moved = after earlier s n (sending d) (r + 1) hs (report d)

        figures : Figures
        figures = figures_of n (r + 1) (sending d) (alarms d) moved

        answer_is : drive_answer (Ok (record { vote = vote_at (r + 1) within_time; figures = figures })) ≡ driven earlier (vote_at r l) d (replicate n 0)
        answer_is = sym (ap (λ o. unless o (record { n = n; heard = r + 1; method = tt }, figures) (begun_as (vote_at r l))) e)

        table_is : standing n hs (driven_table d earlier (replicate n 0)) ≡ moved
        table_is =
            ap (λ o. standing n hs (changed o moved hs)) e
            ∙ cond-false (ltb (length moved) n) hs moved (fails (le-ltb (length moved) n (let same = after_length earlier s n (sending d) (r + 1) hs (report d) in let m = on.long in omega arith)))

        counted : Counts (drive_breach d (replicate n 0)) (Calm s (turns d) (runners d) (sending d) (report d)) k k'
        counted = subst (λ o. Counts o (Calm s (turns d) (runners d) (sending d) (report d)) k k') (sym e) (by (is_calm d) refl)
          where
            by : (b : Bool) → is_calm d ≡ b → (cond b (k + 1) 0 ≡ 0) ⊎ (Calm s (turns d) (runners d) (sending d) (report d) × (cond b (k + 1) 0 ≡ k + 1))
            by true f = inr (calm_by (calmness s) (turns d) (runners d) (sending d) (report d) (sending_below s (r + 1) hs n (turns d) few) f, refl)
            by false f = inl refl

    is_ok : Result (List (Head B)) Breach → Bool
    is_ok (Ok x) = true
    is_ok (Err x) = false

    err-stays : (m r : ℕ) (b : Breach) (hs' : List (Head B)) → drivesFor earlier s n parts stops m r (Err b) ≡ Ok hs' → ⊥
    unfolding drivesFor is_ok
    err-stays zero r b hs' e = true≢false (sym (ap is_ok e))
    err-stays (suc m) r b hs' e = true≢false (sym (ap is_ok e))

    ok_same : (a b : List (Head B)) → ◌≡◌ {A = Result (List (Head B)) Breach} (Ok a) (Ok b) → a ≡ b
    ok_same a b e = cc

    pub chained : (m r : ℕ) (hs hs' : List (Head B)) (k : ℕ) → Reached r hs k → drivesFor earlier s n parts stops m r (Ok hs) ≡ Ok hs'
        → (r' : ℕ) × Reached r' hs' (tally m r (Ok hs) k)
    unfolding drivesFor tally
    chained zero r hs hs' k c e = (r, subst (λ (x : List (Head B)). Reached r x k) (ok_same hs hs' e) c)
    chained (suc m) r hs hs' k c e =
        go (drive_breach (driving_at earlier s n parts stops r hs) (replicate n 0)) refl e (λ f. one_more c f) (λ c' e'. chained m (r + 1) _ hs' _ c' e')
      where
        moved : List (Head B)
        moved = after earlier s n (sending (driving_at earlier s n parts stops r hs)) (r + 1) hs (report (driving_at earlier s n parts stops r hs))

        k' : ℕ
        k' = cond (is_calm (driving_at earlier s n parts stops r hs)) (k + 1) 0

        go : (o : Option Breach) → drive_breach (driving_at earlier s n parts stops r hs) (replicate n 0) ≡ o
            → drivesFor earlier s n parts stops m (r + 1) (unless_broken o moved) ≡ Ok hs'
            → (drive_breach (driving_at earlier s n parts stops r hs) (replicate n 0) ≡ None → Reached (r + 1) moved k')
            → (Reached (r + 1) moved k' → drivesFor earlier s n parts stops m (r + 1) (Ok moved) ≡ Ok hs' → (r' : ℕ) × Reached r' hs' (tally m (r + 1) (Ok moved) k'))
            → (r' : ℕ) × Reached r' hs' (tally m (r + 1) (unless_broken o moved) k')
        go (Some b) f e next ih = absurd (err-stays m (r + 1) b hs' e)
        go None f e next ih = ih (next f) e
