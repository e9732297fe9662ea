-- Every chain of calls from a vote just begun keeps its vote's invariant.
use Rattle.std.proofs.Common.{◌≡◌, ℕ, zero, suc, ◌+◌, ◌<◌, ◌≤◌, Bool, false, cond, ◌&&◌, T, ltb, ◌⊎◌, List, length, Some, None, Ok, Err, Option, Result, sym, refl, ap, ◌∙◌, subst, inl, inr, arith}
use Rattle.std.proofs.lemmas.Bool.{cases_lt, lt-ltb, le-ltb, eq-eqb}
use Rattle.std.specs.List.{slice_get}
use Rattle.sets.specs.Sets.{bit}
use Rattle.ballots.specs.Order.{Total}
use Rattle.ballots.specs.Faults.{Breach}
use Rattle.heads.specs.declared.head.Head.{Head}
use Rattle.heads.specs.declared.head.State.{State}
use Rattle.heads.specs.declared.head.State.TheVariants.{Decided}
use Rattle.heads.specs.Rules.{Scheme, Fit, says, Calmness, calmness, calm_bound}
use Rattle.heads.specs.Rules.Calmness.{one_turn, no_stop}
use Rattle.votes.specs.declared.faults.Refused.{Refused}
use Rattle.votes.specs.declared.stages.Vote.{Vote}
use Rattle.votes.specs.declared.stages.OpenRound.{OpenRound}
use Rattle.votes.specs.declared.stages.HeardRound.{HeardRound}
use Rattle.votes.specs.declared.stages.Figures.{Figures}
use Rattle.votes.specs.Tables.{running}
use Rattle.votes.specs.Rounds.{Report, senders, after}
use Rattle.votes.specs.Calls.{unless, changed, Begun, Opened, begun_as, opened_as, short_table, open_breach, open_answer, opened, withdrawn, hear_breach, figures_of, hear_answer, heard, heard_table}
use Rattle.runs.specs.Calm.{Calm, CalmBy, OneTurn}
use Rattle.runs.specs.Driving.{Parts, Driving, driving, runners, turns, sending, alarms, report, drive_breach, drive_answer, driven, driven_table}
use Rattle.runs.specs.Chains.{Stage, voting, in_open_round, heads, rounds, after_opening, after_hearing, after_driving, Handed, whole, too_short, standing, Counts, Calls, none, opens, withdraws, hears, drives}
use Rattle.runs.specs.Promise.{Steps}
use Rattle.runs.specs.Promise.Steps.{step}
use Rattle.runs.proofs.Tests.{and_left, holds, fails, is_true, cond-true, cond-false}
use Rattle.runs.proofs.Answered.{done_refused, done_same, back_same}
use Rattle.runs.proofs.Counts.{lone_member}
use Rattle.runs.proofs.Steps.{Heads, is_running, runs, Events, Step, Quiet, NoHeadRuns, none_on}
use Rattle.runs.proofs.Votes.{CalmAt, CalmStep, Inv, Left, inv_step, left_all, left_none, left_step}
use Rattle.runs.proofs.Views.{View, on, on_below, on_in, on_out, run_bit, sender_bit, events, step_of, after_length, view_after, after_decided, Accepted, accepted, bit_heard, heard_is, total_is, step_taken, none_both}
use Rattle.runs.proofs.Drivings.{long_table, heard_long, turns_running, DrivenOn, driven_on}

-- ---- what a chain keeps

module _ {B : Type 0} (earlier : B → B → Bool) (order : Total earlier) (s : Scheme B) (fit : Fit s) (n : ℕ) (few : n ≤ 64) (first : ℕ → B) (st₀ : Heads B) where
  -- no head runs, or some more calm rounds will do
  abbrev Ahead : ℕ → Heads B → ℕ → Type 0
  Ahead r st k = NoHeadRuns st ⊎ ((m : ℕ) × (m + k ≡ calm_bound s) × Left s fit r st m)

  pub record Held (r : ℕ) (hs : List (Head B)) (k : ℕ) : Type 0 where
    pub st : Heads B
    pub view : View n hs st
    pub inv : Inv n first s fit r st
    pub ahead : Ahead r st k
    pub steps : (i : ℕ) → i < n → Steps s (st₀ i) r (st i)

  ahead_none : (r : ℕ) (st : Heads B) → Ahead r st 0
  ahead_none r st = inr (calm_bound s, omega arith, left_all s fit r st)

  module _ {r : ℕ} {hs given : List (Head B)} {k : ℕ} (w : Held r hs k) (v : View n given w.st) (turned sending : ℕ) (q : Report)
      (to_running : (i : ℕ) → T (on turned i) → T (runs w.st i))
      (sending_is : (i : ℕ) → bit sending i ≡ (runs w.st i && says s (r + 1) (on turned i) (w.st i)))
      (a : Accepted s n r given sending q) where
    abbrev st : Heads B
    st = w.st

    abbrev ev : Events B
    ev = events earlier s r given turned q

    abbrev st' : Heads B
    st' = step_of earlier s n sending r given q st

    one_round : Step s r st ev st'
    one_round = step_taken earlier order s few r v turned sending q to_running sending_is a

    -- a calm round is calm head by head
    quiet_of : OneTurn turned (running given n) sending q → Quiet s r st ev
    quiet_of c =
        let one = lone_member (bit turned) 64 c.one in
        record {
          holder = one.0;
          holder_turn = on_in turned one.0 one.1 one.2;
          lone_turn = λ i t. one.3 i (on_below turned i t) (on_out turned i t);
          no_false = λ i t e. let l = on_below q.alarms i t in
              fails (c.no_false i l (is_true _ (on_out q.alarms i t)))
              (holds (eq-eqb _ _ (heard_is earlier order s few r v turned sending q to_running sending_is a i l ∙ e ∙ sym (total_is earlier order s few r v turned sending q to_running sending_is a))));
          lone_heard = λ e i j u t. let l = below i u in
              bit_heard earlier order s few r v turned sending q to_running sending_is a i j l (below j (and_left (runs st j) _ t))
              (holds (c.heard (total_is earlier order s few r v turned sending q to_running sending_is a ∙ e) i l (is_true _ (subst T (sym (run_bit few v i)) u)) j (is_true _ (subst T (sym (sending_is j)) t))));
        }
      where
        below : (i : ℕ) → T (runs st i) → i < 64
        below i u = go (cases_lt i n)
          where
            go : (i < n) ⊎ (n ≤ i) → i < 64
            go (inl l) = omega arith
            go (inr l) = absurd (subst (λ (x : State). T (is_running x)) (v.past i l) u)

    calm_of : (c : Calmness) → calmness s ≡ c → CalmBy c turned (running given n) sending q → CalmStep s r st ev
    calm_of one_turn e c = subst (λ (x : Calmness). CalmAt x s r st ev) (sym e) (quiet_of c)
    calm_of no_stop e c = subst (λ (x : Calmness). CalmAt x s r st ev) (sym e) (λ i t. fails (c.none i (on_below q.stops i t)) (on_out q.stops i t))

    calm_goes : CalmStep s r st ev → Ahead r st k → (k' : ℕ) → k' ≡ k + 1 → Ahead (r + 1) st' k'
    calm_goes c (inl f) k' e = inl (none_on one_round f)
    calm_goes c (inr (zero, l, L)) k' e = inl (none_on one_round (left_none n first s fit r st w.inv L))
    calm_goes c (inr (suc m, l, L)) k' e = inr (m, omega arith, left_step n first s fit one_round w.inv c m L)

    heard_on : (k' : ℕ) → (k' ≡ 0) ⊎ (Calm s turned (running given n) sending q × (k' ≡ k + 1)) → Held (r + 1) (after earlier s n sending (r + 1) given q) k'
    heard_on k' c = record {
      st = st';
      view = view_after earlier s few r v sending q;
      inv = inv_step n first s fit one_round w.inv;
      ahead = go c;
      steps = λ i l. subst (λ (h : Head B). Steps s (st₀ i) (r + 1) h) (sym (cond-true (ltb i n) _ _ (holds (lt-ltb i n l)))) (step (w.steps i l) (bit q.stops i) _);
    }
      where
        go : (k' ≡ 0) ⊎ (Calm s turned (running given n) sending q × (k' ≡ k + 1)) → Ahead (r + 1) st' k'
        go (inl e) = subst (λ (x : ℕ). Ahead (r + 1) st' x) (sym e) (ahead_none (r + 1) st')
        go (inr (c, e)) = calm_goes (calm_of (calmness s) refl c) w.ahead k' e

  -- ---- tables that a call is handed

  view_given : {hs given : List (Head B)} {st : Heads B} → View n hs st → n ≤ length given → ((i : ℕ) → i < n → slice_get given i ≡ slice_get hs i) → View n given st
  view_given v l same = record { long = l; reads = λ i m. same i m ∙ v.reads i m; past = v.past }

  long_stays : {A : Type 0} (n : ℕ) (hs left : List A) (m : ℕ) → length left ≡ m → n ≤ m → cond (ltb (length left) n) hs left ≡ left
  long_stays n hs left m e l = cond-false (ltb (length left) n) hs left (fails (le-ltb (length left) n (omega arith)))

  -- a call that leaves the table as it was handed leaves the heads' records
  handed_on : {r : ℕ} {hs given : List (Head B)} {k : ℕ} → Held r hs k → Handed n hs given → Held r (standing n hs given) k
  handed_on {r} {hs} {given} {k} w (whole l same) =
      subst (λ (x : List (Head B)). Held r x k) (sym (long_stays n hs given (length given) refl l))
      (record { st = w.st; view = view_given w.view l same; inv = w.inv; ahead = w.ahead; steps = w.steps })
  handed_on {r} {hs} {given} {k} w (too_short l) =
      subst (λ (x : List (Head B)). Held r x k) (sym (cond-true (ltb (length given) n) hs given (holds (lt-ltb (length given) n l)))) w

  handed_view : {r : ℕ} {hs given : List (Head B)} {k : ℕ} → (w : Held r hs k) → Handed n hs given → n ≤ length given → View n given w.st
  handed_view w (whole l same) m = view_given w.view l same
  handed_view w (too_short l) m = absurd (omega arith)

  -- a decided head's record stands
  decided_standing : {hs given : List (Head B)} (m sent-set at : ℕ) (q : Report) (x : Option Breach) → Handed m hs given → (i : ℕ) (h : Head B) → i < m
      → slice_get hs i ≡ Some h → h.state ≡ Decided → slice_get (standing m hs (changed x (after earlier s m sent-set at given q) given)) i ≡ Some h
  decided_standing {hs} {given} m sent-set at q (Some b) (whole l same) i h k e d =
      ap (λ (y : List (Head B)). slice_get y i) (long_stays m hs given (length given) refl l) ∙ same i k ∙ e
  decided_standing {hs} {given} m sent-set at q (Some b) (too_short l) i h k e d =
      ap (λ (y : List (Head B)). slice_get y i) (cond-true (ltb (length given) m) hs given (holds (lt-ltb (length given) m l))) ∙ e
  decided_standing {hs} {given} m sent-set at q None (whole l same) i h k e d =
      ap (λ (y : List (Head B)). slice_get y i) (long_stays m hs (after earlier s m sent-set at given q) (length given) (after_length earlier s m sent-set at given q) l)
      ∙ after_decided earlier s m sent-set at given q i h k (same i k ∙ e) d
  decided_standing {hs} {given} m sent-set at q None (too_short l) i h k e d =
      ap (λ (y : List (Head B)). slice_get y i)
      (cond-true (ltb (length (after earlier s m sent-set at given q)) m) hs (after earlier s m sent-set at given q)
      (holds (lt-ltb _ m (subst (λ (z : ℕ). z < m) (sym (after_length earlier s m sent-set at given q)) l))))
      ∙ e

  -- ---- stages

  module _ {V : Type 0} where
    -- an open round has its turns at running heads, and the senders that the rules give
    abbrev Facts : Stage V → Heads B → Type 0
    Facts (voting vote) st = Unit {0}
    Facts (in_open_round o turned) st =
        ((i : ℕ) → T (on turned i) → T (runs st i)) × ((i : ℕ) → bit o.senders i ≡ (runs st i && says s (o.heard + 1) (on turned i) (st i)))

    pub record Good (g : Stage V) (hs : List (Head B)) (k : ℕ) : Type 0 where
      pub roll : heads g ≡ n
      pub held : Held (rounds g) hs k
      pub facts : Facts g held.st

    -- a vote with that many heads and rounds
    good_vote : {r : ℕ} {hs : List (Head B)} {k : ℕ} (vote : Vote V) → vote.n ≡ n → vote.heard ≡ r → Held r hs k → Good (voting vote) hs k
    good_vote {r} {hs} {k} vote e f w = record { roll = e; held = subst (λ (x : ℕ). Held x hs k) (sym f) w; facts = tt }

    begun_same : (a b : Begun V) → a ≡ b → (a.n ≡ b.n) × (a.heard ≡ b.heard)
    begun_same a b e = (ap (λ (x : Begun V). x.n) e, ap (λ (x : Begun V). x.heard) e)

    -- ---- opening

    opens_on : {hs : List (Head B)} {k : ℕ} (vote : Vote V) → Good (voting vote) hs k → (given : List (Head B)) → Handed vote.n hs given → (turned : ℕ)
        → (answer : Result (OpenRound V) (Refused (Vote V))) → open_answer answer ≡ opened s vote given turned → Good (after_opening turned answer) hs k
    opens_on {hs} {k} vote G given handed turned answer e = go (open_breach vote.n (vote.heard + 1) given turned) refl answer e
      where
        made : Opened V
        made = record { n = vote.n; heard = vote.heard; method = vote.method; senders = senders s (vote.heard + 1) given vote.n turned; spent = false }

        go : (o : Option Breach) → open_breach vote.n (vote.heard + 1) given turned ≡ o
            → (answer : Result (OpenRound V) (Refused (Vote V))) → open_answer answer ≡ unless o made vote → Good (after_opening turned answer) hs k
        go (Some b) f (Ok o) e = absurd (done_refused e)
        go (Some b) f (Err x) e = subst (λ (v : Vote V). Good (voting v) hs k) (sym (back_same e)) G
        go None f (Err x) e = absurd (done_refused (sym e))
        go None f (Ok o) e = record {
          roll = ap (λ (x : Opened V). x.n) same ∙ G.roll;
          held = moved_held;
          facts = moved_facts;
        }
          where
            same : opened_as o ≡ made
            same = done_same e

            rounds_same : o.heard ≡ vote.heard
            rounds_same = ap (λ (x : Opened V). x.heard) same

            here : Held vote.heard hs k
            here = G.held

            view : View n given here.st
            view = handed_view here (subst (λ (x : ℕ). Handed x hs given) G.roll handed) (subst (λ (x : ℕ). x ≤ length given) G.roll (long_table vote.n given (none_both (short_table vote.n given) _ f).0))

            to_running : (i : ℕ) → T (on turned i) → T (runs here.st i)
            to_running i t =
                let l = on_below turned i t in
                subst T (run_bit few view i) (subst (λ (x : ℕ). T (bit (running given x) i)) G.roll (turns_running vote.n vote.heard given turned f i l (on_out turned i t)))

            sending_is : (i : ℕ) → bit o.senders i ≡ (runs here.st i && says s (vote.heard + 1) (on turned i) (here.st i))
            sending_is i =
                ap (λ (x : Opened V). bit x.senders i) same
                ∙ ap (λ (x : ℕ). bit (senders s (vote.heard + 1) given x turned) i) G.roll
                ∙ sender_bit few view s vote.heard turned i

            moved_held : Held o.heard hs k
            moved_held = record {
              st = here.st;
              view = here.view;
              inv = subst (λ (x : ℕ). Inv n first s fit x here.st) (sym rounds_same) here.inv;
              ahead = subst (λ (x : ℕ). Ahead x here.st k) (sym rounds_same) here.ahead;
              steps = λ i l. subst (λ (x : ℕ). Steps s (st₀ i) x (here.st i)) (sym rounds_same) (here.steps i l);
            }

            moved_facts : Facts (in_open_round o turned) here.st
            moved_facts = (to_running, λ i. sending_is i ∙ ap (λ (x : ℕ). runs here.st i && says s (x + 1) (on turned i) (here.st i)) (sym rounds_same))

    -- ---- hearing

    hears_on : {hs : List (Head B)} {k : ℕ} (o : OpenRound V) (turned : ℕ) → Good (in_open_round o turned) hs k → (given : List (Head B)) → Handed o.n hs given → (q : Report)
        → (answer : Result (HeardRound V) (Refused (OpenRound V))) → hear_answer answer ≡ heard earlier s o given q
        → (k' : ℕ) → Counts (hear_breach s o.n (o.heard + 1) o.senders given q) (Calm s turned (running given o.n) o.senders q) k k'
        → Good (after_hearing turned answer) (standing o.n hs (heard_table earlier s o given q)) k'
    hears_on {hs} {k} o turned G given handed q answer e k' c = go (hear_breach s o.n (o.heard + 1) o.senders given q) refl answer e c
      where
        moved : List (Head B)
        moved = after earlier s o.n o.senders (o.heard + 1) given q

        go : (x : Option Breach) → hear_breach s o.n (o.heard + 1) o.senders given q ≡ x
            → (answer : Result (HeardRound V) (Refused (OpenRound V)))
            → hear_answer answer ≡ unless x (record { n = o.n; heard = o.heard + 1; method = o.method }, figures_of o.n (o.heard + 1) o.senders q.alarms moved) o
            → Counts x (Calm s turned (running given o.n) o.senders q) k k'
            → Good (after_hearing turned answer) (standing o.n hs (changed x moved given)) k'
        go (Some b) f (Ok h) e c = absurd (done_refused e)
        go (Some b) f (Err x) e c =
            subst (λ (y : OpenRound V). Good (in_open_round y turned) (standing o.n hs given) k') (sym (back_same e))
            (subst (λ (y : ℕ). Good (in_open_round o turned) (standing o.n hs given) y) (sym c) unchanged)
          where
            kept : Held o.heard (standing o.n hs given) k
            kept = subst (λ (y : ℕ). Held o.heard (standing y hs given) k) (sym G.roll) (handed_on G.held (subst (λ (y : ℕ). Handed y hs given) G.roll handed))

            unchanged : Good (in_open_round o turned) (standing o.n hs given) k
            unchanged = good_open (subst (λ (y : ℕ). Handed y hs given) G.roll handed)
              where
                good_open : Handed n hs given → Good (in_open_round o turned) (standing o.n hs given) k
                good_open (whole l same) =
                    subst (λ (y : List (Head B)). Good (in_open_round o turned) y k) (sym (ap (λ (y : ℕ). standing y hs given) G.roll ∙ long_stays n hs given (length given) refl l))
                    (record {
                      roll = G.roll;
                      held = record { st = G.held.st; view = view_given G.held.view l same; inv = G.held.inv; ahead = G.held.ahead; steps = G.held.steps };
                      facts = G.facts;
                    })
                good_open (too_short l) =
                    subst (λ (y : List (Head B)). Good (in_open_round o turned) y k) (sym (ap (λ (y : ℕ). standing y hs given) G.roll ∙ cond-true (ltb (length given) n) hs given (holds (lt-ltb (length given) n l)))) G
        go None f (Err x) e c = absurd (done_refused (sym e))
        go None f (Ok h) e c =
            let same = begun_same (begun_as h.vote) _ (ap (λ (y : Begun V × Figures). y.0) (done_same e)) in
            subst (λ (y : List (Head B)). Good (voting h.vote) y k') (sym (long_stays o.n hs moved (length given) (after_length earlier s o.n o.senders (o.heard + 1) given q) long))
            (good_vote h.vote (same.0 ∙ G.roll) same.1 on_given)
          where
            long : o.n ≤ length given
            long = heard_long s o.n o.heard o.senders given q f

            view : View n given G.held.st
            view = handed_view G.held (subst (λ (x : ℕ). Handed x hs given) G.roll handed) (subst (λ (x : ℕ). x ≤ length given) G.roll long)

            ok : Accepted s n o.heard given o.senders q
            ok = subst (λ (x : ℕ). Accepted s x o.heard given o.senders q) G.roll (accepted s o.n o.heard given o.senders q f)

            on_given : Held (o.heard + 1) moved k'
            on_given =
                subst (λ (x : ℕ). Held (o.heard + 1) (after earlier s x o.senders (o.heard + 1) given q) k') (sym G.roll)
                (heard_on G.held view turned o.senders q G.facts.0 G.facts.1 ok k'
                (subst (λ (x : ℕ). (k' ≡ 0) ⊎ (Calm s turned (running given x) o.senders q × (k' ≡ k + 1))) G.roll c))

    -- ---- driving

    drives_on : {hs : List (Head B)} {k : ℕ} (vote : Vote V) → Good (voting vote) hs k → (given : List (Head B)) → Handed vote.n hs given → (stops : ℕ) (list : List ℕ) (parts : Parts)
        → (answer : Result (HeardRound V) (Refused (Vote V))) → drive_answer answer ≡ driven earlier vote (driving s vote given stops parts) list
        → (k' : ℕ) → Counts (drive_breach (driving s vote given stops parts) list)
        (Calm s (turns (driving s vote given stops parts)) (runners (driving s vote given stops parts)) (sending (driving s vote given stops parts)) (report (driving s vote given stops parts))) k k'
        → Good (after_driving answer) (standing vote.n hs (driven_table (driving s vote given stops parts) earlier list)) k'
    drives_on {hs} {k} vote G given handed stops list parts answer e k' c = go (drive_breach d list) refl answer e c
      where
        d : Driving B
        d = driving s vote given stops parts

        moved : List (Head B)
        moved = after earlier s vote.n (sending d) (vote.heard + 1) given (report d)

        go : (x : Option Breach) → drive_breach d list ≡ x
            → (answer : Result (HeardRound V) (Refused (Vote V)))
            → drive_answer answer ≡ unless x (record { n = vote.n; heard = vote.heard + 1; method = vote.method }, figures_of vote.n (vote.heard + 1) (sending d) (alarms d) moved) (begun_as vote)
            → Counts x (Calm s (turns d) (runners d) (sending d) (report d)) k k'
            → Good (after_driving answer) (standing vote.n hs (changed x moved given)) k'
        go (Some b) f (Ok h) e c = absurd (done_refused e)
        go (Some b) f (Err x) e c =
            let same = begun_same (begun_as x.back) (begun_as vote) (back_same e) in
            subst (λ (y : ℕ). Good (voting x.back) (standing vote.n hs given) y) (sym c)
            (good_vote x.back (same.0 ∙ G.roll) same.1 (subst (λ (y : ℕ). Held vote.heard (standing y hs given) k) (sym G.roll) (handed_on G.held (subst (λ (y : ℕ). Handed y hs given) G.roll handed))))
        go None f (Err x) e c = absurd (done_refused (sym e))
        go None f (Ok h) e c =
            let same = begun_same (begun_as h.vote) _ (ap (λ (y : Begun V × Figures). y.0) (done_same e)) in
            subst (λ (y : List (Head B)). Good (voting h.vote) y k') (sym (long_stays vote.n hs moved (length given) (after_length earlier s vote.n (sending d) (vote.heard + 1) given (report d)) passed.long))
            (good_vote h.vote (same.0 ∙ G.roll) same.1 on_given)
          where
            passed : DrivenOn d
            passed = driven_on d list f

            view : View n given G.held.st
            view = handed_view G.held (subst (λ (x : ℕ). Handed x hs given) G.roll handed) (subst (λ (x : ℕ). x ≤ length given) G.roll passed.long)

            to_running : (i : ℕ) → T (on (turns d) i) → T (runs G.held.st i)
            to_running i t =
                let l = on_below (turns d) i t in
                subst T (run_bit few view i) (subst (λ (x : ℕ). T (bit (running given x) i)) G.roll (turns_running vote.n vote.heard given (turns d) passed.opened i l (on_out (turns d) i t)))

            sending_is : (i : ℕ) → bit (sending d) i ≡ (runs G.held.st i && says s (vote.heard + 1) (on (turns d) i) (G.held.st i))
            sending_is i = ap (λ (x : ℕ). bit (senders s (vote.heard + 1) given x (turns d)) i) G.roll ∙ sender_bit few view s vote.heard (turns d) i

            ok : Accepted s n vote.heard given (sending d) (report d)
            ok = subst (λ (x : ℕ). Accepted s x vote.heard given (sending d) (report d)) G.roll passed.accepted

            on_given : Held (vote.heard + 1) moved k'
            on_given =
                subst (λ (x : ℕ). Held (vote.heard + 1) (after earlier s x (sending d) (vote.heard + 1) given (report d)) k') (sym G.roll)
                (heard_on G.held view (turns d) (sending d) (report d) to_running sending_is ok k'
                (subst (λ (x : ℕ). (k' ≡ 0) ⊎ (Calm s (turns d) (running given x) (sending d) (report d) × (k' ≡ k + 1))) G.roll c))

    -- ---- every chain

    pub good_on : {g : Stage V} {hs : List (Head B)} {k : ℕ} → Good g hs k → {g' : Stage V} {hs' : List (Head B)} {k' : ℕ} → Calls earlier s g hs k g' hs' k' → Good g' hs' k'
    good_on G none = G
    good_on G (opens {vote = vote} c given handed turned answer e) = opens_on vote (good_on G c) given handed turned answer e
    good_on G (withdraws {round = o} c vote e) =
        let H = good_on G c in
        let same = begun_same (begun_as vote) (withdrawn o) e in
        good_vote vote (same.0 ∙ H.roll) same.1 H.held
    good_on G (hears {round = o} {turns = turned} c given handed q answer e k' n) = hears_on o turned (good_on G c) given handed q answer e k' n
    good_on G (drives {vote = vote} c given handed stops list parts answer e k' n) = drives_on vote (good_on G c) given handed stops list parts answer e k' n

    -- ---- a decision is never undone

    pub kept_on : {g : Stage V} {hs : List (Head B)} {k : ℕ} → Good g hs k → {g' : Stage V} {hs' : List (Head B)} {k' : ℕ} → Calls earlier s g hs k g' hs' k'
        → (i : ℕ) (h : Head B) → i < n → slice_get hs i ≡ Some h → h.state ≡ Decided → slice_get hs' i ≡ Some h
    kept_on G none i h l e d = e
    kept_on G (opens c given handed turned answer f) i h l e d = kept_on G c i h l e d
    kept_on G (withdraws c vote f) i h l e d = kept_on G c i h l e d
    kept_on G (hears {round = o} c given handed q answer f k' w) i h l e d =
        decided_standing o.n o.senders (o.heard + 1) q (hear_breach s o.n (o.heard + 1) o.senders given q) handed i h
        (subst (λ (m : ℕ). i < m) (sym (good_on G c).roll) l) (kept_on G c i h l e d) d
    kept_on G (drives {vote = vote} c given handed stops list parts answer f k' w) i h l e d =
        decided_standing vote.n (sending (driving s vote given stops parts)) (vote.heard + 1) (report (driving s vote given stops parts)) (drive_breach (driving s vote given stops parts) list) handed i h
        (subst (λ (m : ℕ). i < m) (sym (good_on G c).roll) l) (kept_on G c i h l e d) d
