-- Over parts that keep their meanings a driving is refused by nothing but 4, 5, 6, 8 and 9, and is calm in time.
use Rattle.std.proofs.Common.{◌≡◌, ℕ, zero, suc, ◌+◌, ◌*◌, ◌^◌, ◌<◌, ◌≤◌, Bool, true, false, cond, not, ◌&&◌, T, eqb, ltb, leb, ◌⊎◌, List, get_or, is_some, Some, None, Option, sym, refl, ap, ◌∙◌, subst, ap₂, inl, inr, lt_of_lt_of_le, arith, eqb→eq, pow_mono}
use Rattle.std.proofs.lemmas.Bool.{cases_lt, lt-ltb, le-leb, ltb-false, ne_eqb, true≢false, and_from, and_parts}
use Rattle.std.proofs.lemmas.List.{get_or_past}
use Rattle.sets.specs.Search.{when, or_else, first, first_from}
use Rattle.sets.specs.Sets.{bit, count, word_of, lowest, Within}
use Rattle.sets.proofs.Words.{bit_word, bit_past, word_below}
use Rattle.sets.proofs.Searches.{Found, lowest_some, when_false}
use Rattle.ballots.specs.Faults.{Breach, in_round, at_head as breachAtHead}
use Rattle.heads.specs.declared.alarms.Class.{Class}
use Rattle.heads.specs.declared.alarms.Class.TheVariants.{Zero, Majority}
use Rattle.heads.specs.declared.head.Head.{Head}
use Rattle.heads.specs.declared.head.State.TheVariants.{Running}
use Rattle.heads.specs.Alarms.{due_by}
use Rattle.heads.specs.Rules.{Scheme, due, false_alarm, strict, detecting, Calmness, calmness}
use Rattle.heads.specs.Rules.Scheme.{short, bitwise, split}
use Rattle.heads.specs.Rules.Calmness.{one_turn}
use Rattle.parts.specs.Ranges.{in_time, at_head, counted}
use Rattle.parts.specs.Detectors as detectors
use Rattle.votes.specs.Tables.{stands, in_state, running, lowest_idle}
use Rattle.votes.specs.Rounds.{speaks, sends, senders, sent, heard_of, idle_noise, stranger, breach_of, breach_at, report_breach}
use Rattle.votes.specs.Calls.{short_table, word_count, at_lowest, open_breach, rounds_spent, none_runs}
use Rattle.runs.specs.Calm.{Calm, CalmBy}
use Rattle.runs.specs.Driving.{Driving, round, runners, turns, sending, word, alarm, words, alarms, report, early_breach, drive_breach}
use Rattle.runs.specs.Promise.{Takes, Fitting, largest, plain_breach}
use Rattle.runs.proofs.Tests.{and_right, holds, fails, is_true, is_false, cond-true, cond-false}
use Rattle.runs.proofs.Counts.{count_mono}
use Rattle.runs.proofs.Views.{none_both, when_none}
use Rattle.runs.proofs.Drivings.{driven_on, length_words, word_at}

-- ---- searches that find nothing

all_none_from : {A : Type 0} (f : ℕ → Option A) (i k : ℕ) → ((j : ℕ) → j < i + k → f j ≡ None) → first_from f i k ≡ None
unfolding first_from
all_none_from f i zero e = refl
all_none_from f i (suc k) e = ap (λ o. or_else o (first_from f (i + 1) k)) (e i (omega arith)) ∙ all_none_from f (i + 1) k (λ j l. e j (omega arith))

all_none : {A : Type 0} (f : ℕ → Option A) (k : ℕ) → ((j : ℕ) → j < k → f j ≡ None) → first f k ≡ None
all_none f k e = all_none_from f 0 k (λ j l. e j (omega arith))

all_five : {A : Type 0} (a b c d e : Option A) → a ≡ None → b ≡ None → c ≡ None → d ≡ None → e ≡ None → or_else a (or_else b (or_else c (or_else d e))) ≡ None
all_five a b c d e p q r s t = rw (p, q, r, s, t) refl

-- a report that breaks none of the five rules
unbroken : {B : Type 0} (s : Scheme B) (sent-set round : ℕ) (runs : Bool) (w : ℕ) (a : Bool) (i : ℕ) → idle_noise runs w a ≡ false
    → ((j : ℕ) → j < 64 → (bit w j && not (bit sent-set j)) ≡ false) → (bit sent-set i && not (bit w i)) ≡ false
    → (runs && (due s (sent sent-set) (heard_of sent-set w) && not a)) ≡ false → (strict s && (a && false_alarm (sent sent-set) (heard_of sent-set w))) ≡ false
    → breach_of s sent-set round runs w a i ≡ None
unbroken s sent-set round runs w a i p q r x y =
    all_five (when (idle_noise runs w a) (breachAtHead 10 round i)) (first (stranger sent-set round w i) 64) (when (bit sent-set i && not (bit w i)) (breachAtHead 12 round i))
    (when (runs && (due s (sent sent-set) (heard_of sent-set w) && not a)) (breachAtHead 13 round i))
    (when (strict s && (a && false_alarm (sent sent-set) (heard_of sent-set w))) (breachAtHead 14 round i))
    (when_false _ _ p) (all_none (stranger sent-set round w i) 64 (λ j l. when_false _ _ (q j l))) (when_false _ _ r) (when_false _ _ x) (when_false _ _ y)

-- ---- counts

count_most : (p : ℕ → Bool) (n : ℕ) → count n p ≤ n
unfolding count
count_most p zero = omega arith
count_most p (suc n) = go (p n) (count_most p n)
  where
    go : (b : Bool) → count n p ≤ n → count n p + cond b 1 0 ≤ suc n
    go true l = omega arith
    go false l = omega arith

heard_most : (sent-set w : ℕ) → heard_of sent-set w ≤ sent sent-set
heard_most sent-set w = count_mono (λ i. bit w i && bit sent-set i) (bit sent-set) (λ i t. and_right (bit w i) (bit sent-set i) t) 64

-- ---- alarms that a vote asks for are due by the class of a detector that it takes

due_any : (k : Class) (c t : ℕ) → due_by Zero c t ≡ true → due_by k c t ≡ true
due_any Zero c t e = e
due_any Majority c t e =
    let p = and_parts (ltb 0 c) (eqb t 0) e in
    let z = eqb→eq t 0 (holds p.1) in
    and_from (ltb 0 c) (leb (2 * t) c) p.0 (le-leb (2 * t) c (omega arith))

due_taken : {B : Type 0} (s : Scheme B) (m : detectors.Meaning) → Takes (detecting s) m → (c t : ℕ) → due s c t ≡ true → due_by m.class c t ≡ true
due_taken short m k c t e = ap (λ (x : Class). due_by x c t) k ∙ e
due_taken (bitwise w code) m k c t e = due_any m.class c t e
due_taken (split w code back) m k c t e = due_any m.class c t e

quiet_taken : {B : Type 0} (s : Scheme B) (m : detectors.Meaning) → Takes (detecting s) m → T (strict s) → m.quiet ≡ 1
quiet_taken short m k t = absurd t
quiet_taken (bitwise w code) m k t = absurd t
quiet_taken (split w code back) m k t = k

-- ---- senders run

sender_runs : {B : Type 0} (s : Scheme B) (round : ℕ) (hs : List (Head B)) (n turned i : ℕ) → bit (senders s round hs n turned) i ≡ true → bit (running hs n) i ≡ true
unfolding senders in_state
sender_runs s round hs n turned i e = go (cases_lt i n)
  where
    go : (i < n) ⊎ (n ≤ i) → bit (word_of n (stands Running hs n)) i ≡ true
    go (inl l) =
        bit_word n (stands Running hs n) i l
        ∙ (and_parts (stands Running hs n i) (speaks s round (bit turned i) _) (sym (bit_word n (sends s round hs n turned) i l) ∙ e)).0
    go (inr l) = absurd (true≢false (sym e ∙ bit_past n (word_of n (sends s round hs n turned)) i (word_below n (sends s round hs n turned)) l))

idle_past : {B : Type 0} (hs : List (Head B)) (n i : ℕ) → n ≤ i → bit (running hs n) i ≡ false
unfolding in_state
idle_past hs n i l = bit_past n (word_of n (stands Running hs n)) i (word_below n (stands Running hs n)) l

pub sending_below : {B : Type 0} (s : Scheme B) (round : ℕ) (hs : List (Head B)) (n turned : ℕ) → n ≤ 64 → senders s round hs n turned < 2 ^ 64
unfolding senders
sending_below s round hs n turned few = lt_of_lt_of_le (word_below n (sends s round hs n turned)) (pow_mono few)

module _ {B : Type 0} (d : Driving B) (few : d.n ≤ 64) (f : Fitting d.scheme d.parts) where
  abbrev s : Scheme B
  s = d.scheme

  -- ---- the words and alarms, at every head

  -- a number past the heads has word 0, as one that does not run
  word_of_is : (i : ℕ) → get_or (words d) i 0 ≡ word d i
  word_of_is i = go (cases_lt i d.n)
    where
      go : (i < d.n) ⊎ (d.n ≤ i) → get_or (words d) i 0 ≡ word d i
      go (inl l) = word_at d i l
      go (inr l) =
          get_or_past (words d) i 0 (let e = length_words d in omega arith)
          ∙ sym (cond-false (bit (runners d) i) _ 0 (fails (idle_past d.table d.n i l)))

  alarm_at : (i : ℕ) → bit (alarms d) i ≡ alarm d i
  unfolding alarms
  alarm_at i = go (cases_lt i d.n)
    where
      go : (i < d.n) ⊎ (d.n ≤ i) → bit (word_of d.n (alarm d)) i ≡ alarm d i
      go (inl l) = bit_word d.n (alarm d) i l
      go (inr l) = bit_past d.n (word_of d.n (alarm d)) i (word_below d.n (alarm d)) l ∙ sym (ap (λ (b : Bool). b && d.parts.detector.rule (round d) i (sent (sending d)) (heard_of (sending d) (word d i))) (idle_past d.table d.n i l))

  -- ---- turns go to running heads

  no_idle_turn : lowest_idle (turns d) (runners d) ≡ None
  unfolding lowest_idle
  no_idle_turn = all_none (λ j. when (bit (turns d) j && not (bit (runners d) j)) j) 64 (λ j l. when_false _ _ (within j (bit (turns d) j) (bit (runners d) j) refl refl))
    where
      within : (j : ℕ) (a b : Bool) → bit (turns d) j ≡ a → bit (runners d) j ≡ b → (a && not b) ≡ false
      within j true true e g = refl
      within j true false e g = absurd (true≢false (sym (f.manager.running (round d) (runners d) j e) ∙ g))
      within j false b e g = refl

  -- ---- no report breaks a rule

  module _ (within_time : round d ≤ 10000) where
    timely : in_time (round d) ≡ true
    timely = and_from (leb 1 (round d)) (leb (round d) 10000) (le-leb 1 (round d) (omega arith)) (le-leb (round d) 10000 within_time)

    ranged : (i : ℕ) → i < 64 → at_head (round d) i ≡ true
    ranged i l = and_from (in_time (round d)) (ltb i 64) timely (lt-ltb i 64 l)

    abbrev c : ℕ
    c = sent (sending d)

    abbrev t : ℕ → ℕ
    t w = heard_of (sending d) w

    in_count : (i w : ℕ) → i < 64 → counted (round d) i c (t w) ≡ true
    in_count i w l =
        and_from (at_head (round d) i) (leb (t w) c && leb c 64) (ranged i l)
        (and_from (leb (t w) c) (leb c 64) (le-leb (t w) c (heard_most (sending d) w)) (le-leb c 64 (count_most (bit (sending d)) 64)))

    -- one head's report
    clean : (i : ℕ) → i < 64 → (runs : Bool) → bit (runners d) i ≡ runs
        → breach_of s (sending d) (round d) runs (cond runs (d.parts.channel.rule (round d) i (sending d)) 0) (runs && d.parts.detector.rule (round d) i c (t (cond runs (d.parts.channel.rule (round d) i (sending d)) 0))) i ≡ None
    clean i l false e =
        unbroken s (sending d) (round d) false 0 false i refl (λ j m. ap (λ (b : Bool). b && not (bit (sending d) j)) (bit_past 0 0 j (omega arith) (omega arith)))
        (ap (λ (b : Bool). b && not (bit 0 i)) silent) refl (never (strict s))
      where
        silent : bit (sending d) i ≡ false
        silent = is_false (bit (sending d) i) (λ x. fails e (holds (sender_runs s (round d) d.table d.n (turns d) i (is_true _ x))))

        never : (b : Bool) → (b && false) ≡ false
        never true = refl
        never false = refl
    clean i l true e =
        unbroken s (sending d) (round d) true w a i refl (λ j m. not_stranger j (bit w j) (bit (sending d) j) refl refl)
        (own (bit (sending d) i) (bit w i) refl refl) (duly (due s c (t w)) a refl refl) (not-false (strict s) a refl refl)
      where
        w : ℕ
        w = d.parts.channel.rule (round d) i (sending d)

        a : Bool
        a = d.parts.detector.rule (round d) i c (t w)

        not_stranger : (j : ℕ) (x y : Bool) → bit w j ≡ x → bit (sending d) j ≡ y → (x && not y) ≡ false
        not_stranger j true true g h = refl
        not_stranger j true false g h = absurd (true≢false (sym (f.channel.senders (round d) i (sending d) j g) ∙ h))
        not_stranger j false y g h = refl

        own : (x y : Bool) → bit (sending d) i ≡ x → bit w i ≡ y → (x && not y) ≡ false
        own true true g h = refl
        own true false g h = absurd (true≢false (sym (f.channel.own (round d) i (sending d) (ranged i l) g) ∙ h))
        own false y g h = refl

        duly : (x y : Bool) → due s c (t w) ≡ x → a ≡ y → (true && (x && not y)) ≡ false
        duly true true g h = refl
        duly true false g h = absurd (true≢false (sym (f.detector.duly (round d) i c (t w) (in_count i w l) (due_taken s d.parts.detector f.taken c (t w) g)) ∙ h))
        duly false y g h = refl

        not-false : (x y : Bool) → strict s ≡ x → a ≡ y → (x && (y && false_alarm c (t w))) ≡ false
        not-false true true g h =
            let q = quiet_taken s d.parts.detector f.taken (holds g) in
            let less = f.detector.quietly (round d) i c (t w) (omega arith) h in
            ne_eqb (t w) c (λ x. omega arith)
        not-false true false g h = refl
        not-false false y g h = refl

    clean_report : report_breach s (runners d) (sending d) (round d) (words d) (alarms d) ≡ None
    unfolding report_breach
    clean_report = all_none (breach_at s (runners d) (sending d) (round d) (words d) (alarms d)) 64 (λ i l.
        ap₂ (λ (w : ℕ) (b : Bool). breach_of s (sending d) (round d) (bit (runners d) i) w b i) (word_of_is i) (alarm_at i)
        ∙ clean i l (bit (runners d) i) refl)

  -- ---- refused exactly by 4, 8, 5, 6 and 9

  pub carries_out : (list : List ℕ) → drive_breach d list ≡ plain_breach d list
  unfolding early_breach
  carries_out list =
      go (short_table d.n d.table) (word_count d.n (round d) list) (rounds_spent (round d)) (none_runs (round d) (runners d))
      (at_lowest 7 (round d) (lowest_idle (turns d) (runners d))) (at_lowest 9 (round d) (lowest_idle d.stops (runners d)))
      (report_breach s (runners d) (sending d) (round d) (words d) (alarms d))
      (ap (at_lowest 7 (round d)) no_idle_turn)
      (λ e. clean_report (ltb-false 10000 (round d) (when_none (ltb 10000 (round d)) (in_round 5 (round d)) e)))
    where
      go : (x4 x8 x5 x6 x7 x9 rest : Option Breach) → x7 ≡ None → (x5 ≡ None → rest ≡ None)
          → or_else (or_else x4 (or_else x8 (or_else (or_else x4 (or_else x5 (or_else x6 x7))) x9))) rest ≡ or_else x4 (or_else x8 (or_else x5 (or_else x6 x9)))
      go (Some b) x8 x5 x6 x7 x9 rest e g = refl
      go None (Some b) x5 x6 x7 x9 rest e g = refl
      go None None (Some b) x6 x7 x9 rest e g = refl
      go None None None (Some b) x7 x9 rest e g = refl
      go None None None None (Some b) x9 rest e g = absurd (let z : ◌≡◌ {A = ℕ} 1 0 = ap (λ o. cond (is_some o) 1 0) e in omega arith)
      go None None None None None (Some b) rest e g = refl
      go None None None None None None rest e g = g refl

  -- ---- calm from the largest of the three numbers on

  some_lowest : (o : Option ℕ) → not (is_some o) ≡ false → (i : ℕ) × (o ≡ Some i)
  some_lowest None e = absurd (true≢false e)
  some_lowest (Some i) e = (i, refl)

  pub calm_in_time : (list : List ℕ) → calmness s ≡ one_turn → drive_breach d list ≡ None → largest d.parts ≤ round d → Calm s (turns d) (runners d) (sending d) (report d)
  calm_in_time list kind e late = subst (λ (x : Calmness). CalmBy x (turns d) (runners d) (sending d) (report d)) (sym kind) (record {
    one = f.manager.one (round d) (runners d) runner.0 (timely within_time) (omega arith) found.below found.holds;
    no_false = λ i l x.
        let rings : d.parts.detector.rule (round d) i (sent (sending d)) (heard_of (sending d) (word d i)) ≡ true = (and_parts (bit (runners d) i) _ (sym (alarm_at i) ∙ x)).1 in
        let less = f.detector.quietly (round d) i (sent (sending d)) (heard_of (sending d) (word d i)) (omega arith) rings in
        ap (λ (w : ℕ). false_alarm (sent (sending d)) (heard_of (sending d) w)) (word_of_is i) ∙ ne_eqb _ _ (λ z. omega arith);
    heard = λ lone i l u. subst (λ (w : ℕ). Within (sending d) w) (sym (word_of_is i ∙ cond-true (bit (runners d) i) _ 0 (holds u)))
        (f.channel.lone (round d) i (sending d) (sending_below s (round d) d.table d.n (turns d) few) (ranged within_time i l) (omega arith) lone);
  })
    where
      opened : open_breach d.n (round d) d.table (turns d) ≡ None
      opened = (driven_on d list e).opened

      after_4 : or_else (rounds_spent (round d)) (or_else (none_runs (round d) (runners d)) (at_lowest 7 (round d) (lowest_idle (turns d) (runners d)))) ≡ None
      after_4 = (none_both (short_table d.n d.table) _ opened).1

      after_5 : or_else (none_runs (round d) (runners d)) (at_lowest 7 (round d) (lowest_idle (turns d) (runners d))) ≡ None
      after_5 = (none_both (rounds_spent (round d)) _ after_4).1

      within_time : round d ≤ 10000
      within_time = ltb-false 10000 (round d) (when_none (ltb 10000 (round d)) (in_round 5 (round d)) (none_both (rounds_spent (round d)) _ after_4).0)

      runner : (i : ℕ) × (lowest (bit (runners d)) 64 ≡ Some i)
      runner = some_lowest (lowest (bit (runners d)) 64) (when_none (not (is_some (lowest (bit (runners d)) 64))) (in_round 6 (round d)) (none_both (none_runs (round d) (runners d)) _ after_5).0)

      found : Found (bit (runners d)) 0 64 runner.0
      found = lowest_some (bit (runners d)) 0 64 runner.0 runner.1
