-- The records of a table as heads by their numbers, and an accepted hearing as one round, head by head.
use Rattle.std.proofs.Common.{◌≡◌, ℕ, zero, suc, ◌+◌, ◌<◌, ◌≤◌, Bool, true, false, cond, not, ◌&&◌, T, ltb, ◌≢◌, ◌⊎◌, List, [], ◌∷◌, length, get_or, is_some, Some, None, Option, sym, refl, ap, ◌∙◌, subst, ap₂, inl, inr, arith}
use Rattle.std.proofs.lemmas.Bool.{lt-ltb, le-ltb, cases_lt, true≢false, eq-eqb}
use Rattle.std.specs.List.{slice_get}
use Rattle.std.specs.Option.{option_map}
use Rattle.sets.specs.Search.{when, or_else, first_from, first}
use Rattle.sets.specs.Sets.{bit, word_of}
use Rattle.sets.proofs.Words.{bit_word, bit_past, word_below, count_same}
use Rattle.sets.proofs.Searches.{lowest_none}
use Rattle.ballots.specs.Order.{Total}
use Rattle.ballots.specs.Faults.{in_round, at_head}
use Rattle.heads.specs.declared.head.Ballots.{Ballots}
use Rattle.heads.specs.declared.head.Head.{Head}
use Rattle.heads.specs.declared.head.Heard.{Heard}
use Rattle.heads.specs.declared.head.State.{State}
use Rattle.heads.specs.declared.head.State.TheVariants.{Running, Decided, Stopped}
use Rattle.heads.specs.Alarms.{due_by}
use Rattle.heads.specs.Rules.{Scheme, of_ballots, class_of, due, false_alarm, strict, says, keeps, stopped}
use Rattle.heads.specs.Rules.Scheme.{short, bitwise, split}
use Rattle.heads.specs.Heard.{estimate_at, no_ballots, ballots_below, ballots_of, From, IsLeast}
use Rattle.heads.proofs.Walks.{Right, right}
use Rattle.votes.specs.Tables.{same_state, head_in, stands, in_state, running, lowest_idle, rewrite_from}
use Rattle.votes.specs.Rounds.{Report, speaks, sends as sendsIn, senders, sent, heard_of, idle_noise, stranger, breach_of, breach_at, report_breach, hears as hearsIn, stepped, step_at, after}
use Rattle.votes.specs.Calls.{short_table, word_count, at_lowest, hear_breach}
use Rattle.runs.proofs.Tests.{and_left, and_right, and_both, holds, fails, is_true, is_false, cond-true, cond-false, same_test}
use Rattle.runs.proofs.Steps.{Heads, is_running, is_decided, runs, Alive, Events, heard, hears, sends, total, Step, Small}

pub same_some : {B : Type 0} {a b : B} → Some a ≡ Some b → a ≡ b
same_some e = cc

-- ---- searches that find nothing

pub none_both : {A : Type 0} (a b : Option A) → or_else a b ≡ None → (a ≡ None) × (b ≡ None)
none_both None b e = (refl, e)
none_both (Some x) b e = absurd (let z : ◌≡◌ {A = ℕ} 1 0 = ap (λ o. cond (is_some o) 1 0) e in omega arith)

pub when_none : {A : Type 0} (t : Bool) (a : A) → when t a ≡ None → t ≡ false
when_none false a e = refl
when_none true a e = absurd (let z : ◌≡◌ {A = ℕ} 1 0 = ap (λ o. cond (is_some o) 1 0) e in omega arith)

first_none_from : {A : Type 0} (f : ℕ → Option A) (i k : ℕ) → first_from f i k ≡ None → (j : ℕ) → j < k → f (i + j) ≡ None
unfolding first_from
first_none_from f i zero e j l = absurd (omega arith)
first_none_from f i (suc k) e zero l = let z : i + 0 ≡ i = omega arith in ap f z ∙ (none_both (f i) (first_from f (i + 1) k) e).0
first_none_from f i (suc k) e (suc j) l =
    let z : i + suc j ≡ i + 1 + j = omega arith in
    ap f z ∙ first_none_from f (i + 1) k (none_both (f i) (first_from f (i + 1) k) e).1 j (omega arith)

pub first_none : {A : Type 0} (f : ℕ → Option A) (k : ℕ) → first f k ≡ None → (j : ℕ) → j < k → f j ≡ None
first_none f k e j l = let z : 0 + j ≡ j = omega arith in ap f (sym z) ∙ first_none_from f 0 k e j l

pub lowest_none_at : (k round : ℕ) (o : Option ℕ) → at_lowest k round o ≡ None → o ≡ None
lowest_none_at k round None e = refl
lowest_none_at k round (Some h) e = absurd (let z : ◌≡◌ {A = ℕ} 1 0 = ap (λ o. cond (is_some o) 1 0) e in omega arith)

-- a test that excludes another
pub excluded : (a b : Bool) → (a && not b) ≡ false → T a → T b
excluded true true e t = tt
excluded true false e t = absurd (true≢false e)
excluded false b e t = absurd t

-- ---- heads by their numbers

pub record View {B : Type 0} (n : ℕ) (hs : List (Head B)) (st : Heads B) : Type 0 where
  pub long : n ≤ length hs
  pub reads : (i : ℕ) → i < n → slice_get hs i ≡ Some (st i)
  pub past : (i : ℕ) → n ≤ i → (st i).state ≡ Stopped

same_running : (x : State) → same_state x Running ≡ is_running x
same_running Running = refl
same_running Decided = refl
same_running Stopped = refl

-- a member of a set of heads 0 to 63
abbrev pub on : ℕ → ℕ → Bool
on set i = ltb i 64 && bit set i

pub on_bit : (set i : ℕ) → i < 64 → on set i ≡ bit set i
on_bit set i l = ap (λ (t : Bool). t && bit set i) (lt-ltb i 64 l)

pub on_below : (set i : ℕ) → T (on set i) → i < 64
on_below set i t = go (cases_lt i 64)
  where
    go : (i < 64) ⊎ (64 ≤ i) → i < 64
    go (inl l) = l
    go (inr l) = absurd (fails (le-ltb i 64 l) (and_left (ltb i 64) (bit set i) t))

pub on_in : (set i : ℕ) → i < 64 → T (bit set i) → T (on set i)
on_in set i l t = subst T (sym (on_bit set i l)) t

pub on_out : (set i : ℕ) → T (on set i) → T (bit set i)
on_out set i t = and_right (ltb i 64) (bit set i) t

module _ {B : Type 0} {n : ℕ} {hs : List (Head B)} {st : Heads B} (few : n ≤ 64) (v : View n hs st) where
  pub idle_past : (i : ℕ) → n ≤ i → T (runs st i) → ⊥
  idle_past i l t = subst (λ (x : State). T (is_running x)) (v.past i l) t

  pub runs_below : (i : ℕ) → T (runs st i) → i < n
  runs_below i t = go (cases_lt i n)
    where
      go : (i < n) ⊎ (n ≤ i) → i < n
      go (inl l) = l
      go (inr l) = absurd (idle_past i l t)

  pub alive_below : (i : ℕ) → Alive st i → i < n
  alive_below i (inl t) = runs_below i t
  alive_below i (inr t) = go (cases_lt i n)
    where
      go : (i < n) ⊎ (n ≤ i) → i < n
      go (inl l) = l
      go (inr l) = absurd (subst (λ (x : State). T (is_decided x)) (v.past i l) t)

  pub small_view : Small st
  small_view i a = let l = alive_below i a in omega arith

  stands_is : (i : ℕ) → i < n → stands Running hs n i ≡ runs st i
  stands_is i l = ap (λ (t : Bool). t && head_in Running (slice_get hs i)) (lt-ltb i n l) ∙ ap (head_in Running) (v.reads i l) ∙ same_running (st i).state

  -- the running heads as a set
  pub run_bit : (i : ℕ) → bit (running hs n) i ≡ runs st i
  unfolding in_state
  run_bit i = go (cases_lt i n)
    where
      go : (i < n) ⊎ (n ≤ i) → bit (word_of n (stands Running hs n)) i ≡ runs st i
      go (inl l) = bit_word n (stands Running hs n) i l ∙ stands_is i l
      go (inr l) = bit_past n (word_of n (stands Running hs n)) i (word_below n (stands Running hs n)) l ∙ sym (is_false (runs st i) (idle_past i l))

  -- the senders as a set
  pub sender_bit : (s : Scheme B) (r turns i : ℕ) → bit (senders s (r + 1) hs n turns) i ≡ (runs st i && says s (r + 1) (on turns i) (st i))
  unfolding senders
  sender_bit s r turns i = go (cases_lt i n)
    where
      go : (i < n) ⊎ (n ≤ i) → bit (word_of n (sendsIn s (r + 1) hs n turns)) i ≡ (runs st i && says s (r + 1) (on turns i) (st i))
      go (inl l) =
          bit_word n (sendsIn s (r + 1) hs n turns) i l
          ∙ ap₂ (λ (a b : Bool). a && b) (stands_is i l)
          (ap (speaks s (r + 1) (bit turns i)) (v.reads i l) ∙ ap (λ (t : Bool). says s (r + 1) t (st i)) (sym (on_bit turns i (omega arith))))
      go (inr l) =
          bit_past n (word_of n (sendsIn s (r + 1) hs n turns)) i (word_below n (sendsIn s (r + 1) hs n turns)) l
          ∙ ap (λ (a : Bool). a && says s (r + 1) (on turns i) (st i)) (sym (is_false (runs st i) (idle_past i l)))

-- ---- what happened in a round, by its turns and its report

-- an alarm is due in a vote where it is due by the class of detector that the vote asks for
pub due_is : {B : Type 0} (s : Scheme B) (c t : ℕ) → due s c t ≡ due_by (class_of s) c t
due_is short c t = refl
due_is (bitwise w code) c t = refl
due_is (split w code back) c t = refl

abbrev pub events : {B : Type 0} → (B → B → Bool) → Scheme B → ℕ → List (Head B) → ℕ → Report → Events B
events earlier s r hs turns q = record {
  turn = on turns;
  word = λ i j. ltb i 64 && on (get_or q.words i 0) j;
  alarm = on q.alarms;
  stop = on q.stops;
  ballots = λ i. cond (ltb i 64) (cond (of_ballots s (r + 1)) (ballots_of earlier hs (get_or q.words i 0)) no_ballots) no_ballots;
}

-- the record of each head after the round
abbrev pub step_of : {B : Type 0} → (B → B → Bool) → Scheme B → ℕ → ℕ → ℕ → List (Head B) → Report → Heads B → Heads B
step_of earlier s n senders r hs q st i = cond (ltb i n) (step_at earlier s senders (r + 1) hs q i (st i)) (st i)

pub nth_rewrite : {H : Type 0} (f : ℕ → H → H) (i k : ℕ) (hs : List H) (j : ℕ) → j < k → slice_get (rewrite_from f i k hs) j ≡ option_map (f (i + j)) (slice_get hs j)
unfolding rewrite_from
nth_rewrite f i zero hs j l = absurd (omega arith)
nth_rewrite f i (suc k) [] j l = refl
nth_rewrite f i (suc k) (h ∷ hs) zero l = let z : i + 0 ≡ i = omega arith in ap (λ (x : ℕ). Some (f x h)) (sym z)
nth_rewrite f i (suc k) (h ∷ hs) (suc j) l =
    let z : i + 1 + j ≡ i + suc j = omega arith in
    nth_rewrite f (i + 1) k hs j (omega arith) ∙ ap (λ (x : ℕ). option_map (f x) (slice_get hs j)) z

length_rewrite : {H : Type 0} (f : ℕ → H → H) (i k : ℕ) (hs : List H) → length (rewrite_from f i k hs) ≡ length hs
unfolding rewrite_from
length_rewrite f i zero hs = refl
length_rewrite f i (suc k) [] = refl
length_rewrite f i (suc k) (h ∷ hs) = ap suc (length_rewrite f (i + 1) k hs)

pub after_length : {B : Type 0} (earlier : B → B → Bool) (s : Scheme B) (n senders round : ℕ) (hs : List (Head B)) (q : Report)
    → length (after earlier s n senders round hs q) ≡ length hs
unfolding after
after_length earlier s n senders round hs q = length_rewrite (step_at earlier s senders round hs q) 0 n hs

-- a decided head takes no step
pub after_decided : {B : Type 0} (earlier : B → B → Bool) (s : Scheme B) (n senders round : ℕ) (hs : List (Head B)) (q : Report) (i : ℕ) (h : Head B) → i < n
    → slice_get hs i ≡ Some h → h.state ≡ Decided → slice_get (after earlier s n senders round hs q) i ≡ Some h
unfolding after
after_decided earlier s n senders round hs q i h l e d =
    nth_rewrite (step_at earlier s senders round hs q) 0 n hs i l
    ∙ ap (option_map (step_at earlier s senders round hs q (0 + i))) e
    ∙ ap (λ (x : State). Some (stepped s round (bit q.stops (0 + i)) (hearsIn earlier s senders round hs (get_or q.words (0 + i) 0) (bit q.alarms (0 + i))) x h)) d

module _ {B : Type 0} (earlier : B → B → Bool) (s : Scheme B) {n : ℕ} (few : n ≤ 64) (r : ℕ) where
  -- the table after an accepted hearing, by its heads
  pub view_after : {hs : List (Head B)} {st : Heads B} → View n hs st → (sending : ℕ) (q : Report)
      → View n (after earlier s n sending (r + 1) hs q) (step_of earlier s n sending r hs q st)
  unfolding after
  view_after {hs} {st} v sending q = record {
    long = subst (λ (k : ℕ). n ≤ k) (sym (length_rewrite (step_at earlier s sending (r + 1) hs q) 0 n hs)) v.long;
    reads = λ i l. let z : 0 + i ≡ i = omega arith in
        nth_rewrite (step_at earlier s sending (r + 1) hs q) 0 n hs i l
        ∙ ap (option_map (step_at earlier s sending (r + 1) hs q (0 + i))) (v.reads i l)
        ∙ ap (λ (k : ℕ). Some (step_at earlier s sending (r + 1) hs q k (st i))) z
        ∙ ap Some (sym (cond-true (ltb i n) _ _ (holds (lt-ltb i n l))));
    past = λ i l. ap (λ (h : Head B). h.state) (cond-false (ltb i n) _ _ (fails (le-ltb i n l))) ∙ v.past i l;
  }

-- what an accepted hearing has passed
pub record Accepted {B : Type 0} (s : Scheme B) (n r : ℕ) (hs : List (Head B)) (sending : ℕ) (q : Report) : Type 0 where
  pub stops_run : (i : ℕ) → i < 64 → T (bit q.stops i) → T (bit (running hs n) i)
  pub passed : (i : ℕ) → i < 64 → breach_at s (running hs n) sending (r + 1) q.words q.alarms i ≡ None

pub idle_none : (set runners : ℕ) → lowest_idle set runners ≡ None → (i : ℕ) → i < 64 → T (bit set i) → T (bit runners i)
unfolding lowest_idle
idle_none set runners e i l t = excluded (bit set i) (bit runners i) (lowest_none (λ i. bit set i && not (bit runners i)) 0 64 e i (omega arith) (omega arith)) t

pub accepted : {B : Type 0} (s : Scheme B) (n r : ℕ) (hs : List (Head B)) (sending : ℕ) (q : Report) → hear_breach s n (r + 1) sending hs q ≡ None → Accepted s n r hs sending q
unfolding hear_breach report_breach
accepted s n r hs sending q e =
    let a = none_both (short_table n hs) _ e in
    let b = none_both (when (ltb 10000 (r + 1)) (in_round 15 (r + 1))) _ a.1 in
    let c = none_both (word_count n (r + 1) q.words) _ b.1 in
    let d = none_both (at_lowest 9 (r + 1) (lowest_idle q.stops (running hs n))) _ c.1 in
    record {
      stops_run = idle_none q.stops (running hs n) (lowest_none_at 9 (r + 1) (lowest_idle q.stops (running hs n)) d.0);
      passed = first_none (breach_at s (running hs n) sending (r + 1) q.words q.alarms) 64 d.1;
    }

-- the rules that one head's report has passed
pub record Passed {B : Type 0} (s : Scheme B) (sending : ℕ) (runs : Bool) (word : ℕ) (alarm : Bool) (i : ℕ) : Type 0 where
  pub senders_only : (j : ℕ) → j < 64 → T (bit word j) → T (bit sending j)
  pub own : T (bit sending i) → T (bit word i)
  pub alarmed : T runs → T (due s (sent sending) (heard_of sending word)) → T alarm
  pub no_false : T (strict s) → T alarm → heard_of sending word ≡ sent sending → ⊥

pub passed_by : {B : Type 0} (s : Scheme B) (sending round : ℕ) (runs : Bool) (word : ℕ) (alarm : Bool) (i : ℕ) → breach_of s sending round runs word alarm i ≡ None
    → Passed s sending runs word alarm i
passed_by s sending round runs word alarm i e =
    let a = none_both (when (idle_noise runs word alarm) (at_head 10 round i)) _ e in
    let b = none_both (first (stranger sending round word i) 64) _ a.1 in
    let c = none_both (when (bit sending i && not (bit word i)) (at_head 12 round i)) _ b.1 in
    let d = none_both (when (runs && (due s (sent sending) (heard_of sending word) && not alarm)) (at_head 13 round i)) _ c.1 in
    record {
      senders_only = λ j l t. excluded (bit word j) (bit sending j) (when_none _ _ (first_none (stranger sending round word i) 64 b.0 j l)) t;
      own = excluded (bit sending i) (bit word i) (when_none _ _ c.0);
      alarmed = λ u t. three runs (due s (sent sending) (heard_of sending word)) alarm (when_none _ _ d.0) u t;
      no_false = λ u t f. three_not (strict s) alarm (false_alarm (sent sending) (heard_of sending word)) (when_none _ _ d.1) u t (holds (eq-eqb (heard_of sending word) (sent sending) f));
    }
  where
    three : (a b c : Bool) → (a && (b && not c)) ≡ false → T a → T b → T c
    three true true true e u t = tt
    three true true false e u t = absurd (true≢false e)
    three true false c e u t = absurd t
    three false b c e u t = absurd u

    three_not : (a b c : Bool) → (a && (b && c)) ≡ false → T a → T b → T c → ⊥
    three_not true true true e u t f = true≢false e
    three_not true true false e u t f = f
    three_not true false c e u t f = t
    three_not false b c e u t f = u

-- ---- an accepted hearing is a round, head by head

module _ {B : Type 0} (earlier : B → B → Bool) (order : Total earlier) (s : Scheme B) {n : ℕ} (few : n ≤ 64) (r : ℕ)
    {hs : List (Head B)} {st : Heads B} (v : View n hs st) (turns sending : ℕ) (q : Report)
    (turned : (i : ℕ) → T (on turns i) → T (runs st i))
    (sending_is : (i : ℕ) → bit sending i ≡ (runs st i && says s (r + 1) (on turns i) (st i)))
    (a : Accepted s n r hs sending q) where
  abbrev e : Events B
  e = events earlier s r hs turns q

  abbrev word : ℕ → ℕ
  word i = get_or q.words i 0

  passed : (i : ℕ) → i < 64 → Passed s sending (bit (running hs n) i) (word i) (bit q.alarms i) i
  passed i l = passed_by s sending (r + 1) (bit (running hs n) i) (word i) (bit q.alarms i) i (a.passed i l)

  heard_bit : (i j : ℕ) → T (e.word i j) → (i < 64) × (j < 64) × T (bit (word i) j)
  heard_bit i j t =
      let o = and_right (ltb i 64) (on (word i) j) t in
      (go (cases_lt i 64), on_below (word i) j o, on_out (word i) j o)
    where
      go : (i < 64) ⊎ (64 ≤ i) → i < 64
      go (inl l) = l
      go (inr l) = absurd (fails (le-ltb i 64 l) (and_left (ltb i 64) (on (word i) j) t))

  pub bit_heard : (i j : ℕ) → i < 64 → j < 64 → T (bit (word i) j) → T (e.word i j)
  bit_heard i j l m t = and_both (ltb i 64) (on (word i) j) (holds (lt-ltb i 64 l)) (on_in (word i) j m t)

  heard_sends : (i j : ℕ) → T (e.word i j) → T (sends s r st e j)
  heard_sends i j t = let h = heard_bit i j t in subst T (sending_is j) ((passed i h.0).senders_only j h.1 h.2)

  -- c and t are the counts of the sets
  pub total_is : sent sending ≡ total s r st e
  total_is = count_same 64 (bit sending) (sends s r st e) (λ i l. sending_is i)

  pub heard_is : (i : ℕ) → i < 64 → heard_of sending (word i) ≡ heard e i
  heard_is i l = count_same 64 (λ j. bit (word i) j && bit sending j) (e.word i)
      (λ j m. same_test _ _ (λ t. bit_heard i j l m (and_left (bit (word i) j) (bit sending j) t))
      (λ t. let b = (heard_bit i j t).2 in and_both (bit (word i) j) (bit sending j) b ((passed i l).senders_only j m b)))

  ballots_at : (i : ℕ) → i < 64 → e.ballots i ≡ cond (of_ballots s (r + 1)) (ballots_of earlier hs (word i)) no_ballots
  ballots_at i l = cond-true (ltb i 64) _ _ (holds (lt-ltb i 64 l))

  hears_is : (i : ℕ) → i < 64 → hearsIn earlier s sending (r + 1) hs (word i) (bit q.alarms i) ≡ hears e i
  hears_is i l =
      ap₂ (λ (c : ℕ) (x : Bool). record { count = c; ballots = cond (of_ballots s (r + 1)) (ballots_of earlier hs (word i)) no_ballots; alarm = x }) (heard_is i l) (sym (on_bit q.alarms i l))
      ∙ ap (λ (b : Ballots B). record { count = heard e i; ballots = b; alarm = e.alarm i }) (sym (ballots_at i l))

  -- ---- the ballots heard

  estimate_is : (j : ℕ) → j < n → estimate_at hs j ≡ Some (st j).estimate
  estimate_is j l = ap (option_map (λ h. h.estimate)) (v.reads j l)

  sender_below : (j : ℕ) → T (sends s r st e j) → j < n
  sender_below j t = runs_below few v j (and_left (runs st j) _ t)

  from_word : (i j : ℕ) → T (e.word i j) → From hs (word i) 64 j (st j).estimate
  from_word i j t =
      let h = heard_bit i j t in
      record { within = h.1; heard = is_true (bit (word i) j) h.2; sent = estimate_is j (sender_below j (heard_sends i j t)) }

  word_from : (i j : ℕ) (b : B) → i < 64 → From hs (word i) 64 j b → T (e.word i j) × ((st j).estimate ≡ b)
  word_from i j b l f =
      let t = bit_heard i j l f.within (holds f.heard) in
      (t, same_some (sym (estimate_is j (sender_below j (heard_sends i j t))) ∙ f.sent))

  module _ (ob : T (of_ballots s (r + 1))) where
    ballots_is : (i : ℕ) → i < 64 → e.ballots i ≡ ballots_below earlier hs (word i) 64
    ballots_is i l = ballots_at i l ∙ cond-true (of_ballots s (r + 1)) _ _ ob

    -- what the ballots of a head are
    found : (i : ℕ) → i < 64 → Right earlier hs (word i) 64 (e.ballots i)
    found i l = subst (λ (b : Ballots B). Right earlier hs (word i) 64 b) (sym (ballots_is i l)) (right earlier hs (word i) order 64)

    -- a number past 63 hears none
    late : (i : ℕ) → 64 ≤ i → e.ballots i ≡ no_ballots
    late i l = cond-false (ltb i 64) _ _ (fails (le-ltb i 64 l))

    none_of : (i : ℕ) → (e.ballots i).least ≡ None → (j : ℕ) → T (e.word i j) → ⊥
    none_of i f j t =
        let h = heard_bit i j t in
        let none = subst (λ (o : Option B). IsLeast earlier hs (word i) 64 o) f (found i h.0).least in
        none j (st j).estimate (from_word i j t)

    least_of : (i : ℕ) (b : B) → (e.ballots i).least ≡ Some b → (j : ℕ) × T (e.word i j) × ((st j).estimate ≡ b)
    least_of i b f = go (cases_lt i 64)
      where
        go : (i < 64) ⊎ (64 ≤ i) → (j : ℕ) × T (e.word i j) × ((st j).estimate ≡ b)
        go (inl l) =
            let m = subst (λ (o : Option B). IsLeast earlier hs (word i) 64 o) f (found i l).least in
            let w = word_from i m.0.0 b l m.0.1 in
            (m.0.0, w.0, w.1)
        go (inr l) = absurd (let z : ◌≡◌ {A = ℕ} 0 1 = ap (λ o. cond (is_some o) 1 0) (sym (ap (λ (x : Ballots B). x.least) (late i l)) ∙ f) in omega arith)

    one_of : (i : ℕ) → (e.ballots i).differ ≡ false → (j k : ℕ) → T (e.word i j) → T (e.word i k) → (st j).estimate ≡ (st k).estimate
    one_of i f j k t u = (found i (heard_bit i j t).0).one f j k (st j).estimate (st k).estimate (from_word i j t) (from_word i k u)

    two_of : (i : ℕ) → (e.ballots i).differ ≡ true → (j : ℕ) × (k : ℕ) × T (e.word i j) × T (e.word i k) × ((st j).estimate ≢ (st k).estimate)
    two_of i f = go (cases_lt i 64)
      where
        go : (i < 64) ⊎ (64 ≤ i) → (j : ℕ) × (k : ℕ) × T (e.word i j) × T (e.word i k) × ((st j).estimate ≢ (st k).estimate)
        go (inl l) =
            let t = (found i l).two f in
            let x = word_from i t.0 t.2 l t.4 in
            let y = word_from i t.1 t.3 l t.5 in
            (t.0, t.1, x.0, y.0, λ g. t.6 (sym x.1 ∙ g ∙ y.1))
        go (inr l) = absurd (true≢false (sym f ∙ ap (λ (x : Ballots B). x.differ) (late i l)))

  -- ---- what becomes of each head

  abbrev st' : Heads B
  st' = step_of earlier s n sending r hs q st

  steps_by : (i : ℕ) → (x : State) → (st i).state ≡ x → T (is_running x) → i < 64
      → stepped s (r + 1) (bit q.stops i) (hearsIn earlier s sending (r + 1) hs (word i) (bit q.alarms i)) x (st i)
      ≡ cond (e.stop i) (stopped (st i)) (keeps s (r + 1) (hears e i) (st i))
  steps_by i Running f u l =
      ap₂ (λ (b : Bool) (h : Heard B). cond b (stopped (st i)) (keeps s (r + 1) h (st i))) (sym (on_bit q.stops i l)) (hears_is i l)
  steps_by i Decided f u l = absurd u
  steps_by i Stopped f u l = absurd u

  stays_by : (i : ℕ) (stop : Bool) (h : Heard B) (x : State) → (T (is_running x) → ⊥) → stepped s (r + 1) stop h x (st i) ≡ st i
  stays_by i stop h Running f = absurd (f tt)
  stays_by i stop h Decided f = refl
  stays_by i stop h Stopped f = refl

  moves : (i : ℕ) → T (runs st i) → st' i ≡ cond (e.stop i) (stopped (st i)) (keeps s (r + 1) (hears e i) (st i))
  moves i u =
      let l = runs_below few v i u in
      cond-true (ltb i n) _ _ (holds (lt-ltb i n l)) ∙ steps_by i (st i).state refl u (omega arith)

  stays : (i : ℕ) → (T (runs st i) → ⊥) → st' i ≡ st i
  stays i f = go (ltb i n)
    where
      go : (b : Bool) → cond b (step_at earlier s sending (r + 1) hs q i (st i)) (st i) ≡ st i
      go true = stays_by i (bit q.stops i) _ (st i).state f
      go false = refl

  pub step_taken : Step s r st e st'
  step_taken = record {
    turns_run = turned;
    senders_heard = heard_sends;
    alarms_due = λ i u t. let l : i < 64 = (let m = runs_below few v i u in omega arith) in
        on_in q.alarms i l ((passed i l).alarmed (subst T (sym (run_bit few v i)) u)
        (subst T (sym (due_is s (sent sending) (heard_of sending (word i))))
        (subst (λ (c : ℕ). T (due_by (class_of s) c (heard_of sending (word i)))) (sym total_is) (subst (λ (h : ℕ). T (due_by (class_of s) (total s r st e) h)) (sym (heard_is i l)) t))));
    none_false = λ strictly i t f. let l = on_below q.alarms i t in
        (passed i l).no_false strictly (on_out q.alarms i t) (heard_is i l ∙ f ∙ sym total_is);
    none_heard = none_of;
    least_heard = least_of;
    one_heard = one_of;
    two_heard = two_of;
    idle = stays;
    halts = λ i u p. moves i u ∙ cond-true (e.stop i) _ _ p;
    goes_on = λ i u p. moves i u ∙ cond-false (e.stop i) _ _ p;
  }
