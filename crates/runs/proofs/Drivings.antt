-- What an accepted driving has passed.
use Rattle.std.proofs.Common.{◌≡◌, ℕ, ◌+◌, ◌<◌, ◌≤◌, T, ltb, List, length, get_or, None, ◌∙◌, arith}
use Rattle.std.proofs.lemmas.Bool.{ltb-false}
use Rattle.std.proofs.lemmas.List.FromFn.{get_or-map-range_with_len, length-range_with_len}
use Rattle.std.proofs.lemmas.List.{length-map}
use Rattle.std.specs.List.{range_with_len}
use Rattle.sets.specs.Sets.{bit}
use Rattle.ballots.specs.Faults.{numbered}
use Rattle.heads.specs.declared.head.Head.{Head}
use Rattle.heads.specs.Rules.{Scheme}
use Rattle.votes.specs.Tables.{running, lowest_idle}
use Rattle.votes.specs.Rounds.{Report, breach_at, report_breach}
use Rattle.votes.specs.Calls.{short_table, word_count, open_breach, hear_breach, rounds_spent, none_runs}
use Rattle.runs.specs.Driving.{Driving, round, runners, turns, sending, word, words, alarms, report, early_breach, drive_breach}
use Rattle.runs.proofs.Views.{none_both, when_none, first_none, lowest_none_at, idle_none, Accepted}

-- a table that is not refused has a record for every head
pub long_table : {B : Type 0} (n : ℕ) (hs : List (Head B)) → short_table n hs ≡ None → n ≤ length hs
long_table n hs e = ltb-false (length hs) n (when_none (ltb (length hs) n) (numbered 4) e)

pub heard_long : {B : Type 0} (s : Scheme B) (n r sent : ℕ) (hs : List (Head B)) (q : Report) → hear_breach s n (r + 1) sent hs q ≡ None → n ≤ length hs
unfolding hear_breach
heard_long s n r sent hs q e = long_table n hs (none_both (short_table n hs) _ e).0

-- the turns of an opening that is not refused go to running heads
pub turns_running : {B : Type 0} (n r : ℕ) (hs : List (Head B)) (turned : ℕ) → open_breach n (r + 1) hs turned ≡ None → (i : ℕ) → i < 64 → T (bit turned i) → T (bit (running hs n) i)
turns_running n r hs turned e =
    let a = none_both (short_table n hs) _ e in
    let b = none_both (rounds_spent (r + 1)) _ a.1 in
    let c = none_both (none_runs (r + 1) (running hs n)) _ b.1 in
    idle_none turned (running hs n) (lowest_none_at 7 (r + 1) (lowest_idle turned (running hs n)) c.1)

pub record DrivenOn {B : Type 0} (d : Driving B) : Type 0 where
  pub long : d.n ≤ length d.table
  pub opened : open_breach d.n (round d) d.table (turns d) ≡ None
  pub accepted : Accepted d.scheme d.n d.heard d.table (sending d) (report d)

pub driven_on : {B : Type 0} (d : Driving B) (list : List ℕ) → drive_breach d list ≡ None → DrivenOn d
unfolding early_breach report_breach
driven_on d list e =
    let a = none_both (early_breach d list) _ e in
    let b = none_both (short_table d.n d.table) _ a.0 in
    let c = none_both (word_count d.n (round d) list) _ b.1 in
    let f = none_both (open_breach d.n (round d) d.table (turns d)) _ c.1 in
    record {
      long = long_table d.n d.table b.0;
      opened = f.0;
      accepted = record {
        stops_run = idle_none d.stops (runners d) (lowest_none_at 9 (round d) (lowest_idle d.stops (runners d)) f.1);
        passed = first_none (breach_at d.scheme (runners d) (sending d) (round d) (words d) (alarms d)) 64 a.1;
      };
    }

-- ---- the words that the channel gives

pub length_words : {B : Type 0} (d : Driving B) → length (words d) ≡ d.n
unfolding words
length_words d = length-map (range_with_len 0 d.n) (word d) ∙ length-range_with_len 0 d.n

pub word_at : {B : Type 0} (d : Driving B) (i : ℕ) → i < d.n → get_or (words d) i 0 ≡ word d i
unfolding words
word_at d i l = get_or-map-range_with_len (word d) 0 d.n i i 0 l (omega arith)
