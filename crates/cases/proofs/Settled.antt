-- The worked cases hold.
use Rattle.std.proofs.Common.{refl, arith}
use Rattle.std.proofs.lemmas.Bool.{true≢false}
use Rattle.sets.specs.Search.{first_from}
use Rattle.sets.specs.Sets.{bit, count, word_of}
use Rattle.heads.specs.Heard.{ballots_below}
use Rattle.votes.specs.Tables.{in_state, lowest_idle, rewrite_from}
use Rattle.votes.specs.Rounds.{senders, report_breach, after}
use Rattle.votes.specs.Calls.{hear_breach}
use Rattle.runs.specs.Driving.{words, alarms, early_breach}
use Rattle.cases.specs.Plays.{plays, drives}
use Rattle.cases.specs.Starred.{Starred}

pub settled : Starred
unfolding plays drives words alarms early_breach hear_breach senders report_breach after in_state lowest_idle rewrite_from ballots_below bit count word_of first_from
settled = record {
  listing = refl;
  half_heard = refl;
  both_alarmed = refl;
  short_two = refl;
  short_one = refl;
  bit_one = refl;
  bit_none = refl;
  false_in_split = refl;
  false_in_bit = refl;
  not_calm = λ calm. true≢false (calm.no_false 0 (omega arith) refl);
  split_runs = refl;
  split_ends = refl;
  stop_runs = refl;
  stop_ends = refl;
  ticket_low = refl;
  ticket_high = refl;
  ticket_least = refl;
  rotates = refl;
}
