-- Driven votes that are calm and end, and that still run one calm round before the bound.
use Rattle.std.proofs.Common.{◌≡◌, ℕ, zero, suc, ◌<◌, ◌≤◌, Bool, true, false, List, [], ◌∷◌, map, Some, Ok, Err, Result, sym, refl, ap, subst, arith}
use Rattle.std.proofs.lemmas.Bool.{true≢false}
use Rattle.std.specs.List.{slice_get}
use Rattle.sets.specs.Search.{first_from}
use Rattle.sets.specs.Sets.{bit, count, word_of}
use Rattle.ballots.specs.declared.kinds.Recipe.{Recipe}
use Rattle.ballots.specs.Faults.{Breach}
use Rattle.ballots.specs.Kinds.{recipe}
use Rattle.heads.specs.declared.head.Head.{Head}
use Rattle.heads.specs.Heard.{ballots_below}
use Rattle.heads.specs.Rules.{Scheme, fresh}
use Rattle.parts.specs.declared.spells.Spell.{Spell}
use Rattle.channels.specs.Clear.{clear}
use Rattle.detectors.specs.Exact.{counting}
use Rattle.detectors.specs.Interference.{disturbed}
use Rattle.managers.specs.Turns.{lowest_turns}
use Rattle.votes.specs.declared.stages.Standing.{Standing}
use Rattle.votes.specs.Tables.{in_state, lowest_idle, rewrite_from}
use Rattle.votes.specs.Rounds.{senders, report_breach, after}
use Rattle.votes.specs.Calls.{hear_breach, standing_as}
use Rattle.runs.specs.Driving.{Parts, words, alarms, early_breach}
use Rattle.runs.specs.Chains.{voting, Calls, none, Begins}
use Rattle.cases.specs.Plays.{drives, standings, begun}
use Rattle.cases.specs.Starred.{short_vote, bit_vote, split_vote, clearly, no_stops, stop_in_seventeen}
use Rattle.cases.specs.Exhibits.{Exhibit, Exhibits, pair}
use Rattle.votes.specs.declared.stages.Standing.TheVariants.{Running, Decided}
use Rattle.cases.proofs.Settled.{settled}
use Rattle.cases.proofs.Calmly.{all}
use Rattle.cases.proofs.Driven.{vote_at, tally, chained}
use Rattle.ballots.specs.contracts.recipe.RecipeBallot.TheImpl.{ghosts as recipeOrder}
use Rattle.ballots.specs.contracts.recipe.RecipeCoded.TheImpl.{ghosts as recipeCode}

-- interference in round 1 alone, so that it is not calm
abbrev disturbance : List Spell
disturbance = record { first = 1; last = 1 } ∷ []

abbrev disturbedly : Parts
disturbedly = record { channel = clear; detector = disturbed disturbance counting; manager = lowest_turns 0 }

two : 2 ≤ 64
two = omega arith

none_yet : 0 ≤ 10000
none_yet = omega arith

begun_pair : Begins (vote_at recipeOrder.earlier short_vote clearly no_stops 2 two 0 none_yet) (map fresh pair)
begun_pair = record {
  some = omega arith;
  no_round = refl;
  long = omega arith;
  enrolled = at;
}
  where
    at : (i : ℕ) → i < 2 → (ballot : Recipe) × (slice_get (map fresh pair) i ≡ Some (fresh ballot))
    at zero l = (recipe 5, refl)
    at (suc zero) l = (recipe 9, refl)
    at (suc (suc i)) l = absurd (omega arith)

-- heads that stand in a known way are there
is_ok : Result (List (Standing ℕ)) Breach → Bool
is_ok (Ok x) = true
is_ok (Err x) = false

there : (r : Result (List (Head Recipe)) Breach) (ends : List (Standing ℕ)) → standings recipeCode.encoded r ≡ Ok ends
    → (hs : List (Head Recipe)) × (r ≡ Ok hs) × (map (λ h. standing_as h.state (recipeCode.encoded h.estimate)) hs ≡ ends)
unfolding is_ok
there (Ok hs) ends e = (hs, refl, (let z : map (λ h. standing_as h.state (recipeCode.encoded h.estimate)) hs ≡ ends = cc in z))
there (Err b) ends e = absurd (true≢false (sym (ap is_ok e)))

-- m drivings make an exhibit, if they lead to heads that stand so, with so many calm rounds
exhibit : (s : Scheme Recipe) (parts : Parts) (stops : ℕ → ℕ) (m k : ℕ) (ends : List (Standing ℕ))
    → standings recipeCode.encoded (drives recipeOrder.earlier s 2 parts stops m 0 (begun pair)) ≡ Ok ends
    → tally recipeOrder.earlier s parts stops 2 two m 0 (begun pair) 0 ≡ k
    → Exhibit s pair k ends
exhibit s parts stops m k ends e f =
    let t = there (drives recipeOrder.earlier s 2 parts stops m 0 (begun pair)) ends e in
    let c = chained recipeOrder.earlier s parts stops 2 two (voting (vote_at recipeOrder.earlier s parts stops 2 two 0 none_yet)) (map fresh pair) 0
    m 0 (map fresh pair) t.0 0 (none_yet, none) t.1 in
    record {
      vote = vote_at recipeOrder.earlier s parts stops 2 two 0 none_yet;
      begins = begun_pair;
      stage = voting (vote_at recipeOrder.earlier s parts stops 2 two c.0 c.1.0);
      heads = t.0;
      chain = subst (λ (x : ℕ). Calls recipeOrder.earlier s (voting (vote_at recipeOrder.earlier s parts stops 2 two 0 none_yet)) (map fresh pair) 0 (voting (vote_at recipeOrder.earlier s parts stops 2 two c.0 c.1.0)) t.0 x) f c.1.1;
      stand = t.2;
    }

-- ---- computed

short_3 : standings recipeCode.encoded (drives recipeOrder.earlier short_vote 2 disturbedly no_stops 3 0 (begun pair)) ≡ Ok (Running ∷ Running ∷ [])
unfolding drives tally all words alarms early_breach hear_breach senders report_breach after in_state lowest_idle rewrite_from ballots_below bit count word_of first_from
short_3 = refl

short_4 : standings recipeCode.encoded (drives recipeOrder.earlier short_vote 2 disturbedly no_stops 4 0 (begun pair)) ≡ Ok (Decided 5 ∷ Decided 5 ∷ [])
unfolding drives tally all words alarms early_breach hear_breach senders report_breach after in_state lowest_idle rewrite_from ballots_below bit count word_of first_from
short_4 = refl

short_calm_3 : tally recipeOrder.earlier short_vote disturbedly no_stops 2 two 3 0 (begun pair) 0 ≡ 2
unfolding drives tally all words alarms early_breach hear_breach senders report_breach after in_state lowest_idle rewrite_from ballots_below bit count word_of first_from
short_calm_3 = refl

short_calm_4 : tally recipeOrder.earlier short_vote disturbedly no_stops 2 two 4 0 (begun pair) 0 ≡ 3
unfolding drives tally all words alarms early_breach hear_breach senders report_breach after in_state lowest_idle rewrite_from ballots_below bit count word_of first_from
short_calm_4 = refl

bit_27 : standings recipeCode.encoded (drives recipeOrder.earlier bit_vote 2 disturbedly no_stops 27 0 (begun pair)) ≡ Ok (Running ∷ Running ∷ [])
unfolding drives tally all words alarms early_breach hear_breach senders report_breach after in_state lowest_idle rewrite_from ballots_below bit count word_of first_from
bit_27 = refl

bit_28 : standings recipeCode.encoded (drives recipeOrder.earlier bit_vote 2 disturbedly no_stops 28 0 (begun pair)) ≡ Ok (Decided 5 ∷ Decided 5 ∷ [])
unfolding drives tally all words alarms early_breach hear_breach senders report_breach after in_state lowest_idle rewrite_from ballots_below bit count word_of first_from
bit_28 = refl

bit_calm_27 : tally recipeOrder.earlier bit_vote disturbedly no_stops 2 two 27 0 (begun pair) 0 ≡ 26
unfolding drives tally all words alarms early_breach hear_breach senders report_breach after in_state lowest_idle rewrite_from ballots_below bit count word_of first_from
bit_calm_27 = refl

bit_calm_28 : tally recipeOrder.earlier bit_vote disturbedly no_stops 2 two 28 0 (begun pair) 0 ≡ 27
unfolding drives tally all words alarms early_breach hear_breach senders report_breach after in_state lowest_idle rewrite_from ballots_below bit count word_of first_from
bit_calm_28 = refl

split_calm_43 : tally recipeOrder.earlier split_vote clearly stop_in_seventeen 2 two 43 0 (begun pair) 0 ≡ 26
unfolding drives tally all words alarms early_breach hear_breach senders report_breach after in_state lowest_idle rewrite_from ballots_below bit count word_of first_from
split_calm_43 = refl

split_calm_44 : tally recipeOrder.earlier split_vote clearly stop_in_seventeen 2 two 44 0 (begun pair) 0 ≡ 27
unfolding drives tally all words alarms early_breach hear_breach senders report_breach after in_state lowest_idle rewrite_from ballots_below bit count word_of first_from
split_calm_44 = refl

pub shown : Exhibits
shown = record {
  short_ends = exhibit short_vote disturbedly no_stops 4 3 _ short_4 short_calm_4;
  short_runs = exhibit short_vote disturbedly no_stops 3 2 _ short_3 short_calm_3;
  bit_ends = exhibit bit_vote disturbedly no_stops 28 27 _ bit_28 bit_calm_28;
  bit_runs = exhibit bit_vote disturbedly no_stops 27 26 _ bit_27 bit_calm_27;
  split_ends = exhibit split_vote clearly stop_in_seventeen 44 27 _ settled.stop_ends split_calm_44;
  split_runs = exhibit split_vote clearly stop_in_seventeen 43 26 _ settled.stop_runs split_calm_43;
}
