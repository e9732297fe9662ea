-- The worked cases, in one list.
use Rattle.std.specs.Prelude.{◌≡◌, ℕ, cond, List, [], ◌∷◌, map, Some, Ok, Err, Result, ◌==◌}
use Rattle.std.specs.Option.{option_map}
use Rattle.ballots.specs.declared.kinds.Recipe.{Recipe}
use Rattle.ballots.specs.Faults.{Breach, at_head}
use Rattle.ballots.specs.Kinds.{recipe, ticket}
use Rattle.heads.specs.Heard.{ballots_of}
use Rattle.heads.specs.Rules.{Scheme, fresh}
use Rattle.heads.specs.Rules.Scheme.{short, bitwise, split}
use Rattle.votes.specs.declared.stages.Standing.{Standing}
use Rattle.votes.specs.declared.stages.Standing.TheVariants.{Running, Stopped, Decided}
use Rattle.channels.specs.Clear.{clear}
use Rattle.detectors.specs.Exact.{counting}
use Rattle.managers.specs.Turns.{lowest_turns, rotation_turns}
use Rattle.runs.specs.Calm.{Calm}
use Rattle.runs.specs.Driving.{Parts}
use Rattle.cases.specs.Plays.{Round, plays, drives, standings, estimates, begun}
use Rattle.ballots.specs.contracts.recipe.RecipeBallot.TheImpl.{ghosts as recipeOrder}
use Rattle.ballots.specs.contracts.recipe.RecipeCoded.TheImpl.{ghosts as recipeCode}
use Rattle.ballots.specs.contracts.ticket.TicketBallot.TheImpl.{ghosts as ticketOrder}
use Rattle.ballots.specs.contracts.ticket.TicketCoded.TheImpl.{ghosts as ticketCode}

-- a round with those turns, hear words and alarms, in which no head stops
abbrev pub round : ℕ → List ℕ → ℕ → Round
round turns words alarms = record { turns = turns; report = record { words = words; alarms = alarms; stops = 0 } }

abbrev pub short_vote : Scheme Recipe
short_vote = short

abbrev pub bit_vote : Scheme Recipe
bit_vote = bitwise recipeCode.W recipeCode.encoded

abbrev pub split_vote : Scheme Recipe
split_vote = split recipeCode.W recipeCode.encoded recipeCode.decoded

-- a vote of recipes after those rounds: how its heads stand, and their estimates
abbrev pub stand : Scheme Recipe → ℕ → List Recipe → List Round → Result (List (Standing ℕ)) Breach
stand s n recipes rounds = standings recipeCode.encoded (plays recipeOrder.earlier s n 0 (begun recipes) rounds)

abbrev pub estimate : Scheme Recipe → ℕ → List Recipe → List Round → Result (List ℕ) Breach
estimate s n recipes rounds = estimates recipeCode.encoded (plays recipeOrder.earlier s n 0 (begun recipes) rounds)

-- a split vote on 5 and 9 after k rounds in which all is heard, with stops by the round
abbrev pub clearly : Parts
clearly = record { channel = clear; detector = counting; manager = lowest_turns 0 }

abbrev pub five_and_nine : (ℕ → ℕ) → ℕ → Result (List (Standing ℕ)) Breach
five_and_nine stops k = standings recipeCode.encoded (drives recipeOrder.earlier split_vote 2 clearly stops k 0 (begun (recipe 5 ∷ recipe 9 ∷ [])))

abbrev pub no_stops : ℕ → ℕ
no_stops r = 0

-- head 0, which brought 5, stops in round 17
abbrev pub stop_in_seventeen : ℕ → ℕ
stop_in_seventeen r = cond (r == 17) 1 0

abbrev pub both : List Recipe
both = recipe 41 ∷ recipe 38 ∷ []

abbrev pub four : List Recipe
four = recipe 1 ∷ recipe 2 ∷ recipe 3 ∷ recipe 4 ∷ []

abbrev pub all_four_run : Result (List (Standing ℕ)) Breach
all_four_run = Ok (Running ∷ Running ∷ Running ∷ Running ∷ [])

pub record Starred : Type 0 where
  -- a short vote of recipes 41 and 38, with turns 3, 0, 1, 0 and words 3 3, 3 3, 1 1, 0 0: both decide 38
  pub listing : stand short_vote 2 both (round 3 (3 ∷ 3 ∷ []) 0 ∷ round 0 (3 ∷ 3 ∷ []) 0 ∷ round 1 (1 ∷ 1 ∷ []) 0 ∷ round 0 (0 ∷ 0 ∷ []) 0 ∷ [])
      ≡ Ok (Decided 38 ∷ Decided 38 ∷ [])
  -- its first round with words 1 and 2: an alarm is missing at head 0; with both alarms the estimates stay
  pub half_heard : stand short_vote 2 both (round 3 (1 ∷ 2 ∷ []) 0 ∷ []) ≡ Err (at_head 13 1 0)
  pub both_alarmed : estimate short_vote 2 both (round 3 (1 ∷ 2 ∷ []) 3 ∷ []) ≡ Ok (41 ∷ 38 ∷ [])
  -- three messages and no alarm: a short vote accepts a head that heard 2 and refuses one that heard 1
  pub short_two : stand short_vote 4 four (round 7 (7 ∷ 7 ∷ 7 ∷ 3 ∷ []) 0 ∷ []) ≡ all_four_run
  pub short_one : stand short_vote 4 four (round 7 (7 ∷ 7 ∷ 7 ∷ 1 ∷ []) 0 ∷ []) ≡ Err (at_head 13 1 3)
  -- a bit vote accepts 1 and refuses 0
  pub bit_one : stand bit_vote 4 four (round 7 (7 ∷ 7 ∷ 7 ∷ 1 ∷ []) 0 ∷ []) ≡ all_four_run
  pub bit_none : stand bit_vote 4 four (round 7 (7 ∷ 7 ∷ 7 ∷ 0 ∷ []) 0 ∷ []) ≡ Err (at_head 13 1 3)
  -- a false alarm is refused in a split vote; in a bit vote it is accepted, and the round is not calm
  pub false_in_split : stand split_vote 2 (recipe 5 ∷ recipe 9 ∷ []) (round 1 (3 ∷ 3 ∷ []) 1 ∷ []) ≡ Err (at_head 14 1 0)
  pub false_in_bit : stand bit_vote 2 (recipe 5 ∷ recipe 9 ∷ []) (round 1 (1 ∷ 1 ∷ []) 1 ∷ []) ≡ Ok (Running ∷ Running ∷ [])
  pub not_calm : Calm bit_vote 1 3 1 (round 1 (1 ∷ 1 ∷ []) 1).report → ⊥
  -- a split vote of recipes 5 and 9: both decide 5 in round 24
  pub split_runs : five_and_nine no_stops 23 ≡ Ok (Running ∷ Running ∷ [])
  pub split_ends : five_and_nine no_stops 24 ≡ Ok (Decided 5 ∷ Decided 5 ∷ [])
  -- the same, but the head of 5 stops in round 17: 9 is decided in round 44, the 27th from 18
  pub stop_runs : five_and_nine stop_in_seventeen 43 ≡ Ok (Stopped ∷ Running ∷ [])
  pub stop_ends : five_and_nine stop_in_seventeen 44 ≡ Ok (Stopped ∷ Decided 9 ∷ [])
  -- tickets 3/5 and 7/60 have codes 197 and 508, and the least of them is 7/60
  pub ticket_low : ticketCode.encoded (ticket 3 5) ≡ 197
  pub ticket_high : ticketCode.encoded (ticket 7 60) ≡ 508
  pub ticket_least : option_map ticketCode.encoded (ballots_of ticketOrder.earlier (map fresh (ticket 3 5 ∷ ticket 7 60 ∷ [])) 3).least ≡ Some 508
  -- rotation, last told of round 70, with heads 2 and 5 running: head 2 has the turn
  pub rotates : (rotation_turns 70).rule 71 36 ≡ 4
