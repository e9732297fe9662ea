-- Chains that are calm and end, and chains in which a head still runs one calm round before the bound: the promise is
-- not empty, and its bounds cannot be lowered.
use Rattle.std.specs.Prelude.{◌≡◌, ℕ, ◌-◌, List, [], ◌∷◌, map}
use Rattle.ballots.specs.declared.kinds.Recipe.{Recipe}
use Rattle.ballots.specs.Kinds.{recipe}
use Rattle.heads.specs.declared.head.Head.{Head}
use Rattle.heads.specs.Rules.{Scheme, calm_bound, fresh}
use Rattle.votes.specs.declared.stages.Vote.{Vote}
use Rattle.votes.specs.declared.stages.Standing.{Standing}
use Rattle.votes.specs.declared.stages.Standing.TheVariants.{Running, Stopped, Decided}
use Rattle.votes.specs.Calls.{standing_as}
use Rattle.runs.specs.Chains.{Stage, voting, Calls, Begins}
use Rattle.cases.specs.Starred.{short_vote, bit_vote, split_vote}
use Rattle.ballots.specs.contracts.recipe.RecipeBallot.TheImpl.{ghosts as recipeOrder}
use Rattle.ballots.specs.contracts.recipe.RecipeCoded.TheImpl.{ghosts as recipeCode}

-- a vote of those recipes, begun, and a chain of calls on it whose last k heard rounds are calm, after which the heads
-- stand so
pub record Exhibit (s : Scheme Recipe) (recipes : List Recipe) (k : ℕ) (ends : List (Standing ℕ)) : Type 0 where
  pub vote : Vote (Unit {0})
  pub begins : Begins vote (map fresh recipes)
  pub stage : Stage (Unit {0})
  pub heads : List (Head Recipe)
  pub chain : Calls recipeOrder.earlier s (voting vote) (map fresh recipes) 0 stage heads k
  pub stand : map (λ h. standing_as h.state (recipeCode.encoded h.estimate)) heads ≡ ends

abbrev pub pair : List Recipe
pair = recipe 5 ∷ recipe 9 ∷ []

pub record Exhibits : Type 0 where
  pub short_ends : Exhibit short_vote pair (calm_bound short_vote) (Decided 5 ∷ Decided 5 ∷ [])
  pub short_runs : Exhibit short_vote pair (calm_bound short_vote - 1) (Running ∷ Running ∷ [])
  pub bit_ends : Exhibit bit_vote pair (calm_bound bit_vote) (Decided 5 ∷ Decided 5 ∷ [])
  pub bit_runs : Exhibit bit_vote pair (calm_bound bit_vote - 1) (Running ∷ Running ∷ [])
  pub split_ends : Exhibit split_vote pair (calm_bound split_vote) (Stopped ∷ Decided 9 ∷ [])
  pub split_runs : Exhibit split_vote pair (calm_bound split_vote - 1) (Stopped ∷ Running ∷ [])
