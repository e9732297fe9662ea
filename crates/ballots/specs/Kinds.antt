-- Recipes and tickets by their numbers.
use Rattle.std.specs.Prelude.{ℕ, ◌%◌, cond, ◌||◌, Ok, Err, Result, ◌==◌, nat_lt}
use Rattle.std.proofs.Common.{arith}
use Rattle.ballots.specs.declared.faults.BallotFault.{BallotFault}
use Rattle.ballots.specs.declared.faults.BallotFault.TheVariants.{BeyondRange}
use Rattle.ballots.specs.declared.kinds.Recipe.{Recipe}
use Rattle.ballots.specs.declared.kinds.Ticket.{Ticket}

-- the recipe of a number, brought into the range of recipes
abbrev pub recipe : ℕ → Recipe
recipe number = record { number = number % 4096; fits = omega arith }

-- the ticket of a grade and a tank, brought into their ranges
abbrev pub ticket : ℕ → ℕ → Ticket
ticket grade tank = record { grade = grade % 16; tank = tank % 64; fits = (omega arith, omega arith) }

abbrev pub recipe_from : ℕ → Result Recipe BallotFault
recipe_from number = cond (nat_lt 4095 number) (Err BeyondRange) (Ok (recipe number))

abbrev pub ticket_from : ℕ → ℕ → Result Ticket BallotFault
ticket_from grade tank = cond (nat_lt 15 grade || nat_lt 63 tank) (Err BeyondRange) (Ok (ticket grade tank))

-- a number is the code of the ballot that it leads back to, or of none
abbrev pub from_code : {B : Type 0} → (B → ℕ) → (ℕ → B) → ℕ → Result B BallotFault
from_code encoded decoded code = cond (encoded (decoded code) == code) (Ok (decoded code)) (Err BeyondRange)
