-- The number of a refusal, and the values that it names.
use Rattle.std.specs.Prelude.{ℕ, Some, None, Option}
use Rattle.ballots.specs.declared.faults.BallotFault.{BallotFault}
use Rattle.ballots.specs.declared.faults.BallotFault.TheVariants.{BeyondRange}

-- which rule is broken, and where: the round, the head and the other head, if the rule names them
pub record Breach : Type 0 where
  pub number : ℕ
  pub round : Option ℕ
  pub head : Option ℕ
  pub other : Option ℕ

abbrev pub numbered : ℕ → Breach
numbered k = record { number = k; round = None; head = None; other = None }

abbrev pub in_round : ℕ → ℕ → Breach
in_round k round = record { number = k; round = Some round; head = None; other = None }

abbrev pub at_head : ℕ → ℕ → ℕ → Breach
at_head k round head = record { number = k; round = Some round; head = Some head; other = None }

abbrev pub ballot_breach : BallotFault → Breach
ballot_breach BeyondRange = numbered 1
