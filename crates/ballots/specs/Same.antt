-- Ballots with equal fields are equal: a range has one proof at most.
use Rattle.std.specs.Prelude.{◌≡◌, ◌≤◌}
use mathlib.Core.HLevel.{is_prop→PathP, ×_prop}
use Rattle.std.proofs.Math.Bridge.{le_prop}
use Rattle.ballots.specs.declared.kinds.Recipe.{Recipe}
use Rattle.ballots.specs.declared.kinds.Ticket.{Ticket}

pub same_recipe : (a b : Recipe) → a.number ≡ b.number → a ≡ b
same_recipe a b p = λ i. record {
  number = p i;
  fits = is_prop→PathP (λ j. p j ≤ 4095) (λ j. le_prop) a.fits b.fits i;
}

pub same_ticket : (a b : Ticket) → a.grade ≡ b.grade → a.tank ≡ b.tank → a ≡ b
same_ticket a b p q = λ i. record {
  grade = p i;
  tank = q i;
  fits = is_prop→PathP (λ j. (p j ≤ 15) × (q j ≤ 63)) (λ j. ×_prop le_prop le_prop) a.fits b.fits i;
}
