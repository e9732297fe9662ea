-- The refusal of a part.
use Rattle.ballots.specs.Faults.{Breach, numbered}
use Rattle.parts.specs.declared.faults.PartFault.{PartFault}
use Rattle.parts.specs.declared.faults.PartFault.TheVariants.{Unfit}

abbrev pub part_breach : PartFault → Breach
part_breach Unfit = numbered 17
