-- Which spells may be listed.
use Rattle.std.specs.Prelude.{Bool, ◌&&◌, nat_le}
use Rattle.parts.specs.declared.spells.Spell.{Spell}

-- first round 1 at the earliest, last round 10,000 at the latest, in order
abbrev pub fits : Spell → Bool
fits x = nat_le 1 x.first && (nat_le x.first x.last && nat_le x.last 10000)

-- what stands where no spell is listed
abbrev pub blank : Spell
blank = record { first = 0; last = 0 }
