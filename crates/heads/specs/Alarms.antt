-- When an alarm is due at a head that heard t of c messages.
use Rattle.std.specs.Prelude.{ℕ, ◌*◌, Bool, ◌&&◌, ◌==◌, nat_le, nat_lt}
use Rattle.heads.specs.declared.alarms.Class.{Class}
use Rattle.heads.specs.declared.alarms.Class.TheVariants.{Zero, Majority}

-- class zero: at none of the messages; class majority: at half of them or fewer; never in a silent round
abbrev pub due_by : Class → ℕ → ℕ → Bool
due_by Zero c t = nat_lt 0 c && t == 0
due_by Majority c t = nat_lt 0 c && nat_le (2 * t) c
