-- The detectors that never alarm without a cause.
use Rattle.std.specs.Prelude.{◌&&◌, ◌==◌, nat_lt}
use Rattle.heads.specs.declared.alarms.Class.TheVariants.{Zero, Majority}
use Rattle.parts.specs.Ranges.{counted}
use Rattle.parts.specs.Detectors.{Meaning}

-- it alarms exactly where a message was missed
abbrev pub counting : Meaning
counting = record { rule = λ round head c t. counted round head c t && nat_lt t c; class = Majority; quiet = 1 }

-- it alarms exactly where messages were sent and none was heard
abbrev pub squelch : Meaning
squelch = record { rule = λ round head c t. counted round head c t && (nat_lt 0 c && t == 0); class = Zero; quiet = 1 }
