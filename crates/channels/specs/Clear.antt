-- The channel on which all are heard.
use Rattle.std.specs.Prelude.{cond}
use Rattle.parts.specs.Ranges.{at_head}
use Rattle.parts.specs.Channels.{Meaning}

abbrev pub clear : Meaning
clear = record { rule = λ round hearer senders. cond (at_head round hearer) senders 0; clear = 1 }
