-- Spells of interference over a detector.
use Rattle.std.specs.Prelude.{max, cond, List}
use Rattle.parts.specs.Ranges.{counted}
use Rattle.parts.specs.Detectors.{Meaning}
use Rattle.parts.specs.declared.spells.Spell.{Spell}
use Rattle.parts.specs.Spells.{spanned, past}

-- in a spell all heads are alarmed
abbrev pub disturbed : List Spell → Meaning → Meaning
disturbed spells below = record {
  rule = λ round head c t. cond (spanned spells round) (counted round head c t) (below.rule round head c t);
  class = below.class;
  quiet = max below.quiet (past spells);
}
