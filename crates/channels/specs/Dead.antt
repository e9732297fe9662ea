-- Dead spells over a channel.
use Rattle.std.specs.Prelude.{max, cond, List}
use Rattle.parts.specs.Ranges.{at_head}
use Rattle.parts.specs.Channels.{Meaning}
use Rattle.parts.specs.declared.spells.Spell.{Spell}
use Rattle.parts.specs.Spells.{spanned, past}
use Rattle.channels.specs.Own.{own_of}

-- in a spell a head hears itself alone
abbrev pub deadened : List Spell → Meaning → Meaning
deadened spells below = record {
  rule = λ round hearer senders. cond (spanned spells round) (cond (at_head round hearer) (own_of hearer senders) 0) (below.rule round hearer senders);
  clear = max below.clear (past spells);
}
