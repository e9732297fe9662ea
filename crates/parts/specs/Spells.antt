-- Spells: the rounds in which a layer has its effect.
use Rattle.std.specs.Prelude.{ℕ, ◌+◌, max, Bool, cond, ◌&&◌, List, [], ◌∷◌, ◌++◌, length, Ok, Err, Result, nat_le, nat_lt, take}
use Rattle.std.specs.List.{list_any}
use Rattle.parts.specs.declared.faults.PartFault.{PartFault}
use Rattle.parts.specs.declared.faults.PartFault.TheVariants.{Unfit}
use Rattle.parts.specs.declared.spells.Spell.{Spell}
use Rattle.parts.specs.declared.spells.Spells.{Spells}
use Rattle.parts.specs.Spans.{fits}

-- the spells in the order in which they were added
abbrev pub listed : Spells → List Spell
listed s = take s.count s.list

-- ---- one spell more

abbrev pub addable : List Spell → Spell → Bool
addable spells x = fits x && nat_lt (length spells) 16

abbrev pub added : List Spell → Spell → Result (Unit {0}) PartFault
added spells x = cond (addable spells x) (Ok tt) (Err Unfit)

abbrev pub added_to : List Spell → Spell → List Spell
added_to spells x = cond (addable spells x) (spells ++ (x ∷ [])) spells

-- ---- the rounds that they span

abbrev pub spans_at : Spell → ℕ → Bool
spans_at x round = nat_le x.first round && nat_le round x.last

-- the round lies in one of the spells
abbrev pub spanned : List Spell → ℕ → Bool
spanned spells round = list_any (λ x. spans_at x round) spells

-- 1 + the latest last round; 0 where there is no spell
abbrev pub past : List Spell → ℕ
past [] = 0
past (x ∷ spells) = max (x.last + 1) (past spells)
