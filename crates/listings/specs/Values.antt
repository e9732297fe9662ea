-- The values of a line.
use Rattle.std.specs.Prelude.{ℕ, List, [], ◌∷◌, ◌++◌, Some, None, decimal, Option}
use Rattle.recordings.specs.declared.listing.Outcome.{Outcome}
use Rattle.recordings.specs.declared.listing.Outcome.TheVariants as outcome
use Rattle.listings.specs.declared.lines.Value.{Value}
use Rattle.listings.specs.declared.lines.Value.TheVariants.{Number, Letter, Dash}

abbrev pub value_text : Value → List ℕ
value_text (Number n) = decimal n
value_text (Letter b) = b ∷ []
value_text Dash = 45 ∷ []

-- the values, with a blank before each
abbrev pub values_text : List Value → List ℕ
values_text [] = []
values_text (v ∷ vs) = (32 ∷ value_text v) ++ values_text vs

-- a letter, the values, and the end of the line
abbrev pub line_text : ℕ → List Value → List ℕ
line_text letter vs = letter ∷ (values_text vs ++ (10 ∷ []))

abbrev pub value_of : Option ℕ → Value
value_of (Some n) = Number n
value_of None = Dash

-- r, s or d
abbrev pub letter_of : Outcome → Value
letter_of outcome.Running = Letter 114
letter_of outcome.Stopped = Letter 115
letter_of (outcome.Decided code) = Letter 100

-- the code of the ballot that was decided
abbrev pub code_of : Outcome → Value
code_of outcome.Running = Dash
code_of outcome.Stopped = Dash
code_of (outcome.Decided code) = Number code
