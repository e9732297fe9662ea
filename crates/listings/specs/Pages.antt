-- A page that a text is written to.
use Rattle.std.specs.Prelude.{ℕ, List, length, Some, None, Ok, Err, Option, Result, nat_le}
use Rattle.sets.specs.Search.{when}
use Rattle.sinks.specs.declared.front.NoRoom.{NoRoom}

-- the length of a text, where it fits
abbrev pub fitting : List ℕ → List ℕ → Option ℕ
fitting text page = when (nat_le (length text) (length page)) (length text)

abbrev pub answered : Result ℕ NoRoom → Option ℕ
answered (Ok n) = Some n
answered (Err e) = None
