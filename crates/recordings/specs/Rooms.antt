-- What is written to the front of a caller's slice that has room.
use Rattle.std.specs.Prelude.{Bool, cond, List}
use Rattle.sinks.specs.Overs.{over}

-- ys with its front written over by xs where there is room to work in, and else ys as it was
abbrev pub over_if : {X : Type 0} → Bool → List X → List X → List X
over_if room xs ys = cond room (over xs ys) ys
