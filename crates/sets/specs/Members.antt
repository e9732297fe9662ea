-- A walk over the heads of a set.
use Rattle.std.specs.Prelude.{◌≡◌, ℕ, ◌+◌, ◌-◌, Some, None, Option}
use Rattle.sets.specs.Sets.{bit, lowest_from}
use Rattle.sets.specs.declared.walk.Members.{Members}

-- the walk stands behind the head that it gave; where it gives none, it stays
abbrev pub Behind : Members → Option ℕ → Members → Type 0
Behind s None t = t ≡ s
Behind s (Some i) t = (t.set ≡ s.set) × (t.from ≡ i + 1)

-- it gives the lowest head of the set from where it stands
abbrev pub Gives : Members → Option ℕ → Members → Type 0
Gives s r t = (r ≡ lowest_from (bit s.set) s.from (64 - s.from)) × Behind s r t
