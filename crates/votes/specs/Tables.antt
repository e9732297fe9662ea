-- The heads' records as a list.
use Rattle.std.specs.Prelude.{ℕ, zero, suc, ◌+◌, Bool, true, false, not, ◌&&◌, List, [], ◌∷◌, Some, None, Option, nat_lt}
use Rattle.std.specs.List.{slice_get}
use Rattle.sets.specs.Sets.{bit, word_of, lowest}
use Rattle.heads.specs.declared.head.Head.{Head}
use Rattle.heads.specs.declared.head.State.{State}
use Rattle.heads.specs.declared.head.State.TheVariants.{Running, Decided, Stopped}

abbrev pub same_state : State → State → Bool
same_state Running Running = true
same_state Running Decided = false
same_state Running Stopped = false
same_state Decided Running = false
same_state Decided Decided = true
same_state Decided Stopped = false
same_state Stopped Running = false
same_state Stopped Decided = false
same_state Stopped Stopped = true

abbrev pub head_in : {B : Type 0} → State → Option (Head B) → Bool
head_in state None = false
head_in state (Some h) = same_state h.state state

-- head i of the first n is in that state; a number from n on names no head
abbrev pub stands : {B : Type 0} → State → List (Head B) → ℕ → ℕ → Bool
stands state hs n i = nat_lt i n && head_in state (slice_get hs i)

-- the heads in that state, and the running heads, as sets
unfoldable pub in_state : {B : Type 0} → State → List (Head B) → ℕ → ℕ
in_state state hs n = word_of n (stands state hs n)

abbrev pub running : {B : Type 0} → List (Head B) → ℕ → ℕ
running hs n = in_state Running hs n

-- the lowest head of a set that does not run
unfoldable pub lowest_idle : ℕ → ℕ → Option ℕ
lowest_idle set runners = lowest (λ i. bit set i && not (bit runners i)) 64

-- the list with its first k elements rewritten, the first of them as number i; the others stay
unfoldable pub rewrite_from : {H : Type 0} → (ℕ → H → H) → ℕ → ℕ → List H → List H
rewrite_from f i zero hs = hs
rewrite_from f i (suc k) [] = []
rewrite_from f i (suc k) (h ∷ hs) = f i h ∷ rewrite_from f (i + 1) k hs

-- the list with each element i below n rewritten by f i; the others stay
abbrev pub rewrite : {H : Type 0} → (ℕ → H → H) → ℕ → List H → List H
rewrite f n hs = rewrite_from f 0 n hs
