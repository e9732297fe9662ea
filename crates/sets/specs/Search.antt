-- The first of several answers, and the first number that has one.
use Rattle.std.specs.Prelude.{ℕ, zero, suc, ◌+◌, Bool, cond, Some, None, Option}

-- an answer where a test holds
abbrev pub when : {A : Type 0} → Bool → A → Option A
when b a = cond b (Some a) None

-- the first answer of two
abbrev pub or_else : {A : Type 0} → Option A → Option A → Option A
or_else (Some a) o = Some a
or_else None o = o

-- the first answer of f at i, i + 1 and so on, k numbers in all
unfoldable pub first_from : {A : Type 0} → (ℕ → Option A) → ℕ → ℕ → Option A
first_from f i zero = None
first_from f i (suc k) = or_else (f i) (first_from f (i + 1) k)

-- the answer of f at the lowest number below n that has one
abbrev pub first : {A : Type 0} → (ℕ → Option A) → ℕ → Option A
first f n = first_from f 0 n
