-- A set of heads is a word of 64 bits: head i is in it where bit i is 1.
use Rattle.std.specs.Prelude.{◌≡◌, ℕ, zero, suc, ◌+◌, ◌/◌, ◌%◌, ◌^◌, Bool, true, cond, Option, ◌==◌}
use Rattle.sets.specs.Search.{when, first_from}

unfoldable pub bit : ℕ → ℕ → Bool
bit word i = word / 2 ^ i % 2 == 1

-- how many numbers below n the test holds of
unfoldable pub count : ℕ → (ℕ → Bool) → ℕ
count zero p = 0
count (suc n) p = count n p + cond (p n) 1 0

-- every head of the first set is in the second
abbrev pub Within : ℕ → ℕ → Type 0
Within a b = (i : ℕ) → bit a i ≡ true → bit b i ≡ true

-- exactly one head is in the set
abbrev pub Lone : ℕ → Type 0
Lone set = count 64 (bit set) ≡ 1

-- the word of the numbers below n that the test holds of
unfoldable pub word_of : ℕ → (ℕ → Bool) → ℕ
word_of zero p = 0
word_of (suc n) p = word_of n p + cond (p n) (2 ^ n) 0

-- the lowest of the k numbers from i on that the test holds of
abbrev pub lowest_from : (ℕ → Bool) → ℕ → ℕ → Option ℕ
lowest_from p i k = first_from (λ j. when (p j) j) i k

-- the lowest number below n that the test holds of
abbrev pub lowest : (ℕ → Bool) → ℕ → Option ℕ
lowest p n = lowest_from p 0 n
