-- The channel on which the nearest sender drowns the others.
use Rattle.std.specs.Prelude.{◌≡◌, ℕ, ◌+◌, ◌-◌, ◌<◌, Bool, true, false, cond, not, ◌&&◌, ◌||◌, List, ◌++◌, length, replicate, Some, None, Option, ◌==◌, nat_le, nat_lt, slice_index}
use Rattle.std.specs.List.{list_all}
use Rattle.sets.specs.Sets.{bit, count, word_of}
use Rattle.parts.specs.Ranges.{at_head}
use Rattle.parts.specs.Channels.{Meaning}
use Rattle.channels.specs.Own.{is_own}

-- how far apart two heads stand
abbrev pub apart : List ℕ → ℕ → ℕ → ℕ
apart positions a b = (slice_index positions a - slice_index positions b) + (slice_index positions b - slice_index positions a)

-- head i sends, and is not the hearer
abbrev pub is_other : ℕ → ℕ → ℕ → Bool
is_other hearer senders i = bit senders i && not (i == hearer)

-- head j is nearer to the hearer than head i, or as near and lower
abbrev pub before : List ℕ → ℕ → ℕ → ℕ → Bool
before positions hearer j i =
    nat_lt (apart positions hearer j) (apart positions hearer i) || (apart positions hearer j == apart positions hearer i && nat_lt j i)

-- head i is an other sender, and no other sender is before it
abbrev pub is_nearest : List ℕ → ℕ → ℕ → ℕ → Bool
is_nearest positions hearer senders i = is_other hearer senders i && count 64 (λ j. is_other hearer senders j && before positions hearer j i) == 0

-- a head hears itself and the nearest other sender
abbrev pub captured : List ℕ → ℕ → ℕ → ℕ
captured positions hearer senders = word_of 64 (λ i. is_own hearer senders i || is_nearest positions hearer senders i)

abbrev pub capture : List ℕ → Meaning
capture positions = record { rule = λ round hearer senders. cond (at_head round hearer) (captured positions hearer senders) 0; clear = 1 }

-- ---- positions that fit: of 1 to 64 heads, 0 to 999 each

abbrev pub all_placed : List ℕ → Bool
all_placed positions = list_all (λ p. nat_le p 999) positions

abbrev pub placed : List ℕ → Bool
placed positions = (nat_le 1 (length positions) && nat_le (length positions) 64) && all_placed positions

-- heads past the list stand at 0
abbrev pub filled_up : List ℕ → List ℕ
filled_up positions = positions ++ replicate (64 - length positions) 0

-- ---- looking for the nearest

-- head i is nearer than the nearest so far
abbrev pub nearer : List ℕ → ℕ → ℕ → Option ℕ → Bool
nearer positions hearer i None = true
nearer positions hearer i (Some best) = nat_lt (apart positions hearer i) (apart positions hearer best)

abbrev pub closer : List ℕ → ℕ → ℕ → Option ℕ → ℕ → Option ℕ
closer positions hearer senders found i = cond (is_other hearer senders i && nearer positions hearer i found) (Some i) found

-- of the other senders below n, none is before head b
pub record First (positions : List ℕ) (hearer senders n b : ℕ) : Type 0 where
  pub below : b < n
  pub sends : is_other hearer senders b ≡ true
  pub least : (j : ℕ) → j < n → is_other hearer senders j ≡ true → before positions hearer j b ≡ false

abbrev pub Found : List ℕ → ℕ → ℕ → ℕ → Option ℕ → Type 0
Found positions hearer senders n None = (j : ℕ) → j < n → is_other hearer senders j ≡ false
Found positions hearer senders n (Some b) = First positions hearer senders n b
