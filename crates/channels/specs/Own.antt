-- What a head hears of itself.
use Rattle.std.specs.Prelude.{ℕ, Bool, ◌&&◌, ◌==◌}
use Rattle.sets.specs.Sets.{bit, word_of}

-- head i is the hearer, and sends
abbrev pub is_own : ℕ → ℕ → ℕ → Bool
is_own hearer senders i = bit senders i && i == hearer

-- the hearer alone, if it sends
abbrev pub own_of : ℕ → ℕ → ℕ
own_of hearer senders = word_of 64 (is_own hearer senders)
