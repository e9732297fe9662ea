-- Words that are joined.
use Rattle.std.proofs.Common.{◌≡◌, ℕ, ◌<◌, Bool, ◌||◌, ap, ◌∙◌, ap₂}
use Rattle.sets.specs.Sets.{bit, word_of}
use Rattle.sets.proofs.Words.{word_same, bit_word}

bits_of : (p : ℕ → Bool) (a i : ℕ) → i < 64 → a ≡ word_of 64 p → bit a i ≡ p i
bits_of p a i l e = ap (λ (x : ℕ). bit x i) e ∙ bit_word 64 p i l

-- two words of tests joined are the word of both tests
pub joined_of : (p q : ℕ → Bool) (a b : ℕ) → a ≡ word_of 64 p → b ≡ word_of 64 q → word_of 64 (λ i. bit a i || bit b i) ≡ word_of 64 (λ i. p i || q i)
joined_of p q a b e f = word_same 64 _ _ (λ i l. ap₂ ◌||◌ (bits_of p a i l e) (bits_of q b i l f))
