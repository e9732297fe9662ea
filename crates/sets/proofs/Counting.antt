-- Counts of the ones of a word.
use Rattle.std.proofs.Common.{◌≡◌, ℕ, zero, suc, ◌+◌, ◌/◌, ◌%◌, ◌^◌, ◌<◌, Bool, cond, eqb, sym, refl, ap, ◌∙◌, ap₂, mod-lt, div-one, add-one, arith}
use lib.Bits.{bit_and, and_mask}
use lib.Count.{ones, ones_step}
use Rattle.std.proofs.lemmas.Nat.{shr-shr, shr_below}
use Rattle.sets.specs.Sets.{bit, count}

-- the first instead of the last: the test at 0, and the tests after it
pub count_first : (n : ℕ) (p : ℕ → Bool) → count (suc n) p ≡ cond (p 0) 1 0 + count n (λ i. p (suc i))
unfolding count
count_first zero p = omega arith
count_first (suc n) p = omega (arith, count_first n p)

digit : (m : ℕ) → m < 2 → m ≡ cond (eqb m 1) 1 0
digit zero h = refl
digit (suc zero) h = refl
digit (suc (suc m)) h = omega arith

pub bit_rest : (w i : ℕ) → bit (w / 2) i ≡ bit w (suc i)
unfolding bit
bit_rest w i = ap (λ (x : ℕ). eqb (x % 2) 1) (shr-shr w 1 i ∙ ap (λ (k : ℕ). w / 2 ^ k) (omega arith))

pub bit_first : (w : ℕ) → cond (bit w 0) 1 0 ≡ w % 2
unfolding bit
bit_first w = ap (λ (x : ℕ). cond (eqb (x % 2) 1) 1 0) (div-one w) ∙ sym (digit (w % 2) (mod-lt w (omega arith)))

-- what `count_ones` answers is the number of heads in the set
pub ones_count : (n w : ℕ) → w < 2 ^ n → ones w ≡ count n (bit w)
unfolding count ones
ones_count zero w h = let z : w ≡ 0 = omega arith in ap ones z
ones_count (suc n) w h =
    ones_step w
    ∙ ap₂ (λ (x y : ℕ). x + y) (sym (bit_first w)) (ones_count n (w / 2) (shr_below w n 1 (rw add-one h)) ∙ ap (count n) (λ k i. bit_rest w i k))
    ∙ sym (count_first n (bit w))

pub and_one : (n : ℕ) → bit_and n 1 ≡ n % 2
and_one n = and_mask n 1
