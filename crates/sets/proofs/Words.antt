-- Words as sets: the operations bit by bit.
use Rattle.std.proofs.Common.{◌≡◌, ℕ, zero, suc, ◌+◌, ◌-◌, ◌*◌, ◌/◌, ◌%◌, ◌^◌, ◌<◌, ◌≤◌, Bool, true, false, cond, not, ◌&&◌, ◌||◌, eqb, sym, refl, ap, ◌∙◌, subst, ap₂, ⊎_elim, lt_of_lt_of_le, not-suc-le-zero, mod-lt, one-mul, pow-suc, div-one, mul-div_cancel, add-one, arith, pow_mono}
use native.Mathlib.Nat.{div-eq_of_lt, mul-mod_left}
use lib.Dec.{eqb-suc-zero, eqb-zero-suc, eqb-suc-suc}
use lib.Count.{ones, count_trailing_zeros, under}
use lib.Bits.{bit_and, bit_or, or_shifted_r, and_shr, and_mod, or_shr, or_mod}
use Rattle.std.proofs.lemmas.Nat.{shr_below, shr-shr, one_shl}
use Rattle.std.proofs.lemmas.Bool.{cases_lt, eq-eqb, ne_eqb, true≢false}
use Rattle.sets.specs.Sets.{bit, count, word_of, Within}
use Rattle.sets.proofs.Counting.{bit_rest, bit_first, ones_count}

or_false : (t : Bool) → (t || false) ≡ t
or_false true = refl
or_false false = refl

digit_and : (x y : ℕ) → x < 2 → y < 2 → eqb (bit_and x y) 1 ≡ (eqb x 1 && eqb y 1)
digit_and zero y h k = refl
digit_and (suc zero) zero h k = refl
digit_and (suc zero) (suc zero) h k = refl
digit_and (suc zero) (suc (suc y)) h k = let z : ⊥ = omega arith in absurd z
digit_and (suc (suc x)) y h k = let z : ⊥ = omega arith in absurd z

digit_or : (x y : ℕ) → x < 2 → y < 2 → eqb (bit_or x y) 1 ≡ (eqb x 1 || eqb y 1)
digit_or zero y h k = refl
digit_or (suc zero) zero h k = refl
digit_or (suc zero) (suc zero) h k = refl
digit_or (suc zero) (suc (suc y)) h k = let z : ⊥ = omega arith in absurd z
digit_or (suc (suc x)) y h k = let z : ⊥ = omega arith in absurd z

pub bit_of_and : (a b i : ℕ) → bit (bit_and a b) i ≡ (bit a i && bit b i)
unfolding bit
bit_of_and a b i =
    ap (λ (x : ℕ). eqb (x % 2) 1) (and_shr a b i) ∙ ap (λ (x : ℕ). eqb x 1) (and_mod (a / 2 ^ i) (b / 2 ^ i) 1)
    ∙ digit_and (a / 2 ^ i % 2) (b / 2 ^ i % 2) (mod-lt (a / 2 ^ i) (omega arith)) (mod-lt (b / 2 ^ i) (omega arith))

pub bit_of_or : (a b i : ℕ) → bit (bit_or a b) i ≡ (bit a i || bit b i)
unfolding bit
bit_of_or a b i =
    ap (λ (x : ℕ). eqb (x % 2) 1) (or_shr a b i) ∙ ap (λ (x : ℕ). eqb x 1) (or_mod (a / 2 ^ i) (b / 2 ^ i) 1)
    ∙ digit_or (a / 2 ^ i % 2) (b / 2 ^ i % 2) (mod-lt (a / 2 ^ i) (omega arith)) (mod-lt (b / 2 ^ i) (omega arith))

-- tests that agree below n count alike
pub count_same : (n : ℕ) (p q : ℕ → Bool) → ((i : ℕ) → i < n → p i ≡ q i) → count n p ≡ count n q
unfolding count
count_same zero p q h = refl
count_same (suc n) p q h = ap₂ (λ (x : ℕ) (b : Bool). x + cond b 1 0) (count_same n p q (λ i k. h i (omega arith))) (h n (omega arith))

-- words of n bits with the same bits are one
pub same_bits : (n a b : ℕ) → a < 2 ^ n → b < 2 ^ n → ((i : ℕ) → i < n → bit a i ≡ bit b i) → a ≡ b
same_bits zero a b ha hb h = omega arith
same_bits (suc n) a b ha hb h =
    let low : a % 2 ≡ b % 2 = sym (bit_first a) ∙ ap (λ (t : Bool). cond t 1 0) (h 0 (omega arith)) ∙ bit_first b in
    let high : a / 2 ≡ b / 2 =
    same_bits n (a / 2) (b / 2) (shr_below a n 1 (rw add-one ha)) (shr_below b n 1 (rw add-one hb))
    (λ i k. bit_rest a i ∙ h (suc i) (omega arith) ∙ sym (bit_rest b i)) in
    omega arith

-- no bit past a word's end
pub bit_past : (n w i : ℕ) → w < 2 ^ n → n ≤ i → bit w i ≡ false
unfolding bit
bit_past n w i h k = ap (λ (x : ℕ). eqb (x % 2) 1) (div-eq_of_lt (lt_of_lt_of_le h (pow_mono k)))

bit_low : (w : ℕ) → bit w 0 ≡ eqb (w % 2) 1
unfolding bit
bit_low w = ap (λ (x : ℕ). eqb (x % 2) 1) (div-one w)

-- `1 << k`
pub bit_one : (k i : ℕ) → bit (2 ^ k) i ≡ eqb i k
bit_one zero zero = bit_low 1
bit_one zero (suc i) = sym (bit_rest 1 i) ∙ bit_past 0 0 i (omega arith) (omega arith) ∙ sym (eqb-suc-zero i)
bit_one (suc k) zero = bit_low (2 ^ suc k) ∙ ap (λ (x : ℕ). eqb x 1) (ap (λ (x : ℕ). x % 2) (pow-suc 2 k) ∙ mul-mod_left (2 ^ k) 2) ∙ sym (eqb-zero-suc k)
bit_one (suc k) (suc i) =
    sym (bit_rest (2 ^ suc k) i) ∙ ap (λ (x : ℕ). bit x i) (ap (λ (x : ℕ). x / 2) (pow-suc 2 k) ∙ mul-div_cancel (2 ^ k) (omega arith))
    ∙ bit_one k i ∙ sym (eqb-suc-suc i k)

one_more : (t : Bool) (w m : ℕ) → w < m → w + cond t m 0 < m * 2
one_more true w m h = omega arith
one_more false w m h = omega arith

pub word_below : (n : ℕ) (p : ℕ → Bool) → word_of n p < 2 ^ n
unfolding word_of
word_below zero p = omega arith
word_below (suc n) p = rw (pow-suc 2 n) (one_more (p n) (word_of n p) (2 ^ n) (word_below n p))

join : (t : Bool) (w n : ℕ) → w < 2 ^ n → w + cond t (2 ^ n) 0 ≡ cond t (bit_or w (2 ^ n)) w
join false w n h = omega arith
join true w n h = sym (ap (bit_or w) (sym (one-mul (2 ^ n))) ∙ or_shifted_r 1 n w h ∙ omega (arith, one-mul (2 ^ n)))

-- a loop's step: one head more
pub word_next : (n : ℕ) (p : ℕ → Bool) → word_of (n + 1) p ≡ cond (p n) (bit_or (word_of n p) (2 ^ n)) (word_of n p)
unfolding word_of
word_next n p = rw (add-one n) (join (p n) (word_of n p) n (word_below n p))

last : (t : Bool) (w n : ℕ) → w < 2 ^ n → bit (cond t (bit_or w (2 ^ n)) w) n ≡ t
last true w n h = bit_of_or w (2 ^ n) n ∙ ap₂ ◌||◌ (bit_past n w n h (omega arith)) (bit_one n n ∙ eq-eqb n n refl)
last false w n h = bit_past n w n h (omega arith)

lower : (t : Bool) (w n i : ℕ) → i < n → bit (cond t (bit_or w (2 ^ n)) w) i ≡ bit w i
lower true w n i h = bit_of_or w (2 ^ n) i ∙ ap (λ (b : Bool). bit w i || b) (bit_one n i ∙ ne_eqb i n (λ e. omega arith)) ∙ or_false (bit w i)
lower false w n i h = refl

-- the word of a test has its bits
pub bit_word : (n : ℕ) (p : ℕ → Bool) (i : ℕ) → i < n → bit (word_of n p) i ≡ p i
bit_word zero p i h = absurd (not-suc-le-zero h)
bit_word (suc n) p i h =
    let next = rw (add-one n) at (word_next n p) in
    ap (λ (w : ℕ). bit w i) next
    ∙ ⊎_elim (λ l. lower (p n) (word_of n p) n i l ∙ bit_word n p i l)
    (λ l. let e : n ≡ i = omega arith in subst (λ (k : ℕ). bit (cond (p n) (bit_or (word_of n p) (2 ^ n)) (word_of n p)) k ≡ p k) e (last (p n) (word_of n p) n (word_below n p)))
    (cases_lt i n)

-- so the heads of a test are counted by its word
pub count_word : (n : ℕ) (p : ℕ → Bool) → count n (bit (word_of n p)) ≡ count n p
count_word n p = count_same n (bit (word_of n p)) p (bit_word n p)

pub word_none : (p : ℕ → Bool) → word_of 0 p ≡ 0
unfolding word_of
word_none p = refl

-- a loop's step, as the code writes it: `set |= 1 << n`, or nothing
pub word_with : (n : ℕ) (p : ℕ → Bool) (w : ℕ) → n < 64 → p n ≡ true → w ≡ word_of n p → bit_or w ((1 * 2 ^ n) % 2 ^ 64) ≡ word_of (n + 1) p
word_with n p w h e is = ap₂ bit_or is (one_shl n 64 h) ∙ sym (word_next n p ∙ rw e)

pub word_without : (n : ℕ) (p : ℕ → Bool) (w : ℕ) → p n ≡ false → w ≡ word_of n p → w ≡ word_of (n + 1) p
word_without n p w e is = is ∙ sym (word_next n p ∙ rw e)

-- how many heads the word of a test has
pub ones_word : (n : ℕ) (p : ℕ → Bool) → ones (word_of n p) ≡ count n p
ones_word n p = ones_count n (word_of n p) (word_below n p) ∙ count_word n p

-- ---- the lowest bit

under_low : (d k t : ℕ) (p : ℕ → Bool) → d < 2 → p 0 ≡ eqb d 1 → ((i : ℕ) → i < t → p (suc i) ≡ false) → (i : ℕ) → i < under d t → p i ≡ false
under_low zero k t p h e below zero l = e
under_low zero k t p h e below (suc i) l = below i (omega arith)
under_low (suc d) k t p h e below i l = absurd (not-suc-le-zero l)

under_at : (d k t : ℕ) (p : ℕ → Bool) → d < 2 → p 0 ≡ eqb d 1 → (t < k → p (suc t) ≡ true) → under d t < suc k → p (under d t) ≡ true
under_at zero k t p h e at-t l = at-t (omega arith)
under_at (suc zero) k t p h e at-t l = e
under_at (suc (suc d)) k t p h e at-t l = let z : ⊥ = omega arith in absurd z

pub trailing_low : (k w i : ℕ) → i < count_trailing_zeros k w → bit w i ≡ false
unfolding count_trailing_zeros
trailing_low zero w i h = absurd (not-suc-le-zero h)
trailing_low (suc k) w i h =
    under_low (w % 2) k (count_trailing_zeros k (w / 2)) (bit w) (mod-lt w (omega arith)) (bit_low w)
    (λ j l. sym (bit_rest w j) ∙ trailing_low k (w / 2) j l) i h

pub trailing_at : (k w : ℕ) → count_trailing_zeros k w < k → bit w (count_trailing_zeros k w) ≡ true
unfolding count_trailing_zeros
trailing_at zero w h = absurd (not-suc-le-zero h)
trailing_at (suc k) w h =
    under_at (w % 2) k (count_trailing_zeros k (w / 2)) (bit w) (mod-lt w (omega arith)) (bit_low w)
    (λ l. sym (bit_rest w (count_trailing_zeros k (w / 2))) ∙ trailing_at k (w / 2) l) h

-- a word with the bits of a test is the word of that test
pub word_is : (n w : ℕ) (p : ℕ → Bool) → w < 2 ^ n → ((i : ℕ) → i < n → bit w i ≡ p i) → w ≡ word_of n p
word_is n w p h e = same_bits n w (word_of n p) h (word_below n p) (λ i k. e i k ∙ sym (bit_word n p i k))

pub bit_shr : (w i j : ℕ) → bit (w / 2 ^ i) j ≡ bit w (i + j)
unfolding bit
bit_shr w i j = ap (λ (x : ℕ). eqb (x % 2) 1) (shr-shr w i j)

flipped : (d e : ℕ) → d + e ≡ 1 → eqb e 1 ≡ not (eqb d 1)
flipped zero e h = eq-eqb e 1 (omega arith)
flipped (suc zero) e h = ne_eqb e 1 (λ k. omega arith)
flipped (suc (suc d)) e h = let z : ⊥ = omega arith in absurd z

-- the complement of a word of n bits
pub bit_not : (n b i : ℕ) → b < 2 ^ n → i < n → bit (2 ^ n - 1 - b) i ≡ not (bit b i)
bit_not zero b i h k = absurd (not-suc-le-zero k)
bit_not (suc n) b zero h k =
    let p : 2 ^ suc n ≡ 2 ^ n * 2 = pow-suc 2 n in
    bit_low (2 ^ suc n - 1 - b) ∙ flipped (b % 2) ((2 ^ suc n - 1 - b) % 2) (omega arith) ∙ ap not (sym (bit_low b))
bit_not (suc n) b (suc i) h k =
    let p : 2 ^ suc n ≡ 2 ^ n * 2 = pow-suc 2 n in
    let half : (2 ^ suc n - 1 - b) / 2 ≡ 2 ^ n - 1 - b / 2 = omega arith in
    sym (bit_rest (2 ^ suc n - 1 - b) i) ∙ ap (λ (x : ℕ). bit x i) half ∙ bit_not n (b / 2) i (omega arith) (omega arith) ∙ ap not (bit_rest b i)

-- the heads of a test below n, counted in a word of 64 bits
pub count_set : (n : ℕ) (p : ℕ → Bool) → n ≤ 64 → count 64 (bit (word_of n p)) ≡ count n p
count_set n p h =
    sym (ones_count 64 (word_of n p) (lt_of_lt_of_le (word_below n p) (pow_mono h))) ∙ ones_word n p

-- ---- sets given by a test

-- tests that agree below n have the same word
pub word_same : (n : ℕ) (p q : ℕ → Bool) → ((i : ℕ) → i < n → p i ≡ q i) → word_of n p ≡ word_of n q
word_same n p q e = word_is n (word_of n p) q (word_below n p) (λ i k. bit_word n p i k ∙ e i k)

-- a word of n bits is the word of its own bits
pub word_bits : (n w : ℕ) → w < 2 ^ n → word_of n (bit w) ≡ w
word_bits n w h = sym (word_is n w (bit w) h (λ i _. refl))

-- no head is in the empty set
pub bit_none : (i : ℕ) → bit 0 i ≡ false
bit_none i = bit_past 0 0 i (omega arith) (omega arith)

-- a head is in the word of a test only where the test holds of it
pub in_word : (n : ℕ) (p : ℕ → Bool) (i : ℕ) → bit (word_of n p) i ≡ true → (i < n) × (p i ≡ true)
in_word n p i e =
    ⊎_elim (λ l. (l, sym (bit_word n p i l) ∙ e)) (λ l. absurd (true≢false (sym e ∙ bit_past n (word_of n p) i (word_below n p) l))) (cases_lt i n)

pub none_within : (s : ℕ) → Within 0 s
none_within s i e = absurd (true≢false (sym e ∙ bit_none i))

pub word_within : (n : ℕ) (p : ℕ → Bool) (s : ℕ) → ((i : ℕ) → p i ≡ true → bit s i ≡ true) → Within (word_of n p) s
word_within n p s f i e = f i (in_word n p i e).1
