-- Sets without a head, and with one alone.
use Rattle.std.proofs.Common.{◌≡◌, ℕ, zero, suc, ◌<◌, Bool, true, false, cond, eqb, ◌⊎◌, sym, refl, ap, ◌∙◌, subst, inl, inr, ⊎_elim, not-suc-le-zero, arith}
use Rattle.std.proofs.lemmas.Bool.{cases_lt, cases_Bool, eq-eqb, ne_eqb, true≢false}
use Rattle.sets.specs.Sets.{count, word_of, Lone}
use Rattle.sets.proofs.Words.{count_word}

-- the last of n + 1 numbers, and those before it
last_or : (n i : ℕ) → i < suc n → (i < n) ⊎ (n ≡ i)
last_or n i h = ⊎_elim inl (λ l. inr (omega arith)) (cases_lt i n)

one_if : (t : Bool) → t ≡ true → ◌≡◌ {A = ℕ} (cond t 1 0) 1
one_if t e = rw e

none_if : (t : Bool) → t ≡ false → ◌≡◌ {A = ℕ} (cond t 1 0) 0
none_if t e = rw e

-- a test that holds of nothing
pub count_none : (n : ℕ) (p : ℕ → Bool) → ((i : ℕ) → i < n → p i ≡ false) → count n p ≡ 0
unfolding count
count_none zero p f = refl
count_none (suc n) p f = omega (arith, count_none n p (λ i h. f i (omega arith)), none_if (p n) (f n (omega arith)))

pub none_counted : (n : ℕ) (p : ℕ → Bool) → count n p ≡ 0 → (i : ℕ) → i < n → p i ≡ false
unfolding count
none_counted zero p e i h = absurd (not-suc-le-zero h)
none_counted (suc n) p e i h =
    ⊎_elim (λ l. none_counted n p (omega arith) i l) (λ s. subst (λ (k : ℕ). p k ≡ false) s (last (cases_Bool (p n)))) (last_or n i h)
  where
    last : (p n ≡ true) ⊎ (p n ≡ false) → p n ≡ false
    last (inl t) = absurd (omega (arith, one_if (p n) t))
    last (inr f) = f

-- a test that holds of one number alone
pub lone_same : (n : ℕ) (p : ℕ → Bool) → count n p ≡ 1 → (i j : ℕ) → i < n → j < n → p i ≡ true → p j ≡ true → i ≡ j
unfolding count
lone_same zero p e i j hi hj pi pj = absurd (not-suc-le-zero hi)
lone_same (suc n) p e i j hi hj pi pj =
    ⊎_elim last (λ f. lone_same n p (omega (arith, none_if (p n) f)) i j (is_before f i hi pi) (is_before f j hj pj) pi pj) (cases_Bool (p n))
  where
    is_last : p n ≡ true → (k : ℕ) → k < suc n → p k ≡ true → n ≡ k
    is_last t k h pk =
        ⊎_elim (λ l. absurd (true≢false (sym pk ∙ none_counted n p (omega (arith, e, one_if (p n) t)) k l))) (λ s. s) (last_or n k h)

    last : p n ≡ true → i ≡ j
    last t = sym (is_last t i hi pi) ∙ is_last t j hj pj

    is_before : p n ≡ false → (k : ℕ) → k < suc n → p k ≡ true → k < n
    is_before f k h pk = ⊎_elim (λ l. l) (λ s. absurd (true≢false (sym pk ∙ ap p (sym s) ∙ f))) (last_or n k h)

count_one : (n i : ℕ) → i < n → count n (λ j. eqb j i) ≡ 1
unfolding count
count_one zero i h = absurd (not-suc-le-zero h)
count_one (suc n) i h =
    ⊎_elim (λ l. omega (arith, count_one n i l, none_if (eqb n i) (ne_eqb n i (λ e. omega arith)))) last (last_or n i h)
  where
    last : n ≡ i → count (suc n) (λ j. eqb j i) ≡ 1
    last s = omega (arith, count_none n (λ j. eqb j i) (λ j l. ne_eqb j i (λ e. omega arith)), one_if (eqb n i) (eq-eqb n i s))

-- the set of one head
pub lone_one : (i : ℕ) → i < 64 → Lone (word_of 64 (λ j. eqb j i))
lone_one i h = count_word 64 (λ j. eqb j i) ∙ count_one 64 i h
