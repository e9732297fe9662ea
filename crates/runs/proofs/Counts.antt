-- Counts over sets of heads, and that two majorities share a member.
use Rattle.std.proofs.Common.{◌≡◌, ℕ, zero, suc, ◌+◌, ◌*◌, ◌<◌, ◌≤◌, Bool, true, false, cond, ◌&&◌, T, ◌≢◌, ◌⊎◌, sym, refl, ap, ◌∙◌, subst, inl, inr, suc-le-suc, zero-le, le_refl, not-suc-le-zero, lt_irrefl, arith}
use Rattle.sets.specs.Sets.{count}
use Rattle.runs.proofs.Tests.{decide, is_true, is_false, and_left, and_right}

abbrev pub Subset : (ℕ → Bool) → (ℕ → Bool) → Type 0
Subset p q = (i : ℕ) → T (p i) → T (q i)

point_le : (a b : Bool) → (T a → T b) → cond a 1 0 ≤ cond b 1 0
point_le true true f = le_refl 1
point_le true false f = absurd (f tt)
point_le false b f = zero-le

pub count_mono : (p q : ℕ → Bool) → Subset p q → (n : ℕ) → count n p ≤ count n q
unfolding count
count_mono p q f zero = zero-le
count_mono p q f (suc n) = omega (arith, point_le (p n) (q n) (f n), count_mono p q f n)

pub count_same : (p q : ℕ → Bool) → Subset p q → Subset q p → (n : ℕ) → count n p ≡ count n q
count_same p q f g n = omega (arith, count_mono p q f n, count_mono q p g n)

pub count_some : (p : ℕ → Bool) (n : ℕ) → 0 < count n p → (i : ℕ) × (i < n) × T (p i)
unfolding count
count_some p zero h = absurd (lt_irrefl 0 h)
count_some p (suc n) h = go (p n) refl (count_some p n)
  where
    go : (b : Bool) → p n ≡ b → (0 < count n p → (i : ℕ) × (i < n) × T (p i)) → (i : ℕ) × (i < suc n) × T (p i)
    go true e ih = (n, le_refl (suc n), subst T (sym e) tt)
    go false e ih =
        let h' : 0 < count n p + 0 = subst (λ (b : Bool). 0 < count n p + cond b 1 0) e h in
        let w = ih (omega arith) in
        (w.0, omega (arith, w.1), w.2)

pub count_pos : (p : ℕ → Bool) (n i : ℕ) → i < n → T (p i) → 0 < count n p
unfolding count
count_pos p zero i h t = absurd (not-suc-le-zero h)
count_pos p (suc n) i h t = go (decide (p n)) (count_pos p n i)
  where
    go : T (p n) ⊎ (T (p n) → ⊥) → (i < n → T (p i) → 0 < count n p) → 0 < count n p + cond (p n) 1 0
    go (inl u) ih = subst (λ (x : Bool). 0 < count n p + cond x 1 0) (sym (is_true (p n) u)) (omega arith)
    go (inr u) ih =
        let ne : i ≢ n = λ e. u (subst (λ (x : ℕ). T (p x)) e t) in
        omega (arith, ih (omega arith) t)

pub count_none : (p : ℕ → Bool) (n : ℕ) → ((i : ℕ) → i < n → T (p i) → ⊥) → count n p ≡ 0
unfolding count
count_none p zero f = refl
count_none p (suc n) f =
    subst (λ (b : Bool). count n p + cond b 1 0 ≡ 0) (sym (is_false (p n) (f n (le_refl (suc n)))))
    (omega (arith, count_none p n (λ i l. f i (omega arith))))

pub count_lone : (p : ℕ → Bool) (k : ℕ) → T (p k) → ((i : ℕ) → T (p i) → i ≡ k) → (n : ℕ) → k < n → count n p ≡ 1
unfolding count
count_lone p k t u zero l = absurd (not-suc-le-zero l)
count_lone p k t u (suc n) l = go (decide (p n)) (count_lone p k t u n)
  where
    go : T (p n) ⊎ (T (p n) → ⊥) → (k < n → count n p ≡ 1) → count n p + cond (p n) 1 0 ≡ 1
    go (inl v) ih =
        subst (λ (b : Bool). count n p + cond b 1 0 ≡ 1) (sym (is_true (p n) v))
        (let z = count_none p n (λ i m w. lt_irrefl n (subst (λ (x : ℕ). x < n) (u i w ∙ sym (u n v)) m)) in omega arith)
    go (inr v) ih =
        subst (λ (b : Bool). count n p + cond b 1 0 ≡ 1) (sym (is_false (p n) v))
        (let d : k ≢ n = λ e. v (subst (λ (x : ℕ). T (p x)) e t) in omega (arith, ih (omega arith)))

-- a set of one has one member
pub lone_member : (p : ℕ → Bool) (n : ℕ) → count n p ≡ 1 → (k : ℕ) × (k < n) × T (p k) × ((i : ℕ) → i < n → T (p i) → i ≡ k)
unfolding count
lone_member p zero e = absurd (omega arith)
lone_member p (suc n) e = go (p n) refl (lone_member p n)
  where
    Found : ℕ → Type 0
    Found m = (k : ℕ) × (k < m) × T (p k) × ((i : ℕ) → i < m → T (p i) → i ≡ k)

    at_or_below : (i : ℕ) → i < suc n → (i ≡ n) ⊎ (i < n)
    at_or_below i l = le_cases i n l
      where
        le_cases : (i n : ℕ) → i < suc n → (i ≡ n) ⊎ (i < n)
        le_cases zero zero h = inl refl
        le_cases zero (suc n) h = inr (suc-le-suc zero-le)
        le_cases (suc i) zero h = absurd (omega arith)
        le_cases (suc i) (suc n) h = step (le_cases i n (omega arith))
          where
            step : (i ≡ n) ⊎ (i < n) → (suc i ≡ suc n) ⊎ (suc i < suc n)
            step (inl e) = inl (ap suc e)
            step (inr l) = inr (suc-le-suc l)

    go : (b : Bool) → p n ≡ b → (count n p ≡ 1 → Found n) → Found (suc n)
    go true f ih = (n, le_refl (suc n), subst T (sym f) tt, λ i l t. pick i t (at_or_below i l))
      where
        zero_below : count n p ≡ 0
        zero_below = let e' : count n p + 1 ≡ 1 = subst (λ (b : Bool). count n p + cond b 1 0 ≡ 1) f e in omega arith

        pick : (i : ℕ) → T (p i) → (i ≡ n) ⊎ (i < n) → i ≡ n
        pick i t (inl e) = e
        pick i t (inr l) = absurd (lt_irrefl 0 (subst (λ (x : ℕ). 0 < x) zero_below (count_pos p n i l t)))
    go false f ih =
        let e' : count n p + 0 ≡ 1 = subst (λ (b : Bool). count n p + cond b 1 0 ≡ 1) f e in
        let w = ih (omega arith) in
        (w.0, omega (arith, w.1), w.2, λ i l t. pick i t w.3 (at_or_below i l))
      where
        pick : {k : ℕ} (i : ℕ) → T (p i) → ((i : ℕ) → i < n → T (p i) → i ≡ k) → (i ≡ n) ⊎ (i < n) → i ≡ k
        pick i t only (inl e) = absurd (subst T f (subst (λ (x : ℕ). T (p x)) e t))
        pick i t only (inr l) = only i l t

-- ---- two majorities of a set share a member

point_meet : (s p q : Bool) → (T p → T s) → (T q → T s) → cond p 1 0 + cond q 1 0 ≤ cond s 1 0 + cond (p && q) 1 0
point_meet true true q f g = omega arith
point_meet false true q f g = absurd (f tt)
point_meet true false true f g = omega arith
point_meet true false false f g = omega arith
point_meet false false true f g = absurd (g tt)
point_meet false false false f g = omega arith

meet_count : (s p q : ℕ → Bool) → Subset p s → Subset q s → (n : ℕ) → count n p + count n q ≤ count n s + count n (λ i. p i && q i)
unfolding count
meet_count s p q f g zero = zero-le
meet_count s p q f g (suc n) = omega (arith, point_meet (s n) (p n) (q n) (f n) (g n), meet_count s p q f g n)

pub majorities_meet : (s p q : ℕ → Bool) → Subset p s → Subset q s → (n : ℕ) → count n s < 2 * count n p → count n s < 2 * count n q
    → (i : ℕ) × (i < n) × T (p i) × T (q i)
majorities_meet s p q f g n hp hq =
    let w = count_some (λ i. p i && q i) n (omega (arith, meet_count s p q f g n)) in
    (w.0, w.1, and_left (p w.0) (q w.0) w.2, and_right (p w.0) (q w.0) w.2)
