-- Searches that go up from a number, as loops do.
use Rattle.std.proofs.Common.{◌≡◌, ℕ, zero, suc, ◌+◌, ◌-◌, ◌<◌, ◌≤◌, Bool, true, false, ◌⊎◌, is_some, Some, None, Option, sym, refl, ap, ◌∙◌, subst, ap₂, inl, inr, ⊎_elim, arith}
use Rattle.std.proofs.lemmas.Bool.{true≢false, cases_order}
use Rattle.sets.specs.Search.{or_else, first_from, first, when}
use Rattle.sets.specs.Sets.{bit, word_of, lowest_from, lowest}
use Rattle.sets.proofs.Words.{bit_word}

-- What is left of a search over the numbers below n, at i.
abbrev pub left : {A : Type 0} → (ℕ → Option A) → ℕ → ℕ → Option A
left f n i = first_from f i (n - i)

pub left_start : {A : Type 0} (f : ℕ → Option A) (n : ℕ) → first f n ≡ left f n 0
left_start f n = let e : n - 0 ≡ n = omega arith in rw e

pub left_step : {A : Type 0} (f : ℕ → Option A) (n i : ℕ) → i < n → left f n i ≡ or_else (f i) (left f n (i + 1))
unfolding first_from
left_step f n i h = let e : n - i ≡ suc (n - (i + 1)) = omega arith in rw e

pub left_more : {A : Type 0} (w : Option A) (f : ℕ → Option A) (n i : ℕ) → i < n → f i ≡ None → w ≡ left f n i → w ≡ left f n (i + 1)
left_more w f n i h e p = p ∙ left_step f n i h ∙ ap (λ o. or_else o (left f n (i + 1))) e

pub left_found : {A : Type 0} (w : Option A) (f : ℕ → Option A) (n i : ℕ) (a : A) → i < n → f i ≡ Some a → w ≡ left f n i → w ≡ Some a
left_found w f n i a h e p = p ∙ left_step f n i h ∙ ap (λ o. or_else o (left f n (i + 1))) e

pub left_all : {A : Type 0} (w : Option A) (f : ℕ → Option A) (n i : ℕ) → n ≤ i → w ≡ left f n i → w ≡ None
unfolding first_from
left_all w f n i h p = let e : n - i ≡ 0 = omega arith in p ∙ rw e

pub or_else_next : {A : Type 0} (a b : Option A) → a ≡ None → or_else a b ≡ b
or_else_next a b e = ap (λ o. or_else o b) e

pub or_else_this : {A : Type 0} (a b : Option A) (x : A) → a ≡ Some x → or_else a b ≡ Some x
or_else_this a b x e = ap (λ o. or_else o b) e

some_this : {A : Type 0} (o b : Option A) → is_some o ≡ true → or_else o b ≡ o
some_this (Some x) b e = refl
some_this None b e = absurd (true≢false (sym e))

-- a search that finds what a call found
pub left_some : {A : Type 0} (w : Option A) (f : ℕ → Option A) (n i : ℕ) (o : Option A) → i < n → is_some o ≡ true → f i ≡ o → w ≡ left f n i → w ≡ o
left_some w f n i o h s e p = p ∙ left_step f n i h ∙ ap (λ x. or_else x (left f n (i + 1))) e ∙ some_this o (left f n (i + 1)) s

-- numbers without an answer are passed over
pub left_skip : {A : Type 0} (f : ℕ → Option A) (n i z : ℕ) → i + z ≤ n → ((j : ℕ) → j < z → f (i + j) ≡ None) → left f n i ≡ left f n (i + z)
left_skip f n i zero h none = let e : i + 0 ≡ i = omega arith in rw e
left_skip f n i (suc z) h none =
    let e : i + suc z ≡ (i + z) + 1 = omega arith in
    rw e (left_more (left f n i) f n (i + z) (omega arith) (none z (omega arith)) (left_skip f n i z (omega arith) (λ j k. none j (omega arith))))

pub when_true : {A : Type 0} (b : Bool) (x : A) → b ≡ true → when b x ≡ Some x
when_true b x e = rw e

pub when_false : {A : Type 0} (b : Bool) (x : A) → b ≡ false → when b x ≡ None
when_false b x e = rw e

pub none_is : {A : Type 0} (o : Option A) → is_some o ≡ false → o ≡ None
none_is (Some x) e = absurd (true≢false e)
none_is None e = refl

-- what a search for the lowest number found
pub record Found (p : ℕ → Bool) (a k i : ℕ) : Type 0 where
  pub from : a ≤ i
  pub below : i < a + k
  pub holds : p i ≡ true
  pub passed : (j : ℕ) → a ≤ j → j < i → p j ≡ false

same_number : (a i : ℕ) → Some a ≡ Some i → a ≡ i
same_number a i e = cc

not_none : {A : Type 0} (a : A) → Some a ≡ None → ⊥
not_none a e = let z : ◌≡◌ {A = ℕ} 0 1 = cc in omega arith

not_some : {A : Type 0} (a : A) → None ≡ Some a → ⊥
not_some a e = not_none a (sym e)

found_step : (p : ℕ → Bool) (a k i : ℕ) (t : Bool) → p a ≡ t → ((lowest_from p (a + 1) k ≡ Some i) → Found p (a + 1) k i)
    → or_else (when t a) (lowest_from p (a + 1) k) ≡ Some i → Found p a (suc k) i
found_step p a k i true t rest e =
    let s : a ≡ i = same_number a i e in
    record { from = omega arith; below = omega arith; holds = subst (λ (j : ℕ). p j ≡ true) s t; passed = λ j h l. absurd (omega arith) }
found_step p a k i false t rest e =
    let f = rest e in
    record {
      from = omega (arith, f.from);
      below = omega (arith, f.below);
      holds = f.holds;
      passed = λ j h l. ⊎_elim (λ s. subst (λ (m : ℕ). p m ≡ false) s t) (λ m. f.passed j (omega arith) l) (at_or_above a j h);
    }
  where
    at_or_above : (a j : ℕ) → a ≤ j → (a ≡ j) ⊎ (a < j)
    at_or_above a j h = ⊎_elim inl (⊎_elim inr (λ l. absurd (omega arith))) (cases_order a j)

pub lowest_some : (p : ℕ → Bool) (a k i : ℕ) → lowest_from p a k ≡ Some i → Found p a k i
unfolding first_from
lowest_some p a zero i e = absurd (not_some i e)
lowest_some p a (suc k) i e = found_step p a k i (p a) refl (lowest_some p (a + 1) k i) e

none_step : (p : ℕ → Bool) (a k : ℕ) (t : Bool) → p a ≡ t → ((lowest_from p (a + 1) k ≡ None) → (j : ℕ) → a + 1 ≤ j → j < a + 1 + k → p j ≡ false)
    → or_else (when t a) (lowest_from p (a + 1) k) ≡ None → (j : ℕ) → a ≤ j → j < a + suc k → p j ≡ false
none_step p a k true t rest e j h l = absurd (not_none a e)
none_step p a k false t rest e j h l =
    ⊎_elim (λ s. subst (λ (m : ℕ). p m ≡ false) s t) (⊎_elim (λ m. rest e j (omega arith) (omega arith)) (λ m. absurd (omega arith))) (cases_order a j)

pub lowest_none : (p : ℕ → Bool) (a k : ℕ) → lowest_from p a k ≡ None → (j : ℕ) → a ≤ j → j < a + k → p j ≡ false
unfolding first_from
lowest_none p a zero e j h l = absurd (omega arith)
lowest_none p a (suc k) e j h l = none_step p a k (p a) refl (lowest_none p (a + 1) k) e j h l

-- searches that agree on their numbers
pub first_same : {A : Type 0} (f g : ℕ → Option A) (i k : ℕ) → ((j : ℕ) → j < i + k → f j ≡ g j) → first_from f i k ≡ first_from g i k
unfolding first_from
first_same f g i zero e = refl
first_same f g i (suc k) e = ap₂ or_else (e i (omega arith)) (first_same f g (i + 1) k (λ j h. e j (omega arith)))

-- the lowest number in the word of a test
pub lowest_word : (p : ℕ → Bool) → lowest (bit (word_of 64 p)) 64 ≡ lowest p 64
lowest_word p = first_same _ _ 0 64 (λ j h. ap (λ (t : Bool). when t j) (bit_word 64 p j (omega arith)))
