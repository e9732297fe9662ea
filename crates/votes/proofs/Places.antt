-- The places of a list at which a test holds, gathered one after another.
use Rattle.std.proofs.Common.{◌≡◌, ℕ, zero, suc, ◌+◌, ◌*◌, ◌%◌, ◌^◌, ◌<◌, ◌≤◌, Bool, true, false, cond, List, [], ◌∷◌, length, take, Some, sym, refl, ap, ◌∙◌, subst, ⊎_elim, bit_or, arith}
use Rattle.std.proofs.lemmas.List.{length-take-le}
use Rattle.std.proofs.lemmas.Bool.{cases_lt, lt-ltb, le-ltb, cond-true, cond-false}
use Rattle.std.specs.Prelude.{nat_lt}
use Rattle.std.specs.List.{slice_get}
use Rattle.sets.specs.Sets.{bit, word_of}
use Rattle.sets.proofs.Words.{bit_word, word_below, word_is, word_with, word_without}

same_some : {A : Type 0} {a b : A} → Some a ≡ Some b → a ≡ b
same_some e = cc

-- what is read below n is what the first n have
pub read_first : {A : Type 0} (xs : List A) (n i : ℕ) → i < n → slice_get (take n xs) i ≡ slice_get xs i
read_first [] zero i h = absurd (omega arith)
read_first [] (suc n) i h = refl
read_first (x ∷ xs) zero i h = absurd (omega arith)
read_first (x ∷ xs) (suc n) zero h = refl
read_first (x ∷ xs) (suc n) (suc i) h = read_first xs n i (omega arith)

there_is : {A : Type 0} (xs : List A) (i : ℕ) → i < length xs → (x : A) × (slice_get xs i ≡ Some x)
there_is [] i h = absurd (omega arith)
there_is (x ∷ xs) zero h = (x, refl)
there_is (x ∷ xs) (suc i) h = there_is xs i (omega arith)

-- the places below i are told, by a relation of place, element and answer
pub record Told {A : Type 0} (xs : List A) (rel : ℕ → A → Bool → Type 0) (i set : ℕ) : Type 0 where
  pub below : set < 2 ^ i
  pub each : (j : ℕ) (x : A) → j < i → slice_get xs j ≡ Some x → rel j x (bit set j)

module _ {A : Type 0} (xs : List A) (rel : ℕ → A → Bool → Type 0) (i set : ℕ) (x : A) (t : Bool) (low : i < 64)
    (here : slice_get xs i ≡ Some x) (holds : rel i x t) (told : Told xs rel i set) where
  p : ℕ → Bool
  p j = cond (nat_lt j i) (bit set j) t

  before : (j : ℕ) → j < i → p j ≡ bit set j
  unfolding p
  before j h = cond-true (nat_lt j i) (bit set j) t (lt-ltb j i h)

  at : p i ≡ t
  unfolding p
  at = cond-false (nat_lt i i) (bit set i) t (le-ltb i i (omega arith))

  as_word : set ≡ word_of i p
  as_word = word_is i set p told.below (λ j h. sym (before j h))

  then_told : (set' : ℕ) → set' ≡ word_of (i + 1) p → Told xs rel (i + 1) set'
  then_told set' e = record {
    below = subst (λ (w : ℕ). w < 2 ^ (i + 1)) (sym e) (word_below (i + 1) p);
    each = λ j y h r.
        let bits : bit set' j ≡ p j = ap (λ (w : ℕ). bit w j) e ∙ bit_word (i + 1) p j h in
        ⊎_elim (λ l. subst (rel j y) (sym (bits ∙ before j l)) (told.each j y l r))
        (λ g. let same : j ≡ i = omega arith in
        let is : x ≡ y = same_some (sym here ∙ ap (slice_get xs) (sym same) ∙ r) in
        subst (λ (b : Bool). rel j y b) (sym (bits ∙ ap p same ∙ at)) (subst (λ (z : A). rel j z t) is (subst (λ (k : ℕ). rel k x t) (sym same) holds))) (cases_lt j i);
  }

  pub told_with : (set' : ℕ) → t ≡ true → set' ≡ bit_or set ((1 * 2 ^ i) % 2 ^ 64) → Told xs rel (i + 1) set'
  told_with set' e is = then_told set' (is ∙ word_with i p set low (at ∙ e) as_word)

  pub told_without : (set' : ℕ) → t ≡ false → set' ≡ set → Told xs rel (i + 1) set'
  told_without set' e is = then_told set' (is ∙ word_without i p set (at ∙ e) as_word)

-- a set of which each place of the first n tells a test
pub told_word : {A : Type 0} (xs ys : List A) (n set : ℕ) (test : ℕ → Bool) → ys ≡ take n xs → n ≤ length xs → set < 2 ^ length ys
    → ((i : ℕ) (x : A) → i < n → slice_get ys i ≡ Some x → slice_get xs i ≡ Some x → bit set i ≡ test i) → set ≡ word_of n test
told_word xs ys n set test first long below each =
    word_is n set test (subst (λ (k : ℕ). set < 2 ^ k) (ap length first ∙ length-take-le n xs long) below)
    (λ i h. let x = there_is xs i (omega arith) in each i x.0 h (ap (λ zs. slice_get zs i) first ∙ read_first xs n i h ∙ x.1) x.1)
