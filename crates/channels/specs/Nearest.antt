-- The search for the nearest sender, step by step.
use Rattle.std.specs.Prelude.{◌≡◌, ℕ, ◌+◌, ◌<◌, ◌≤◌, true, false, ◌&&◌, ◌⊎◌, List, Some, None, Option, ◌==◌, ◌≢◌, nat_lt, zero, suc, fold, refl}
use Rattle.std.specs.List.{range_with_len}
use Rattle.std.proofs.Common.{sym, ap, subst, ◌∙◌, inl, inr, ⊎_elim, add-zero, arith}
use Rattle.std.proofs.lemmas.Bool.{and_parts, and_from, and_left, and_right, and_cases, or_from, or_parts, or_left, or_right, ltb-true, ltb-false, le-ltb, lt-ltb, eq-eqb, ne_eqb, cond_both, cases_lt, cases_eq, true≢false}
use Rattle.channels.specs.Capture.{apart, is_other, before, nearer, closer, Found}

-- ---- which of two heads is before the other

-- a nearer head, or one as near and lower, is before; no other is
pub not_before : (positions : List ℕ) (h j i : ℕ) → apart positions h i ≤ apart positions h j → (apart positions h j ≡ apart positions h i → i ≤ j) → before positions h j i ≡ false
not_before positions h j i n f =
    or_from (nat_lt (apart positions h j) (apart positions h i)) _ (le-ltb (apart positions h j) (apart positions h i) n)
    (⊎_elim (λ e. and_right (apart positions h j == apart positions h i) (nat_lt j i) (le-ltb j i (f e))) (λ ne. and_left _ (nat_lt j i) (ne_eqb _ _ ne)) (cases_eq (apart positions h j) (apart positions h i)))

pub not_itself : (positions : List ℕ) (h i : ℕ) → before positions h i i ≡ false
not_itself positions h i = not_before positions h i i (omega arith) (λ _. omega arith)

-- what not being before says
pub not_nearer : (positions : List ℕ) (h j i : ℕ) → before positions h j i ≡ false → apart positions h i ≤ apart positions h j
not_nearer positions h j i e = ltb-false (apart positions h j) (apart positions h i) (or_parts (nat_lt (apart positions h j) (apart positions h i)) _ e).0

pub not_lower : (positions : List ℕ) (h j i : ℕ) → before positions h j i ≡ false → apart positions h j ≡ apart positions h i → i ≤ j
not_lower positions h j i e same =
    ⊎_elim (λ f. absurd (true≢false (sym (eq-eqb _ _ same) ∙ f))) (λ f. ltb-false j i f)
    (and_cases (apart positions h j == apart positions h i) (nat_lt j i) (or_parts (nat_lt (apart positions h j) (apart positions h i)) _ e).1)

-- of two heads one is before the other
pub other_way : (positions : List ℕ) (h j i : ℕ) → before positions h j i ≡ false → (j ≢ i) → before positions h i j ≡ true
other_way positions h j i e ne =
    ⊎_elim (λ l. or_left (nat_lt (apart positions h i) (apart positions h j)) _ (lt-ltb (apart positions h i) (apart positions h j) l)) (λ g.
    let same : apart positions h j ≡ apart positions h i = omega (arith, not_nearer positions h j i e) in
    or_right (nat_lt (apart positions h i) (apart positions h j)) _
    (and_from (apart positions h i == apart positions h j) (nat_lt i j) (eq-eqb _ _ (sym same)) (lt-ltb i j (omega (arith, not_lower positions h j i e same)))))
    (cases_lt (apart positions h i) (apart positions h j))

-- ---- one head more

abbrev Step : List ℕ → ℕ → ℕ → ℕ → Option ℕ → Type 0
Step positions h s k o = Found positions h s (k + 1) o

last_or : (k j : ℕ) → j < k + 1 → (j < k) ⊎ (j ≡ k)
last_or k j l = ⊎_elim inl (λ g. inr (omega arith)) (cases_lt j k)

-- head k is passed over
passed : (positions : List ℕ) (h s k : ℕ) (o : Option ℕ) → (is_other h s k && nearer positions h k o) ≡ false → Found positions h s k o → Step positions h s k o
passed positions h s k None e f = λ j l.
    ⊎_elim (f j) (λ q. ap (is_other h s) q ∙ ⊎_elim (λ n. n) (λ n. absurd (true≢false n)) (and_cases (is_other h s k) true e)) (last_or k j l)
passed positions h s k (Some b) e f = record {
  below = omega (arith, f.below);
  sends = f.sends;
  least = λ j l o. ⊎_elim (λ m. f.least j m o)
      (λ q. subst (λ (x : ℕ). before positions h x b ≡ false) (sym q)
      (⊎_elim (λ n. absurd (true≢false (sym o ∙ ap (is_other h s) q ∙ n)))
      (λ n. not_before positions h k b (ltb-false (apart positions h k) (apart positions h b) n) (λ _. omega (arith, f.below)))
      (and_cases (is_other h s k) (nat_lt (apart positions h k) (apart positions h b)) e)))
      (last_or k j l);
}

-- head k is the nearest so far
taken : (positions : List ℕ) (h s k : ℕ) (o : Option ℕ) → (is_other h s k && nearer positions h k o) ≡ true → Found positions h s k o → Step positions h s k (Some k)
taken positions h s k None e f = record {
  below = omega arith;
  sends = (and_parts (is_other h s k) true e).0;
  least = λ j l o. ⊎_elim (λ m. absurd (true≢false (sym o ∙ f j m))) (λ q. subst (λ (x : ℕ). before positions h x k ≡ false) (sym q) (not_itself positions h k)) (last_or k j l);
}
taken positions h s k (Some b) e f =
    let p = and_parts (is_other h s k) (nat_lt (apart positions h k) (apart positions h b)) e in
    let d = ltb-true (apart positions h k) (apart positions h b) p.1 in
    record {
      below = omega arith;
      sends = p.0;
      least = λ j l o. ⊎_elim
          (λ m. let n = not_nearer positions h j b (f.least j m o) in not_before positions h j k (omega arith) (λ q. omega arith))
          (λ q. subst (λ (x : ℕ). before positions h x k ≡ false) (sym q) (not_itself positions h k)) (last_or k j l);
    }

pub found_none : (positions : List ℕ) (h s : ℕ) → Found positions h s 0 None
found_none positions h s j l = absurd (omega arith)

pub found_more : (positions : List ℕ) (h s k : ℕ) (o r : Option ℕ) → r ≡ closer positions h s o k → Found positions h s k o → Found positions h s (k + 1) r
found_more positions h s k o r e f =
    rw e
    (cond_both (is_other h s k && nearer positions h k o) (Some k) o (Step positions h s k) (λ t. taken positions h s k o t f) (λ t. passed positions h s k o t f))

-- ---- all heads, one after the other

pub found_fold : (positions : List ℕ) (h s k n : ℕ) (o : Option ℕ) → Found positions h s k o → Found positions h s (k + n) (fold (closer positions h s) o (range_with_len k n))
found_fold positions h s k zero o f = rw add-zero f
found_fold positions h s k (suc n) o f =
    let next : (k + 1) + n ≡ k + suc n = omega arith in
    subst (λ (m : ℕ). Found positions h s m (fold (closer positions h s) o (range_with_len k (suc n)))) next
    (found_fold positions h s (k + 1) n (closer positions h s o k) (found_more positions h s k o _ refl f))
