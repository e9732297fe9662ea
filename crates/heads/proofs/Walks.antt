-- The walk over the heads that were heard, and what it finds.
use Rattle.std.proofs.Common.{◌≡◌, ℕ, zero, suc, ◌+◌, ◌-◌, ◌<◌, ◌≤◌, Bool, true, false, cond, ◌||◌, ◌⊎◌, List, length, Some, None, Decides, Option, sym, refl, ap, ◌∙◌, subst, inl, inr, ⊎_elim, add-one, arith}
use Rattle.std.proofs.lemmas.Option.{slice_get_past}
use Rattle.std.proofs.lemmas.Bool.{cases_lt, true≢false, or_right}
use Rattle.std.specs.List.{slice_get}
use Rattle.std.specs.Option.{option_map}
use Rattle.sets.specs.Sets.{bit, lowest_from}
use Rattle.sets.proofs.Searches.{lowest_some, lowest_none}
use Rattle.ballots.specs.Order.{Total}
use Rattle.heads.specs.declared.head.Ballots.{Ballots}
use Rattle.heads.specs.declared.head.Head.{Head}
use Rattle.heads.specs.Heard.{estimate_at, joined, no_ballots, ballots_below, ballots_of, From, IsLeast, TwoHeard}

is_false : (t : Bool) → (t ≡ true → ⊥) → t ≡ false
is_false true h = absurd (h refl)
is_false false h = refl

same_some : {B : Type 0} {a b : B} → Some a ≡ Some b → a ≡ b
same_some e = cc

none_some : {B : Type 0} {b : B} → None ≡ Some b → ⊥
none_some e = let z : ◌≡◌ {A = ℕ} 0 1 = cc in omega arith

module _ {B : Type 0} (earlier : B → B → Bool) (hs : List (Head B)) (word : ℕ) where
  below : ℕ → Ballots B
  below n = ballots_below earlier hs word n

  pub below_none : ballots_below earlier hs word 0 ≡ no_ballots
  unfolding ballots_below
  below_none = refl

  -- a head that brings no ballot, and one that does
  idle : (n : ℕ) → (bit word n ≡ false) ⊎ (estimate_at hs n ≡ None) → ballots_below earlier hs word (suc n) ≡ ballots_below earlier hs word n
  unfolding ballots_below
  idle n (inl e) = rw e
  idle n (inr e) = ap (λ o. cond (bit word n) (joined earlier (ballots_below earlier hs word n) o) (ballots_below earlier hs word n)) e ∙ same (bit word n) (ballots_below earlier hs word n)
    where
      same : (t : Bool) (x : Ballots B) → cond t x x ≡ x
      same true x = refl
      same false x = refl

  pub below_skip : (i z : ℕ) → ((j : ℕ) → i ≤ j → j < i + z → (bit word j ≡ false) ⊎ (estimate_at hs j ≡ None))
      → ballots_below earlier hs word (i + z) ≡ ballots_below earlier hs word i
  below_skip i zero none = let e : i + 0 ≡ i = omega arith in rw e
  below_skip i (suc z) none =
      let e : i + suc z ≡ suc (i + z) = omega arith in
      rw e (idle (i + z) (none (i + z) (omega arith) (omega arith)) ∙ below_skip i z (λ j h k. none j h (omega arith)))

  pub below_take : (n : ℕ) (h : Head B) → bit word n ≡ true → slice_get hs n ≡ Some h
      → ballots_below earlier hs word (n + 1) ≡ joined earlier (ballots_below earlier hs word n) (Some h.estimate)
  unfolding ballots_below
  below_take n h e f = rw (add-one, e, f)

  -- the walk's turn: from `from` on, head i is the next that was heard
  pub walk_more : (from i : ℕ) (h : Head B) (s : Ballots B) → lowest_from (bit word) from (64 - from) ≡ Some i → slice_get hs i ≡ Some h
      → s ≡ ballots_below earlier hs word from → joined earlier s (Some h.estimate) ≡ ballots_below earlier hs word (i + 1)
  walk_more from i h s found read inv =
      let f = lowest_some (bit word) from (64 - from) i found in
      let z = i - from in
      let e : from + z ≡ i = omega (arith, f.from) in
      let skip : ballots_below earlier hs word i ≡ ballots_below earlier hs word from =
      rw e at (below_skip from z (λ j a b. inl (f.passed j a (omega arith)))) in
      ap (λ x. joined earlier x (Some h.estimate)) (inv ∙ sym skip) ∙ sym (below_take i h f.holds read)

  -- the walk's ends: no head is left, or the next is past the table
  pub walk_all : (from : ℕ) → from ≤ 64 → lowest_from (bit word) from (64 - from) ≡ None
      → ballots_below earlier hs word from ≡ ballots_of earlier hs word
  walk_all from h none =
      let e : from + (64 - from) ≡ 64 = omega arith in
      sym (rw e at (below_skip from (64 - from) (λ j a b. inl (lowest_none (bit word) from (64 - from) none j a b))))

  pub walk_past : (from i : ℕ) → from ≤ 64 → lowest_from (bit word) from (64 - from) ≡ Some i → length hs ≤ i
      → ballots_below earlier hs word from ≡ ballots_of earlier hs word
  walk_past from i h found past =
      let f = lowest_some (bit word) from (64 - from) i found in
      let e : from + (64 - from) ≡ 64 = omega arith in
      sym (rw e at (below_skip from (64 - from) (λ j a b.
      ⊎_elim (λ l. inl (f.passed j a l)) (λ l. inr (ap (option_map (λ x. x.estimate)) (slice_get_past hs j (omega arith)))) (cases_lt j i))))

  -- ---- what is found, by the laws of the order

  -- heard below n, or at n
  parted : (n i : ℕ) (d : B) → From hs word (suc n) i d → From hs word n i d ⊎ ((bit word n ≡ true) × (estimate_at hs n ≡ Some d))
  parted n i d h =
      ⊎_elim (λ l. inl (record { within = l; heard = h.heard; sent = h.sent }))
      (λ l. let e : i ≡ n = omega (arith, h.within) in inr (subst (λ (k : ℕ). bit word k ≡ true) e h.heard, subst (λ (k : ℕ). estimate_at hs k ≡ Some d) e h.sent))
      (cases_lt i n)

  further : (n i : ℕ) (d : B) → From hs word n i d → From hs word (suc n) i d
  further n i d h = record { within = omega (arith, h.within); heard = h.heard; sent = h.sent }

  further_two : (n : ℕ) → TwoHeard hs word n → TwoHeard hs word (suc n)
  further_two n t = (t.0, t.1, t.2, t.3, further n t.0 t.2 t.4, further n t.1 t.3 t.5, t.6)

  -- what the ballots heard below n are
  pub record Right (n : ℕ) (s : Ballots B) : Type 0 where
    pub least : IsLeast earlier hs word n s.least
    pub two : s.differ ≡ true → TwoHeard hs word n
    pub one : s.differ ≡ false → (i j : ℕ) (a b : B) → From hs word n i a → From hs word n j b → a ≡ b

  -- a head that brings no ballot changes nothing
  stays : (n : ℕ) (s : Ballots B) → ((d : B) → bit word n ≡ true → estimate_at hs n ≡ Some d → ⊥) → Right n s → Right (suc n) s
  stays n s no_one r = record {
    least = least_stays s.least r.least;
    two = λ e. further_two n (r.two e);
    one = λ e i j a b p q. r.one e i j a b (lower i a p) (lower j b q);
  }
    where
      lower : (i : ℕ) (d : B) → From hs word (suc n) i d → From hs word n i d
      lower i d p = ⊎_elim (λ x. x) (λ q. absurd (no_one d q.0 q.1)) (parted n i d p)

      least_stays : (o : Option B) → IsLeast earlier hs word n o → IsLeast earlier hs word (suc n) o
      least_stays None h = λ i d k. h i d (lower i d k)
      least_stays (Some b) h = ((h.0.0, further n h.0.0 b h.0.1), λ i d k. h.1 i d (lower i d k))

  module _ (o : Total earlier) where
    not_before : (x b d : B) → earlier x b ≡ true → earlier d b ≡ false → earlier d x ≡ false
    not_before x b d xb db = is_false (earlier d x) (λ dx. true≢false (sym (o.carries d x b dx xb) ∙ db))

    -- neither is before the other
    even : (a b : B) → earlier a b ≡ false → earlier b a ≡ false → a ≡ b
    even a b p q = ⊎_elim (λ l. absurd (true≢false (sym l ∙ p))) (⊎_elim (λ e. e) (λ l. absurd (true≢false (sym l ∙ q)))) (o.one a b)

    first_one : (n : ℕ) (b : B) (d : Bool) → bit word n ≡ true → estimate_at hs n ≡ Some b → Right n (record { least = None; differ = d })
        → Right (suc n) (record { least = Some b; differ = d || false })
    first_one n b d p f r = record {
      least = ((n, here), λ i x k. o.not_itself x b (only i x k));
      two = λ e. absurd_two (r.two (drop_false d e));
      one = λ e i j x y k l. only i x k ∙ sym (only j y l);
    }
      where
        here : From hs word (suc n) n b
        here = record { within = omega arith; heard = p; sent = f }

        only : (i : ℕ) (x : B) → From hs word (suc n) i x → x ≡ b
        only i x k = ⊎_elim (λ q. absurd (r.least i x q)) (λ q. same_some (sym q.1 ∙ f)) (parted n i x k)

        absurd_two : TwoHeard hs word n → TwoHeard hs word (suc n)
        absurd_two t = further_two n t

        drop_false : (t : Bool) → (t || false) ≡ true → t ≡ true
        drop_false true e = refl
        drop_false false e = e

    -- one more ballot x beside the least b so far; u and v say which of the two is before the other
    one_more : (n : ℕ) (b x : B) (d u v : Bool) → earlier b x ≡ u → earlier x b ≡ v → bit word n ≡ true → estimate_at hs n ≡ Some x
        → Right n (record { least = Some b; differ = d }) → Right (suc n) (record { least = Some (cond v x b); differ = d || (u || v) })
    one_more n b x d u true eu ev p f r = record {
      least = ((n, here), λ i y k. ⊎_elim (λ q. not_before x b y ev (r.least.1 i y q)) (λ q. o.not_itself y x (same_some (sym q.1 ∙ f))) (parted n i y k));
      two = λ _. (n, r.least.0.0, x, b, here, further n _ b r.least.0.1, λ e. true≢false (sym ev ∙ o.not_itself x b e));
      one = λ e. absurd (true≢false (sym (or_right d (u || true) (or_right u true refl)) ∙ e));
    }
      where
        here : From hs word (suc n) n x
        here = record { within = omega arith; heard = p; sent = f }
    one_more n b x d true false eu ev p f r = record {
      least = ((r.least.0.0, further n _ b r.least.0.1), λ i y k. ⊎_elim (r.least.1 i y) (λ q. ap (λ z. earlier z b) (same_some (sym q.1 ∙ f)) ∙ ev) (parted n i y k));
      two = λ _. (n, r.least.0.0, x, b, record { within = omega arith; heard = p; sent = f }, further n _ b r.least.0.1, λ e. true≢false (sym eu ∙ o.not_itself b x (sym e)));
      one = λ e. absurd (true≢false (sym (or_right d true refl) ∙ e));
    }
    one_more n b x d false false eu ev p f r = record {
      least = ((r.least.0.0, further n _ b r.least.0.1), λ i y k. ⊎_elim (r.least.1 i y) (λ q. ap (λ z. earlier z b) (same_some (sym q.1 ∙ f)) ∙ ev) (parted n i y k));
      two = λ e. further_two n (r.two (plain d e));
      one = λ e i j y z k l. to_b e i y k ∙ sym (to_b e j z l);
    }
      where
        plain : (t : Bool) → (t || false) ≡ true → t ≡ true
        plain true e = refl
        plain false e = e

        none : (t : Bool) → (t || false) ≡ false → t ≡ false
        none true e = e
        none false e = refl

        to_b : (d || false) ≡ false → (i : ℕ) (y : B) → From hs word (suc n) i y → y ≡ b
        to_b e i y k = ⊎_elim (λ q. r.one (none d e) i r.least.0.0 y b q r.least.0.1) (λ q. same_some (sym q.1 ∙ f) ∙ sym (even b x eu ev)) (parted n i y k)

    right_step : (n : ℕ) (t : Bool) (e : Option B) (l : Option B) (d : Bool) → bit word n ≡ t → estimate_at hs n ≡ e → Right n (record { least = l; differ = d })
        → Right (suc n) (cond t (joined earlier (record { least = l; differ = d }) e) (record { least = l; differ = d }))
    right_step n false e l d p f r = stays n _ (λ x q _. true≢false (sym q ∙ p)) r
    right_step n true None l d p f r = stays n _ (λ x _ q. none_some (sym f ∙ q)) r
    right_step n true (Some x) None d p f r = first_one n x d p f r
    right_step n true (Some x) (Some b) d p f r = one_more n b x d (earlier b x) (earlier x b) refl refl p f r

    pub right : (n : ℕ) → Right n (ballots_below earlier hs word n)
    unfolding ballots_below
    right zero = record { least = λ i b h. omega (arith, h.within); two = λ e. absurd (true≢false (sym e)); one = λ e i j a b h k. absurd (omega (arith, h.within)) }
    right (suc n) = right_step n (bit word n) (estimate_at hs n) (ballots_below earlier hs word n).least (ballots_below earlier hs word n).differ refl refl (right n)

    pub differ_decides : (n : ℕ) → Decides (ballots_below earlier hs word n).differ (TwoHeard hs word n)
    differ_decides n = ((right n).two, λ t. by (ballots_below earlier hs word n).differ refl t)
      where
        by : (d : Bool) → (ballots_below earlier hs word n).differ ≡ d → TwoHeard hs word n → d ≡ true
        by true e t = refl
        by false e t = absurd (t.6 ((right n).one e t.0 t.1 t.2 t.3 t.4 t.5))
