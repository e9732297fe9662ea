-- A head that hears a sender with the least ballot of all hears that ballot as its least.
use Rattle.std.proofs.Common.{◌≡◌, ℕ, zero, suc, ◌<◌, ◌≤◌, Bool, true, false, not, ◌&&◌, ◌⊎◌, List, [], ◌∷◌, length, IfSome, Some, None, Option, sym, refl, ap, ◌∙◌, ap₂, inl, inr, ⊎_elim, arith}
use Rattle.std.proofs.lemmas.Bool.{true≢false, and_parts, not-true, cases_lt}
use Rattle.sets.specs.Sets.{bit, word_of, lowest}
use Rattle.sets.proofs.Words.{bit_word, bit_past, same_bits, word_below}
use Rattle.sets.proofs.Searches.{lowest_some, lowest_none}
use Rattle.ballots.specs.Order.{Total}
use Rattle.heads.specs.declared.head.Ballots.{Ballots}
use Rattle.heads.specs.declared.head.Head.{Head}
use Rattle.heads.specs.Heard.{estimate_at, ballots_of, From, IsLeast}
use Rattle.heads.proofs.Walks.{Right, right}
use Rattle.votes.specs.declared.leaders.Leaders.{Leaders}
use Rattle.votes.specs.Leaders.{alike, holds, having, Leads, LeadsIn, Led}

abbrev pub as_ballots : {B : Type 0} → Option B → Bool → Ballots B
as_ballots least differ = record { least = least; differ = differ }

-- ---- words that are empty, and words that are not

pub none_in : (p : ℕ → Bool) → word_of 64 p ≡ 0 → (i : ℕ) → i < 64 → p i ≡ false
none_in p e i h = sym (bit_word 64 p i h) ∙ ap (λ (w : ℕ). bit w i) e ∙ bit_past 0 0 i (omega arith) (omega arith)

pub some_in : (p : ℕ → Bool) → (word_of 64 p ≡ 0 → ⊥) → (i : ℕ) × (i < 64) × (p i ≡ true)
some_in p ne = by (lowest p 64) refl
  where
    by : (o : Option ℕ) → lowest p 64 ≡ o → (i : ℕ) × (i < 64) × (p i ≡ true)
    by (Some i) e = let f = lowest_some p 0 64 i e in (i, omega (arith, f.below), f.holds)
    by None e =
        absurd (ne (same_bits 64 (word_of 64 p) 0 (word_below 64 p) (omega arith)
        (λ i h. bit_word 64 p i h ∙ lowest_none p 0 64 e i (omega arith) (omega arith) ∙ sym (bit_past 0 0 i (omega arith) (omega arith)))))

-- a head in the word of a test below n
member : (n : ℕ) (p : ℕ → Bool) (i : ℕ) → bit (word_of n p) i ≡ true → (i < n) × (p i ≡ true)
member n p i e =
    ⊎_elim (λ h. (h, sym (bit_word n p i h) ∙ e)) (λ h. absurd (true≢false (sym e ∙ bit_past n (word_of n p) i (word_below n p) h))) (cases_lt i n)

-- ---- what leaders and others have

some_ballot : {B : Type 0} (earlier : B → B → Bool) (b : B) (o : Option B) → holds earlier b o ≡ true → (e : B) × (o ≡ Some e) × (alike earlier e b ≡ true)
some_ballot earlier b (Some e) h = (e, refl, h)
some_ballot earlier b None h = absurd (true≢false (sym h))

-- each head of the table has an estimate
estimated : {B : Type 0} (hs : List (Head B)) (i : ℕ) → i < length hs → (e : B) × (estimate_at hs i ≡ Some e)
estimated [] i h = absurd (omega arith)
estimated (x ∷ hs) zero h = (x.estimate, refl)
estimated (x ∷ hs) (suc i) h = estimated hs i (omega arith)

module _ {B : Type 0} (earlier : B → B → Bool) (o : Total earlier) where
  alike_same : (a b : B) → alike earlier a b ≡ true → a ≡ b
  alike_same a b e =
      let p = and_parts (not (earlier a b)) (not (earlier b a)) e in
      ⊎_elim (λ l. absurd (true≢false (sym l ∙ not-true _ p.0))) (⊎_elim (λ s. s) (λ l. absurd (true≢false (sym l ∙ not-true _ p.1)))) (o.one a b)

  same_alike : (a b : B) → a ≡ b → alike earlier a b ≡ true
  same_alike a b e = ap₂ (λ (x y : Bool). not x && not y) (o.not_itself a b e) (o.not_itself b a (sym e))

  module _ (hs : List (Head B)) (n senders : ℕ) (long : n ≤ length hs) (l : Leaders B) (leads : Leads earlier hs n senders l) where
    leader : (i : ℕ) → bit l.leaders i ≡ true → (bit senders i ≡ true) × (estimate_at hs i ≡ Some l.least)
    unfolding having
    leader i e =
        let m = member n (λ i. bit senders i && holds earlier l.least (estimate_at hs i)) i (ap (λ (w : ℕ). bit w i) (sym leads.leaders) ∙ e) in
        let p = and_parts (bit senders i) _ m.1 in
        let x = some_ballot earlier l.least (estimate_at hs i) p.1 in
        (p.0, x.1 ∙ ap Some (alike_same x.0 l.least x.2))

    other : (i : ℕ) → bit l.others i ≡ true → (e : B) × (bit senders i ≡ true) × (estimate_at hs i ≡ Some e) × (e ≡ l.least → ⊥)
    unfolding having
    other i e =
        let m = member 64 (λ i. bit senders i && not (bit l.leaders i)) i (ap (λ (w : ℕ). bit w i) (sym leads.others) ∙ e) in
        let p = and_parts (bit senders i) _ m.1 in
        let low = leads.enrolled i m.0 p.0 in
        let x = estimated hs i (omega arith) in
        let off : bit l.leaders i ≡ false = not-true _ p.1 in
        let held : (bit senders i && holds earlier l.least (estimate_at hs i)) ≡ false =
        sym (bit_word n (λ i. bit senders i && holds earlier l.least (estimate_at hs i)) i low) ∙ ap (λ (w : ℕ). bit w i) (sym leads.leaders) ∙ off in
        (x.0, p.0, x.1, λ s. true≢false (sym (ap₂ ◌&&◌ p.0 (ap (holds earlier l.least) x.1 ∙ same_alike x.0 l.least s)) ∙ held))

    module _ (word : ℕ) (led : Led word l.leaders l.others) where
      hit : From hs word 64 led.hit.0 l.least
      hit = record { within = led.hit.1; heard = led.hit.2; sent = (leader led.hit.0 led.hit.3).1 }

      -- what is heard was sent
      sent : (i : ℕ) (b : B) → From hs word 64 i b → From hs senders 64 i b
      sent i b f = record {
        within = f.within;
        heard = ⊎_elim (λ e. (leader i e).0) (λ e. (other i e).1) (led.inside i f.within f.heard);
        sent = f.sent;
      }

      same_some : {a b : B} → Some a ≡ Some b → a ≡ b
      same_some e = cc

      least_is : (x : Option B) → IsLeast earlier hs word 64 x → x ≡ Some l.least
      least_is None h = absurd (h led.hit.0 l.least hit)
      least_is (Some b) h =
          let below = leads.least.1 h.0.0 b (sent h.0.0 b h.0.1) in
          let above = h.1 led.hit.0 l.least hit in
          ap Some (⊎_elim (λ e. absurd (true≢false (sym e ∙ below))) (⊎_elim (λ s. s) (λ e. absurd (true≢false (sym e ∙ above)))) (o.one b l.least))

      -- one heard ballot is another's: some other is heard
      outside : (i : ℕ) (b : B) → From hs word 64 i b → (b ≡ l.least) ⊎ (bit l.others i ≡ true)
      outside i b f =
          ⊎_elim (λ e. inl (same_some (sym f.sent ∙ (leader i e).1))) inr (led.inside i f.within f.heard)

      differ_is : (d t : Bool) (s : Ballots B) → Right earlier hs word 64 s → s.differ ≡ d
          → (t ≡ false → (i : ℕ) → i < 64 → (bit word i && bit l.others i) ≡ false)
          → (t ≡ true → (i : ℕ) × (i < 64) × ((bit word i && bit l.others i) ≡ true)) → d ≡ t
      differ_is true true s r e none some = refl
      differ_is false false s r e none some = refl
      differ_is true false s r e none some =
          let two = r.two e in
          let out : (i : ℕ) (b : B) → From hs word 64 i b → b ≡ l.least =
          λ i b f. ⊎_elim (λ q. q) (λ q. absurd (true≢false (sym (ap₂ ◌&&◌ f.heard q) ∙ none refl i f.within))) (outside i b f) in
          absurd (two.6 (out two.0 two.2 two.4 ∙ sym (out two.1 two.3 two.5)))
      differ_is false true s r e none some =
          let x = some refl in
          let p = and_parts (bit word x.0) (bit l.others x.0) x.2 in
          let y = other x.0 p.1 in
          let f : From hs word 64 x.0 y.0 = record { within = x.1; heard = p.0; sent = y.2 } in
          absurd (y.3 (r.one e x.0 led.hit.0 y.0 l.least f hit))

      pub led_ballots : (t : Bool)
          → (t ≡ false → (i : ℕ) → i < 64 → (bit word i && bit l.others i) ≡ false)
          → (t ≡ true → (i : ℕ) × (i < 64) × ((bit word i && bit l.others i) ≡ true))
          → as_ballots (Some l.least) t ≡ ballots_of earlier hs word
      led_ballots t none some =
          let s = ballots_of earlier hs word in
          let r = right earlier hs word o 64 in
          sym (ap₂ as_ballots (least_is s.least r.least) (differ_is s.differ t s r refl none some))

-- ---- tables with the same estimates have the same leaders

module _ {B : Type 0} (earlier : B → B → Bool) (xs ys : List (Head B)) (same : (k : ℕ) → estimate_at xs k ≡ estimate_at ys k) where
  from_same : (w n i : ℕ) (b : B) → From xs w n i b → From ys w n i b
  from_same w n i b f = record { within = f.within; heard = f.heard; sent = sym (same i) ∙ f.sent }

  from_back : (w n i : ℕ) (b : B) → From ys w n i b → From xs w n i b
  from_back w n i b f = record { within = f.within; heard = f.heard; sent = same i ∙ f.sent }

  leads_same : (n senders : ℕ) (l : Leaders B) → Leads earlier xs n senders l → Leads earlier ys n senders l
  unfolding having
  leads_same n senders l k = record {
    least = ((k.least.0.0, from_same senders 64 _ l.least k.least.0.1), λ i d f. k.least.1 i d (from_back senders 64 i d f));
    leaders = k.leaders ∙ (λ t. word_of n (λ i. bit senders i && holds earlier l.least (same i t)));
    others = k.others;
    enrolled = k.enrolled;
  }

  pub led_same : length ys ≡ length xs → (n senders : ℕ) → n ≤ length xs → (o : Option (Leaders B))
      → IfSome o (λ l. Leads earlier xs n senders l) → IfSome o (λ l. LeadsIn earlier ys l)
  led_same long n senders low None k = tt
  led_same long n senders low (Some l) k = (n, senders, omega (arith, long), leads_same n senders l k)
