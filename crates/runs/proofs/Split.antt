-- The split vote, at any width: the invariant of every run, and calm rounds.
use Rattle.std.proofs.Common.{◌≡◌, ℕ, suc, ◌+◌, ◌-◌, ◌*◌, ◌/◌, ◌%◌, ◌^◌, ◌<◌, ◌≤◌, Bool, true, false, cond, not, ◌&&◌, T, eqb, ltb, leb, ◌≢◌, ◌⊎◌, sym, refl, ap, ◌∙◌, subst, ap₂, inl, inr, zero-le, le_refl, lt_of_lt_of_le, mod-eq_of_lt, eq-zero-or-pos, pow-suc, div-one, add-one, arith, eqb→eq, leb→le, pow_pos, pow_mono}
use native.Mathlib.Nat.{sub-zero}
use Rattle.std.proofs.lemmas.Nat.{shr-shr, div_below}
use Rattle.std.proofs.lemmas.Bool.{eq-eqb, le-leb, cases_lt}
use Rattle.sets.specs.Sets.{count}
use Rattle.ballots.specs.Order.{Coding}
use Rattle.heads.specs.declared.head.Head.{Head}
use Rattle.heads.specs.declared.head.Prefix.{Prefix}
use Rattle.heads.specs.declared.head.Heard.{Heard}
use Rattle.heads.specs.declared.head.State.TheVariants.{Decided}
use Rattle.heads.specs.Rules.{Scheme, odd, begins, keeps, noisy, fresh}
use Rattle.heads.specs.Rules.Scheme.{split}
use Rattle.runs.proofs.Tests.{Or, decide, and_left, and_right, and_both, or_cases, cond-true, cond-false, holds, same_test}
use Rattle.runs.proofs.Parity.{odd_next}
use Rattle.runs.proofs.Counts.{count_some, count_pos}
use Rattle.runs.proofs.Steps.{Heads, is_running, is_decided, runs, done, Alive, not_both, Events, heard, hears, sends, total, Step, Small, NoHeadRuns, sender_runs, runs_back, done_back, alive_back, silence}

half_pow : (x k : ℕ) → x / 2 ^ k / 2 ≡ x / 2 ^ suc k
half_pow x k = shr-shr x k 1 ∙ ap (λ (m : ℕ). x / 2 ^ m) (add-one k)

-- a code that begins with a prefix and a bit begins with the prefix
halved : (x k v b : ℕ) → b ≤ 1 → x / 2 ^ k ≡ 2 * v + b → x / 2 ^ suc k ≡ v
halved x k v b h e = sym (half_pow x k) ∙ omega (arith, e)

-- a code that begins with a prefix goes on with 0 or with 1
other : (x k v : ℕ) → x / 2 ^ suc k ≡ v → x / 2 ^ k ≢ 2 * v + 0 → x / 2 ^ k ≡ 2 * v + 1
other x k v e f = let h = half_pow x k ∙ e in omega arith

-- ---- what becomes of a prefix

pub record Fate : Type 0 where
  over : Bool
  prefix : Prefix
  noise : Bool

abbrev none_yet : Fate
none_yet = record { over = false; prefix = record { bits = 0; length = 0 }; noise = false }

abbrev add : ℕ → Prefix → ℕ → Fate
add w p b = record { over = leb w (p.length + 1); prefix = record { bits = (2 * p.bits + b) % 2 ^ w; length = p.length + 1 }; noise = false }

-- after the first round of a step (true), or its second
abbrev fate : ℕ → Bool → Bool → Prefix → Bool → Fate
fate w f x p nz = cond f (record { over = false; prefix = p; noise = x }) (cond nz (add w p 0) (cond x (add w p 1) none_yet))

-- the bit asked in a step's first round is 0, in its second 1
abbrev bit_of : Bool → ℕ
bit_of f = cond f 0 1

module _ {B : Type 0} (w : ℕ) (code : B → ℕ) (back : ℕ → B) (coded : Coding w code back) where
  abbrev vote : Scheme B
  vote = split w code back

  abbrev settle : Fate → Head B → Head B
  settle f h =
      cond f.over
      (record { state = Decided; first = h.first; estimate = back f.prefix.bits; ballots = h.ballots; flag = h.flag; prefix = h.prefix; noise = false })
      (record { state = h.state; first = h.first; estimate = h.estimate; ballots = h.ballots; flag = h.flag; prefix = f.prefix; noise = f.noise })

  keeps_settles : (round : ℕ) (hd : Heard B) (h : Head B) → keeps vote round hd h ≡ settle (fate w (odd round) (noisy hd) h.prefix h.noise) h
  keeps_settles round hd h = go (odd round) h.noise (noisy hd) (leb w (h.prefix.length + 1))
    where
      grow : Bool → ℕ → Head B
      grow d b = cond d
          (record { state = Decided; first = h.first; estimate = back ((2 * h.prefix.bits + b) % 2 ^ w); ballots = h.ballots; flag = h.flag; prefix = h.prefix; noise = false })
          (record { state = h.state; first = h.first; estimate = h.estimate; ballots = h.ballots; flag = h.flag; prefix = record { bits = (2 * h.prefix.bits + b) % 2 ^ w; length = h.prefix.length + 1 }; noise = false })

      fated : Bool → ℕ → Fate
      fated d b = record { over = d; prefix = record { bits = (2 * h.prefix.bits + b) % 2 ^ w; length = h.prefix.length + 1 }; noise = false }

      go : (a b c d : Bool) →
          cond a (record { state = h.state; first = h.first; estimate = h.estimate; ballots = h.ballots; flag = h.flag; prefix = h.prefix; noise = c })
          (cond b (grow d 0) (cond c (grow d 1) (record { state = h.state; first = h.first; estimate = h.estimate; ballots = h.ballots; flag = h.flag; prefix = record { bits = 0; length = 0 }; noise = false })))
          ≡ settle (cond a (record { over = false; prefix = h.prefix; noise = c }) (cond b (fated d 0) (cond c (fated d 1) none_yet))) h
      go true b c d = refl
      go false true c true = refl
      go false true c false = refl
      go false false true true = refl
      go false false true false = refl
      go false false false d = refl

  -- after r heard rounds
  pub record Inv (n : ℕ) (first : ℕ → B) (r : ℕ) (st : Heads B) : Type 0 where
    pub few : n ≤ 64
    pub roll : (i : ℕ) → Alive st i → i < n
    pub own : (i : ℕ) → i < n → (st i).first ≡ first i
    -- running heads share prefix and noise
    pub shared : (i j : ℕ) → T (runs st i) → T (runs st j) → (st i).prefix ≡ (st j).prefix
    pub noise : (i j : ℕ) → T (runs st i) → T (runs st j) → (st i).noise ≡ (st j).noise
    -- the heads that have not stopped all run or have all decided
    pub together : (i j : ℕ) → T (done st i) → T (runs st j) → ⊥
    pub agree : (i j : ℕ) → T (done st i) → T (done st j) → (st i).estimate ≡ (st j).estimate
    pub brought : (i : ℕ) → T (done st i) → (j : ℕ) × (j < n) × (first j ≡ (st i).estimate)
    -- a running head's prefix is shorter than a code, and begins the code of some first ballot
    pub short : (i : ℕ) → T (runs st i) → ((st i).prefix.length < w) × ((st i).prefix.bits < 2 ^ (st i).prefix.length)
    pub valid : (i : ℕ) → T (runs st i) → (j : ℕ) × (j < n) × (code (first j) / 2 ^ (w - (st i).prefix.length) ≡ (st i).prefix.bits)
    -- with 0 after it, if there was noise in the first round of the step
    pub noisy_valid : (T (odd (r + 1)) → ⊥) → (i : ℕ) → T (runs st i) → T (st i).noise
        → (j : ℕ) × (j < n) × (code (first j) / 2 ^ (w - ((st i).prefix.length + 1)) ≡ 2 * (st i).prefix.bits + 0)

  -- every code begins with the empty prefix
  begins_empty : (x : B) → code x / 2 ^ w ≡ 0
  begins_empty x = let l = coded.below x in let h : code x / 2 ^ w < 1 = div_below (code x) (2 ^ w) 1 (pow_pos w) (omega arith) in omega arith

  begins_none : (x : B) → code x / 2 ^ (w - 0) ≡ 0
  begins_none x = ap (λ (k : ℕ). code x / 2 ^ k) (sub-zero w) ∙ begins_empty x

  -- a head as it was enrolled
  pub short_none : (h : Head B) (b : B) → h ≡ fresh b → (h.prefix.length < w) × (h.prefix.bits < 2 ^ h.prefix.length)
  short_none h b e = subst (λ (g : Head B). (g.prefix.length < w) × (g.prefix.bits < 2 ^ g.prefix.length)) (sym e) (coded.some, le_refl 1)

  pub valid_none : (h : Head B) (b : B) → h ≡ fresh b → code b / 2 ^ (w - h.prefix.length) ≡ h.prefix.bits
  valid_none h b e = subst (λ (g : Head B). code b / 2 ^ (w - g.prefix.length) ≡ g.prefix.bits) (sym e) (begins_none b)

  below_64 : {n : ℕ} {first : ℕ → B} {r : ℕ} {st : Heads B} → Inv n first r st → Small st
  below_64 I i a = let l = I.roll i a in omega (arith, I.few)

  module _ {r : ℕ} {st : Heads B} {q : Events B} {st' : Heads B} (d : Step vote r st q st') where
    abbrev f : Bool
    f = odd (r + 1)

    abbrev noise_at : ℕ → Bool
    noise_at i = noisy (hears q i)

    abbrev fate_of : ℕ → Fate
    fate_of i = fate w f (noise_at i) (st i).prefix (st i).noise

    goes : (i : ℕ) → T (runs st i) → (T (q.stop i) → ⊥) → st' i ≡ settle (fate_of i) (st i)
    goes i u p = d.goes_on i u p ∙ keeps_settles (r + 1) (hears q i) (st i)

    still : (i : ℕ) → T (runs st' i) → st' i ≡ settle (fate_of i) (st i)
    still i t = let b = runs_back d i t in goes i b.0 b.1

    first_same : (i : ℕ) → (st' i).first ≡ (st i).first
    first_same i = go (decide (runs st i)) (decide (q.stop i))
      where
        either : (b : Bool) (x y : Head B) → x.first ≡ (st i).first → y.first ≡ (st i).first → (cond b x y).first ≡ (st i).first
        either true x y e g = e
        either false x y e g = g

        go : Or (runs st i) → Or (q.stop i) → (st' i).first ≡ (st i).first
        go (inr v) p = ap (λ (h : Head B). h.first) (d.idle i v)
        go (inl u) (inl p) = ap (λ (h : Head B). h.first) (d.halts i u p)
        go (inl u) (inr p) = ap (λ (h : Head B). h.first) (goes i u p) ∙ either (fate_of i).over _ _ refl refl

    -- a head that went on and runs: its prefix is not full
    running_fate : (i : ℕ) → T (runs st' i) → (T (fate_of i).over → ⊥) × ((st' i).prefix ≡ (fate_of i).prefix) × ((st' i).noise ≡ (fate_of i).noise)
    running_fate i t = go (fate_of i) (still i t)
      where
        go : (x : Fate) → st' i ≡ settle x (st i) → (T x.over → ⊥) × ((st' i).prefix ≡ x.prefix) × ((st' i).noise ≡ x.noise)
        go x e = by x.over e
          where
            by : (o : Bool) → st' i ≡ settle (record { over = o; prefix = x.prefix; noise = x.noise }) (st i) → (T o → ⊥) × ((st' i).prefix ≡ x.prefix) × ((st' i).noise ≡ x.noise)
            by true e = absurd (subst (λ (h : Head B). T (is_running h.state)) e t)
            by false e = (λ o. o, ap (λ (h : Head B). h.prefix) e, ap (λ (h : Head B). h.noise) e)

    -- a head that newly decided: its prefix is full
    decided_fate : (i : ℕ) → T (runs st i) → st' i ≡ settle (fate_of i) (st i) → T (done st' i) → T (fate_of i).over × ((st' i).estimate ≡ back (fate_of i).prefix.bits)
    decided_fate i u e t = by (fate_of i).over (fate_of i).prefix (fate_of i).noise e
      where
        by : (o : Bool) (p : Prefix) (z : Bool) → st' i ≡ settle (record { over = o; prefix = p; noise = z }) (st i) → T o × ((st' i).estimate ≡ back p.bits)
        by true p z e = (tt, ap (λ (h : Head B). h.estimate) e)
        by false p z e = absurd (not_both (st i).state u (subst (λ (h : Head B). T (is_decided h.state)) e t))

    goes_on_runs : (i : ℕ) → T (runs st i) → (T (q.stop i) → ⊥) → (T (fate_of i).over → ⊥) → T (runs st' i)
    goes_on_runs i u p o =
        subst (λ (h : Head B). T (is_running h.state)) (sym (goes i u p ∙ cond-false (fate_of i).over _ _ o)) u

    abbrev Went : ℕ → Type 0
    Went i = (T (done st i) × (st' i ≡ st i)) ⊎ (T (runs st i) × (st' i ≡ settle (fate_of i) (st i)))

    done_went : (i : ℕ) → T (done st' i) → Went i
    done_went i t = go (done_back d i t)
      where
        go : (T (done st i) × (st' i ≡ st i)) ⊎ (T (runs st i) × (st' i ≡ keeps vote (r + 1) (hears q i) (st i))) → Went i
        go (inl x) = inl x
        go (inr x) = inr (x.0, x.1 ∙ keeps_settles (r + 1) (hears q i) (st i))

    -- ---- noise is common: it is there exactly where some head sends

    noise_sender : (i : ℕ) → T (noise_at i) → (k : ℕ) × T (sends vote r st q k)
    noise_sender i t = go (or_cases (ltb 0 (heard q i)) (q.alarm i) t)
      where
        from_word : 0 < heard q i → (k : ℕ) × T (sends vote r st q k)
        from_word h = let k = count_some (q.word i) 64 h in (k.0, d.senders_heard i k.0 k.2)

        by_alarm : T (q.alarm i) → (total vote r st q ≡ 0) ⊎ (0 < total vote r st q) → (heard q i ≡ 0) ⊎ (0 < heard q i) → (k : ℕ) × T (sends vote r st q k)
        by_alarm a (inr p) h = let k = count_some (sends vote r st q) 64 p in (k.0, k.2)
        by_alarm a (inl z) (inl h) = absurd (d.none_false tt i a (h ∙ sym z))
        by_alarm a (inl z) (inr h) = from_word h

        go : T (ltb 0 (heard q i)) ⊎ T (q.alarm i) → (k : ℕ) × T (sends vote r st q k)
        go (inl x) = go_pos (eq-zero-or-pos (heard q i))
          where
            go_pos : (heard q i ≡ 0) ⊎ (0 < heard q i) → (k : ℕ) × T (sends vote r st q k)
            go_pos (inl z) = absurd (subst (λ (c : ℕ). T (ltb 0 c)) z x)
            go_pos (inr l) = from_word l
        go (inr a) = by_alarm a (eq-zero-or-pos (total vote r st q)) (eq-zero-or-pos (heard q i))

    sender_noise : Small st → (i : ℕ) → T (runs st i) → (k : ℕ) → T (sends vote r st q k) → T (noise_at i)
    sender_noise small i u k t = go (decide (noise_at i))
      where
        go : Or (noise_at i) → T (noise_at i)
        go (inl x) = x
        go (inr x) = absurd (silence d small i u x k t)

    noise_same : Small st → (i j : ℕ) → T (runs st i) → T (runs st j) → noise_at i ≡ noise_at j
    noise_same small i j u v =
        same_test (noise_at i) (noise_at j)
        (λ t. let k = noise_sender i t in sender_noise small j v k.0 k.1)
        (λ t. let k = noise_sender j t in sender_noise small i u k.0 k.1)

  module _ {n : ℕ} {first : ℕ → B} {r : ℕ} {st : Heads B} {q : Events B} {st' : Heads B} (I : Inv n first r st) (d : Step vote r st q st') where
    fate_same : (i j : ℕ) → T (runs st i) → T (runs st j) → fate_of d i ≡ fate_of d j
    fate_same i j u v =
        ap (λ (x : Bool). fate w (odd (r + 1)) x (st i).prefix (st i).noise) (noise_same d (below_64 I) i j u v)
        ∙ ap₂ (λ (p : Prefix) (z : Bool). fate w (odd (r + 1)) (noisy (hears q j)) p z) (I.shared i j u v) (I.noise i j u v)

    -- a sender's code begins with the prefix that all share, and the bit asked
    sent : (i : ℕ) → T (runs st i) → (k : ℕ) → T (sends vote r st q k)
        → (k < n) × (code (first k) / 2 ^ (w - ((st i).prefix.length + 1)) ≡ 2 * (st i).prefix.bits + bit_of (odd (r + 1)))
    sent i u k t =
        let v = sender_runs d k t in
        let e = eqb→eq (code (st k).first / 2 ^ (w - ((st k).prefix.length + 1))) (2 * (st k).prefix.bits + bit_of (odd (r + 1))) (and_right (runs st k) _ t) in (
          I.roll k (inl v),
          subst (λ (p : Prefix). code (first k) / 2 ^ (w - (p.length + 1)) ≡ 2 * p.bits + bit_of (odd (r + 1))) (I.shared k i v u)
              (subst (λ (x : B). code x / 2 ^ (w - ((st k).prefix.length + 1)) ≡ 2 * (st k).prefix.bits + bit_of (odd (r + 1))) (I.own k (I.roll k (inl v))) e),
        )

    -- what holds of the prefix that a running head comes to
    record Sound (x : Fate) : Type 0 where
      brief : (x.prefix.length ≤ w) × (x.prefix.bits < 2 ^ x.prefix.length)
      more : (T x.over → ⊥) → x.prefix.length < w
      all : T x.over → x.prefix.length ≡ w
      begun : (j : ℕ) × (j < n) × (code (first j) / 2 ^ (w - x.prefix.length) ≡ x.prefix.bits)
      zeros : (T (odd (r + 1 + 1)) → ⊥) → T x.noise → (j : ℕ) × (j < n) × (code (first j) / 2 ^ (w - (x.prefix.length + 1)) ≡ 2 * x.prefix.bits + 0)

    sound_add : (i : ℕ) → T (runs st i) → (b : ℕ) → b ≤ 1 → (j : ℕ) → j < n → code (first j) / 2 ^ (w - ((st i).prefix.length + 1)) ≡ 2 * (st i).prefix.bits + b
        → Sound (add w (st i).prefix b)
    sound_add i u b l j jn e =
        let s = I.short i u in
        let p : 2 ^ suc (st i).prefix.length ≡ 2 ^ (st i).prefix.length * 2 = pow-suc 2 (st i).prefix.length in
        let a : suc (st i).prefix.length ≡ (st i).prefix.length + 1 = omega arith in
        let in_length : 2 * (st i).prefix.bits + b < 2 ^ ((st i).prefix.length + 1) = subst (λ (k : ℕ). 2 * (st i).prefix.bits + b < 2 ^ k) a (omega (arith, s.1)) in
        let in_width : 2 * (st i).prefix.bits + b < 2 ^ w = lt_of_lt_of_le in_length (pow_mono (omega (arith, s.0))) in
        let same : (2 * (st i).prefix.bits + b) % 2 ^ w ≡ 2 * (st i).prefix.bits + b = mod-eq_of_lt in_width in
        record {
          brief = (omega (arith, s.0), subst (λ (x : ℕ). x < 2 ^ ((st i).prefix.length + 1)) (sym same) in_length);
          more = λ o. lt_of (cases_lt ((st i).prefix.length + 1) w) o;
          all = λ o. let z = leb→le w ((st i).prefix.length + 1) o in omega (arith, s.0);
          begun = (j, jn, e ∙ sym same);
          zeros = λ _ z. absurd z;
        }
      where
        lt_of : ((st i).prefix.length + 1 < w) ⊎ (w ≤ (st i).prefix.length + 1) → (T (leb w ((st i).prefix.length + 1)) → ⊥) → (st i).prefix.length + 1 < w
        lt_of (inl x) o = x
        lt_of (inr x) o = absurd (o (holds (le-leb w ((st i).prefix.length + 1) x)))

    sound_fate : (i : ℕ) → T (runs st i) → Sound (fate_of d i)
    sound_fate i u = by (odd (r + 1)) refl
      where
        x : Bool
        x = noisy (hears q i)

        second : (a b : Bool) → (T a → T (st i).noise) → (T b → T x) → (T (odd (r + 1)) → ⊥) → Sound (cond a (add w (st i).prefix 0) (cond b (add w (st i).prefix 1) none_yet))
        second true b g h o = let v = I.noisy_valid o i u (g tt) in sound_add i u 0 zero-le v.0 v.1 v.2
        second false true g h o =
            let k = noise_sender d i (h tt) in
            let v = sent i u k.0 k.1 in
            sound_add i u 1 (le_refl 1) k.0 v.0 (v.1 ∙ ap (λ (c : ℕ). 2 * (st i).prefix.bits + c) (cond-false (odd (r + 1)) 0 1 o))
        second false false g h o = record {
          brief = (zero-le, le_refl 1);
          more = λ _. coded.some;
          all = λ o. absurd o;
          begun = (i, I.roll i (inl u), begins_none (first i));
          zeros = λ _ z. absurd z;
        }

        by : (g : Bool) → odd (r + 1) ≡ g → Sound (fate w g x (st i).prefix (st i).noise)
        by true e = record {
          brief = (let s = I.short i u in omega (arith, s.0), (I.short i u).1);
          more = λ _. (I.short i u).0;
          all = λ o. absurd o;
          begun = I.valid i u;
          zeros = λ _ z. let k = noise_sender d i z in let v = sent i u k.0 k.1 in
              (k.0, v.0, v.1 ∙ ap (λ (c : ℕ). 2 * (st i).prefix.bits + c) (cond-true (odd (r + 1)) 0 1 (holds e)));
        }
        by false e = second (st i).noise x (λ t. t) (λ t. t) (λ o. subst T e o)

    pub inv_step : Inv n first (r + 1) st'
    inv_step = record {
      few = I.few;
      roll = λ i a. I.roll i (alive_back d i a);
      own = λ i l. first_same d i ∙ I.own i l;
      shared = λ i j ti tj. let x = running_fate d i ti in let y = running_fate d j tj in
          x.1 ∙ ap (λ (z : Fate). z.prefix) (fate_same i j (back_runs i ti) (back_runs j tj)) ∙ sym y.1;
      noise = λ i j ti tj. let x = running_fate d i ti in let y = running_fate d j tj in
          x.2 ∙ ap (λ (z : Fate). z.noise) (fate_same i j (back_runs i ti) (back_runs j tj)) ∙ sym y.2;
      together = λ i j ti tj. apart i j ti (back_runs j tj) (running_fate d j tj).0 (done_went d i ti);
      agree = λ i j ti tj. agrees i j ti tj (done_went d i ti) (done_went d j tj);
      brought = λ i t. brings i t (done_went d i t);
      short = λ i t. let x = running_fate d i t in let s = sound_fate i (back_runs i t) in
          subst (λ (p : Prefix). (p.length < w) × (p.bits < 2 ^ p.length)) (sym x.1) (s.more x.0, s.brief.1);
      valid = λ i t. let x = running_fate d i t in
          subst (λ (p : Prefix). (j : ℕ) × (j < n) × (code (first j) / 2 ^ (w - p.length) ≡ p.bits)) (sym x.1) (sound_fate i (back_runs i t)).begun;
      noisy_valid = λ o i t z. let x = running_fate d i t in
          subst (λ (p : Prefix). (j : ℕ) × (j < n) × (code (first j) / 2 ^ (w - (p.length + 1)) ≡ 2 * p.bits + 0)) (sym x.1) ((sound_fate i (back_runs i t)).zeros o (subst T x.2 z));
    }
      where
        back_runs : (i : ℕ) → T (runs st' i) → T (runs st i)
        back_runs i t = (runs_back d i t).0

        apart : (i j : ℕ) → T (done st' i) → T (runs st j) → (T (fate_of d j).over → ⊥) → Went d i → ⊥
        apart i j t v o (inl x) = I.together i j x.0 v
        apart i j t v o (inr x) = o (subst (λ (z : Fate). T z.over) (fate_same i j x.0 v) (decided_fate d i x.0 x.1 t).0)

        agrees : (i j : ℕ) → T (done st' i) → T (done st' j) → Went d i → Went d j → (st' i).estimate ≡ (st' j).estimate
        agrees i j ti tj (inl x) (inl y) = ap (λ (h : Head B). h.estimate) x.1 ∙ I.agree i j x.0 y.0 ∙ sym (ap (λ (h : Head B). h.estimate) y.1)
        agrees i j ti tj (inl x) (inr y) = absurd (I.together i j x.0 y.0)
        agrees i j ti tj (inr x) (inl y) = absurd (I.together j i y.0 x.0)
        agrees i j ti tj (inr x) (inr y) =
            (decided_fate d i x.0 x.1 ti).1 ∙ ap (λ (z : Fate). back z.prefix.bits) (fate_same i j x.0 y.0) ∙ sym (decided_fate d j y.0 y.1 tj).1

        brings : (i : ℕ) → T (done st' i) → Went d i → (j : ℕ) × (j < n) × (first j ≡ (st' i).estimate)
        brings i t (inl x) = let v = I.brought i x.0 in (v.0, v.1, v.2 ∙ sym (ap (λ (h : Head B). h.estimate) x.1))
        brings i t (inr x) =
            let z = decided_fate d i x.0 x.1 t in
            let s = sound_fate i x.0 in
            let v = s.begun in
            let none_left : w - (fate_of d i).prefix.length ≡ 0 = let e = s.all z.0 in omega arith in
            let whole : code (first v.0) ≡ (fate_of d i).prefix.bits = sym (div-one (code (first v.0))) ∙ ap (λ (k : ℕ). code (first v.0) / 2 ^ k) (sym none_left) ∙ v.2 in
            (v.0, v.1, sym (coded.back (first v.0)) ∙ ap back whole ∙ sym z.1)

  -- ---- rounds in which no head stops

  -- some running head's first ballot has a code that begins with v, all but its last k bits
  abbrev Live : Heads B → ℕ → ℕ → Type 0
  Live st k v = (j : ℕ) × T (runs st j) × (code (st j).first / 2 ^ k ≡ v)

  -- m calm rounds are enough, for a running head with that prefix and noise, before the first round of a step (true)
  -- or its second
  abbrev Kind : Bool → Prefix → Bool → Heads B → ℕ → Type 0
  Kind true p z st m = (Live st (w - p.length) p.bits × (2 * (w - p.length) ≤ m)) ⊎ (2 * w + 2 ≤ m)
  Kind false p z st m =
      ((T z → Live st (w - (p.length + 1)) (2 * p.bits + 0)) × ((T z → ⊥) → Live st (w - (p.length + 1)) (2 * p.bits + 1)) × (2 * (w - p.length) ≤ suc m))
      ⊎ (((T z → ⊥) × (Live st (w - p.length) p.bits → ⊥) × (2 * w + 1 ≤ m)) ⊎ (2 * w + 3 ≤ m))

  abbrev pub Left : ℕ → Heads B → ℕ → Type 0
  Left r st m = (i : ℕ) → T (runs st i) → Kind (odd (r + 1)) (st i).prefix (st i).noise st m

  pub left_all : (r : ℕ) (st : Heads B) → Left r st (2 * w + 3)
  left_all r st i t = go (odd (r + 1))
    where
      go : (g : Bool) → Kind g (st i).prefix (st i).noise st (2 * w + 3)
      go true = inr (omega arith)
      go false = inr (inr (omega arith))

  pub left_none : {n : ℕ} {first : ℕ → B} {r : ℕ} {st : Heads B} → Inv n first r st → Left r st 0 → NoHeadRuns st
  left_none {r = r} {st = st} I L i t = go (odd (r + 1)) (L i t)
    where
      go : (g : Bool) → Kind g (st i).prefix (st i).noise st 0 → ⊥
      go true (inl k) = omega (arith, k.1, (I.short i t).0)
      go true (inr k) = omega arith
      go false (inl k) = omega (arith, k.2, (I.short i t).0)
      go false (inr (inl k)) = omega (arith, k.2)
      go false (inr (inr k)) = omega arith

  module _ {n : ℕ} {first : ℕ → B} {r : ℕ} {st : Heads B} {q : Events B} {st' : Heads B} (I : Inv n first r st) (d : Step vote r st q st') (calm : (i : ℕ) → T (q.stop i) → ⊥) where
    -- while one head goes on running, all do
    live_on : (i : ℕ) → T (runs st' i) → (k v : ℕ) → Live st k v → Live st' k v
    live_on i t k v L =
        let j = L.0 in (
          j,
          goes_on_runs d j L.1 (calm j) (λ o. (running_fate d i t).0 (subst (λ (z : Fate). T z.over) (fate_same I d j i L.1 (runs_back d i t).0) o)),
          ap (λ (x : B). code x / 2 ^ k) (first_same d j) ∙ L.2,
        )

    live_back : (k v : ℕ) → Live st' k v → Live st k v
    live_back k v L = (L.0, (runs_back d L.0 L.1).0, ap (λ (x : B). code x / 2 ^ k) (sym (first_same d L.0)) ∙ L.2)

    -- noise comes from a live head with the bit asked, and such a head makes noise
    noise_live : (i : ℕ) → T (runs st i) → T (noise_at d i) → Live st (w - ((st i).prefix.length + 1)) (2 * (st i).prefix.bits + bit_of (odd (r + 1)))
    noise_live i u t =
        let k = noise_sender d i t in
        let s = sent I d i u k.0 k.1 in
        (k.0, sender_runs d k.0 k.1, ap (λ (x : B). code x / 2 ^ (w - ((st i).prefix.length + 1))) (I.own k.0 s.0) ∙ s.1)

    live_noise : (i : ℕ) → T (runs st i) → Live st (w - ((st i).prefix.length + 1)) (2 * (st i).prefix.bits + bit_of (odd (r + 1))) → T (noise_at d i)
    live_noise i u L =
        sender_noise d (below_64 I) i u L.0
        (and_both (runs st L.0) _ L.1
        (subst (λ (p : Prefix). T (begins w (code (st L.0).first) p.bits p.length (bit_of (odd (r + 1))))) (I.shared i L.0 u L.1)
        (holds (eq-eqb _ _ L.2))))

    live? : (k v : ℕ) → Live st k v ⊎ (Live st k v → ⊥)
    live? k v = go (eq-zero-or-pos (count 64 test))
      where
        test : ℕ → Bool
        test j = runs st j && eqb (code (st j).first / 2 ^ k) v

        go : (count 64 test ≡ 0) ⊎ (0 < count 64 test) → Live st k v ⊎ (Live st k v → ⊥)
        go (inr l) =
            let j = count_some test 64 l in
            inl (j.0, and_left (runs st j.0) _ j.2, eqb→eq (code (st j.0).first / 2 ^ k) v (and_right (runs st j.0) _ j.2))
        go (inl z) = inr (λ L.
            let l = count_pos test 64 L.0 (below_64 I L.0 (inl L.1)) (and_both (runs st L.0) _ L.1 (holds (eq-eqb _ _ L.2))) in
            omega (arith, z))

    kind_step : (m : ℕ) (i : ℕ) → T (runs st' i) → (g : Bool) → odd (r + 1) ≡ g → Kind g (st i).prefix (st i).noise st (suc m)
        → Kind (not g) (fate w g (noise_at d i) (st i).prefix (st i).noise).prefix (fate w g (noise_at d i) (st i).prefix (st i).noise).noise st' m
    kind_step m i t true odd_is K = go K (live? (w - p.length) p.bits)
      where
        p : Prefix
        p = (st i).prefix

        u : T (runs st i)
        u = (runs_back d i t).0

        rest : w - p.length ≡ suc (w - (p.length + 1))
        rest = omega (arith, (I.short i u).0)

        asked : bit_of (odd (r + 1)) ≡ 0
        asked = ap bit_of odd_is

        heard_zero : T (noise_at d i) → Live st (w - (p.length + 1)) (2 * p.bits + 0)
        heard_zero x = subst (λ (b : ℕ). Live st (w - (p.length + 1)) (2 * p.bits + b)) asked (noise_live i u x)

        zero_heard : Live st (w - (p.length + 1)) (2 * p.bits + 0) → T (noise_at d i)
        zero_heard L = live_noise i u (subst (λ (b : ℕ). Live st (w - (p.length + 1)) (2 * p.bits + b)) (sym asked) L)

        go : Kind true p (st i).noise st (suc m) → Live st (w - p.length) p.bits ⊎ (Live st (w - p.length) p.bits → ⊥) → Kind false p (noise_at d i) st' m
        go K (inl L) = inl (
          λ x. live_on i t _ _ (heard_zero x),
          λ x. live_on i t _ _ (L.0, L.1, other (code (st L.0).first) (w - (p.length + 1)) p.bits (subst (λ (k : ℕ). code (st L.0).first / 2 ^ k ≡ p.bits) rest L.2) (λ e. x (zero_heard (L.0, L.1, e)))),
          enough K,
        )
          where
            enough : Kind true p (st i).noise st (suc m) → 2 * (w - p.length) ≤ suc m
            enough (inl k) = k.1
            enough (inr k) = omega arith
        go (inl k) (inr N) = absurd (N k.0)
        go (inr k) (inr N) = inr (inl (
          λ x. let L = heard_zero x in N (L.0, L.1, subst (λ (k : ℕ). code (st L.0).first / 2 ^ k ≡ p.bits) (sym rest) (halved (code (st L.0).first) (w - (p.length + 1)) p.bits 0 zero-le L.2)),
          λ L. N (live_back _ _ L),
          omega arith,
        ))
    kind_step m i t false odd_is K = go (st i).noise (noise_at d i) (λ x. x) (λ x. x) (λ x. x) (λ x. x) K (running_fate d i t).0
      where
        p : Prefix
        p = (st i).prefix

        u : T (runs st i)
        u = (runs_back d i t).0

        rest : w - p.length ≡ suc (w - (p.length + 1))
        rest = omega (arith, (I.short i u).0)

        asked : bit_of (odd (r + 1)) ≡ 1
        asked = ap bit_of odd_is

        heard_one : T (noise_at d i) → Live st (w - (p.length + 1)) (2 * p.bits + 1)
        heard_one x = subst (λ (b : ℕ). Live st (w - (p.length + 1)) (2 * p.bits + b)) asked (noise_live i u x)

        one_heard : Live st (w - (p.length + 1)) (2 * p.bits + 1) → T (noise_at d i)
        one_heard L = live_noise i u (subst (λ (b : ℕ). Live st (w - (p.length + 1)) (2 * p.bits + b)) (sym asked) L)

        -- the number that the prefix grows to is not cut
        uncut : (b : ℕ) → b ≤ 1 → (2 * p.bits + b) % 2 ^ w ≡ 2 * p.bits + b
        uncut b l =
            let s = I.short i u in
            let e : 2 ^ suc p.length ≡ 2 ^ p.length * 2 = pow-suc 2 p.length in
            let in_length : 2 * p.bits + b < 2 ^ suc p.length = omega (arith, s.1) in
            let in_width : 2 * p.bits + b < 2 ^ w = lt_of_lt_of_le in_length (pow_mono s.0) in
            mod-eq_of_lt in_width

        grown : (b : ℕ) → b ≤ 1 → Live st (w - (p.length + 1)) (2 * p.bits + b) → Live st' (w - (p.length + 1)) ((2 * p.bits + b) % 2 ^ w)
        grown b l L = subst (λ (v : ℕ). Live st' (w - (p.length + 1)) v) (sym (uncut b l)) (live_on i t _ _ L)

        fewer : 2 * (w - p.length) ≤ suc (suc m) → 2 * (w - (p.length + 1)) ≤ m
        fewer k = omega (arith, rest)

        go : (a b : Bool) → (T a → T (st i).noise) → (T (st i).noise → T a) → (T b → T (noise_at d i)) → (T (noise_at d i) → T b)
            → Kind false p (st i).noise st (suc m) → (T (fate_of d i).over → ⊥)
            → Kind true (cond a (add w p 0) (cond b (add w p 1) none_yet)).prefix (cond a (add w p 0) (cond b (add w p 1) none_yet)).noise st' m
        go a b x x' y y' (inr (inr k)) o = inr (omega arith)
        go true b x x' y y' (inl k) o = inl (grown 0 zero-le (k.0 (x tt)), fewer k.2)
        go false true x x' y y' (inl k) o = inl (grown 1 (le_refl 1) (k.1 x'), fewer k.2)
        go false false x x' y y' (inl k) o = absurd (y' (one_heard (k.1 x')))
        go true b x x' y y' (inr (inl k)) o = absurd (k.0 (x tt))
        go false true x x' y y' (inr (inl k)) o =
            let L = heard_one (y tt) in
            absurd (k.1 (L.0, L.1, subst (λ (k : ℕ). code (st L.0).first / 2 ^ k ≡ p.bits) (sym rest) (halved (code (st L.0).first) (w - (p.length + 1)) p.bits 1 (le_refl 1) L.2)))
        go false false x x' y y' (inr (inl k)) o = inl ((i, t, begins_none (st' i).first), omega (arith, k.2))

    pub left_step : (m : ℕ) → Left r st (suc m) → Left (r + 1) st' m
    left_step m L i t =
        let x = running_fate d i t in
        subst (λ (g : Bool). Kind g (st' i).prefix (st' i).noise st' m) (sym (odd_next (r + 1)))
        (subst (λ (p : Prefix). Kind (not (odd (r + 1))) p (st' i).noise st' m) (sym x.1)
        (subst (λ (z : Bool). Kind (not (odd (r + 1))) (fate_of d i).prefix z st' m) (sym x.2)
        (kind_step m i t (odd (r + 1)) refl (L i (runs_back d i t).0))))
