use Rattle.std.proofs.Common.{◌≡◌, ℕ, Bool, true, false, not, ◌&&◌, ◌⊎◌, sym, refl, ap, ◌∙◌, inl, inr}
use Rattle.std.proofs.lemmas.Bool.{true≢false, and_parts, not-true, eqb-false}
use Rattle.sets.specs.Sets.{bit, word_of}
use Rattle.sets.proofs.Words.{bit_word}
use Rattle.votes.proofs.Leading.{none_in, some_in}
use Rattle.votes.proofs.listening.is_led.Goals as goal

-- not in the rest of the word: a leader or another
either : (w a b : Bool) → w ≡ true → ((w && not a) && not b) ≡ false → (a ≡ true) ⊎ (b ≡ true)
either true true b h e = inl refl
either true false true h e = inr refl
either true false false h e = absurd (true≢false e)
either false a b h e = absurd (true≢false (sym h))

pub returns-then-without-eq0 : goal.returns-then-without-eq0
returns-then-without-eq0 c e =
    let word = c.args.word in
    let leaders = c.args.leaders in
    let others = c.args.others in
    let rest : ℕ → Bool = λ i. bit word i && not (bit leaders i) in
    let both : ℕ → Bool = λ i. bit word i && bit leaders i in
    let empty : word_of 64 (λ i. bit c.without.result i && not (bit others i)) ≡ 0 = sym c.without-2.ensures ∙ c.if-without-eq0.true in
    let some = some_in both (λ z. eqb-false _ _ (not-true _ e) (c.shared.ensures ∙ z)) in
    let parts = and_parts (bit word some.0) (bit leaders some.0) some.2 in
    record {
      inside = λ i h has. either (bit word i) (bit leaders i) (bit others i) has
          (ap (λ (t : Bool). t && not (bit others i)) (sym (bit_word 64 rest i h) ∙ ap (λ (v : ℕ). bit v i) (sym c.without.ensures)) ∙ none_in _ empty i h);
      hit = (some.0, some.1, parts.0, parts.1);
    }
