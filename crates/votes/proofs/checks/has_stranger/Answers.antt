use Rattle.std.proofs.Common.{◌≡◌, ℕ, Bool, not, ◌&&◌, sym, ap, ◌∙◌, arith}
use Rattle.std.proofs.lemmas.Bool.{not-false, eqb-true}
use Rattle.sets.specs.Sets.{bit}
use Rattle.sets.proofs.Words.{bit_word, bit_past}
use Rattle.votes.proofs.checks.has_stranger.Goals as goal

pub returns : goal.returns
returns c e j h =
    let p : ℕ → Bool = λ i. bit c.args.word i && not (bit c.args.senders i) in
    let none : c.without.result ≡ 0 = eqb-true _ _ (not-false _ e) in
    sym (bit_word 64 p j h) ∙ ap (λ (w : ℕ). bit w j) (sym c.without.ensures ∙ none) ∙ bit_past 0 0 j (omega arith) (omega arith)
