use Rattle.std.proofs.Common.{ℕ, ◌&&◌, ap, ◌∙◌}
use Rattle.sets.specs.Sets.{bit, count}
use Rattle.sets.proofs.Words.{count_word}
use Rattle.votes.proofs.checks.heard_of.Goals as goal

pub returns : goal.returns
returns c =
    c.size.ensures.value ∙ ap (λ (w : ℕ). count 64 (bit w)) c.shared.ensures
    ∙ count_word 64 (λ i. bit c.args.word i && bit c.args.senders i)
