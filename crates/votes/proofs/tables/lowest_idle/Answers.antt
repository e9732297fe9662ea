use Rattle.std.proofs.Common.{ℕ, not, ◌&&◌, ap, ◌∙◌}
use Rattle.sets.specs.Sets.{bit, lowest}
use Rattle.sets.proofs.Searches.{lowest_word}
use Rattle.votes.specs.Tables.{lowest_idle}
use Rattle.votes.proofs.tables.lowest_idle.Goals as goal

pub returns : goal.returns
unfolding lowest_idle
returns c =
    c.next.ensures ∙ ap (λ (w : ℕ). lowest (bit w) 64) c.without.ensures
    ∙ lowest_word (λ i. bit c.args.set i && not (bit c.args.running i))
