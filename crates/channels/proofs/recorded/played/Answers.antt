use Rattle.std.proofs.Common.{◌&&◌, ◌∙◌}
use Rattle.sets.specs.Sets.{bit}
use Rattle.channels.specs.Own.{is_own}
use Rattle.channels.proofs.Joined.{joined_of}
use Rattle.channels.proofs.recorded.played.Goals as goal

pub returns : goal.returns
returns c =
    let s = c.args.senders in
    c.joined.ensures ∙ joined_of (is_own c.args.hearer s) (λ i. bit s i && bit c.args.word i) _ _ c.only.ensures c.shared.ensures
