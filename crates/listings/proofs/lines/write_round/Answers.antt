use Rattle.std.proofs.Common.{subst}
use Rattle.sinks.specs.Sinks.{Given}
use Rattle.listings.proofs.Steps.{round_is}
use Rattle.listings.proofs.lines.write_round.Goals as goal

pub returns : goal.returns
returns g c =
    subst (λ text. Given g.S.Sink.takes g.S.Sink.stops c.args.out.now text c.write_line.result c.write_line.new.out) (round_is c.args.figures) c.write_line.ensures
