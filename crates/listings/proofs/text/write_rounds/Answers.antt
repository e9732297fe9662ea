use Rattle.std.proofs.Common.{◌+◌, drop, arith, subst}
use Rattle.std.proofs.Math.ListN.{drop_of_length-le}
use Rattle.sinks.proofs.Givens.{Left, left_more, left_full, left_none}
use Rattle.listings.specs.Texts.{round_lines}
use Rattle.listings.proofs.Steps.{rounds_step}
use Rattle.listings.proofs.text.write_rounds.Goals as goal

pub returns-in_err-write_round : goal.returns-in_err-write_round
returns-in_err-write_round g c =
    let s = c.args.out.now in
    let t = c.loop-figures.out in
    let fs = c.args.rounds.now in
    let i = c.loop-figures.figures-index in
    left_full g.S.Sink.takes g.S.Sink.stops g.met.S.Sink.laws s t c.write_round.new.out (round_lines fs) _ (round_lines (drop (i + 1) fs))
    c.from_residual.result c.from_residual.ensures.0
    (subst (Left g.S.Sink.takes g.S.Sink.stops s (round_lines fs) t) (rounds_step fs i _ c.loop-figures-test.true) c.loop-figures.invariant) c.in_err-write_round.ensures

pub loop-figures-preserved : goal.loop-figures-preserved
loop-figures-preserved g c =
    let s = c.args.out.now in
    let t = c.loop-figures.out in
    let fs = c.args.rounds.now in
    let i = c.loop-figures.figures-index in
    left_more g.S.Sink.takes g.S.Sink.stops g.met.S.Sink.laws s t c.write_round.new.out (round_lines fs) _ (round_lines (drop (i + 1) fs))
    (subst (Left g.S.Sink.takes g.S.Sink.stops s (round_lines fs) t) (rounds_step fs i _ c.loop-figures-test.true) c.loop-figures.invariant) c.in_ok-write_round.ensures

pub returns : goal.returns
unfolding round_lines
returns g c =
    let s = c.args.out.now in
    let t = c.loop-figures.out in
    let fs = c.args.rounds.now in
    left_none g.S.Sink.takes g.S.Sink.stops g.met.S.Sink.laws s t (round_lines fs)
    (subst (λ gs. Left g.S.Sink.takes g.S.Sink.stops s (round_lines fs) t (round_lines gs)) (drop_of_length-le fs (omega arith)) c.loop-figures.invariant)
