use Rattle.std.proofs.Common.{◌+◌, drop, arith, subst}
use Rattle.std.proofs.Math.ListN.{drop_of_length-le}
use Rattle.sinks.proofs.Givens.{Left, left_more, left_full, left_none}
use Rattle.listings.specs.Texts.{head_lines}
use Rattle.listings.proofs.Steps.{heads_step}
use Rattle.listings.proofs.text.write_heads.Goals as goal

pub returns-in_err-write_head : goal.returns-in_err-write_head
returns-in_err-write_head g c =
    let s = c.args.out.now in
    let t = c.loop-i.out in
    let os = c.args.heads.now in
    let i = c.loop-i.i in
    left_full g.S.Sink.takes g.S.Sink.stops g.met.S.Sink.laws s t c.write_head.new.out (head_lines 0 os) _ (head_lines (i + 1) (drop (i + 1) os))
    c.from_residual.result c.from_residual.ensures.0
    (subst (Left g.S.Sink.takes g.S.Sink.stops s (head_lines 0 os) t) (heads_step os i _ c.loop-i-test.true) c.loop-i.invariant) c.in_err-write_head.ensures

pub loop-i-preserved : goal.loop-i-preserved
loop-i-preserved g c =
    let s = c.args.out.now in
    let t = c.loop-i.out in
    let os = c.args.heads.now in
    let i = c.loop-i.i in
    left_more g.S.Sink.takes g.S.Sink.stops g.met.S.Sink.laws s t c.write_head.new.out (head_lines 0 os) _ (head_lines (i + 1) (drop (i + 1) os))
    (subst (Left g.S.Sink.takes g.S.Sink.stops s (head_lines 0 os) t) (heads_step os i _ c.loop-i-test.true) c.loop-i.invariant) c.in_ok-write_head.ensures

pub returns : goal.returns
unfolding head_lines
returns g c =
    let s = c.args.out.now in
    let t = c.loop-i.out in
    let os = c.args.heads.now in
    left_none g.S.Sink.takes g.S.Sink.stops g.met.S.Sink.laws s t (head_lines 0 os)
    (subst (λ ps. Left g.S.Sink.takes g.S.Sink.stops s (head_lines 0 os) t (head_lines c.loop-i.i ps)) (drop_of_length-le os (omega arith)) c.loop-i.invariant)
