use Rattle.std.proofs.Common.{◌+◌, [], ◌∷◌, ◌++◌, drop, subst}
use Rattle.sinks.proofs.Givens.{Left, left_all, left_more, left_full}
use Rattle.listings.specs.declared.lines.Value.TheVariants.{Dash}
use Rattle.listings.specs.Values.{values_text, line_text}
use Rattle.listings.proofs.Steps.{values_step}
use Rattle.listings.proofs.lines.write_line.Goals as goal

pub returns-in_err-put : goal.returns-in_err-put
returns-in_err-put g c =
    let s = c.args.out.now in
    let line = line_text c.args.letter c.args.values.now in
    left_full g.S.Sink.takes g.S.Sink.stops g.met.S.Sink.laws s s c.put.new.self line (c.args.letter ∷ []) (values_text c.args.values.now ++ (10 ∷ []))
    c.from_residual.result c.from_residual.ensures.0 (left_all g.S.Sink.takes g.S.Sink.stops s line) c.in_err-put.ensures

pub loop-value-init : goal.loop-value-init
loop-value-init g c =
    let s = c.args.out.now in
    let line = line_text c.args.letter c.args.values.now in
    left_more g.S.Sink.takes g.S.Sink.stops g.met.S.Sink.laws s s c.put.new.self line (c.args.letter ∷ []) (values_text c.args.values.now ++ (10 ∷ []))
    (left_all g.S.Sink.takes g.S.Sink.stops s line) c.in_ok-put.ensures

pub returns-in_err-put-2 : goal.returns-in_err-put-2
returns-in_err-put-2 g c =
    let s = c.args.out.now in
    let t = c.loop-value.out in
    let vs = c.args.values.now in
    let line = line_text c.args.letter vs in
    left_full g.S.Sink.takes g.S.Sink.stops g.met.S.Sink.laws s t c.put-in-loop-value.new.self line (32 ∷ []) _
    c.from_residual-in_err-put-2.result c.from_residual-in_err-put-2.ensures.0
    (subst (Left g.S.Sink.takes g.S.Sink.stops s line t) (values_step vs c.loop-value.value-index Dash c.loop-value-test.true) c.loop-value.invariant) c.in_err-put-2.ensures

pub returns-in_err-write_value : goal.returns-in_err-write_value
returns-in_err-write_value g c =
    let s = c.args.out.now in
    let t = c.put-in-loop-value.new.self in
    let vs = c.args.values.now in
    let line = line_text c.args.letter vs in
    left_full g.S.Sink.takes g.S.Sink.stops g.met.S.Sink.laws s t c.write_value.new.out line _ (values_text (drop (c.loop-value.value-index + 1) vs) ++ (10 ∷ []))
    c.from_residual-in_err-write_value.result c.from_residual-in_err-write_value.ensures.0
    (left_more g.S.Sink.takes g.S.Sink.stops g.met.S.Sink.laws s c.loop-value.out t line (32 ∷ []) _
    (subst (Left g.S.Sink.takes g.S.Sink.stops s line c.loop-value.out) (values_step vs c.loop-value.value-index _ c.loop-value-test.true) c.loop-value.invariant) c.in_ok-put-2.ensures)
    c.in_err-write_value.ensures

pub loop-value-preserved : goal.loop-value-preserved
loop-value-preserved g c =
    let s = c.args.out.now in
    let t = c.put-in-loop-value.new.self in
    let vs = c.args.values.now in
    let line = line_text c.args.letter vs in
    left_more g.S.Sink.takes g.S.Sink.stops g.met.S.Sink.laws s t c.write_value.new.out line _ (values_text (drop (c.loop-value.value-index + 1) vs) ++ (10 ∷ []))
    (left_more g.S.Sink.takes g.S.Sink.stops g.met.S.Sink.laws s c.loop-value.out t line (32 ∷ []) _
    (subst (Left g.S.Sink.takes g.S.Sink.stops s line c.loop-value.out) (values_step vs c.loop-value.value-index _ c.loop-value-test.true) c.loop-value.invariant) c.in_ok-put-2.ensures)
    c.in_ok-write_value.ensures
