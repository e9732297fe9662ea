use Rattle.std.proofs.Common.{◌≡◌, ℕ, ◌+◌, ◌<◌, List, [], ◌∷◌, ◌++◌, map, get_or, drop, length, sym, ap, ◌∙◌, subst}
use Rattle.sinks.proofs.Givens.{Left, left_more, left_full, drop_step}
use Rattle.heads.specs.declared.head.Head.{Head}
use Rattle.recordings.specs.declared.listing.Outcome.{Outcome}
use Rattle.recordings.specs.Files.{outcome_of}
use Rattle.recordings.proofs.into.list_outcomes.Goals as goal

-- the outcomes from place i on
next : {B : Type 0} (encoded : B → ℕ) (hs : List (Head B)) (i : ℕ) (h : Head B) (o : Outcome) → i < length hs → h ≡ get_or hs i h → o ≡ outcome_of encoded h
    → map (outcome_of encoded) (drop i hs) ≡ (o ∷ []) ++ map (outcome_of encoded) (drop (i + 1) hs)
next encoded hs i h o room is told =
    ap (map (outcome_of encoded)) (drop_step hs i h room) ∙ ap (λ x. x ∷ map (outcome_of encoded) (drop (i + 1) hs)) (sym (told ∙ ap (outcome_of encoded) is))

pub loop-h-preserved : goal.loop-h-preserved
loop-h-preserved g c =
    let f = outcome_of g.B.Coded.encoded in
    let hs = c.args.table.now in
    let s = c.args.heads.now in
    let t = c.loop-h.heads in
    let o = c.from.result in
    let step = next g.B.Coded.encoded hs c.loop-h.h-index c.h-item.result o c.loop-h-test.true c.h-item.is c.from.ensures in
    left_more g.S.Sink.takes g.S.Sink.stops g.met.S.Sink.laws s t c.put.new.self (map f hs) (o ∷ []) (map f (drop (c.loop-h.h-index + 1) hs))
    (subst (Left g.S.Sink.takes g.S.Sink.stops s (map f hs) t) step c.loop-h.invariant) c.in_ok-put.ensures

pub returns-in_err-put : goal.returns-in_err-put
returns-in_err-put g c =
    let f = outcome_of g.B.Coded.encoded in
    let hs = c.args.table.now in
    let s = c.args.heads.now in
    let t = c.loop-h.heads in
    let o = c.from.result in
    let step = next g.B.Coded.encoded hs c.loop-h.h-index c.h-item.result o c.loop-h-test.true c.h-item.is c.from.ensures in
    left_full g.S.Sink.takes g.S.Sink.stops g.met.S.Sink.laws s t c.put.new.self (map f hs) (o ∷ []) (map f (drop (c.loop-h.h-index + 1) hs))
    c.from_residual.result c.from_residual.ensures.0 (subst (Left g.S.Sink.takes g.S.Sink.stops s (map f hs) t) step c.loop-h.invariant) c.in_err-put.ensures
