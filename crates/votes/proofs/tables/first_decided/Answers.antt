use Rattle.std.proofs.Common.{length, sym, refl, ap, ◌∙◌}
use Rattle.std.proofs.lemmas.Option.{slice_get_read}
use Rattle.std.specs.List.{slice_get}
use Rattle.sets.proofs.Searches.{left_some, left_more, left_all, none_is}
use Rattle.votes.specs.Calls.{ballot_of}
use Rattle.votes.proofs.tables.first_decided.Goals as goal

pub loop-h-preserved : goal.loop-h-preserved
loop-h-preserved g c =
    let hs = c.args.heads.now in
    let i = c.loop-h.h-index in
    let at = ap ballot_of (slice_get_read hs (length hs) i c.h-item.result refl c.loop-h-test.true c.h-item.is) ∙ sym c.decided-found.ensures in
    left_more _ (λ j. ballot_of (slice_get hs j)) (length hs) i c.loop-h-test.true (at ∙ none_is c.decided-found.result (sym c.if-is_some.ensures)) c.loop-h.invariant

pub returns-then-is_some : goal.returns-then-is_some
returns-then-is_some g c =
    let hs = c.args.heads.now in
    let i = c.loop-h.h-index in
    let at = ap ballot_of (slice_get_read hs (length hs) i c.h-item.result refl c.loop-h-test.true c.h-item.is) ∙ sym c.decided-found.ensures in
    sym (left_some _ (λ j. ballot_of (slice_get hs j)) (length hs) i c.decided-found.result c.loop-h-test.true (sym c.if-is_some.ensures) at c.loop-h.invariant)

pub returns : goal.returns
returns g c = sym (left_all _ _ (length c.args.heads.now) c.loop-h.h-index c.loop-h-test.false c.loop-h.invariant)
