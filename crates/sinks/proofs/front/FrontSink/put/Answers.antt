use Rattle.std.proofs.Common.{[], ◌∷◌, refl, sym, ◌∙◌, arith}
use Rattle.sinks.specs.Overs.{over_none, over_full, over_one}
use Rattle.sinks.proofs.front.FrontSink.put.Goals as goal

pub returns-then-self : goal.returns-then-self
returns-then-self g c =
    let s = c.args.self.now in
    record { written = record { same = refl; list = sym (over_full s.filled [] (c.args.item ∷ []) s.list.now (omega arith) ∙ over_none s.filled s.list.now) }; room = omega arith }

pub returns : goal.returns
returns g c =
    let s = c.args.self.now in
    record { written = record { same = refl; list = over_one s.filled c.args.item s.list.now }; filled = refl; room = omega arith }
