use Rattle.std.proofs.Common.{◌+◌, ◌-◌, ◌<◌, sym, arith}
use Rattle.sets.specs.Sets.{bit}
use Rattle.sets.proofs.Searches.{lowest_some}
use Rattle.sets.proofs.MembersIterator.next.Goals as goal

pub overflow_add-self : goal.overflow_add-self
overflow_add-self c =
    let f = lowest_some (bit c.args.self.now.set) c.args.self.now.from (64 - c.args.self.now.from) c.in_ok-i.i (sym c.in_ok-i.ensures) in
    record { fits = omega (arith, f.below, c.args.self.now.within) }

pub invariant_of-self : goal.invariant_of-self
invariant_of-self c =
    let f = lowest_some (bit c.args.self.now.set) c.args.self.now.from (64 - c.args.self.now.from) c.in_ok-i.i (sym c.in_ok-i.ensures) in
    record { within = omega (arith, f.below, c.args.self.now.within) }

pub returns-clause-goes : goal.returns-clause-goes
returns-clause-goes c =
    let f = lowest_some (bit c.args.self.now.set) c.args.self.now.from (64 - c.args.self.now.from) c.in_ok-i.i (sym c.in_ok-i.ensures) in
    let less : 64 - (c.in_ok-i.i + 1) < 64 - c.args.self.now.from = omega (arith, f.from, f.below, c.args.self.now.within) in
    record { on = λ _. (tt, tt, less); keeps = tt; rests = λ _. tt }
