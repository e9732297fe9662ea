use Rattle.std.proofs.Common.{Ok, sym, ap, ◌∙◌, arith}
use Rattle.std.proofs.lemmas.Bool.{cond-false, le-ltb, or_from}
use Rattle.ballots.specs.Kinds.{ticket}
use Rattle.ballots.specs.Same.{same_ticket}
use Rattle.ballots.proofs.kinds.Ticket.new.Goals as goal

pub returns : goal.returns
returns c =
    let grade = c.args.grade in
    let tank = c.args.tank in
    ap Ok (same_ticket _ (ticket grade tank) (omega arith) (omega arith))
    ∙ sym (cond-false _ _ _ (or_from _ _ (le-ltb 15 grade (omega arith)) (le-ltb 63 tank (omega arith))))
