use Rattle.std.proofs.Common.{◌-◌, sym, ◌∙◌, subst, ⊎_elim, arith}
use Rattle.std.proofs.lemmas.Bool.{cases_lt, true≢false}
use Rattle.sets.specs.Sets.{bit}
use Rattle.sets.proofs.Searches.{lowest_none, none_is}
use Rattle.heads.specs.Heard.{IsLeast}
use Rattle.votes.proofs.enrolled.Enrolled.leaders.Goals as goal

pub returns : goal.returns
returns g c =
    let senders = c.args.senders in
    let n = c.args.self.now.n in
    let none = sym c.next.ensures ∙ none_is c.next.result (sym c.if-is_some.ensures) in
    record {
      least = subst (IsLeast g.B.Ballot.earlier c.args.self.now.table.now senders 64) c.in_ok-least.was c.ballots_heard.ensures.least;
      leaders = c.with_ballot-leaders.ensures;
      others = c.without-others.ensures;
      enrolled = λ i h e. ⊎_elim (λ l. l) (λ l. absurd (true≢false (sym e ∙ lowest_none (bit senders) n (64 - n) none i l (omega arith)))) (cases_lt i n);
    }
