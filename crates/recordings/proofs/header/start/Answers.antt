use Rattle.std.proofs.Common.{Some, sym, ap, ◌∙◌, subst}
use Rattle.std.proofs.lemmas.Result.{err_from_is_err_and}
use Rattle.std.proofs.lemmas.Bool.{lt-ltb, le-ltb}
use Rattle.votes.specs.Calls.{Begun, begun_as}
use Rattle.recordings.specs.Files.{record_breach, codes_breach, StartedOf}
use Rattle.recordings.proofs.Plays.{unless_done}
use Rattle.recordings.proofs.header.start.Goals as goal

pub returns-then-file : goal.returns-then-file
unfolding codes_breach
returns-then-file g c = let short = lt-ltb _ _ c.if-file.true in rw short

pub returns-in_err-enroll_all : goal.returns-in_err-enroll_all
unfolding codes_breach
returns-in_err-enroll_all g c =
    let whole = le-ltb _ _ c.if-file.false in
    let p = err_from_is_err_and c.from_residual.result c.from_residual.ensures.1 in
    let told = c.in_err-enroll_all.ensures ∙ ap (λ f. Some (record_breach f)) (sym p.2) in
    subst (StartedOf g.B.Coded.encoded g.B.Coded.decoded c.args.file.bytes.now c.args.file.heads c.enroll_all.new.table) (sym p.1) (rw whole told)

pub returns : goal.returns
unfolding codes_breach
returns g c =
    let whole = le-ltb _ _ c.if-file.false in
    let e = c.in_ok-enroll_all.ensures in
    let both = unless_done _ (begun_as c.in_ok-begin.field-0) _ _ c.in_ok-begin.ensures.answer in (
      ap (λ (b : Begun g.row.V.Denot). b.n) both.1 ∙ e.0,
      ap (λ (b : Begun g.row.V.Denot). b.heard) both.1,
      rw whole e.1,
      e.2,
      c.if-file.false,
    )
