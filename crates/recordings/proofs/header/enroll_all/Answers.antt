use Rattle.std.proofs.Common.{◌≡◌, ℕ, ◌+◌, ◌<◌, true, false, not, eqb, length, set, Some, sym, ap, ◌∙◌, subst, ap₂, arith}
use Rattle.std.proofs.lemmas.Result.{err_from_is_err_and}
use Rattle.sets.proofs.Searches.{left_start, left_more, left_found, left_all, when_true, when_false}
use Rattle.ballots.specs.Faults.{numbered}
use Rattle.heads.specs.declared.head.Head.{Head}
use Rattle.heads.specs.Rules.{fresh}
use Rattle.votes.specs.Tables.{rewrite}
use Rattle.votes.proofs.Rewrites.{rewrite_none}
use Rattle.recordings.specs.Files.{record_breach, code_at, strange, enrolled_from, EnrolledOf}
use Rattle.recordings.proofs.Enrolls.{decoded_ok, decoded_err, enrolled_done, enrolled_set, same_done, written_more, written_all}
use Rattle.recordings.proofs.header.enroll_all.Goals as goal

pub loop-i-init : goal.loop-i-init
loop-i-init g c = (c.new-roll.ensures, left_start _ c.args.file.heads, sym (rewrite_none _ _))

pub loop-i-preserved : goal.loop-i-preserved
loop-i-preserved g c =
    let encoded = g.B.Coded.encoded in
    let decoded = g.B.Coded.decoded in
    let bytes = c.args.file.bytes.now in
    let i = c.loop-i.i in
    let roll = c.loop-i.roll in
    let ts = c.loop-i.table in
    let code : c.read_u16.result ≡ code_at bytes i = c.read_u16.ensures in
    let read = decoded_ok (eqb (encoded (decoded c.read_u16.result)) c.read_u16.result) (decoded c.read_u16.result) c.in_ok-ballot.ballot c.in_ok-ballot.ensures in
    let fine : eqb (encoded (decoded (code_at bytes i))) (code_at bytes i) ≡ true = ap (λ (k : ℕ). eqb (encoded (decoded k)) k) (sym code) ∙ read.0 in
    let h : roll.n < 64 = omega arith in
    let room : roll.n < length ts = omega arith in
    let f : ℕ → Head g.row.B.Denot = λ j. fresh (decoded (code_at bytes j)) in
    let write : c.enroll.new.table ≡ set ts i (f i) =
    c.in_ok-roll.ensures.table ∙ enrolled_set roll ts h room c.in_ok-ballot.ballot
    ∙ ap₂ (λ (k : ℕ) b. set ts k (fresh b)) c.loop-i.invariant.0 (read.1 ∙ ap decoded code) in (
      same_done _ _ _ c.in_ok-roll.ensures.answer (enrolled_done roll ts h room) ∙ ap (λ (k : ℕ). k + 1) c.loop-i.invariant.0,
      left_more _ (strange encoded decoded bytes) c.args.file.heads i (omega arith) (when_false _ _ (ap not fine)) c.loop-i.invariant.1,
      write ∙ written_more f c.args.table.now ts i (omega arith) (omega arith) c.loop-i.invariant.2,
    )

pub returns-in_err-ballot : goal.returns-in_err-ballot
returns-in_err-ballot g c =
    let encoded = g.B.Coded.encoded in
    let decoded = g.B.Coded.decoded in
    let bytes = c.args.file.bytes.now in
    let i = c.loop-i.i in
    let code : c.read_u16.result ≡ code_at bytes i = c.read_u16.ensures in
    let fault = c.in_err-ballot.field-0.0 in
    let read = decoded_err (eqb (encoded (decoded c.read_u16.result)) c.read_u16.result) (decoded c.read_u16.result) fault c.in_err-ballot.ensures in
    let wrong : eqb (encoded (decoded (code_at bytes i))) (code_at bytes i) ≡ false = ap (λ (k : ℕ). eqb (encoded (decoded k)) k) (sym code) ∙ read.0 in
    let p = err_from_is_err_and c.from_residual.result c.from_residual.ensures.1 in
    let found = left_found _ (strange encoded decoded bytes) c.args.file.heads i (numbered 1) (omega arith) (when_true _ _ (ap not wrong)) c.loop-i.invariant.1 in
    subst (EnrolledOf encoded decoded bytes c.args.file.heads c.loop-i.table) (sym p.1) (found ∙ ap Some (sym (ap record_breach p.2 ∙ read.1)))

pub returns : goal.returns
unfolding enrolled_from
returns g c =
    let decoded = g.B.Coded.decoded in
    let bytes = c.args.file.bytes.now in
    let f : ℕ → Head g.row.B.Denot = λ j. fresh (decoded (code_at bytes j)) in
    let end : c.loop-i.i ≡ c.args.file.heads = omega arith in (
      c.loop-i.invariant.0 ∙ end,
      left_all _ (strange g.B.Coded.encoded decoded bytes) c.args.file.heads c.loop-i.i (omega arith) c.loop-i.invariant.1,
      c.loop-i.invariant.2 ∙ ap (λ (k : ℕ). rewrite (λ j _. f j) k c.args.table.now) end ∙ written_all f c.args.file.heads c.args.table.now c.requires.0,
    )
