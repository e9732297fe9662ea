use Rattle.std.proofs.Common.{◌≡◌, ℕ, ◌+◌, ◌*◌, [], length, sym, ap, ◌∙◌, ap₂, subst}
use Rattle.recordings.specs.Files.{started_by, played_from, enrolled_from, progress_of}
use Rattle.recordings.specs.Into.{RoundsTo}
use Rattle.recordings.specs.Files.Progress.{going}
use Rattle.recordings.proofs.into.play_table.Goals as goal

pub returns-in-Ok : goal.returns-in-Ok
unfolding progress_of
returns-in-Ok g c =
    let earlier = g.B.Ballot.earlier in
    let s = g.V.Method.scheme in
    let bytes = c.args.file.bytes.now in
    let n = c.args.file.heads in
    let started = c.in-Ok.ensures in
    let same : progress_of earlier g.B.Coded.encoded g.B.Coded.decoded s n bytes ≡ played_from earlier s c.in-Ok.vote.n bytes (length bytes) (5 + 2 * n) (going [] c.start.new.table) =
    ap (λ b. started_by b (played_from earlier s n bytes (length bytes) (5 + 2 * n) (going [] (enrolled_from g.B.Coded.decoded bytes n)))) started.2
    ∙ ap₂ (λ (m : ℕ) hs. played_from earlier s m bytes (length bytes) (5 + 2 * n) (going [] hs)) (sym started.0) (sym started.3) in
    subst (λ p. RoundsTo g.S.Sink.takes g.S.Sink.stops p c.args.rounds.now c.play_rounds.result c.play_rounds.new.rounds c.play_rounds.new.table) (sym same) c.play_rounds.ensures

pub returns-in-Err : goal.returns-in-Err
unfolding progress_of
returns-in-Err g c =
    let earlier = g.B.Ballot.earlier in
    let s = g.V.Method.scheme in
    let bytes = c.args.file.bytes.now in
    let n = c.args.file.heads in (
      [],
      (
        g.met.S.Sink.laws.none c.args.rounds.now,
        ap (λ b. started_by b (played_from earlier s n bytes (length bytes) (5 + 2 * n) (going [] (enrolled_from g.B.Coded.decoded bytes n)))) c.in-Err.ensures,
      ),
    )
