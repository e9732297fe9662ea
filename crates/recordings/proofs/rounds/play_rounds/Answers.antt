use Rattle.std.proofs.Common.{◌≡◌, ℕ, suc, ◌+◌, ◌-◌, ◌*◌, ◌≤◌, [], ◌∷◌, ◌++◌, length, sym, refl, ap, ◌∙◌, arith, length-append}
use Rattle.votes.specs.Calls.{begun_as}
use Rattle.recordings.specs.Files.{record_breach, round_size, played_from}
use Rattle.recordings.specs.Files.Progress.{going}
use Rattle.recordings.proofs.Plays.{turn_heard, turn_refused, played_end, rounds_stopped}
use Rattle.recordings.proofs.rounds.play_rounds.Goals as goal

pub loop-at-init : goal.loop-at-init
loop-at-init g c =
    let k : length c.args.bytes.now ≡ length c.args.bytes.now - c.args.start.heard = omega (arith, c.requires.1.0) in
    ([], refl, c.requires.0, c.requires.1.0, omega (arith, c.requires.1.0), c.requires.1.1, g.met.S.Sink.laws.none c.args.rounds.now, ap (λ (m : ℕ). played_from g.B.Ballot.earlier g.V.Method.scheme c.args.start.n c.args.bytes.now m c.args.from (going [] c.args.table.now)) k)

pub loop-at-preserved : goal.loop-at-preserved
loop-at-preserved g c =
    let earlier = g.B.Ballot.earlier in
    let s = g.V.Method.scheme in
    let v = c.loop-at.vote in
    let bytes = c.args.bytes.now in
    let n = c.args.start.n in
    let at = c.loop-at.at in
    let hs = c.loop-at.table in
    let h = c.in-Ok.heard in
    let inv = c.loop-at.invariant in
    let figures = inv.0 in
    let t = turn_heard earlier s v bytes at figures hs inv.3 c.loop-at-test.true (begun_as h.vote) h.figures c.play_round.new.table
    c.in-Ok.ensures.answer c.in-Ok.ensures.table n inv.1 in
    let width : length c.play_round.new.words ≡ n = c.play_round.auto.words ∙ inv.2 in
    let one : h.vote.heard ≡ v.heard + 1 = t.more ∙ length-append figures (h.figures ∷ []) ∙ ap (λ (k : ℕ). k + 1) (sym inv.3) in
    let k : length bytes - v.heard ≡ suc (length bytes - h.vote.heard) = omega arith in
    let place : at + round_size n ≡ at + (26 + 8 * length c.play_round.new.words) = omega arith in
    let start = played_from earlier s n bytes in (
      figures ++ (h.figures ∷ []),
      t.same,
      width,
      t.more,
      omega arith,
      omega (arith, c.in-Ok.ensures.whole),
      g.met.S.Sink.laws.more c.args.rounds.now c.loop-at.rounds c.put.new.self figures (h.figures ∷ []) inv.6 c.in_ok-put-in-Ok.ensures,
      inv.7 ∙ ap (λ (m : ℕ). start m at (going figures hs)) k ∙ t.goes (length bytes - h.vote.heard)
          ∙ ap (λ (m : ℕ). start (length bytes - h.vote.heard) m (going (figures ++ (h.figures ∷ [])) c.play_round.new.table)) place,
    )

-- a vote hears 10,000 rounds at most
pub returns-in_err-put-in-Ok : goal.returns-in_err-put-in-Ok
returns-in_err-put-in-Ok g c =
    let v = c.loop-at.vote in
    let h = c.in-Ok.heard in
    let inv = c.loop-at.invariant in
    let figures = inv.0 in
    let t = turn_heard g.B.Ballot.earlier g.V.Method.scheme v c.args.bytes.now c.loop-at.at figures c.loop-at.table inv.3 c.loop-at-test.true
    (begun_as h.vote) h.figures c.play_round.new.table c.in-Ok.ensures.answer c.in-Ok.ensures.table c.args.start.n inv.1 in
    let most : h.vote.heard ≤ 10000 = h.vote.rounds in
    rounds_stopped g.S.Sink.takes g.S.Sink.stops _ c.args.rounds.now c.put.new.self c.play_round.new.table c.from_residual.result c.from_residual.ensures.0
    (figures ++ (h.figures ∷ [])) (omega (arith, t.more, most))
    (g.met.S.Sink.laws.then c.args.rounds.now c.loop-at.rounds c.put.new.self figures (h.figures ∷ []) inv.6 c.in_err-put-in-Ok.ensures)

pub returns-in-Err : goal.returns-in-Err
returns-in-Err g c =
    let bytes = c.args.bytes.now in
    let v = c.loop-at.vote in
    let inv = c.loop-at.invariant in
    let k : length bytes - v.heard ≡ suc (length bytes - suc v.heard) = omega arith in (
      inv.0,
      (
        inv.6,
        inv.7 ∙ ap (λ (m : ℕ). played_from g.B.Ballot.earlier g.V.Method.scheme c.args.start.n bytes m c.loop-at.at (going inv.0 c.loop-at.table)) k
            ∙ turn_refused g.B.Ballot.earlier g.V.Method.scheme v bytes c.loop-at.at inv.0 c.loop-at.table inv.3 c.loop-at-test.true
            (record_breach c.in-Err.fault) c.in-Err.ensures.answer c.args.start.n inv.1 (length bytes - suc v.heard),
      ),
    )

pub returns : goal.returns
returns g c =
    let inv = c.loop-at.invariant in
    (inv.0, (inv.6, inv.7 ∙ played_end g.B.Ballot.earlier g.V.Method.scheme c.args.start.n c.args.bytes.now _ c.loop-at.at _ (omega arith)))
