use Rattle.std.proofs.Common.{◌≡◌, ℕ, ◌+◌, List, length, None, Err, Result, sym, ap, ◌∙◌, rules}
use Rattle.std.proofs.lemmas.Result.{err_from_is_err_and}
use Rattle.votes.specs.declared.stages.HeardRound.{HeardRound}
use Rattle.recordings.specs.declared.faults.RecordFault.{RecordFault}
use Rattle.recordings.specs.declared.faults.RecordFault.TheVariants as fault
use Rattle.votes.specs.Rounds.{Report}
use Rattle.votes.specs.Faults.{vote_breach}
use Rattle.votes.specs.Calls.{begun_as, opened_as, open_breach, opened, heard, heard_table}
use Rattle.votes.specs.Calls.Answer.{done, refused}
use Rattle.recordings.specs.Bytes.{number, words_at}
use Rattle.recordings.specs.Files.{record_breach, round_breach, turns_at, report_at, play_answer}
use Rattle.recordings.proofs.Plays.{forget, unless_refused, by_record, by_opening, refused_one, refused_table, heard_one, table_heard}
use Rattle.recordings.proofs.rounds.play_round.Goals as goal

abbrev record_of : List ℕ → ℕ → ℕ → Report
record_of words alarms stops = record { words = words; alarms = alarms; stops = stops }

-- the report as it was read
report_read : (bytes : List ℕ) (at n m : ℕ) (words : List ℕ) (alarms stops : ℕ) → m ≡ n → words ≡ words_at bytes (at + 26) m → alarms ≡ number 8 bytes (at + 18) → stops ≡ number 8 bytes (at + 10)
    → record_of words alarms stops ≡ report_at bytes at n
report_read bytes at n m words alarms stops e p q r = λ i. record { words = (p ∙ ap (words_at bytes (at + 26)) e) i; alarms = q i; stops = r i }

-- what a refusal answers
erred : {V : Type 0} (r : Result (HeardRound V) RecordFault) (y f : RecordFault) → r ≡ Err y → y ≡ f → play_answer r ≡ refused (record_breach f) tt
erred r y f e p = ap play_answer e ∙ ap (λ x. refused (record_breach x) tt) p

pub returns-in_err-check_round : goal.returns-in_err-check_round
returns-in_err-check_round g c =
    let earlier = g.B.Ballot.earlier in
    let s = g.V.Method.scheme in
    let v = c.args.vote in
    let bytes = c.args.bytes.now in
    let at = c.args.at in
    let hs = c.args.table.now in
    let fault = c.in_err-check_round.field-0.0 in
    let p = err_from_is_err_and c.from_residual.result c.from_residual.ensures.1 in
    let broken = by_record earlier s v bytes at hs (record_breach fault)
    (ap (round_breach bytes at) (sym c.requires.0) ∙ sym c.in_err-check_round.ensures.value) in
    record {
      whole = search rules;
      answer = erred c.from_residual.result p.0 fault p.1 p.2 ∙ refused_one earlier s v bytes at hs (record_breach fault) broken;
      table = refused_table earlier s v bytes at hs (record_breach fault) broken;
    }

pub returns-in_err-open : goal.returns-in_err-open
returns-in_err-open g c =
    let earlier = g.B.Ballot.earlier in
    let s = g.V.Method.scheme in
    let v = c.args.vote in
    let bytes = c.args.bytes.now in
    let at = c.args.at in
    let hs = c.args.table.now in
    let e = c.in_err-open.field-0.0 in
    let p = err_from_is_err_and c.from_residual-in_err-open.result c.from_residual-in_err-open.ensures.1 in
    let whole : round_breach bytes at v.n ≡ None = ap (round_breach bytes at) (sym c.requires.0) ∙ sym c.in_ok-check_round.ensures.value in
    let answer : refused (vote_breach e.fault) e.back ≡ opened s v hs (turns_at bytes at) = c.in_err-open.ensures ∙ ap (opened s v hs) c.read_u64.ensures in
    let broken = by_opening earlier s v bytes at hs (vote_breach e.fault) whole
    (unless_refused (open_breach v.n (v.heard + 1) hs (turns_at bytes at)) (vote_breach e.fault) _ v e.back answer) in
    record {
      whole = search rules;
      answer = erred c.from_residual-in_err-open.result p.0 (fault.Vote e.fault) p.1 p.2 ∙ refused_one earlier s v bytes at hs (vote_breach e.fault) broken;
      table = refused_table earlier s v bytes at hs (vote_breach e.fault) broken;
    }

pub returns-in_err-hear : goal.returns-in_err-hear
returns-in_err-hear g c =
    let earlier = g.B.Ballot.earlier in
    let s = g.V.Method.scheme in
    let v = c.args.vote in
    let bytes = c.args.bytes.now in
    let at = c.args.at in
    let hs = c.args.table.now in
    let o = c.in_ok-open.open in
    let e = c.in_err-hear.field-0.0 in
    let p = err_from_is_err_and c.from_residual-in_err-hear.result c.from_residual-in_err-hear.ensures.1 in
    let whole : round_breach bytes at v.n ≡ None = ap (round_breach bytes at) (sym c.requires.0) ∙ sym c.in_ok-check_round.ensures.value in
    let opening : done (opened_as o) ≡ opened s v hs (turns_at bytes at) = c.in_ok-open.ensures ∙ ap (opened s v hs) c.read_u64.ensures in
    let q = report_read bytes at v.n (length c.args.words.now) c.read_words.new.words c.read_u64-2.result c.read_u64-3.result
    c.requires.0 c.read_words.ensures c.read_u64-2.ensures c.read_u64-3.ensures in
    let told : refused (vote_breach e.fault) e.back ≡ heard earlier s o hs (report_at bytes at v.n) =
    c.in_err-hear.ensures.answer ∙ ap (heard earlier s o hs) q in
    record {
      whole = search rules;
      answer = erred c.from_residual-in_err-hear.result p.0 (fault.Vote e.fault) p.1 p.2 ∙ ap forget told ∙ heard_one earlier s v bytes at hs o whole opening;
      table = c.in_err-hear.ensures.table ∙ ap (heard_table earlier s o hs) q ∙ table_heard earlier s v bytes at hs o whole opening;
    }

pub returns : goal.returns
returns g c =
    let earlier = g.B.Ballot.earlier in
    let s = g.V.Method.scheme in
    let v = c.args.vote in
    let bytes = c.args.bytes.now in
    let at = c.args.at in
    let hs = c.args.table.now in
    let o = c.in_ok-open.open in
    let h = c.in_ok-hear.field-0 in
    let whole : round_breach bytes at v.n ≡ None = ap (round_breach bytes at) (sym c.requires.0) ∙ sym c.in_ok-check_round.ensures.value in
    let opening : done (opened_as o) ≡ opened s v hs (turns_at bytes at) = c.in_ok-open.ensures ∙ ap (opened s v hs) c.read_u64.ensures in
    let q = report_read bytes at v.n (length c.args.words.now) c.read_words.new.words c.read_u64-2.result c.read_u64-3.result
    c.requires.0 c.read_words.ensures c.read_u64-2.ensures c.read_u64-3.ensures in
    let told : done (begun_as h.vote, h.figures) ≡ heard earlier s o hs (report_at bytes at v.n) =
    c.in_ok-hear.ensures.answer ∙ ap (heard earlier s o hs) q in
    record {
      whole = search rules;
      answer = ap forget told ∙ heard_one earlier s v bytes at hs o whole opening;
      table = c.in_ok-hear.ensures.table ∙ ap (heard_table earlier s o hs) q ∙ table_heard earlier s v bytes at hs o whole opening;
    }
