use Rattle.std.proofs.Common.{Err, sym, ap, ◌∙◌}
use Rattle.std.proofs.lemmas.Result.{err_from_is_err_and}
use Rattle.driving.proofs.Ends.{short_ends, count_ends, open_ends, stop_ends, heard_ends, refused_ends}
use Rattle.driving.proofs.driver.drive.Goals as goal

pub returns-in-Err : goal.returns-in-Err
returns-in-Err g c =
    short_ends g.B.Ballot.earlier g.M.Manager.tells g.M.Manager.meaning g.V.Method.scheme c.args.vote c.args.table.now c.args.stops
    (g.C.Channel.meaning c.args.channel.now) (g.D.Detector.meaning c.args.detector.now) (g.M.Manager.meaning c.args.manager.now) c.args.list.now c.args.manager.now
    c.in-Err.fault (sym c.running.ensures ∙ c.in-Err.is)

pub returns-then-list-heads : goal.returns-then-list-heads
returns-then-list-heads g c =
    count_ends g.B.Ballot.earlier g.M.Manager.tells g.M.Manager.meaning g.V.Method.scheme c.args.vote c.args.table.now c.args.stops
    (g.C.Channel.meaning c.args.channel.now) (g.D.Detector.meaning c.args.detector.now) (g.M.Manager.meaning c.args.manager.now) c.args.list.now c.args.manager.now
    c.in-Ok.running (sym c.running.ensures ∙ c.in-Ok.is) c.rounds-round.result c.rounds-round.ensures
    c.heads.result c.heads.ensures c.if-list-heads.true

pub returns-in_err-open : goal.returns-in_err-open
returns-in_err-open g c =
    let p = err_from_is_err_and c.from_residual.result c.from_residual.ensures.1 in
    open_ends g.B.Ballot.earlier g.M.Manager.tells g.M.Manager.meaning g.V.Method.scheme c.args.vote c.args.table.now c.args.stops
    (g.C.Channel.meaning c.args.channel.now) (g.D.Detector.meaning c.args.detector.now) (g.M.Manager.meaning c.args.manager.now) c.args.list.now c.args.manager.now
    c.in-Ok.running (sym c.running.ensures ∙ c.in-Ok.is) c.rounds-round.result c.rounds-round.ensures
    (c.if-list-heads.false ∙ c.heads.ensures) c.turns-turns.result c.turns-turns.ensures c.open.result c.open.ensures
    _ p.0 c.in_err-open.was p.2 c.from_residual.result p.1

pub returns-in-Some : goal.returns-in-Some
returns-in-Some g c =
    stop_ends g.B.Ballot.earlier g.M.Manager.tells g.M.Manager.meaning g.V.Method.scheme c.args.vote c.args.table.now c.args.stops
    (g.C.Channel.meaning c.args.channel.now) (g.D.Detector.meaning c.args.detector.now) (g.M.Manager.meaning c.args.manager.now) c.args.list.now c.args.manager.now
    c.in-Ok.running (sym c.running.ensures ∙ c.in-Ok.is) c.rounds-round.result c.rounds-round.ensures
    (c.if-list-heads.false ∙ c.heads.ensures) c.turns-turns.result c.turns-turns.ensures c.open.result c.open.ensures
    c.in_ok-open.open c.in_ok-open.was c.in-Some.head (sym c.lowest_idle.ensures ∙ c.in-Some.is) c.withdraw.result c.withdraw.ensures

pub returns-in-Ok-hear : goal.returns-in-Ok-hear
returns-in-Ok-hear g c =
    heard_ends g.B.Ballot.earlier g.M.Manager.tells g.M.Manager.meaning g.V.Method.scheme c.args.vote c.args.table.now c.args.stops
    (g.C.Channel.meaning c.args.channel.now) (g.D.Detector.meaning c.args.detector.now) (g.M.Manager.meaning c.args.manager.now) c.args.list.now c.args.manager.now
    c.in-Ok.running (sym c.running.ensures ∙ c.in-Ok.is) c.rounds-round.result c.rounds-round.ensures
    (c.if-list-heads.false ∙ c.heads.ensures) c.turns-turns.result c.turns-turns.ensures c.open.result c.open.ensures
    c.in_ok-open.open c.in_ok-open.was (sym c.lowest_idle.ensures ∙ c.in_default.is)
    c.senders-senders.result c.senders-senders.ensures c.put_words.new.list c.put_words.ensures c.alarms-alarms.result c.alarms-alarms.ensures
    c.hear.result c.hear.ensures.answer c.hear.new.table c.hear.ensures.table
    c.in-Ok-hear.heard c.in-Ok-hear.is c.size.result c.size.ensures.value c.tell.new.self c.tell.ensures (g.met.M.Manager.told c.args.manager.now _ _ _ c.tell.new.self c.tell.ensures)

pub returns-in-Err-hear : goal.returns-in-Err-hear
returns-in-Err-hear g c =
    refused_ends g.B.Ballot.earlier g.M.Manager.tells g.M.Manager.meaning g.V.Method.scheme c.args.vote c.args.table.now c.args.stops
    (g.C.Channel.meaning c.args.channel.now) (g.D.Detector.meaning c.args.detector.now) (g.M.Manager.meaning c.args.manager.now) c.args.list.now c.args.manager.now
    c.in-Ok.running (sym c.running.ensures ∙ c.in-Ok.is) c.rounds-round.result c.rounds-round.ensures
    (c.if-list-heads.false ∙ c.heads.ensures) c.turns-turns.result c.turns-turns.ensures c.open.result c.open.ensures
    c.in_ok-open.open c.in_ok-open.was (sym c.lowest_idle.ensures ∙ c.in_default.is)
    c.senders-senders.result c.senders-senders.ensures c.put_words.new.list c.put_words.ensures c.alarms-alarms.result c.alarms-alarms.ensures
    c.hear.result c.hear.ensures.answer c.hear.new.table c.hear.ensures.table
    _ (c.in-Err-hear.is ∙ ap Err c.in-Err-hear.field-0-is) c.withdraw-in-Err-hear.result c.withdraw-in-Err-hear.ensures
