use Rattle.std.proofs.Common.{length, arith}
use Rattle.std.proofs.lemmas.List.FromFn.{fill_by_all}
use Rattle.runs.specs.Driving.{word_for}
use Rattle.driving.proofs.report.Round.put_words.Goals as goal

pub returns : goal.returns
returns g c =
    let f = word_for (g.C.Channel.meaning c.args.channel.now) c.args.self.number c.args.self.running c.args.self.senders in
    fill_by_all f c.loop-i.list (length c.args.list.now) 0 c.loop-i.auto.list (λ i l. c.loop-i.invariant i (omega arith))
