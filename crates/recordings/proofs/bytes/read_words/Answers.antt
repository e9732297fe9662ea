use Rattle.std.proofs.Common.{◌+◌, ◌*◌, length, arith}
use Rattle.std.proofs.lemmas.List.FromFn.{fill_by_all}
use Rattle.recordings.specs.Bytes.{number, words_at}
use Rattle.recordings.proofs.bytes.read_words.Goals as goal

pub returns : goal.returns
unfolding words_at
returns c =
    fill_by_all (λ k. number 8 c.args.bytes.now (c.args.at + 8 * k)) c.loop-i.words (length c.args.words.now) 0
    (omega arith) (λ k h. c.loop-i.invariant k (omega arith))
