use Rattle.std.proofs.Common.{arith}
use lib.Bits.{bit_or, or_lt}
use Rattle.sets.proofs.Words.{word_is, bit_of_or}
use Rattle.sets.proofs.joined.Goals as goal

pub returns : goal.returns
returns c =
    let a = c.args.a in
    let b = c.args.b in
    word_is 64 (bit_or a b) _ (or_lt 64 a b (omega arith) (omega arith)) (λ i _. bit_of_or a b i)
