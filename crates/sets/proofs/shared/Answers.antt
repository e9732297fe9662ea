use Rattle.std.proofs.Common.{arith}
use lib.Bits.{bit_and, and_le_l}
use Rattle.sets.proofs.Words.{word_is, bit_of_and}
use Rattle.sets.proofs.shared.Goals as goal

pub returns : goal.returns
returns c =
    let a = c.args.a in
    let b = c.args.b in
    word_is 64 (bit_and a b) _ (omega (arith, and_le_l a b)) (λ i _. bit_of_and a b i)
