use Rattle.std.proofs.Common.{◌-◌, Bool, ◌&&◌, ap, ◌∙◌, arith}
use lib.Bits.{bit_and, and_le_l}
use Rattle.sets.specs.Sets.{bit}
use Rattle.sets.proofs.Words.{word_is, bit_of_and, bit_not}
use Rattle.sets.proofs.without.Goals as goal

pub returns : goal.returns
returns c =
    let a = c.args.a in
    let b = c.args.b in
    let rest = 18446744073709551615 - b in
    word_is 64 (bit_and a rest) _ (omega (arith, and_le_l a rest))
    (λ i k. bit_of_and a rest i ∙ ap (λ (t : Bool). bit a i && t) (bit_not 64 b i (omega arith) k))
