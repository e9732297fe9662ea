use Rattle.std.proofs.Common.{ℕ, ◌*◌, ◌%◌, ◌^◌, Bool, ◌&&◌, sym, ap, ◌∙◌, arith}
use lib.Bits.{bit_and, and_le_l}
use Rattle.std.proofs.lemmas.Nat.{one_shl}
use Rattle.std.proofs.lemmas.Bool.{and_right, ne_eqb}
use Rattle.sets.specs.Sets.{bit}
use Rattle.sets.proofs.Words.{word_is, bit_of_and, bit_one, bit_none}
use Rattle.sets.proofs.only.Goals as goal

pub returns-then-i-lt64 : goal.returns-then-i-lt64
returns-then-i-lt64 c =
    let set = c.args.set in
    let i = c.args.i in
    let one = (1 * 2 ^ i) % 2 ^ 64 in
    word_is 64 (bit_and set one) _ (omega (arith, and_le_l set one))
    (λ j _. bit_of_and set one j ∙ ap (λ (t : Bool). bit set j && t) (ap (λ (w : ℕ). bit w j) (one_shl i 64 (omega arith)) ∙ bit_one i j))

pub returns-else-i-lt64 : goal.returns-else-i-lt64
returns-else-i-lt64 c =
    word_is 64 0 _ (omega arith)
    (λ j k. bit_none j ∙ sym (and_right (bit c.args.set j) _ (ne_eqb j c.args.i (λ e. omega arith))))
