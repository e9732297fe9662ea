use Rattle.std.proofs.Common.{ℕ, ◌*◌, ◌%◌, ◌^◌, sym, ap, ◌∙◌, arith}
use Rattle.std.proofs.lemmas.Nat.{one_shl}
use Rattle.std.proofs.lemmas.Bool.{ne_eqb}
use Rattle.sets.specs.Sets.{bit}
use Rattle.sets.proofs.Words.{word_is, bit_one, bit_none}
use Rattle.sets.proofs.one.Goals as goal

pub returns-then-i-lt64 : goal.returns-then-i-lt64
returns-then-i-lt64 c =
    let i = c.args.i in
    word_is 64 ((1 * 2 ^ i) % 2 ^ 64) _ (omega arith) (λ j _. ap (λ (w : ℕ). bit w j) (one_shl i 64 (omega arith)) ∙ bit_one i j)

pub returns-else-i-lt64 : goal.returns-else-i-lt64
returns-else-i-lt64 c = word_is 64 0 _ (omega arith) (λ j k. bit_none j ∙ sym (ne_eqb j c.args.i (λ e. omega arith)))
