use Rattle.std.proofs.Common.{sym, ◌∙◌, arith}
use Rattle.std.proofs.lemmas.Bool.{le-ltb}
use Rattle.sets.specs.Sets.{bit}
use Rattle.sets.proofs.Counting.{and_one}
use Rattle.sets.proofs.Words.{bit_past}
use Rattle.sets.proofs.has.Goals as goal

pub returns-then-i-lt64 : goal.returns-then-i-lt64
unfolding bit
returns-then-i-lt64 c = rw and_one

pub returns-else-i-lt64 : goal.returns-else-i-lt64
returns-else-i-lt64 c = le-ltb c.args.i 64 (omega arith) ∙ sym (bit_past 64 c.args.set c.args.i (omega arith) (omega arith))
