use Rattle.std.proofs.Common.{arith, rules}
use Rattle.sets.proofs.Counting.{ones_count}
use Rattle.sets.proofs.size.Goals as goal

pub returns : goal.returns
returns c = record {
  value = ones_count 64 c.args.set (omega arith);
  few = search rules;
}
