use Rattle.std.proofs.Common.{Ok, sym, ap, ◌∙◌, arith}
use Rattle.std.proofs.lemmas.Bool.{cond-false, le-ltb}
use Rattle.ballots.specs.Kinds.{recipe}
use Rattle.ballots.specs.Same.{same_recipe}
use Rattle.ballots.proofs.kinds.Recipe.new.Goals as goal

pub returns : goal.returns
returns c = ap Ok (same_recipe _ (recipe c.args.number) (omega arith)) ∙ sym (cond-false _ _ _ (le-ltb 4095 c.args.number (omega arith)))
