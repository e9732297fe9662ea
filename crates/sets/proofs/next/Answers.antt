use Rattle.std.proofs.Common.{◌≡◌, ℕ, ◌+◌, ◌-◌, ◌/◌, ◌^◌, ◌<◌, None, sym, refl, ◌∙◌, arith}
use lib.Count.{count_trailing_zeros}
use Rattle.sets.specs.Search.{when}
use Rattle.sets.specs.Sets.{bit}
use Rattle.sets.proofs.Searches.{left_all, left_skip, left_found, when_false, when_true}
use Rattle.sets.proofs.Words.{bit_shr, trailing_low, trailing_at}
use Rattle.sets.proofs.next.Goals as goal

-- no head of the set lies between i and the lowest one
passed : (set i j : ℕ) → j < count_trailing_zeros 64 (set / 2 ^ i) → when (bit set (i + j)) (i + j) ≡ None
passed set i j h = when_false _ _ (sym (bit_shr set i j) ∙ trailing_low 64 (set / 2 ^ i) j h)

pub returns-then-i-ge64 : goal.returns-then-i-ge64
returns-then-i-ge64 c = sym (left_all _ (λ j. when (bit c.args.set j) j) 64 c.args.i (omega arith) refl)

pub returns-then-i-skipped-lt64 : goal.returns-then-i-skipped-lt64
returns-then-i-skipped-lt64 c =
    let set = c.args.set in
    let i = c.args.i in
    let z = count_trailing_zeros 64 (set / 2 ^ i) in
    sym (left_found _ (λ j. when (bit set j) j) 64 (i + z) (i + z) (omega arith)
    (when_true _ _ (sym (bit_shr set i z) ∙ trailing_at 64 (set / 2 ^ i) (omega arith)))
    (left_skip (λ j. when (bit set j) j) 64 i z (omega arith) (passed set i)))

pub returns-else-i-skipped-lt64 : goal.returns-else-i-skipped-lt64
returns-else-i-skipped-lt64 c =
    let set = c.args.set in
    let i = c.args.i in
    let z = 64 - i in
    sym (left_all _ (λ j. when (bit set j) j) 64 (i + z) (omega arith)
    (left_skip (λ j. when (bit set j) j) 64 i z (omega arith) (λ j k. passed set i j (omega arith))))
