-- Odd and even rounds take turns.
use Rattle.std.proofs.Common.{◌≡◌, ℕ, ◌+◌, ◌%◌, not, T, ◌≢◌, arith, eqb→eq}
use Rattle.std.proofs.lemmas.Bool.{eq-eqb}
use Rattle.heads.specs.Rules.{odd}
use Rattle.runs.proofs.Tests.{holds, same_test, not_in, not_out}

pub odd_then : (r : ℕ) → T (odd r) → T (odd (r + 1)) → ⊥
odd_then r a b = let e = eqb→eq (r % 2) 1 a in let f = eqb→eq ((r + 1) % 2) 1 b in omega arith

pub even_then : (r : ℕ) → (T (odd r) → ⊥) → T (odd (r + 1))
even_then r f =
    let ne : r % 2 ≢ 1 = λ e. f (holds (eq-eqb (r % 2) 1 e)) in
    let e : (r + 1) % 2 ≡ 1 = omega arith in
    holds (eq-eqb ((r + 1) % 2) 1 e)

pub odd_next : (r : ℕ) → odd (r + 1) ≡ not (odd r)
odd_next r = same_test (odd (r + 1)) (not (odd r)) (λ t. not_in (odd r) (λ o. odd_then r o t)) (λ t. even_then r (not_out (odd r) t))
