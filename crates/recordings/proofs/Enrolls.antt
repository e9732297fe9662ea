-- The heads of a vote file, enrolled code by code.
use Rattle.std.proofs.Common.{◌≡◌, ℕ, zero, suc, ◌+◌, ◌<◌, Bool, true, false, cond, List, [], ◌∷◌, map, length, get_or, set, Ok, Err, refl, ap, arith}
use Rattle.std.proofs.lemmas.List.{get_or_default}
use Rattle.std.proofs.lemmas.Bool.{lt-leb, or_from, cond-false}
use Rattle.std.specs.List.{range_with_len}
use Rattle.ballots.specs.declared.faults.BallotFault.TheVariants.{BeyondRange}
use Rattle.ballots.specs.Faults.{Breach, numbered}
use Rattle.heads.specs.declared.head.Head.{Head}
use Rattle.votes.specs.declared.faults.VoteFault.{VoteFault}
use Rattle.votes.specs.declared.faults.VoteFault.TheVariants.{Ballot}
use Rattle.votes.specs.declared.stages.Roll.{Roll}
use Rattle.votes.specs.Faults.{vote_breach, ballot_from}
use Rattle.votes.specs.Tables.{rewrite, rewrite_from}
use Rattle.heads.specs.Rules.{fresh}
use Rattle.votes.specs.Calls.{Answer, full, enrolled, enrolled_table}
use Rattle.votes.specs.Calls.Answer.{done, refused}
use Rattle.votes.proofs.Rewrites.{rewrite_more}

-- what a code's reading says
pub decoded_ok : {B : Type 0} (t : Bool) (d b : B) → Ok b ≡ ballot_from (cond t (Ok d) (Err BeyondRange)) → (t ≡ true) × (b ≡ d)
decoded_ok true d b e = (refl, cc)
decoded_ok false d b e = let z : ◌≡◌ {A = ℕ} 0 1 = cc in absurd (omega arith)

pub decoded_err : {B : Type 0} (t : Bool) (d : B) (f : VoteFault) → Err f ≡ ballot_from (cond t (Ok d) (Err BeyondRange)) → (t ≡ false) × (vote_breach f ≡ numbered 1)
decoded_err true d f e = let z : ◌≡◌ {A = ℕ} 0 1 = cc in absurd (omega arith)
decoded_err false d f e = let s : f ≡ Ballot BeyondRange = cc in (refl, ap vote_breach s)

not_full : (n room : ℕ) → n < 64 → n < room → full n room ≡ false
not_full n room h k = or_from _ _ (lt-leb 64 n h) (lt-leb room n k)

module _ {B : Type 0} (roll : Roll) (hs : List (Head B)) (h : roll.n < 64) (k : roll.n < length hs) where
  pub enrolled_done : enrolled roll hs ≡ done (roll.n + 1)
  enrolled_done = cond-false _ _ _ (not_full roll.n (length hs) h k)

  pub enrolled_set : (b : B) → enrolled_table roll hs b ≡ set hs roll.n (fresh b)
  enrolled_set b = cond-false _ _ _ (not_full roll.n (length hs) h k)

pub never_refused : {A R : Type 0} (a : A) (b : Breach) (x : R) → refused b x ≡ done a → ⊥
never_refused a b x e = let z : ◌≡◌ {A = ℕ} 0 1 = cc in omega arith

pub same_done : {R : Type 0} (a b : ℕ) (x : Answer ℕ R) → done a ≡ x → x ≡ done b → a ≡ b
same_done a b x d e = cc

-- a loop's turn that writes f i at i
pub written_more : {H : Type 0} (f : ℕ → H) (hs ts : List H) (i : ℕ) → i < length hs → i < length ts → ts ≡ rewrite (λ j _. f j) i hs
    → set ts i (f i) ≡ rewrite (λ j _. f j) (i + 1) hs
written_more f hs ts i h k e = rewrite_more (λ j _. f j) hs ts i (get_or ts i (f i)) h e (get_or_default ts i (f i) (get_or ts i (f i)) k)

written : {H : Type 0} (f : ℕ → H) (i n : ℕ) (hs : List H) → length hs ≡ n → rewrite_from (λ j _. f j) i n hs ≡ map f (range_with_len i n)
unfolding rewrite_from
written f i zero hs e = nothing hs e
  where
    nothing : {H : Type 0} (hs : List H) → length hs ≡ 0 → hs ≡ []
    nothing [] e = refl
    nothing (h ∷ hs) e = absurd (omega arith)
written f i (suc n) [] e = absurd (omega arith)
written f i (suc n) (h ∷ hs) e = ap (λ ys. f i ∷ ys) (written f (i + 1) n hs (omega arith))

pub written_all : {H : Type 0} (f : ℕ → H) (n : ℕ) (hs : List H) → length hs ≡ n → rewrite (λ j _. f j) n hs ≡ map f (range_with_len 0 n)
written_all f n hs e = written f 0 n hs e
