-- A table rewritten record by record.
use Rattle.std.proofs.Common.{◌≡◌, ℕ, zero, suc, ◌+◌, ◌<◌, List, [], ◌∷◌, length, get_or, set, refl, ap, ◌∙◌, ap₂, arith}
use Rattle.votes.specs.Tables.{rewrite, rewrite_from}

-- past the rewritten ones the records are as they were
get_or_rewrite : {H : Type 0} (f : ℕ → H → H) (i k : ℕ) (hs : List H) (d : H) → get_or (rewrite_from f i k hs) k d ≡ get_or hs k d
unfolding rewrite_from
get_or_rewrite f i zero hs d = refl
get_or_rewrite f i (suc k) [] d = refl
get_or_rewrite f i (suc k) (h ∷ hs) d = get_or_rewrite f (i + 1) k hs d

from_more : {H : Type 0} (f : ℕ → H → H) (i k : ℕ) (hs : List H) (d : H) → k < length hs
    → set (rewrite_from f i k hs) k (f (i + k) (get_or hs k d)) ≡ rewrite_from f i (suc k) hs
unfolding rewrite_from
from_more f i zero [] d h = absurd (omega arith)
from_more f i zero (x ∷ hs) d h = let e : i + 0 ≡ i = omega arith in rw e
from_more f i (suc k) [] d h = absurd (omega arith)
from_more f i (suc k) (x ∷ hs) d h =
    let e : i + suc k ≡ (i + 1) + k = omega arith in
    let l : k < length hs = omega arith in
    rw e (ap (λ ys. f i x ∷ ys) (from_more f (i + 1) k hs d l))

pub rewrite_none : {H : Type 0} (f : ℕ → H → H) (hs : List H) → rewrite f 0 hs ≡ hs
unfolding rewrite_from
rewrite_none f hs = refl

-- a loop's turn: one record more, at a record x that was read there
pub rewrite_more : {H : Type 0} (f : ℕ → H → H) (hs ts : List H) (k : ℕ) (x : H) → k < length hs → ts ≡ rewrite f k hs
    → x ≡ get_or ts k x → set ts k (f k x) ≡ rewrite f (k + 1) hs
rewrite_more f hs ts k x h e r =
    let z : 0 + k ≡ k = omega arith in
    let s : k + 1 ≡ suc k = omega arith in
    let g = get_or_rewrite f 0 k hs x in
    let m = from_more f 0 k hs x h in
    ap (λ y. set ts k (f k y)) r ∙ rw (e, s, g) (rw z at m)

-- one rewriting after another
pub rewrite_twice : {H : Type 0} (f g : ℕ → H → H) (i k : ℕ) (hs : List H)
    → rewrite_from g i k (rewrite_from f i k hs) ≡ rewrite_from (λ j h. g j (f j h)) i k hs
unfolding rewrite_from
rewrite_twice f g i zero hs = refl
rewrite_twice f g i (suc k) [] = refl
rewrite_twice f g i (suc k) (h ∷ hs) = ap (λ ys. g i (f i h) ∷ ys) (rewrite_twice f g (i + 1) k hs)

-- rules that agree rewrite alike
pub rewrite_same : {H : Type 0} (f g : ℕ → H → H) → ((j : ℕ) (h : H) → f j h ≡ g j h) → (i k : ℕ) (hs : List H)
    → rewrite_from f i k hs ≡ rewrite_from g i k hs
unfolding rewrite_from
rewrite_same f g e i zero hs = refl
rewrite_same f g e i (suc k) [] = refl
rewrite_same f g e i (suc k) (h ∷ hs) = ap₂ (λ y ys. y ∷ ys) (e i h) (rewrite_same f g e (i + 1) k hs)
