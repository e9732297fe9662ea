-- Lists written over others.
use Rattle.std.specs.Prelude.{◌≡◌, ℕ, zero, suc, ◌+◌, ◌-◌, ◌≤◌, List, [], ◌∷◌, ◌++◌, length, take}
use Rattle.std.proofs.Common.{set, refl, ap, arith}

-- ys with its front written over by xs, as far as there is room; what lies past them stays
abbrev pub over : {X : Type 0} → List X → List X → List X
over [] ys = ys
over (x ∷ xs) [] = []
over (x ∷ xs) (y ∷ ys) = x ∷ over xs ys

-- the same, from place i of ys on
abbrev pub over_from : {X : Type 0} → ℕ → List X → List X → List X
over_from zero xs ys = over xs ys
over_from (suc i) xs [] = []
over_from (suc i) xs (y ∷ ys) = y ∷ over_from i xs ys

pub length_over : {X : Type 0} (xs ys : List X) → length (over xs ys) ≡ length ys
length_over [] ys = refl
length_over (x ∷ xs) [] = refl
length_over (x ∷ xs) (y ∷ ys) = ap suc (length_over xs ys)

pub length_over_from : {X : Type 0} (i : ℕ) (xs ys : List X) → length (over_from i xs ys) ≡ length ys
length_over_from zero xs ys = length_over xs ys
length_over_from (suc i) xs [] = refl
length_over_from (suc i) xs (y ∷ ys) = ap suc (length_over_from i xs ys)

-- nothing is written
pub over_none : {X : Type 0} (i : ℕ) (ys : List X) → over_from i [] ys ≡ ys
over_none zero ys = refl
over_none (suc i) [] = refl
over_none (suc i) (y ∷ ys) = ap (λ zs. y ∷ zs) (over_none i ys)

-- one is written
pub over_one : {X : Type 0} (i : ℕ) (x : X) (ys : List X) → set ys i x ≡ over_from i (x ∷ []) ys
over_one zero x [] = refl
over_one zero x (y ∷ ys) = refl
over_one (suc i) x [] = refl
over_one (suc i) x (y ∷ ys) = ap (λ zs. y ∷ zs) (over_one i x ys)

-- more are written behind those
pub over_more : {X : Type 0} (i : ℕ) (xs us ys : List X) → over_from (i + length xs) us (over_from i xs ys) ≡ over_from i (xs ++ us) ys
over_more i xs us ys = go i (i + length xs) xs us ys refl
  where
    go : {X : Type 0} (i j : ℕ) (xs us ys : List X) → j ≡ i + length xs → over_from j us (over_from i xs ys) ≡ over_from i (xs ++ us) ys
    go zero zero [] us ys e = refl
    go zero zero (x ∷ xs) us ys e = absurd (omega arith)
    go zero (suc j) [] us ys e = absurd (omega arith)
    go zero (suc j) (x ∷ xs) us [] e = refl
    go zero (suc j) (x ∷ xs) us (y ∷ ys) e = ap (λ zs. x ∷ zs) (go zero j xs us ys (omega arith))
    go (suc i) zero xs us ys e = absurd (omega arith)
    go (suc i) (suc j) xs us [] e = refl
    go (suc i) (suc j) xs us (y ∷ ys) e = ap (λ zs. y ∷ zs) (go i j xs us ys (omega arith))

-- no more goes in
pub over_full : {X : Type 0} (i : ℕ) (xs us ys : List X) → length ys - i ≤ length xs → over_from i (xs ++ us) ys ≡ over_from i xs ys
over_full zero xs us ys h = go xs us ys (omega (arith, h))
  where
    go : {X : Type 0} (xs us ys : List X) → length ys ≤ length xs → over (xs ++ us) ys ≡ over xs ys
    go [] [] [] h = refl
    go [] (u ∷ us) [] h = refl
    go [] us (y ∷ ys) h = absurd (omega arith)
    go (x ∷ xs) us [] h = refl
    go (x ∷ xs) us (y ∷ ys) h = ap (λ zs. x ∷ zs) (go xs us ys (omega arith))
over_full (suc i) xs us [] h = refl
over_full (suc i) xs us (y ∷ ys) h = ap (λ zs. y ∷ zs) (over_full i xs us ys (omega arith))

-- they are read again at the front
pub take_over : {X : Type 0} (xs ys : List X) → length xs ≤ length ys → take (length xs) (over xs ys) ≡ xs
take_over [] ys h = refl
take_over (x ∷ xs) [] h = absurd (omega arith)
take_over (x ∷ xs) (y ∷ ys) h = ap (λ zs. x ∷ zs) (take_over xs ys (omega arith))
