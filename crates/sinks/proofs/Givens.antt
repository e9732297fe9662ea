-- One element after another is put into a sink.
use Rattle.std.proofs.Common.{◌≡◌, ℕ, suc, ◌+◌, ◌<◌, List, [], ◌∷◌, ◌++◌, length, get_or, drop, IsErr, Ok, Err, Result, sym, arith}
use Rattle.std.proofs.lemmas.Bool.{true≢false}
use Rattle.std.proofs.Math.Seq.{drop-cons}
use Rattle.sinks.specs.Sinks.{Given, Laws}

-- s is to be given xs, of which ys are still to be put into t
abbrev pub Left : {S T : Type 0} → (S → List T → S → Type 0) → (S → List T → S → Type 0) → S → List T → S → List T → Type 0
Left takes stops s xs t ys = (u : _) → (takes t ys u → takes s xs u) × (stops t ys u → stops s xs u)

module _ {S T : Type 0} (takes stops : S → List T → S → Type 0) where
  -- an error tells that the sink stopped
  pub stopped : {A F : Type 0} (s t : S) (xs : List T) (r : Result A F) → IsErr r → stops s xs t → Given takes stops s xs r t
  stopped s t xs (Ok a) e h = absurd (true≢false (sym e))
  stopped s t xs (Err e) _ h = h

  pub left_all : (s : S) (xs : List T) → Left takes stops s xs s xs
  left_all s xs u = (λ h. h, λ h. h)

  pub left_last : {A F : Type 0} (s t u : S) (xs ys : List T) (r : Result A F) → Left takes stops s xs t ys → Given takes stops t ys r u → Given takes stops s xs r u
  left_last s t u xs ys (Ok a) h k = (h u).0 k
  left_last s t u xs ys (Err e) h k = (h u).1 k

  module _ (laws : Laws takes stops) (s t u : S) where
    -- ys are put in behind xs
    pub onward : {A F : Type 0} (xs ys : List T) (r : Result A F) → takes s xs t → Given takes stops t ys r u → Given takes stops s (xs ++ ys) r u
    onward xs ys (Ok a) h k = laws.more s t u xs ys h k
    onward xs ys (Err e) h k = laws.then s t u xs ys h k

    pub left_more : (xs a ys : List T) → Left takes stops s xs t (a ++ ys) → takes t a u → Left takes stops s xs u ys
    left_more xs a ys h k v = (λ l. (h v).0 (laws.more t u v a ys k l), λ l. (h v).1 (laws.then t u v a ys k l))

    pub left_full : {A F : Type 0} (xs a ys : List T) (r : Result A F) → IsErr r → Left takes stops s xs t (a ++ ys) → stops t a u → Given takes stops s xs r u
    left_full xs a ys r e h k = stopped s u xs r e ((h u).1 (laws.full t u a ys k))

  module _ (laws : Laws takes stops) (s t : S) where
    pub left_none : (xs : List T) → Left takes stops s xs t [] → takes s xs t
    left_none xs h = (h t).0 (laws.none t)

    -- no more goes in behind xs
    pub no_more : {A F : Type 0} (xs ys : List T) (r : Result A F) → IsErr r → stops s xs t → Given takes stops s (xs ++ ys) r t
    no_more xs ys r e h = stopped s t (xs ++ ys) r e (laws.full s t xs ys h)

-- what a loop over a list has still to do
pub drop_step : {X : Type 0} (xs : List X) (i : ℕ) (d : X) → i < length xs → drop i xs ≡ get_or xs i d ∷ drop (i + 1) xs
drop_step xs i d h = let s : i + 1 ≡ suc i = omega arith in rw s (drop-cons xs i d h)
