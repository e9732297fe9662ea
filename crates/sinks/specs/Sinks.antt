-- What a place is after elements were put into it one after another.
use Rattle.std.specs.Prelude.{List, [], ◌++◌, Ok, Err, Result}

-- s was given xs, and is t: it took them, or of them what it could
abbrev pub Given : {S T A F : Type 0} → (S → List T → S → Type 0) → (S → List T → S → Type 0) → S → List T → Result A F → S → Type 0
Given takes stops s xs (Ok a) t = takes s xs t
Given takes stops s xs (Err e) t = stops s xs t

-- what is put in one after another is put in together
pub record Laws {S T : Type 0} (takes stops : S → List T → S → Type 0) : Type 0 where
  pub none : (s : S) → takes s [] s
  pub more : (s t u : S) (xs ys : List T) → takes s xs t → takes t ys u → takes s (xs ++ ys) u
  pub then : (s t u : S) (xs ys : List T) → takes s xs t → stops t ys u → stops s (xs ++ ys) u
  pub full : (s t : S) (xs ys : List T) → stops s xs t → stops s (xs ++ ys) t
