-- What a ballot's order and a ballot's code have to keep.
use Rattle.std.specs.Prelude.{◌≡◌, ℕ, ◌^◌, ◌<◌, ◌≤◌, Bool, true, false, ◌⊎◌}

-- of before, identical and after exactly one holds, and before carries over a middle ballot
pub record Total {B : Type 0} (earlier : B → B → Bool) : Type 0 where
  pub one : (a b : B) → (earlier a b ≡ true) ⊎ ((a ≡ b) ⊎ (earlier b a ≡ true))
  pub not_itself : (a b : B) → a ≡ b → earlier a b ≡ false
  pub not_both : (a b : B) → earlier a b ≡ true → earlier b a ≡ false
  pub carries : (a b c : B) → earlier a b ≡ true → earlier b c ≡ true → earlier a c ≡ true

-- a width from 1 to 16, a code below 2 to its power, and the way back from a ballot's code to that ballot
pub record Coding {B : Type 0} (width : ℕ) (encoded : B → ℕ) (decoded : ℕ → B) : Type 0 where
  pub some : 1 ≤ width
  pub most : width ≤ 16
  pub below : (b : B) → encoded b < 2 ^ width
  pub back : (b : B) → decoded (encoded b) ≡ b
