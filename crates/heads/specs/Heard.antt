-- The ballots that a head hears.
use Rattle.std.specs.Prelude.{◌≡◌, ℕ, zero, suc, ◌<◌, Bool, true, false, cond, ◌||◌, List, Some, None, Option, ◌≢◌}
use Rattle.std.specs.List.{slice_get}
use Rattle.std.specs.Option.{option_map}
use Rattle.sets.specs.Sets.{bit}
use Rattle.heads.specs.declared.head.Ballots.{Ballots}
use Rattle.heads.specs.declared.head.Head.{Head}

-- the ballot that head i sends in a round of ballots
abbrev pub estimate_at : {B : Type 0} → List (Head B) → ℕ → Option B
estimate_at hs i = option_map (λ h. h.estimate) (slice_get hs i)

-- the lesser of two ballots, where the first may be absent
abbrev pub lesser : {B : Type 0} → (B → B → Bool) → Option B → B → B
lesser earlier None b = b
lesser earlier (Some a) b = cond (earlier b a) b a

-- whether two ballots differ, where the first may be absent
abbrev pub apart : {B : Type 0} → (B → B → Bool) → Option B → B → Bool
apart earlier None b = false
apart earlier (Some a) b = earlier a b || earlier b a

-- one ballot more, if there is one
abbrev pub joined : {B : Type 0} → (B → B → Bool) → Ballots B → Option B → Ballots B
joined earlier s None = s
joined earlier s (Some b) = record { least = Some (lesser earlier s.least b); differ = s.differ || apart earlier s.least b }

abbrev pub no_ballots : {B : Type 0} → Ballots B
no_ballots = record { least = None; differ = false }

-- the ballots heard from the heads below n
unfoldable pub ballots_below : {B : Type 0} → (B → B → Bool) → List (Head B) → ℕ → ℕ → Ballots B
ballots_below earlier hs word zero = no_ballots
ballots_below earlier hs word (suc n) =
    cond (bit word n) (joined earlier (ballots_below earlier hs word n) (estimate_at hs n)) (ballots_below earlier hs word n)

-- the ballots heard by a head with that hear word
abbrev pub ballots_of : {B : Type 0} → (B → B → Bool) → List (Head B) → ℕ → Ballots B
ballots_of earlier hs word = ballots_below earlier hs word 64

-- ---- what they are

-- the ballot b was heard from head i, below n
pub record From {B : Type 0} (hs : List (Head B)) (word n i : ℕ) (b : B) : Type 0 where
  pub within : i < n
  pub heard : bit word i ≡ true
  pub sent : estimate_at hs i ≡ Some b

-- no ballot was heard; or this one was, and none that was heard comes before it
abbrev pub IsLeast : {B : Type 0} → (B → B → Bool) → List (Head B) → ℕ → ℕ → Option B → Type 0
IsLeast {B} earlier hs word n None = (i : ℕ) (b : B) → From hs word n i b → ⊥
IsLeast {B} earlier hs word n (Some b) =
    ((i : ℕ) × From hs word n i b) × ((i : ℕ) (d : B) → From hs word n i d → earlier d b ≡ false)

-- two different ballots were heard
abbrev pub TwoHeard : {B : Type 0} → List (Head B) → ℕ → ℕ → Type 0
TwoHeard {B} hs word n = (i : ℕ) × (j : ℕ) × (a : B) × (b : B) × From hs word n i a × From hs word n j b × (a ≢ b)
