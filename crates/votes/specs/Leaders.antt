-- The senders that have the least ballot of all that were sent, and those that have another.
use Rattle.std.specs.Prelude.{◌≡◌, ℕ, ◌<◌, ◌≤◌, Bool, true, false, not, ◌&&◌, ◌⊎◌, List, length, Some, None, Option}
use Rattle.sets.specs.Sets.{bit, word_of}
use Rattle.heads.specs.declared.head.Head.{Head}
use Rattle.heads.specs.Heard.{estimate_at, IsLeast}
use Rattle.votes.specs.declared.leaders.Leaders.{Leaders}

-- neither ballot comes before the other
abbrev pub alike : {B : Type 0} → (B → B → Bool) → B → B → Bool
alike earlier a b = not (earlier a b) && not (earlier b a)

abbrev pub holds : {B : Type 0} → (B → B → Bool) → B → Option B → Bool
holds earlier b None = false
holds earlier b (Some e) = alike earlier e b

-- the senders below n that have the ballot
unfoldable pub having : {B : Type 0} → (B → B → Bool) → List (Head B) → ℕ → ℕ → B → ℕ
having earlier hs n senders b = word_of n (λ i. bit senders i && holds earlier b (estimate_at hs i))

pub record Leads {B : Type 0} (earlier : B → B → Bool) (hs : List (Head B)) (n senders : ℕ) (l : Leaders B) : Type 0 where
  pub least : IsLeast earlier hs senders 64 (Some l.least)
  pub leaders : l.leaders ≡ having earlier hs n senders l.least
  pub others : l.others ≡ word_of 64 (λ i. bit senders i && not (bit l.leaders i))
  pub enrolled : (i : ℕ) → i < 64 → bit senders i ≡ true → i < n

-- they lead some number of heads and some senders
abbrev pub LeadsIn : {B : Type 0} → (B → B → Bool) → List (Head B) → Leaders B → Type 0
LeadsIn earlier hs l = (n : ℕ) × (senders : ℕ) × (n ≤ length hs) × Leads earlier hs n senders l

-- a hear word has leaders and others alone, and at least one leader
pub record Led (word leaders others : ℕ) : Type 0 where
  pub inside : (i : ℕ) → i < 64 → bit word i ≡ true → (bit leaders i ≡ true) ⊎ (bit others i ≡ true)
  pub hit : (i : ℕ) × (i < 64) × (bit word i ≡ true) × (bit leaders i ≡ true)
