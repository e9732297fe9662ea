-- Heads in range.
use Rattle.std.proofs.Common.{◌≡◌, ℕ, ◌^◌, ◌<◌, true, nat_lt, sym, ◌∙◌, ⊎_elim}
use Rattle.std.proofs.lemmas.Bool.{and_parts, cases_lt, ltb-true, true≢false}
use Rattle.sets.specs.Sets.{bit}
use Rattle.sets.proofs.Words.{bit_past}
use Rattle.parts.specs.Ranges.{in_time, at_head}

pub head_below : (round head : ℕ) → at_head round head ≡ true → head < 64
head_below round head at = ltb-true head 64 (and_parts (in_time round) (nat_lt head 64) at).1

-- only heads below 64 send
pub sender_below : (senders i : ℕ) → senders < 2 ^ 64 → bit senders i ≡ true → i < 64
sender_below senders i few sends = ⊎_elim (λ l. l) (λ past. absurd (true≢false (sym sends ∙ bit_past 64 senders i few past))) (cases_lt i 64)
