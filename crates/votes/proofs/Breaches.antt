-- The check of a report, head by head.
use Rattle.std.proofs.Common.{◌≡◌, ℕ, ◌+◌, ◌<◌, Bool, true, false, not, ◌&&◌, ◌||◌, List, get_or, is_err, Ok, Err, None, Option, Result, sym, refl, ap, ◌∙◌, arith}
use Rattle.std.proofs.lemmas.Bool.{true≢false, or_parts}
use Rattle.sets.specs.Search.{or_else, first}
use Rattle.sets.specs.Sets.{bit}
use Rattle.sets.proofs.Searches.{left, left_step, left_skip, left_all, when_false, or_else_next}
use Rattle.sets.proofs.Words.{bit_none}
use Rattle.ballots.specs.Faults.{Breach}
use Rattle.heads.specs.Rules.{Scheme, due, false_alarm, strict}
use Rattle.votes.specs.declared.faults.VoteFault.{VoteFault}
use Rattle.votes.specs.declared.round.Reception.{Reception}
use Rattle.votes.specs.Rounds.{sent, heard_of, stranger, breach_of, breach_at}
use Rattle.votes.specs.Calls.{breach_in}

-- the check of a head by what was read for it
pub here : {B : Type 0} (s : Scheme B) (runners senders round : ℕ) (words : List ℕ) (alarms i : ℕ) (r : Reception)
    → r ≡ record { head = i; runs = bit runners i; word = get_or words i 0; alarm = bit alarms i }
    → breach_at s runners senders round words alarms i ≡ breach_of s senders round r.runs r.word r.alarm i
here s runners senders round words alarms i r e = rw e

-- a word that has senders alone
pub no_stranger : (senders round word i : ℕ) → ((j : ℕ) → j < 64 → (bit word j && not (bit senders j)) ≡ false)
    → first (stranger senders round word i) 64 ≡ None
no_stranger senders round word i none =
    left_all _ f 64 64 (omega arith) (left_skip f 64 0 64 (omega arith) (λ j h. when_false _ _ (none (0 + j) (omega arith))))
  where
    f : ℕ → Option Breach
    f = stranger senders round word i

some_first : {A : Type 0} (r : Result A VoteFault) (b : Option Breach) → is_err r ≡ true → or_else (breach_in r) b ≡ breach_in r
some_first (Err f) b e = refl
some_first (Ok a) b e = absurd (true≢false (sym e))

-- a search that finds what a check found
pub left_fault : {A : Type 0} (w : Option Breach) (f : ℕ → Option Breach) (n i : ℕ) (r : Result A VoteFault) → i < n → is_err r ≡ true → f i ≡ breach_in r → w ≡ left f n i → w ≡ breach_in r
left_fault w f n i r h s e p = p ∙ left_step f n i h ∙ ap (λ x. or_else x (left f n (i + 1))) e ∙ some_first r (left f n (i + 1)) s

-- a check that found nothing
pub ok_is : (r : Result (Unit {0}) VoteFault) → is_err r ≡ false → r ≡ Ok tt
ok_is (Ok tt) e = refl
ok_is (Err f) e = absurd (true≢false e)

-- ---- a head that hears nothing, and neither runs nor sends nor is alarmed, breaks no rule

pub not_is : (b : Bool) → not b ≡ true → b ≡ false
not_is true e = absurd (true≢false (sym e))
not_is false e = refl

and_none : (b : Bool) → (b && false) ≡ false
and_none true = refl
and_none false = refl

pub out : {B : Type 0} (s : Scheme B) (senders round : ℕ) (runs alarm : Bool) (i : ℕ)
    → runs ≡ false → (bit senders i || alarm) ≡ false → breach_of s senders round runs 0 alarm i ≡ None
out s senders round runs alarm i d e =
    let p = or_parts (bit senders i) alarm e in
    let none_heard = λ (j : ℕ) (h : j < 64). ap (λ (x : Bool). x && not (bit senders j)) (bit_none j) in
    or_else_next _ _ (when_false _ _ (ap (λ (x : Bool). not runs && x) p.1 ∙ and_none (not runs)))
    ∙ or_else_next _ _ (no_stranger senders round 0 i none_heard)
    ∙ or_else_next _ _ (when_false _ _ (ap (λ (x : Bool). x && not (bit 0 i)) p.0))
    ∙ or_else_next _ _ (when_false _ _ (ap (λ (x : Bool). x && (due s (sent senders) (heard_of senders 0) && not alarm)) d))
    ∙ when_false _ _ (ap (λ (x : Bool). strict s && (x && false_alarm (sent senders) (heard_of senders 0))) p.1 ∙ and_none (strict s))
