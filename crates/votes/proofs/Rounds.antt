-- The two passes over the table are one round.
use Rattle.std.proofs.Common.{◌≡◌, ℕ, zero, suc, ◌+◌, Bool, true, false, cond, List, [], ◌∷◌, get_or, Some, sym, refl, ap, ◌∙◌, ap₂, arith}
use Rattle.std.proofs.lemmas.Bool.{true≢false}
use Rattle.sets.specs.Sets.{bit}
use Rattle.sets.proofs.Words.{bit_past}
use Rattle.heads.specs.declared.head.Ballots.{Ballots}
use Rattle.heads.specs.declared.head.Head.{Head}
use Rattle.heads.specs.declared.head.Heard.{Heard}
use Rattle.heads.specs.declared.head.State.{State}
use Rattle.heads.specs.declared.head.State.TheVariants.{Running, Decided, Stopped}
use Rattle.heads.specs.Rules.{Scheme, of_ballots, keeps}
use Rattle.heads.specs.Rules.Scheme.{short, bitwise, split}
use Rattle.heads.specs.Heard.{estimate_at, joined, ballots_below, ballots_of, no_ballots}
use Rattle.votes.specs.Tables.{rewrite, rewrite_from}
use Rattle.votes.specs.Rounds.{Report, stepped, step_at, after}
use Rattle.votes.specs.Passes.{with_ballots, noted, note_at, recalls, take_at}
use Rattle.votes.proofs.Rewrites.{rewrite_twice, rewrite_same}

-- tables with the same estimates bring the same ballots
pub ballots_same : {B : Type 0} (earlier : B → B → Bool) (xs ys : List (Head B)) (w n : ℕ) → ((k : ℕ) → estimate_at xs k ≡ estimate_at ys k)
    → ballots_below earlier xs w n ≡ ballots_below earlier ys w n
unfolding ballots_below
ballots_same earlier xs ys w zero same = refl
ballots_same earlier xs ys w (suc n) same =
    ap₂ (λ s e. cond (bit w n) (joined earlier s e) s) (ballots_same earlier xs ys w n same) (same n)

-- an empty hear word brings no ballot
pub no_one : {B : Type 0} (earlier : B → B → Bool) (hs : List (Head B)) (n : ℕ) → ballots_below earlier hs 0 n ≡ no_ballots
unfolding ballots_below
no_one earlier hs zero = refl
no_one earlier hs (suc n) = let e = bit_past 0 0 n (omega arith) (omega arith) in rw e (no_one earlier hs n)

-- noting ballots leaves the estimates
pub rewrite_estimate : {B : Type 0} (f : ℕ → Head B → Head B) → ((i : ℕ) (h : Head B) → (f i h).estimate ≡ h.estimate)
    → (i n : ℕ) (xs : List (Head B)) (k : ℕ) → estimate_at (rewrite_from f i n xs) k ≡ estimate_at xs k
unfolding rewrite_from
rewrite_estimate f keep i zero xs k = refl
rewrite_estimate f keep i (suc n) [] k = refl
rewrite_estimate f keep i (suc n) (x ∷ xs) zero = ap Some (keep i x)
rewrite_estimate f keep i (suc n) (x ∷ xs) (suc k) = rewrite_estimate f keep (i + 1) n xs k

noted_estimate : {B : Type 0} (stop : Bool) (ballots : Ballots B) (state : State) (h : Head B) → (noted stop ballots state h).estimate ≡ h.estimate
noted_estimate true ballots Running h = refl
noted_estimate false ballots Running h = refl
noted_estimate stop ballots Decided h = refl
noted_estimate stop ballots Stopped h = refl

pub note_at_estimate : {B : Type 0} (earlier : B → B → Bool) (hs : List (Head B)) (words : List ℕ) (stops : ℕ) (i : ℕ) (h : Head B)
    → (note_at earlier hs words stops i h).estimate ≡ h.estimate
note_at_estimate earlier hs words stops i h = noted_estimate (bit stops i) (ballots_of earlier hs (get_or words i 0)) h.state h

-- in a round of ballots a head's step does not go by the ballots of the round before
keeps_forgets : {B : Type 0} (s : Scheme B) (round : ℕ) (heard : Heard B) (ballots : Ballots B) (h : Head B) → of_ballots s round ≡ true
    → keeps s round heard (with_ballots ballots h) ≡ keeps s round heard h
keeps_forgets short round heard ballots h e = rw e
keeps_forgets (bitwise w code) round heard ballots h e = rw e
keeps_forgets (split w code back) round heard ballots h e = absurd (true≢false (sym e))

passes : {B : Type 0} (s : Scheme B) (senders round word : ℕ) (alarm stop : Bool) (ballots : Ballots B) (state : State) (h : Head B)
    → of_ballots s round ≡ true → h.state ≡ state
    → stepped s round stop (recalls s senders round word alarm (noted stop ballots state h).ballots) (noted stop ballots state h).state (noted stop ballots state h)
    ≡ stepped s round stop (recalls s senders round word alarm ballots) state h
passes s senders round word alarm true ballots Running h ob e = rw e
passes s senders round word alarm false ballots Running h ob e =
    ap (λ (st : State). stepped s round false (recalls s senders round word alarm ballots) st (with_ballots ballots h)) e
    ∙ keeps_forgets s round (recalls s senders round word alarm ballots) ballots h ob
passes s senders round word alarm stop ballots Decided h ob e = rw e
passes s senders round word alarm stop ballots Stopped h ob e = rw e

pass_one : {B : Type 0} (s : Scheme B) (senders round word : ℕ) (alarm stop : Bool) (ballots : Ballots B) (state : State) (h : Head B)
    → of_ballots s round ≡ false
    → stepped s round stop (recalls s senders round word alarm h.ballots) state h ≡ stepped s round stop (recalls s senders round word alarm ballots) state h
pass_one s senders round word alarm stop ballots state h e = rw e

pub one_round : {B : Type 0} (earlier : B → B → Bool) (s : Scheme B) (n senders round : ℕ) (hs : List (Head B)) (q : Report) (t : Bool) → of_ballots s round ≡ t
    → rewrite (take_at s senders round q) n (cond t (rewrite (note_at earlier hs q.words q.stops) n hs) hs) ≡ after earlier s n senders round hs q
unfolding after
one_round earlier s n senders round hs q true e =
    rewrite_twice (note_at earlier hs q.words q.stops) (take_at s senders round q) 0 n hs
    ∙ rewrite_same _ (step_at earlier s senders round hs q)
    (λ i h. passes s senders round (get_or q.words i 0) (bit q.alarms i) (bit q.stops i) (ballots_of earlier hs (get_or q.words i 0)) h.state h e refl) 0 n hs
one_round earlier s n senders round hs q false e =
    rewrite_same (take_at s senders round q) (step_at earlier s senders round hs q)
    (λ i h. pass_one s senders round (get_or q.words i 0) (bit q.alarms i) (bit q.stops i) (ballots_of earlier hs (get_or q.words i 0)) h.state h e) 0 n hs
