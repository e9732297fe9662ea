-- One record played: what the calls of the vote answered is what the file's definitions say.
use Rattle.std.proofs.Common.{◌≡◌, ℕ, zero, suc, ◌+◌, ◌<◌, ◌≤◌, Bool, true, false, cond, leb, List, [], ◌∷◌, ◌++◌, length, IsErr, Some, None, Ok, Err, Option, Result, sym, refl, ap, ◌∙◌, subst, ap₂, arith, length-append}
use Rattle.std.proofs.lemmas.Bool.{true≢false, le-leb, lt-leb}
use Rattle.recordings.specs.declared.faults.FileFault.{FileFault}
use Rattle.ballots.specs.Faults.{Breach}
use Rattle.heads.specs.declared.head.Head.{Head}
use Rattle.heads.specs.Rules.{Scheme}
use Rattle.votes.specs.declared.stages.Figures.{Figures}
use Rattle.votes.specs.declared.stages.OpenRound.{OpenRound}
use Rattle.votes.specs.declared.stages.Vote.{Vote}
use Rattle.votes.specs.Rounds.{Report, senders, after}
use Rattle.votes.specs.Calls.{Answer, Begun, Opened, opened_as, unless, changed, open_breach, opened, hear_breach, heard, heard_table, figures_of}
use Rattle.votes.specs.Calls.Answer.{done, refused}
use Rattle.recordings.specs.Files.{Located, Progress, advanced, played_round, played_from, round_size, round_breach, turns_at, report_at, play_breach, records_after, figures_after, played_one}
use Rattle.recordings.specs.Files.Progress.{going, ended}
use Rattle.recordings.specs.Into.{RoundsTo}

-- an answer without what was handed back
abbrev pub forget : {A R : Type 0} → Answer A R → Answer A (Unit {0})
forget (done a) = done a
forget (refused b x) = refused b tt

pub forget_unless : {A R : Type 0} (o : Option Breach) (a : A) (x : R) → forget (unless o a x) ≡ unless o a tt
forget_unless None a x = refl
forget_unless (Some b) a x = refl

zero_one : {A R : Type 0} (a : A) (b : Breach) (x : R) → done a ≡ refused b x → ⊥
zero_one a b x e = let z : ◌≡◌ {A = ℕ} 0 1 = cc in omega arith

-- what an accepted answer says, and what a refused one does
pub unless_done : {A R : Type 0} (o : Option Breach) (a new : A) (x : R) → done a ≡ unless o new x → (o ≡ None) × (a ≡ new)
unless_done None a new x e = (refl, cc)
unless_done (Some b) a new x e = absurd (zero_one a b x e)

pub unless_refused : {A R : Type 0} (o : Option Breach) (b : Breach) (new : A) (x y : R) → refused b y ≡ unless o new x → o ≡ Some b
unless_refused None b new x y e = absurd (zero_one new b y (sym e))
unless_refused (Some c) b new x y e = let s : c ≡ b = cc in ap Some s

module _ {V B : Type 0} (earlier : B → B → Bool) (s : Scheme B) (v : Vote V) (bytes : List ℕ) (at : ℕ) (hs : List (Head B)) where
  abbrev round : ℕ
  round = v.heard + 1

  abbrev turns : ℕ
  turns = turns_at bytes at

  abbrev broken : Option Breach
  broken = play_breach earlier s v.n bytes at round hs

  -- the record is damaged
  pub by_record : (b : Breach) → round_breach bytes at v.n ≡ Some b → broken ≡ Some b
  unfolding play_breach
  by_record b e = rw e

  -- the opening is refused
  pub by_opening : (b : Breach) → round_breach bytes at v.n ≡ None → open_breach v.n round hs turns ≡ Some b → broken ≡ Some b
  unfolding play_breach
  by_opening b e f = rw (e, f)

  -- the hearing decides
  by_hearing : round_breach bytes at v.n ≡ None → open_breach v.n round hs turns ≡ None
      → broken ≡ hear_breach s v.n round (senders s round hs v.n turns) hs (report_at bytes at v.n)
  unfolding play_breach
  by_hearing e f = rw (e, f)

  pub refused_one : (b : Breach) → broken ≡ Some b → refused b tt ≡ played_one earlier s v bytes at hs
  refused_one b e = rw e

  pub refused_table : (b : Breach) → broken ≡ Some b → hs ≡ changed broken (records_after earlier s v.n bytes at round hs) hs
  refused_table b e = rw e

  module _ (o : OpenRound V) (whole : round_breach bytes at v.n ≡ None) (open_done : done (opened_as o) ≡ opened s v hs turns) where
    abbrev plan : Opened V
    plan = record { n = v.n; heard = v.heard; method = v.method; senders = senders s round hs v.n turns; spent = false }

    parts : (open_breach v.n round hs turns ≡ None) × (opened_as o ≡ plan)
    parts = unless_done (open_breach v.n round hs turns) (opened_as o) plan v open_done

    abbrev q : Report
    q = report_at bytes at v.n

    answer_as : Opened V → Answer (Begun V × Figures) (Unit {0})
    answer_as x =
        unless (hear_breach s x.n (x.heard + 1) x.senders hs q)
        (record { n = x.n; heard = x.heard + 1; method = x.method }, figures_of x.n (x.heard + 1) x.senders q.alarms (after earlier s x.n x.senders (x.heard + 1) hs q))
        tt

    pub heard_one : forget (heard earlier s o hs q) ≡ played_one earlier s v bytes at hs
    unfolding answer_as figures_after records_after
    heard_one =
        forget_unless (hear_breach s o.n (o.heard + 1) o.senders hs q) _ o ∙ ap answer_as parts.1
        ∙ ap (λ b. unless b (record { n = v.n; heard = round; method = v.method }, figures_after earlier s v.n bytes at round hs) tt) (sym (by_hearing whole parts.0))

    table_as : Opened V → List (Head B)
    table_as x = changed (hear_breach s x.n (x.heard + 1) x.senders hs q) (after earlier s x.n x.senders (x.heard + 1) hs q) hs

    pub table_heard : heard_table earlier s o hs q ≡ changed broken (records_after earlier s v.n bytes at round hs) hs
    unfolding table_as records_after
    table_heard =
        ap table_as parts.1 ∙ ap (λ b. changed b (records_after earlier s v.n bytes at round hs) hs) (sym (by_hearing whole parts.0))

-- ---- one record after another

module _ {B : Type 0} (earlier : B → B → Bool) (s : Scheme B) (n : ℕ) (bytes : List ℕ) where
  pub played_end : (k at : ℕ) (p : Progress B) → length bytes ≤ at → played_from earlier s n bytes k at p ≡ p
  unfolding played_from
  played_end zero at p h = refl
  played_end (suc k) at p h = let e = le-leb (length bytes) at h in rw e

  pub played_more : (k at : ℕ) (p : Progress B) → at < length bytes
      → played_from earlier s n bytes (suc k) at p ≡ played_from earlier s n bytes k (at + round_size n) (played_round earlier s n bytes at p)
  unfolding played_from
  played_more k at p h = let e = lt-leb (length bytes) at h in rw e

  -- a fault ends the playing
  pub played_ended : (k at : ℕ) (figures : List Figures) (fault : Located) → played_from earlier s n bytes k at (ended figures fault) ≡ ended figures fault
  unfolding played_from
  played_ended zero at figures fault = refl
  played_ended (suc k) at figures fault = either (leb (length bytes) at) (played_ended k (at + round_size n) figures fault)
    where
      either : (t : Bool) {x y : Progress B} → y ≡ x → cond t x y ≡ x
      either true e = refl
      either false e = e

  -- a round that is heard, and one that is refused
  pub round_heard : (at round : ℕ) (figures : List Figures) (hs : List (Head B)) → round ≡ length figures + 1 → play_breach earlier s n bytes at round hs ≡ None
      → played_round earlier s n bytes at (going figures hs) ≡ going (figures ++ (figures_after earlier s n bytes at round hs ∷ [])) (records_after earlier s n bytes at round hs)
  round_heard at round figures hs e none =
      ap (λ (r : ℕ). advanced (play_breach earlier s n bytes at r hs) at figures (figures_after earlier s n bytes at r hs) (records_after earlier s n bytes at r hs)) (sym e)
      ∙ ap (λ b. advanced b at figures (figures_after earlier s n bytes at round hs) (records_after earlier s n bytes at round hs)) none

  pub round_refused : (at round : ℕ) (figures : List Figures) (hs : List (Head B)) (b : Breach) → round ≡ length figures + 1 → play_breach earlier s n bytes at round hs ≡ Some b
      → played_round earlier s n bytes at (going figures hs) ≡ ended figures (record { byte = at; breach = b })
  round_refused at round figures hs b e broken =
      ap (λ (r : ℕ). advanced (play_breach earlier s n bytes at r hs) at figures (figures_after earlier s n bytes at r hs) (records_after earlier s n bytes at r hs)) (sym e)
      ∙ ap (λ x. advanced x at figures (figures_after earlier s n bytes at round hs) (records_after earlier s n bytes at round hs)) broken

-- the loop's turns, at a vote v in which as many rounds are heard as there are figures
module _ {V B : Type 0} (earlier : B → B → Bool) (s : Scheme B) (v : Vote V) (bytes : List ℕ) (at : ℕ) (figures : List Figures) (hs : List (Head B))
    (counted : v.heard ≡ length figures) (inside : at < length bytes) where
  pub record Turn (next : Begun V) (new : Figures) (table : List (Head B)) (n : ℕ) : Type 0 where
    pub same : next.n ≡ n
    pub more : next.heard ≡ length (figures ++ (new ∷ []))
    pub goes : (k : ℕ) → played_from earlier s n bytes (suc k) at (going figures hs) ≡ played_from earlier s n bytes k (at + round_size n) (going (figures ++ (new ∷ [])) table)

  pub turn_heard : (next : Begun V) (new : Figures) (table : List (Head B)) → done (next, new) ≡ played_one earlier s v bytes at hs
      → table ≡ changed (play_breach earlier s v.n bytes at (v.heard + 1) hs) (records_after earlier s v.n bytes at (v.heard + 1) hs) hs
      → (n : ℕ) → v.n ≡ n → Turn next new table n
  turn_heard next new table answer tables n e =
      let both = unless_done (play_breach earlier s v.n bytes at (v.heard + 1) hs) (next, new) _ tt answer in
      let told : new ≡ figures_after earlier s v.n bytes at (v.heard + 1) hs = ap (λ (x : Begun V × Figures). x.1) both.1 in
      let kept : table ≡ records_after earlier s v.n bytes at (v.heard + 1) hs =
      tables ∙ ap (λ b. changed b (records_after earlier s v.n bytes at (v.heard + 1) hs) hs) both.0 in
      subst (Turn next new table) e (record {
        same = ap (λ (x : Begun V × Figures). x.0.n) both.1;
        more = ap (λ (x : Begun V × Figures). x.0.heard) both.1 ∙ ap (λ (k : ℕ). k + 1) counted ∙ sym (length-append figures (new ∷ []));
        goes = λ k. played_more earlier s v.n bytes k at (going figures hs) inside
            ∙ ap (played_from earlier s v.n bytes k (at + round_size v.n))
            (round_heard earlier s v.n bytes at (v.heard + 1) figures hs (ap (λ (k : ℕ). k + 1) counted) both.0
            ∙ ap₂ (λ f t. going (figures ++ (f ∷ [])) t) (sym told) (sym kept));
      })

  pub turn_refused : (b : Breach) → refused b tt ≡ played_one earlier s v bytes at hs → (n : ℕ) → v.n ≡ n
      → (k : ℕ) → played_from earlier s n bytes (suc k) at (going figures hs) ≡ ended figures (record { byte = at; breach = b })
  turn_refused b answer n e =
      let broken = unless_refused (play_breach earlier s v.n bytes at (v.heard + 1) hs) b _ tt tt answer in
      subst (λ (m : ℕ). (k : ℕ) → played_from earlier s m bytes (suc k) at (going figures hs) ≡ ended figures (record { byte = at; breach = b })) e
      (λ k. played_more earlier s v.n bytes k at (going figures hs) inside
      ∙ ap (played_from earlier s v.n bytes k (at + round_size v.n))
      (round_refused earlier s v.n bytes at (v.heard + 1) figures hs b (ap (λ (k : ℕ). k + 1) counted) broken)
      ∙ played_ended earlier s v.n bytes k (at + round_size v.n) figures (record { byte = at; breach = b }))

-- ---- where a sink stops

pub rounds_stopped : {S F B : Type 0} (takes stops : S → List Figures → S → Type 0) (p : Progress B) (s t : S) (hs : List (Head B)) (r : Result (Result (Unit {0}) FileFault) F) → IsErr r
    → (figures : List Figures) → length figures ≤ 10000 → stops s figures t → RoundsTo takes stops p s r t hs
rounds_stopped takes stops p s t hs (Ok ending) e figures most h = absurd (true≢false (sym e))
rounds_stopped takes stops p s t hs (Err e) _ figures most h = (figures, (most, h))
