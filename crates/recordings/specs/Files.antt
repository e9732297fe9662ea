-- A vote file: its records, and what playing it tells.
use Rattle.std.specs.Prelude.{◌≡◌, ℕ, zero, suc, ◌+◌, ◌*◌, ◌≤◌, Bool, cond, not, ◌&&◌, List, [], ◌∷◌, ◌++◌, map, length, Some, None, Ok, Err, vec_items, Option, Result, ◌==◌, nat_le, nat_lt, slice_index}
use Rattle.std.specs.List.{range_with_len}
use Rattle.sets.specs.Search.{when, or_else, first}
use Rattle.ballots.specs.Faults.{Breach, numbered}
use Rattle.heads.specs.declared.head.Head.{Head}
use Rattle.heads.specs.declared.head.State.{State}
use Rattle.heads.specs.declared.head.State.TheVariants.{Running, Decided, Stopped}
use Rattle.heads.specs.Rules.{Scheme, fresh}
use Rattle.heads.specs.Rules.Scheme.{short, bitwise, split}
use Rattle.ballots.specs.contracts.recipe.RecipeBallot.TheImpl.{ghosts as recipeOrder}
use Rattle.ballots.specs.contracts.recipe.RecipeCoded.TheImpl.{ghosts as recipeCode}
use Rattle.ballots.specs.contracts.ticket.TicketBallot.TheImpl.{ghosts as ticketOrder}
use Rattle.ballots.specs.contracts.ticket.TicketCoded.TheImpl.{ghosts as ticketCode}
use Rattle.votes.specs.declared.stages.Figures.{Figures}
use Rattle.votes.specs.Faults.{vote_breach}
use Rattle.votes.specs.Rounds.{Report, senders, after}
use Rattle.votes.specs.Calls.{Answer, Begun, begun_as, unless, open_breach, hear_breach, figures_of}
use Rattle.votes.specs.Calls.Answer.{done, refused}
use Rattle.votes.specs.declared.stages.HeardRound.{HeardRound}
use Rattle.votes.specs.declared.stages.Roll.{Roll}
use Rattle.votes.specs.declared.stages.Vote.{Vote}
use Rattle.recordings.specs.declared.faults.RecordFault.{RecordFault}
use Rattle.recordings.specs.declared.faults.RecordFault.TheVariants as fault
use Rattle.recordings.specs.declared.faults.FileFault.{FileFault}
use Rattle.recordings.specs.declared.listing.Outcome.{Outcome}
use Rattle.recordings.specs.declared.listing.Outcome.TheVariants as outcome
use Rattle.recordings.specs.declared.listing.Told.{Told}
use Rattle.std.specs.Global.{Vec}
use Rattle.recordings.specs.declared.file.File.{File}
use Rattle.recordings.specs.declared.kinds.VoteKind.{VoteKind}
use Rattle.recordings.specs.declared.kinds.VoteKind.TheVariants as vote
use Rattle.recordings.specs.declared.kinds.BallotKind.{BallotKind}
use Rattle.recordings.specs.declared.kinds.BallotKind.TheVariants as kind
use Rattle.recordings.specs.Bytes.{number, words_at, marked}

-- ---- faults

-- a broken rule, and the byte where the record starts that breaks it
pub record Located : Type 0 where
  pub byte : ℕ
  pub breach : Breach

abbrev pub record_breach : RecordFault → Breach
record_breach (fault.Vote f) = vote_breach f
record_breach fault.Ends = numbered 20
record_breach fault.Mark = numbered 21
record_breach fault.Header = numbered 22

abbrev pub file_breach : FileFault → Located
file_breach f = record { byte = f.byte; breach = record_breach f.fault }

-- ---- the header: mark 0x56 0x48, the vote, the kind, n, and n codes of two bytes

abbrev pub vote_byte : List ℕ → ℕ
vote_byte bytes = slice_index bytes 2

abbrev pub kind_byte : List ℕ → ℕ
kind_byte bytes = slice_index bytes 3

abbrev pub head_count : List ℕ → ℕ
head_count bytes = slice_index bytes 4

-- votes 1 to 3, kinds 1 and 2, heads 1 to 64
abbrev pub in_range : ℕ → ℕ → ℕ → Bool
in_range v k n = (nat_le 1 v && nat_le v 3) && ((nat_le 1 k && nat_le k 2) && (nat_le 1 n && nat_le n 64))

unfoldable pub header_breach : List ℕ → Option Breach
header_breach bytes =
    or_else (when (nat_lt (length bytes) 5) (numbered 20))
    (or_else (when (not (marked 0x56 0x48 bytes 0)) (numbered 21))
    (when (not (in_range (vote_byte bytes) (kind_byte bytes) (head_count bytes))) (numbered 22)))

-- the code of head i
abbrev pub code_at : List ℕ → ℕ → ℕ
code_at bytes i = number 2 bytes (5 + 2 * i)

-- the code of head i is no ballot's
abbrev pub strange : {B : Type 0} → (B → ℕ) → (ℕ → B) → List ℕ → ℕ → Option Breach
strange encoded decoded bytes i = when (not (encoded (decoded (code_at bytes i)) == code_at bytes i)) (numbered 1)

-- all codes are there, and each is a ballot's
unfoldable pub codes_breach : {B : Type 0} → (B → ℕ) → (ℕ → B) → List ℕ → ℕ → Option Breach
codes_breach encoded decoded bytes n =
    or_else (when (nat_lt (length bytes) (5 + 2 * n)) (numbered 20)) (first (strange encoded decoded bytes) n)

-- the heads as they are enrolled
unfoldable pub enrolled_from : {B : Type 0} → (ℕ → B) → List ℕ → ℕ → List (Head B)
enrolled_from decoded bytes n = map (λ i. fresh (decoded (code_at bytes i))) (range_with_len 0 n)

-- ---- a round: mark 0x52 0x44, turns, stops, alarms and n hear words of eight bytes

abbrev pub round_size : ℕ → ℕ
round_size n = 26 + 8 * n

abbrev pub turns_at : List ℕ → ℕ → ℕ
turns_at bytes at = number 8 bytes (at + 2)

abbrev pub report_at : List ℕ → ℕ → ℕ → Report
report_at bytes at n = record { words = words_at bytes (at + 26) n; alarms = number 8 bytes (at + 18); stops = number 8 bytes (at + 10) }

abbrev pub round_breach : List ℕ → ℕ → ℕ → Option Breach
round_breach bytes at n =
    or_else (when (nat_lt (length bytes) (at + round_size n)) (numbered 20))
    (when (not (marked 0x52 0x44 bytes at)) (numbered 21))

-- ---- playing

-- the figures so far, and the heads' records, or the fault that ended it
pub data Progress (B : Type 0) : Type 0 where
  going : List Figures → List (Head B) → Progress B
  ended : List Figures → Located → Progress B

-- a fault ends the playing, with the byte where the record starts
abbrev pub advanced : {B : Type 0} → Option Breach → ℕ → List Figures → Figures → List (Head B) → Progress B
advanced (Some breach) at figures new hs = ended figures (record { byte = at; breach = breach })
advanced None at figures new hs = going (figures ++ (new ∷ [])) hs

module _ {B : Type 0} (earlier : B → B → Bool) (s : Scheme B) (n : ℕ) (bytes : List ℕ) where
  -- the rule that the record at a place breaks, in the round of that number
  unfoldable pub play_breach : ℕ → ℕ → List (Head B) → Option Breach
  play_breach at round hs =
      or_else (round_breach bytes at n)
      (or_else (open_breach n round hs (turns_at bytes at))
      (hear_breach s n round (senders s round hs n (turns_at bytes at)) hs (report_at bytes at n)))

  unfoldable pub records_after : ℕ → ℕ → List (Head B) → List (Head B)
  records_after at round hs = after earlier s n (senders s round hs n (turns_at bytes at)) round hs (report_at bytes at n)

  unfoldable pub figures_after : ℕ → ℕ → List (Head B) → Figures
  figures_after at round hs =
      figures_of n round (senders s round hs n (turns_at bytes at)) (number 8 bytes (at + 18)) (records_after at round hs)

  -- one record
  abbrev pub played_round : ℕ → Progress B → Progress B
  played_round at (ended figures fault) = ended figures fault
  played_round at (going figures hs) =
      advanced (play_breach at (length figures + 1) hs) at figures (figures_after at (length figures + 1) hs) (records_after at (length figures + 1) hs)

  -- the records from a place on, one after another while bytes are left; k of them at most
  unfoldable pub played_from : ℕ → ℕ → Progress B → Progress B
  played_from zero at p = p
  played_from (suc k) at p = cond (nat_le (length bytes) at) p (played_from k (at + round_size n) (played_round at p))

-- the progress in which a fault, if there is one, ended the playing
abbrev pub ended_by : {B : Type 0} → Result (Unit {0}) FileFault → List Figures → List (Head B) → Progress B
ended_by (Ok u) figures hs = going figures hs
ended_by (Err f) figures hs = ended figures (file_breach f)

-- ---- what playing one record answers

abbrev pub checked : {A : Type 0} → Result A RecordFault → Option Breach
checked (Ok a) = None
checked (Err fault) = Some (record_breach fault)

abbrev pub play_answer : {V : Type 0} → Result (HeardRound V) RecordFault → Answer (Begun V × Figures) (Unit {0})
play_answer (Ok h) = done (begun_as h.vote, h.figures)
play_answer (Err fault) = refused (record_breach fault) tt

abbrev pub played_one : {V B : Type 0} → (B → B → Bool) → Scheme B → Vote V → List ℕ → ℕ → List (Head B) → Answer (Begun V × Figures) (Unit {0})
played_one earlier s v bytes at hs =
    unless (play_breach earlier s v.n bytes at (v.heard + 1) hs)
    (record { n = v.n; heard = v.heard + 1; method = v.method }, figures_after earlier s v.n bytes at (v.heard + 1) hs)
    tt

-- ---- the listing

abbrev pub outcome_as : State → ℕ → Outcome
outcome_as Running code = outcome.Running
outcome_as Decided code = outcome.Decided code
outcome_as Stopped code = outcome.Stopped

abbrev pub outcome_of : {B : Type 0} → (B → ℕ) → Head B → Outcome
outcome_of encoded h = outcome_as h.state (encoded h.estimate)

pub record Played : Type 0 where
  pub rounds : List Figures
  pub ending : Result (List Outcome) Located

abbrev pub ending_as : {E F : Type 0} → Result E F → (E → List Outcome) → (F → Located) → Result (List Outcome) Located
ending_as (Ok x) f g = Ok (f x)
ending_as (Err e) f g = Err (g e)

abbrev pub listing_as : Told (Vec Figures) (Vec Outcome) → Played
listing_as l = record { rounds = vec_items l.rounds; ending = ending_as l.ending vec_items file_breach }

abbrev pub told : {B : Type 0} → (B → ℕ) → Progress B → Played
told encoded (ended figures fault) = record { rounds = figures; ending = Err fault }
told encoded (going figures hs) = record { rounds = figures; ending = Ok (map (outcome_of encoded) hs) }

-- a fault of the header ends the playing before any round
abbrev pub started_by : {B : Type 0} → Option Breach → Progress B → Progress B
started_by (Some breach) p = ended [] (record { byte = 0; breach = breach })
started_by None p = p

-- the file of a vote of n heads by one method, with ballots of one kind; it has fewer rounds than bytes
unfoldable pub progress_of : {B : Type 0} → (B → B → Bool) → (B → ℕ) → (ℕ → B) → Scheme B → ℕ → List ℕ → Progress B
progress_of earlier encoded decoded s n bytes =
    started_by (codes_breach encoded decoded bytes n)
    (played_from earlier s n bytes (length bytes) (5 + 2 * n) (going [] (enrolled_from decoded bytes n)))

abbrev pub played_as : {B : Type 0} → (B → B → Bool) → (B → ℕ) → (ℕ → B) → Scheme B → ℕ → List ℕ → Played
played_as earlier encoded decoded s n bytes = told encoded (progress_of earlier encoded decoded s n bytes)

-- ---- the whole file

abbrev pub vote_of : ℕ → VoteKind
vote_of byte = cond (byte == 1) vote.Short (cond (byte == 2) vote.Bit vote.Split)

abbrev pub kind_of : ℕ → BallotKind
kind_of byte = cond (byte == 1) kind.Recipe kind.Ticket

abbrev pub scheme_of : {B : Type 0} → VoteKind → ℕ → (B → ℕ) → (ℕ → B) → Scheme B
scheme_of vote.Short w encoded decoded = short
scheme_of vote.Bit w encoded decoded = bitwise w encoded
scheme_of vote.Split w encoded decoded = split w encoded decoded

unfoldable pub played_kind : BallotKind → VoteKind → ℕ → List ℕ → Played
played_kind kind.Recipe v n bytes =
    played_as recipeOrder.earlier recipeCode.encoded recipeCode.decoded (scheme_of v recipeCode.W recipeCode.encoded recipeCode.decoded) n bytes
played_kind kind.Ticket v n bytes =
    played_as ticketOrder.earlier ticketCode.encoded ticketCode.decoded (scheme_of v ticketCode.W ticketCode.encoded ticketCode.decoded) n bytes

abbrev pub unless_header : Option Breach → Played → Played
unless_header (Some breach) p = record { rounds = []; ending = Err (record { byte = 0; breach = breach }) }
unless_header None p = p

-- what playing the bytes of a vote file tells
unfoldable pub played : List ℕ → Played
played bytes = unless_header (header_breach bytes) (played_kind (kind_of (kind_byte bytes)) (vote_of (vote_byte bytes)) (head_count bytes) bytes)

-- the first five bytes as they were read
pub record Named (bytes : List ℕ) (f : File) : Type 0 where
  pub sound : header_breach bytes ≡ None
  pub source : f.bytes.now ≡ bytes
  pub vote : f.vote ≡ vote_of (vote_byte bytes)
  pub kind : f.kind ≡ kind_of (kind_byte bytes)
  pub heads : f.heads ≡ head_count bytes

abbrev pub FileOf : List ℕ → Result File RecordFault → Type 0
FileOf bytes (Ok f) = Named bytes f
FileOf bytes (Err f) = header_breach bytes ≡ Some (record_breach f)

-- what enrolling the n heads answers, and the table after it
abbrev pub EnrolledOf : {B : Type 0} → (B → ℕ) → (ℕ → B) → List ℕ → ℕ → List (Head B) → Result Roll RecordFault → Type 0
EnrolledOf encoded decoded bytes n hs (Ok roll) =
    (roll.n ≡ n) × (first (strange encoded decoded bytes) n ≡ None) × (hs ≡ enrolled_from decoded bytes n)
EnrolledOf encoded decoded bytes n hs (Err f) = first (strange encoded decoded bytes) n ≡ Some (record_breach f)

-- what beginning the vote of a file answers, and the table after it
abbrev pub StartedOf : {V B : Type 0} → (B → ℕ) → (ℕ → B) → List ℕ → ℕ → List (Head B) → Result (Vote V) RecordFault → Type 0
StartedOf encoded decoded bytes n hs (Ok vote) =
    ((vote).n ≡ n) × ((vote).heard ≡ 0) × (codes_breach encoded decoded bytes n ≡ None) × (hs ≡ enrolled_from decoded bytes n) × (5 + 2 * n ≤ length bytes)
StartedOf encoded decoded bytes n hs (Err f) = codes_breach encoded decoded bytes n ≡ Some (record_breach f)
