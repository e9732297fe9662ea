-- What a driving answers, and what it leaves.
use Rattle.std.specs.Prelude.{ℕ, ◌+◌, Bool, cond, ◌&&◌, List, map, Ok, Err, Option, Result}
use Rattle.std.specs.List.{range_with_len}
use Rattle.sets.specs.Search.{or_else}
use Rattle.sets.specs.Sets.{bit, word_of}
use Rattle.ballots.specs.Faults.{Breach}
use Rattle.heads.specs.declared.head.Head.{Head}
use Rattle.heads.specs.Rules.{Scheme}
use Rattle.parts.specs.Channels as channels
use Rattle.parts.specs.Detectors as detectors
use Rattle.parts.specs.Managers as managers
use Rattle.votes.specs.declared.faults.Refused.{Refused}
use Rattle.votes.specs.declared.stages.Vote.{Vote}
use Rattle.votes.specs.declared.stages.Figures.{Figures}
use Rattle.votes.specs.declared.stages.HeardRound.{HeardRound}
use Rattle.votes.specs.Faults.{vote_breach}
use Rattle.votes.specs.Tables.{running, lowest_idle}
use Rattle.votes.specs.Rounds.{Report, senders, sent, heard_of, report_breach, after}
use Rattle.votes.specs.Calls.{Answer, done, refused, unless, changed, Begun, begun_as, at_lowest, short_table, word_count, open_breach, figures_of}

-- the parts that a round is driven by, each by its rule
pub record Parts : Type 0 where
  pub channel : channels.Meaning
  pub detector : detectors.Meaning
  pub manager : managers.Meaning

-- the word that the channel gives a running head; none for another
abbrev pub word_for : channels.Meaning → ℕ → ℕ → ℕ → ℕ → ℕ
word_for channel round runners sending i = cond (bit runners i) (channel.rule round i sending) 0

-- whether the detector alarms a running head that heard that word; not one that does not run
abbrev pub alarm_for : detectors.Meaning → ℕ → ℕ → ℕ → ℕ → ℕ → Bool
alarm_for detector round runners sending word i = bit runners i && detector.rule round i (sent sending) (heard_of sending word)

-- a driving: the vote's rules, its number of heads and rounds heard, the table, the stops and the parts
pub record Driving (B : Type 0) : Type 0 where
  pub scheme : Scheme B
  pub n : ℕ
  pub heard : ℕ
  pub table : List (Head B)
  pub stops : ℕ
  pub parts : Parts

module _ {B : Type 0} (d : Driving B) where
  abbrev pub round : ℕ
  round = d.heard + 1

  abbrev pub runners : ℕ
  runners = running d.table d.n

  -- the turns that the contention manager gives, and the heads that then send
  abbrev pub turns : ℕ
  turns = d.parts.manager.rule round runners

  abbrev pub sending : ℕ
  sending = senders d.scheme round d.table d.n turns

  abbrev pub word : ℕ → ℕ
  word i = word_for d.parts.channel round runners sending i

  abbrev pub alarm : ℕ → Bool
  alarm i = alarm_for d.parts.detector round runners sending (word i) i

  unfoldable pub words : List ℕ
  words = map word (range_with_len 0 d.n)

  unfoldable pub alarms : ℕ
  alarms = word_of d.n alarm

  -- the report that the parts spell
  abbrev pub report : Report
  report = record { words = words; alarms = alarms; stops = d.stops }

  -- the checks before the channel is asked
  unfoldable pub early_breach : List ℕ → Option Breach
  early_breach list =
      or_else (short_table d.n d.table)
      (or_else (word_count d.n round list)
      (or_else (open_breach d.n round d.table turns)
      (at_lowest 9 round (lowest_idle d.stops runners))))

  abbrev pub drive_breach : List ℕ → Option Breach
  drive_breach list = or_else (early_breach list) (report_breach d.scheme runners sending round words alarms)

  -- the table after it, and the list: the channel's words, once it was asked
  abbrev pub driven_table : (B → B → Bool) → List ℕ → List (Head B)
  driven_table earlier list = changed (drive_breach list) (after earlier d.scheme d.n sending round d.table report) d.table

  abbrev pub driven_list : List ℕ → List ℕ
  driven_list list = changed (early_breach list) words list

abbrev pub driving : {V B : Type 0} → Scheme B → Vote V → List (Head B) → ℕ → Parts → Driving B
driving s vote hs stops parts = record { scheme = s; n = vote.n; heard = vote.heard; table = hs; stops = stops; parts = parts }

-- a heard round with its figures, or the rule broken and the vote as it was
abbrev pub drive_answer : {V : Type 0} → Result (HeardRound V) (Refused (Vote V)) → Answer (Begun V × Figures) (Begun V)
drive_answer (Ok h) = done (begun_as h.vote, h.figures)
drive_answer (Err e) = refused (vote_breach e.fault) (begun_as e.back)

abbrev pub driven : {V B : Type 0} → (B → B → Bool) → Vote V → Driving B → List ℕ → Answer (Begun V × Figures) (Begun V)
driven earlier vote d list =
    unless (drive_breach d list)
    (record { n = vote.n; heard = vote.heard + 1; method = vote.method }, figures_of vote.n (vote.heard + 1) (sending d) (alarms d) (after earlier d.scheme vote.n (sending d) (vote.heard + 1) d.table (report d)))
    (begun_as vote)
