-- Each fault by its number and the values that it names.
use Rattle.std.specs.Prelude.{ℕ, Some, None, Ok, Err, Result}
use Rattle.ballots.specs.declared.faults.BallotFault.{BallotFault}
use Rattle.ballots.specs.Faults.{Breach, numbered, in_round, at_head, ballot_breach}
use Rattle.votes.specs.declared.faults.VoteFault.{VoteFault}
use Rattle.votes.specs.declared.faults.VoteFault.TheVariants.{Ballot, RollFull, NoHeads, ShortTable, RoundsSpent, NoneRuns, IdleTurn, WordCount, IdleStop, IdleNoise, NotSender, OwnUnheard, AlarmMissing, FalseAlarm, HearingSpent, StillRuns}
use Rattle.votes.specs.declared.faults.Refusal.{Refusal}

-- a head heard one that did not send
abbrev pub not_sender : ℕ → ℕ → ℕ → Breach
not_sender round head other = record { number = 11; round = Some round; head = Some head; other = Some other }

-- a head still runs
abbrev pub still_runs : ℕ → Breach
still_runs head = record { number = 16; round = None; head = Some head; other = None }

abbrev pub vote_breach : VoteFault → Breach
vote_breach (Ballot fault) = ballot_breach fault
vote_breach RollFull = numbered 2
vote_breach NoHeads = numbered 3
vote_breach ShortTable = numbered 4
vote_breach (RoundsSpent round) = in_round 5 round
vote_breach (NoneRuns round) = in_round 6 round
vote_breach (IdleTurn round head) = at_head 7 round head
vote_breach (WordCount round) = in_round 8 round
vote_breach (IdleStop round head) = at_head 9 round head
vote_breach (IdleNoise round head) = at_head 10 round head
vote_breach (NotSender round head other) = not_sender round head other
vote_breach (OwnUnheard round head) = at_head 12 round head
vote_breach (AlarmMissing round head) = at_head 13 round head
vote_breach (FalseAlarm round head) = at_head 14 round head
vote_breach (HearingSpent round) = in_round 15 round
vote_breach (StillRuns head) = still_runs head

-- what a fault says when it is asked
abbrev pub refusal_breach : Refusal → Breach
refusal_breach r = record { number = r.number; round = r.round; head = r.head; other = r.other }

-- a ballot's fault, as a fault of the vote
abbrev pub ballot_from : {B : Type 0} → Result B BallotFault → Result B VoteFault
ballot_from (Ok b) = Ok b
ballot_from (Err fault) = Err (Ballot fault)
