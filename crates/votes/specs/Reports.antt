-- The report of a round, as the calls hand it on.
use Rattle.votes.specs.declared.round.Report as handed
use Rattle.votes.specs.Rounds.{Report}

abbrev pub reported : handed.Report → Report
reported report = record { words = report.words.now; alarms = report.alarms; stops = report.stops }
