use Rattle.recordings.specs.Files.{played_kind}
use Rattle.recordings.proofs.into.play_file.Goals as goal

pub returns-in-Recipe : goal.returns-in-Recipe
unfolding played_kind
returns-in-Recipe g c = rw c.in-Recipe.is c.play_kind.ensures

pub returns-in-Ticket : goal.returns-in-Ticket
unfolding played_kind
returns-in-Ticket g c = rw c.in-Ticket.is c.play_kind-in-Ticket.ensures

pub returns-in-Recipe-2 : goal.returns-in-Recipe-2
unfolding played_kind
returns-in-Recipe-2 g c = rw c.in-Recipe-2.is c.play_kind-in-Recipe-2.ensures

pub returns-in-Ticket-2 : goal.returns-in-Ticket-2
unfolding played_kind
returns-in-Ticket-2 g c = rw c.in-Ticket-2.is c.play_kind-in-Ticket-2.ensures
