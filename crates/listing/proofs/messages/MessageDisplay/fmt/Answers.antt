use Rattle.listing.proofs.messages.MessageDisplay.fmt.Goals as goal

pub returns-in-Program-clause-writes : goal.returns-in-Program-clause-writes
returns-in-Program-clause-writes g c = rw c.in-Program.is c.write-in-Program.ensures.writes
