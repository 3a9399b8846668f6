-- `events::load`: what is done on formed words, and 15 for others.
use Rattle.engine.proofs.Promised.{answers-formed}
use Rattle.engine.proofs.events.load.Goals as goal

pub returns : goal.returns
returns c = answers-formed _ _ _ _ c.in_ok-of.ensures.made.1 (rw c.in_ok-of.ensures.made.0 at c.load.ensures)
