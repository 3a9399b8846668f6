-- `events::step`: what is done on formed words, and 15 for others.
use mathlib.Core.Path.{sym}
use Rattle.engine.proofs.Promised.{answers-formed}
use Rattle.engine.proofs.events.step.Goals as goal

pub returns : goal.returns
returns c = rw (c.state-1.given.1 (sym c.act.ensures.same_words)) (answers-formed _ _ _ _ c.in_ok-of.ensures.made.1 c.act.ensures.done)
