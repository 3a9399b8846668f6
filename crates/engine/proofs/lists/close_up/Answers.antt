-- `lists::close_up`: what is copied is what the words from `from` on close up to.
use Rattle.std.proofs.Common.{◌∙◌, arith}
use Rattle.words.proofs.Closing.{closing-copied}
use Rattle.engine.proofs.lists.close_up.Goals as goal

pub returns : goal.returns
returns c = c.copy_within.ensures.after ∙ closing-copied _ _ _ _ (omega arith) (omega arith)
