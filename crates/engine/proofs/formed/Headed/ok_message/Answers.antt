-- `Headed::ok_message`: the rules' tests of a message, one after the other.
use Rattle.words.proofs.Checks.{message-tested}
use Rattle.engine.proofs.formed.Headed.ok_message.Goals as goal

pub returns : goal.returns
returns c =
    rw (c.cards-number.ensures, c.blocks-2.ensures, c.last-last.ensures)
    (message-tested _ _ _ _ _ (rw c.cards-number.ensures at c.home_or_card.ensures))
