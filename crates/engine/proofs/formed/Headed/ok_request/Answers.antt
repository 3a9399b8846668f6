-- `Headed::ok_request`: the rules' tests of a request, one after the other.
use Rattle.words.proofs.Checks.{request-tested}
use Rattle.engine.proofs.formed.Headed.ok_request.Goals as goal

pub returns : goal.returns
returns c =
    rw (c.cards-number.ensures, c.blocks-2.ensures) (request-tested _ _ _ _ (rw c.cards-number.ensures at c.every-all.ensures))
