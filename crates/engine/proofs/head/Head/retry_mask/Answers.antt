-- `Head::retry_mask`: an owner that is not home is a card.
use Rattle.engine.proofs.Heads.{owner_is_card}
use Rattle.engine.proofs.head.Head.retry_mask.Goals as goal

pub only-requires : goal.only-requires
only-requires c = owner_is_card c.args.self c.if-owner.false
