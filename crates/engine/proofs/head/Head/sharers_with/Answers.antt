-- `Head::sharers_with`: an owner that leaves is a card.
use borrow.Author.Tests.{eqb-false}
use Rattle.rules.proofs.Tests.{or_l}
use Rattle.engine.proofs.Heads.{owner_is_card}
use Rattle.engine.proofs.head.Head.sharers_with.Goals as goal

pub only-sharers-requires : goal.only-sharers-requires
only-sharers-requires c = owner_is_card c.args.self (eqb-false _ _ (or_l _ _ c.if-owner-keeps.false))
