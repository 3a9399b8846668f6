-- `formed::home_or_card`: the test as the rules write it.
use mathlib.Core.Path.{refl}
use Rattle.rules.specs.Formed.{home_or_card}
use Rattle.engine.proofs.formed.home_or_card.Goals as goal

pub returns : goal.returns
unfolding home_or_card
returns c = refl
