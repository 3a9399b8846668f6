-- `formed::with_header`: a header that is formed has no more cards than there is room for.
use Rattle.std.proofs.Common.{sym, ◌∙◌}
use Rattle.words.proofs.Tested.{head-cards}
use Rattle.engine.proofs.formed.with_header.Goals as goal

pub invariant_of-result : goal.invariant_of-result
invariant_of-result c = record { few = head-cards _ (sym c.head_formed.ensures ∙ c.if-head_formed.true) }
