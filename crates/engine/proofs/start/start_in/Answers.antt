-- `start::start_in`: the edition and the counts, where they are in range, in the words of an empty chassis.
use mathlib.Core.Path.{sym, ◌∙◌}
use Rattle.engine.proofs.Promised.{started, not-started}
use Rattle.engine.proofs.start.start_in.Goals as goal

pub returns-then-not-are_sizes : goal.returns-then-not-are_sizes
returns-then-not-are_sizes c = not-started _ _ _ (sym c.are_sizes.ensures ∙ c.if-not-are_sizes.true) _ c.start_none.ensures

pub returns : goal.returns
returns c =
    started _ _ _ (sym c.are_sizes.ensures ∙ c.if-not-are_sizes.false) _ _ _ _
    c.start_none.ensures c.set_edition.ensures c.set_cards.ensures c.set_blocks.ensures
