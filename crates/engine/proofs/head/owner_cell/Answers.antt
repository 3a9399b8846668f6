-- `head::owner_cell`: home has no cell, and a chassis has an idle one in its place.
use mathlib.Core.Path.{sym, ◌∙◌}
use Rattle.words.proofs.View.{view-cell}
use Rattle.engine.proofs.Heads.{owner-card}
use Rattle.engine.proofs.Judging.{home-cell}
use Rattle.engine.proofs.head.owner_cell.Goals as goal

pub returns-then-owner-eq-HOME : goal.returns-then-owner-eq-HOME
returns-then-owner-eq-HOME c = c.idle.ensures ∙ home-cell _ _ _ c.if-owner-eq-HOME.true c.requires.0

pub returns : goal.returns
returns c = c.cell_at.ensures
    ∙ sym (view-cell _ _ _ (owner-card _ c.if-owner-eq-HOME.false c.requires.1) c.requires.0)
