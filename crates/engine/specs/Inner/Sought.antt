-- The cell that an event names, as the inner functions look it up.
use Rattle.std.specs.Prelude.{Result, Err, Ok, ℕ, cond, List, leb}
use Rattle.rules.specs.declared.Refusal.TheVariants.{NoSuchCard, NoSuchBlock}
use Rattle.rules.specs.declared.Cell.{Cell}
use Rattle.rules.specs.declared.Refusal.{Refusal}
use Rattle.words.specs.Words.{cards_of, blocks_of, cell_at}

unfoldable pub sought : List ℕ → ℕ → ℕ → Result Cell Refusal
sought w k b = cond (leb (cards_of w) k) (Err NoSuchCard) (cond (leb (blocks_of w) b) (Err NoSuchBlock) (Ok (cell_at w k b)))
