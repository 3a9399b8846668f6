-- `masks::every`: a shift is a power, and one less has all the bits below it.
use borrow.Author.Rules.{rules}
use Rattle.rules.proofs.Masks.{every-shifted}
use Rattle.engine.proofs.masks.every.Goals as goal

pub returns : goal.returns
returns c = every-shifted 64 _ (search rules)
