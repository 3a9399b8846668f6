-- `masks::only`: a shift is a power.
use borrow.Author.Rules.{rules}
use Rattle.rules.specs.Numbers.{mask_bits}
use Rattle.rules.proofs.Masks.{only-shifted}
use Rattle.engine.proofs.masks.only.Goals as goal

pub returns : goal.returns
returns c = only-shifted mask_bits _ (search rules)
