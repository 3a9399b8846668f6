-- `formed::is_formed`: the tests of all items are the test of 15.
use Rattle.std.proofs.Common.{length, ap, ◌∙◌}
use Rattle.words.specs.Words.{formed}
use Rattle.words.specs.Inner.Tested.{head_test}
use Rattle.words.proofs.Tested.{is-formed, not-formed}
use Rattle.engine.proofs.formed.is_formed.Goals as goal

pub returns-in-Some : goal.returns-in-Some
returns-in-Some c =
    let same = c.in-Some.ensures.1 in
    is-formed _ _ _ _ (ap length same ∙ c.told-s) (ap head_test same ∙ c.in-Some.ensures.0)
    c.blocks_formed.ensures c.places_formed.ensures c.places_formed-in-Some.ensures ∙ ap formed same

pub returns-in-None : goal.returns-in-None
returns-in-None c = not-formed _ c.told-s c.in-None.ensures
