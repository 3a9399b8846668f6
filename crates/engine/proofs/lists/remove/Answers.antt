-- `lists::remove`: the later ones close up, and the last place is cleared.
use Rattle.std.proofs.Common.{arith}
use Rattle.engine.proofs.lists.remove.Goals as goal

pub close_up-requires : goal.close_up-requires
close_up-requires g c =
    let words = g.met.T.Waits.laws.in_words in
    (omega (arith, c.place.ensures, c.place-2.ensures), omega (arith, words, c.place-2.ensures))

pub returns : goal.returns
returns g c = λ k e.
    g.met.T.Waits.laws.leaves k _ _ _ _ _ _ e (omega arith) (omega arith) (omega arith)
    (rw (c.place.ensures, c.place-2.ensures) at c.close_up.ensures) (rw c.unused.ensures at c.put_at.ensures) c.set_count.ensures
