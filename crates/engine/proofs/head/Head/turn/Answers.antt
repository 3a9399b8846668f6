-- `Head::turn`: each arm is one turn.
use borrow.Author.Tests.{eq-eqb, ne_eqb}
use mathlib.Core.Path.{sym, ◌∙◌}
use Rattle.engine.proofs.Heads.{turn_is}
use Rattle.engine.proofs.head.Head.turn.Goals as goal

pub returns-then-put_stands : goal.returns-then-put_stands
returns-then-put_stands c k e i =
    rw (eq-eqb _ _ c.if-request-eq-PUTX.true, sym c.put_stands.ensures ∙ c.if-put_stands.true) at (turn_is c.args.self k i)

pub returns-then-request-eq-PUTX : goal.returns-then-request-eq-PUTX
returns-then-request-eq-PUTX c k e i =
    rw (eq-eqb _ _ c.if-request-eq-PUTX.true, sym c.put_stands.ensures ∙ c.if-put_stands.false) at (turn_is c.args.self k i)

pub returns-in-true-true : goal.returns-in-true-true
returns-in-true-true c k e i =
    rw (← e) (rw (ne_eqb _ _ c.if-request-eq-PUTX.false, sym c.in-true-true.ensures, eq-eqb _ _ c.in-true-true.is-1) at (turn_is c.args.self k i))

pub returns-in-true-false : goal.returns-in-true-false
returns-in-true-false c k e i =
    rw (ne_eqb _ _ c.if-request-eq-PUTX.false, sym c.in-true-false.ensures, ne_eqb _ _ c.in-true-false.is-1) at (turn_is c.args.self k i)

pub returns-in-false-true : goal.returns-in-false-true
returns-in-false-true c k e i =
    rw (ne_eqb _ _ c.if-request-eq-PUTX.false, sym c.in-false-true.ensures, eq-eqb _ _ c.in-false-true.is-1) at (turn_is c.args.self k i)

pub returns-in-false-false : goal.returns-in-false-false
returns-in-false-false c k e i =
    rw (ne_eqb _ _ c.if-request-eq-PUTX.false, sym c.in-false-false.ensures, ne_eqb _ _ c.in-false-false.is-1) at (turn_is c.args.self k i)
