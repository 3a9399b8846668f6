-- `Chassis::take_turn`: what each part asks for holds, and the parts together are the rules' turn.
use native.Mathlib.Omega.{arith}
use Rattle.std.specs.Prelude.{Ok}
use Rattle.rules.specs.declared.Event.TheVariants.{Order}
use mathlib.Core.Path.{sym, ap, subst, ◌∙◌}
use Rattle.words.specs.Inner.Parts.{Does}
use Rattle.engine.specs.Inner.Heads.{Reads}
use Prim.Native.Nat.{◌+◌}
use Rattle.words.specs.Words.{view}
use Rattle.words.proofs.Does.{line_room}
use Rattle.words.proofs.Keeps.{does-formed}
use Rattle.rules.specs.Numbers.{order_no}
use Rattle.rules.specs.declared.OrderNo.{OrderNo}
use Rattle.engine.specs.Inner.Ordering.{judged}
use Rattle.engine.proofs.Ordered.{number-left, grant-room, same-waiting, said, order-done}
use Rattle.engine.proofs.chassis.Chassis.take_turn.Goals as goal

pub overflow_add-number : goal.overflow_add-number
overflow_add-number c =
    let f = c.args.self.now.is_formed in let p = c.requires in
    let l = number-left _ f p.0 _ p.1 _ p.2 in
    let e = ap (λ (n : OrderNo). n.0) c.last-before.ensures in
    omega arith

pub pool_after-requires : goal.pool_after-requires
pool_after-requires c =
    let f = c.args.self.now.is_formed in let p = c.requires in
    let h = c.head-head.ensures.0 in let g = subst (λ w. Reads (view w) c.head-head.result) c.view.ensures c.head-head.ensures.1 in
    grant-room _ f p.0 _ (h ∙ p.1) g _ (p.2 ∙ ap (judged (view c.args.self.now.words.now)) (sym h)) _
    _ c.cards_see.ensures _ c.home_after.ensures _ c.put_home.ensures

pub line_after-requires : goal.line_after-requires
line_after-requires c =
    let f = c.args.self.now.is_formed in let p = c.requires in
    let h = c.head-head.ensures.0 in let g = subst (λ w. Reads (view w) c.head-head.result) c.view.ensures c.head-head.ensures.1 in
    let e = same-waiting _ f p.0 _ (h ∙ p.1) g _ (p.2 ∙ ap (judged (view c.args.self.now.words.now)) (sym h)) _
    _ c.cards_see.ensures _ c.home_after.ensures _ c.put_home.ensures _ c.pool_after.ensures in (
      omega arith,
      omega (arith, line_room _ f),
      said _ f p.0 _ (h ∙ p.1) g _ (p.2 ∙ ap (judged (view c.args.self.now.words.now)) (sym h)) _
          _ c.cards_see.ensures _ c.home_after.ensures _ c.put_home.ensures _ c.pool_after.ensures,
    )

done : (c : goal.After-set_last) → Does c.args.self.now.words.now Order (Ok c.outcome_no-outcome.result) c.set_last.new.s
done c =
    let f = c.args.self.now.is_formed in let p = c.requires in
    let h = c.head-head.ensures.0 in let g = subst (λ w. Reads (view w) c.head-head.result) c.view.ensures c.head-head.ensures.1 in
    order-done _ f p.0 _ (h ∙ p.1) g _ (p.2 ∙ ap (judged (view c.args.self.now.words.now)) (sym h)) _
    _ c.cards_see.ensures _ c.home_after.ensures _ c.put_home.ensures _ c.pool_after.ensures
    _ c.line_after.ensures _ c.set_last.ensures (ap (λ (n : OrderNo). order_no (n.0 + 1)) c.last-before.ensures)
    _ c.outcome_no-outcome.ensures

pub returns-clause-done : goal.returns-clause-done
returns-clause-done c = done c.before

pub invariant_of-self-2 : goal.invariant_of-self-2
invariant_of-self-2 c = record { is_formed = does-formed _ _ _ _ c.args.self.now.is_formed tt (done c) }
