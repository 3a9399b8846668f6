-- `Chassis::deliver` ends in one of the ways of a delivery.
use native.Mathlib.Omega.{arith}
use Rattle.std.specs.Prelude.{Ok}
use Rattle.rules.specs.Numbers.{taken, stale}
use Rattle.rules.specs.declared.Event.TheVariants.{Deliver}
use Rattle.words.specs.Inner.Parts.{Does}
use mathlib.Core.Path.{refl, sym, ◌∙◌}
use Rattle.rules.specs.Events.{reasons}
use Rattle.words.proofs.Does.{pool_room}
use Rattle.words.proofs.Keeps.{does-formed}
use Rattle.words.proofs.Pooled.{no-message, known, put-pooled, deliver-stale, deliver-taken}
use Rattle.engine.proofs.chassis.Chassis.deliver.Goals as goal

pub returns-then-pooled-position-clause-done : goal.returns-then-pooled-position-clause-done
unfolding reasons
returns-then-pooled-position-clause-done c = no-message _ c.args.self.now.is_formed _ _ _ refl (omega arith)

pub remove-requires : goal.remove-requires
remove-requires c =
    let n = pool_room _ c.args.self.now.is_formed in
    (omega arith, omega arith)

left : (c : goal.After-remove) → Does c.args.self.now.words.now (Deliver c.args.position) (Ok stale) c.remove.new.s
left c =
    let f = c.args.self.now.is_formed in
    deliver-stale _ f _ (omega arith) _ c.message_at-message.ensures _ c.cell_at-cell.ensures
    (sym c.is_live.ensures ∙ c.if-not-is_live.true) _ c.remove.ensures

pub returns-then-not-is_live-clause-done : goal.returns-then-not-is_live-clause-done
returns-then-not-is_live-clause-done c = left c.before

pub put_cell-requires : goal.put_cell-requires
put_cell-requires c =
    known _ c.args.self.now.is_formed _ (omega arith) _ c.message_at-message.ensures

pub remove-requires-2 : goal.remove-requires-2
remove-requires-2 c =
    let f = c.args.self.now.is_formed in
    let n = pool_room _ f in
    let e = put-pooled _ f _ (omega arith) _ c.message_at-message.ensures _ c.cell_at-cell.ensures
    _ c.taken.ensures _ c.put_cell.ensures in
    (omega arith, omega arith)

reached : (c : goal.After-remove-2) → Does c.args.self.now.words.now (Deliver c.args.position) (Ok taken) c.remove-2.new.s
reached c =
    let f = c.args.self.now.is_formed in
    deliver-taken _ f _ (omega arith) _ c.message_at-message.ensures _ c.cell_at-cell.ensures
    _ c.taken.ensures _ c.put_cell.ensures
    (sym c.is_live.ensures ∙ c.if-not-is_live.false)
    _ c.remove-2.ensures

pub returns-clause-done : goal.returns-clause-done
returns-clause-done c = reached c.before

pub invariant_of-self-then-not-is_live : goal.invariant_of-self-then-not-is_live
invariant_of-self-then-not-is_live c =
    record { is_formed = does-formed _ _ _ _ c.args.self.now.is_formed tt (left c) }

pub invariant_of-self-2 : goal.invariant_of-self-2
invariant_of-self-2 c = record { is_formed = does-formed _ _ _ _ c.args.self.now.is_formed tt (reached c) }
