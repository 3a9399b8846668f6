-- `Chassis::store` ends in one of the ways of a store.
use mathlib.Core.Path.{refl, sym, ap, ◌∙◌}
use Rattle.std.proofs.lemmas.Result.{err_from_is_err_and}
use Rattle.rules.specs.Table.{stores}
use Rattle.rules.specs.Events.{reasons, right_reasons}
use Rattle.words.proofs.Keeps.{does-formed}
use Rattle.std.specs.Prelude.{Ok}
use Rattle.words.specs.Inner.Parts.{Does}
use Rattle.rules.specs.declared.Event.TheVariants.{Store}
use Rattle.engine.specs.Inner.Sought.{sought}
use Rattle.engine.proofs.Rights.{known, missing, no-right, store-done}
use Rattle.engine.proofs.chassis.Chassis.store.Goals as goal

pub returns-in_err-cell-clause-done : goal.returns-in_err-cell-clause-done
unfolding reasons right_reasons
returns-in_err-cell-clause-done c =
    let p = err_from_is_err_and c.from_residual.result c.from_residual.ensures.1 in
    rw (p.1, p.2) (missing _ c.args.self.now.is_formed _ _ _ _ _ refl (c.in_err-cell.ensures ∙ ap (λ w. sought w c.args.card c.args.block) c.view.ensures))

pub returns-then-not-stores-clause-done : goal.returns-then-not-stores-clause-done
unfolding reasons
returns-then-not-stores-clause-done c =
    no-right _ c.args.self.now.is_formed _ _ _ stores refl _ (c.in_ok-cell.ensures ∙ ap (λ w. sought w c.args.card c.args.block) c.view.ensures) (sym c.stores.ensures ∙ c.if-not-stores.true)

pub put_cell-requires : goal.put_cell-requires
put_cell-requires c = let t = known _ c.args.self.now.is_formed _ _ _ (c.in_ok-cell.ensures ∙ ap (λ w. sought w c.args.card c.args.block) c.view.ensures) in (t.card<, t.block<)

done : (c : goal.After-put_cell) → Does c.args.self.now.words.now (Store c.args.card c.args.block c.args.value) (Ok 0) c.put_cell.new.s
done c =
    store-done _ c.args.self.now.is_formed _ _ _ (c.in_ok-cell.ensures ∙ ap (λ w. sought w c.args.card c.args.block) c.view.ensures) _ (sym c.stores.ensures ∙ c.if-not-stores.false) _ c.put_cell.ensures

pub returns-clause-done : goal.returns-clause-done
returns-clause-done c = done c.before

pub invariant_of-self : goal.invariant_of-self
invariant_of-self c = record { is_formed = does-formed _ _ _ _ c.args.self.now.is_formed c.ranges.value.fits (done c) }
