-- `Chassis::ask_from` ends in one of the ways of an ask.
use native.Mathlib.Omega.{arith}
use Rattle.std.specs.Prelude.{Ok, ok_or}
use Rattle.std.proofs.lemmas.Result.{err_from_is_err_and}
use Rattle.rules.specs.declared.Refusal.TheVariants.{AskNotAllowed}
use Rattle.rules.specs.declared.Event.TheVariants.{Ask}
use mathlib.Core.Path.{sym, ◌∙◌, ap}
use Rattle.rules.specs.Chassis.{goes}
use Rattle.words.specs.Inner.Parts.{Does, put_cell}
use Rattle.words.proofs.Keeps.{does-formed}
use Rattle.engine.proofs.Rights.{known}
use Rattle.engine.proofs.Asked.{allows, forbids, kind-test, bad_kind, stranger, not-allowed, line-full, ask-done}
use Rattle.engine.proofs.chassis.Chassis.ask_from.Goals as goal

pub returns-then-kind-clause-done : goal.returns-then-kind-clause-done
returns-then-kind-clause-done c = bad_kind _ c.args.self.now.is_formed _ _ _ _ _ c.requires (sym (kind-test c.args.kind) ∙ c.if-kind.true)

pub returns-then-not-inside-clause-done : goal.returns-then-not-inside-clause-done
returns-then-not-inside-clause-done c =
    let f = c.args.self.now.is_formed in
    let p = c.requires in
    stranger _ f _ _ _ _ _ p (sym (kind-test c.args.kind) ∙ c.if-kind.false) (rw c.cards.ensures at (sym c.inside.ensures ∙ c.if-not-inside.true))

pub returns-in_err-to-clause-done : goal.returns-in_err-to-clause-done
returns-in_err-to-clause-done c =
    let p = err_from_is_err_and c.from_residual.result c.from_residual.ensures.1 in
    let n = forbids _ _ (sym (c.ok_or.ensures.value ∙ ap (λ o. ok_or o AskNotAllowed) c.asked.ensures) ∙ c.in_err-to.was) in
    let f = c.args.self.now.is_formed in
    rw (p.1, p.2, n.1)
    (not-allowed _ f _ _ _ _ _ c.requires (sym (kind-test c.args.kind) ∙ c.if-kind.false)
    (rw c.cards.ensures at (sym c.inside.ensures ∙ c.if-not-inside.false)) n.0)

pub returns-then-waiting-clause-done : goal.returns-then-waiting-clause-done
returns-then-waiting-clause-done c =
    let f = c.args.self.now.is_formed in
    let p = c.requires in
    line-full _ f _ _ _ _ _ p (sym (kind-test c.args.kind) ∙ c.if-kind.false)
    (rw c.cards.ensures at (sym c.inside.ensures ∙ c.if-not-inside.false))
    (allows _ _ (sym (c.ok_or.ensures.value ∙ ap (λ o. ok_or o AskNotAllowed) c.asked.ensures) ∙ c.in_ok-to.was)).0 (omega arith)

pub put_cell-requires : goal.put_cell-requires
put_cell-requires c =
    let t = known _ c.args.self.now.is_formed _ _ _ c.requires in (t.card<, t.block<)

done : (c : goal.After-push) → Does c.args.self.now.words.now (Ask c.args.card c.args.block c.args.kind c.args.mask) (Ok 0) c.push.new.s
done c =
    let f = c.args.self.now.is_formed in
    let p = c.requires in
    let a = c.args in
    ask-done _ f _ _ _ _ _ p (sym (kind-test c.args.kind) ∙ c.if-kind.false)
    (rw c.cards.ensures at (sym c.inside.ensures ∙ c.if-not-inside.false))
    (allows _ _ (sym (c.ok_or.ensures.value ∙ ap (λ o. ok_or o AskNotAllowed) c.asked.ensures) ∙ c.in_ok-to.was)).0 (let e = c.waiting.ensures in let h = c.if-waiting.false in omega arith) _ _
    (c.put_cell.ensures ∙ ap (put_cell a.self.now.words.now a.card a.block)
    (c.goes_for.ensures ∙ ap (λ s. goes s a.cell) (allows _ _ (sym (c.ok_or.ensures.value ∙ ap (λ o. ok_or o AskNotAllowed) c.asked.ensures) ∙ c.in_ok-to.was)).1)) c.push.ensures

pub returns-clause-done : goal.returns-clause-done
returns-clause-done c = done c.before

pub invariant_of-self-2 : goal.invariant_of-self-2
invariant_of-self-2 c = record { is_formed = does-formed _ _ _ _ c.args.self.now.is_formed tt (done c) }
