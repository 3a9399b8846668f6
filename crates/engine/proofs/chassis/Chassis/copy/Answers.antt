-- `Chassis::copy` ends in one of the ways of a copy.
use native.Mathlib.Omega.{arith}
use mathlib.Core.Path.{refl}
use Rattle.rules.specs.Events.{reasons}
use Rattle.words.proofs.Keeps.{does-formed}
use Rattle.std.specs.Prelude.{Ok}
use Rattle.words.specs.Inner.Parts.{Does}
use Rattle.rules.specs.declared.Event.TheVariants.{Copy}
use Rattle.words.proofs.Pooled.{no-message, copy-full, copy_done}
use Rattle.engine.proofs.chassis.Chassis.copy.Goals as goal

pub returns-then-n-position-clause-done : goal.returns-then-n-position-clause-done
unfolding reasons
returns-then-n-position-clause-done c = no-message _ c.args.self.now.is_formed _ _ _ refl (omega arith)

pub returns-then-n-clause-done : goal.returns-then-n-clause-done
returns-then-n-clause-done c = copy-full _ c.args.self.now.is_formed _ (omega arith) (omega arith)

done : (c : goal.After-push) → Does c.args.self.now.words.now (Copy c.args.position) (Ok 0) c.push.new.s
done c =
    copy_done _ c.args.self.now.is_formed _ (omega arith) _ c.message_at-message.ensures (omega arith) _ c.push.ensures

pub returns-clause-done : goal.returns-clause-done
returns-clause-done c = done c.before

pub invariant_of-self-2 : goal.invariant_of-self-2
invariant_of-self-2 c = record { is_formed = does-formed _ _ _ _ c.args.self.now.is_formed tt (done c) }
