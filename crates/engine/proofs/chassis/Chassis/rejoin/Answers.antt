-- `Chassis::rejoin` ends in one of the ways of a rejoin.
use native.Mathlib.Omega.{arith}
use Rattle.words.proofs.Does.{sizes}
use Rattle.words.proofs.Keeps.{does-formed}
use Rattle.std.specs.Prelude.{Ok}
use Rattle.words.specs.Inner.Parts.{Does}
use Rattle.rules.specs.declared.Event.TheVariants.{Rejoin}
use Rattle.words.proofs.Rejoined.{rejoin-refused, blocks-few, rejoin-done}
use Rattle.engine.proofs.chassis.Chassis.rejoin.Goals as goal

pub returns-then-cards-card-clause-done : goal.returns-then-cards-card-clause-done
returns-then-cards-card-clause-done c = rejoin-refused _ c.args.self.now.is_formed _ (omega arith)

pub leave_blocks-requires : goal.leave_blocks-requires
leave_blocks-requires c =
    let f = c.args.self.now.is_formed in
    let few = (sizes _ f).few-cards in
    (omega arith, blocks-few _ f _ _ c.leave_line.ensures)

done : (c : goal.After-leave_blocks) → Does c.args.self.now.words.now (Rejoin c.args.card) (Ok 0) c.leave_blocks.new.s
done c = rejoin-done _ c.args.self.now.is_formed _ _ _ (omega arith) c.leave_line.ensures c.leave_blocks.ensures

pub returns-clause-done : goal.returns-clause-done
returns-clause-done c = done c.before

pub invariant_of-self-2 : goal.invariant_of-self-2
invariant_of-self-2 c = record { is_formed = does-formed _ _ _ _ c.args.self.now.is_formed tt (done c) }
