-- What the inner functions of Order decide.
use Rattle.std.specs.Prelude.{Result, Err, Ok, cond}
use Rattle.rules.specs.Numbers.{last_number, up_to_number}
use Rattle.rules.specs.Chassis.{Chassis}
use Rattle.rules.specs.Order.{held, impossible, no_room_for, turn}
use Rattle.rules.specs.declared.Request.{Request}
use Rattle.rules.specs.declared.Turn.{Turn}
use Rattle.rules.specs.declared.Refusal.{Refusal}
use Rattle.rules.specs.declared.Refusal.TheVariants.{BlockHeld, PoolFull, NumbersSpent, Impossible}

-- what is decided of the head request r where its block is not held
unfoldable pub judged_free : Chassis → Request → Result Turn Refusal
judged_free c r = cond (impossible (c.block r.block) r) (Err Impossible)
    (cond (no_room_for c r) (Err PoolFull) (Ok (turn c r)))

-- what is decided of the head request r: the first reason to refuse it, or its turn
unfoldable pub judged : Chassis → Request → Result Turn Refusal
judged c r = cond (up_to_number last_number c.last) (Err NumbersSpent)
    (cond (held c.cards (c.block r.block)) (Err BlockHeld) (judged_free c r))
