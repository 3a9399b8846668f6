-- `chassis::coherence_start`: each edition's number starts a chassis of it, and no other byte one.
use Rattle.firmware.proofs.Laws.{starts_named, starts_none}
use Rattle.firmware.proofs.chassis.coherence_start.Goals as goal

pub returns-in-Ok : goal.returns-in-Ok
returns-in-Ok c = starts_named _ _ _ _ _ _ c.in-Ok.ensures c.start_one.ensures

pub returns-in-Err : goal.returns-in-Err
returns-in-Err c = starts_none _ _ _ _ _ _ c.in-Err.ensures c.start_one-in-Err.ensures
