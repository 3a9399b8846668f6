-- That what the page of demands presumes of a program can be met: here is one, that of this crate's functions, in which each name that
-- `table::loads` calls has its own code.
use mathlib.Core.List.{[], ◌∷◌}
use mathlib.Core.Path.{refl}
use lib.Chars.{codes}
use prog.Linked.{World, in_world}
use prog.LinkedThreads.{tie_t, tie_t-follows, tie_t-threads, has-wired_t}
use prog.Routine.{Env}
use prog.Wired.{Wired}
use Rattle.rules.proofs.TheLink as link
use Rattle.rules.proofs.table.loads.Symbol as loads

abbrev program : World
program = (codes "rules", link.table) ∷ []

abbrev environment : Env
environment = tie_t (in_world program)

pub loads-wired : Wired environment loads.code
loads-wired =
    has-wired_t (in_world program) environment (tie_t-follows (in_world program)) (tie_t-threads (in_world program)) loads.code
    (link.linked-rules::table::loads program refl tt)
