-- `table::row_of` gives the row of the constant array, whose every field is a column of the table.
use Prim.Native.Nat.{ℕ}
use mathlib.Core.Path.{refl, subst}
use lib.ListN.{get_or, get_or-eq_default}
use native.Mathlib.Omega.{arith}
use Rattle.std.proofs.lemmas.Bool.Decides.{nat_tests}
use Rattle.rules.specs.Tests.{one_of}
use Rattle.rules.specs.Numbers.{gets, getx, putx}
use Rattle.rules.specs.Table.{
  leads,
  card_table,
  row_of,
  loads,
  stores,
  asks_gets,
  asks_getx,
  asks_putx,
  drops,
  waits,
  is_reader,
  can_give,
  comes_from,
  upgrades,
  put_stands,
  leaves_sharers,
  granted_to,
  filled_to,
}
use Rattle.rules.specs.Rows.{IsRowOf}
use Rattle.rules.specs.declared.Edition.TheVariants.{Msi, Mosi}
use Rattle.rules.specs.declared.table.Row.{Row}
use Rattle.rules.specs.declared.table.TheConstants.{TABLE, EMPTY}
use Rattle.rules.proofs.Columns.{each-state}
use Rattle.rules.proofs.table.row_of.Goals as goal

-- the row of a state in the code
abbrev row : ℕ → Row
row s = get_or TABLE s EMPTY

-- each of its fields is a column
rows : (s : ℕ) → IsRowOf s (row s)
unfolding card_table row_of loads stores asks_gets asks_getx asks_putx drops waits is_reader can_give comes_from upgrades put_stands leaves_sharers granted_to filled_to one_of
rows s = record {
  loads = each-state (λ s. (row s).loads) loads refl (λ k. refl) s;
  stores = each-state (λ s. (row s).stores) stores refl (λ k. refl) s;
  asks_gets = each-state (λ s. (row s).asks_gets) (λ s. leads (asks_gets s)) refl (λ k. refl) s;
  asks_getx = each-state (λ s. (row s).asks_getx) (λ s. leads (asks_getx s)) refl (λ k. refl) s;
  asks_putx = each-state (λ s. (row s).asks_putx) (λ s. leads (asks_putx s)) refl (λ k. refl) s;
  sees_gets_msi = each-state (λ s. (row s).sees_gets_msi) (λ s. leads ((row_of s).see_gets Msi)) refl (λ k. refl) s;
  sees_gets_mosi = each-state (λ s. (row s).sees_gets_mosi) (λ s. leads ((row_of s).see_gets Mosi)) refl (λ k. refl) s;
  sees_getx = each-state (λ s. (row s).sees_getx) (λ s. leads (row_of s).see_getx) refl (λ k. refl) s;
  drops = each-state (λ s. (row s).drops) drops refl (λ k. grind (arith, nat_tests)) s;
  waits = each-state (λ s. (row s).waits) waits refl (λ k. grind (arith, nat_tests)) s;
  is_reader = each-state (λ s. (row s).is_reader) is_reader refl (λ k. grind (arith, nat_tests)) s;
  can_give = each-state (λ s. (row s).can_give) can_give refl (λ k. grind (arith, nat_tests)) s;
  from_gets = each-state (λ s. (row s).from_gets) (comes_from gets) refl (λ k. grind (arith, nat_tests)) s;
  from_getx = each-state (λ s. (row s).from_getx) (comes_from getx) refl (λ k. grind (arith, nat_tests)) s;
  from_putx = each-state (λ s. (row s).from_putx) (comes_from putx) refl (λ k. grind (arith, nat_tests)) s;
  upgrades = each-state (λ s. (row s).upgrades) upgrades refl (λ k. grind (arith, nat_tests)) s;
  put_stands = each-state (λ s. (row s).put_stands) put_stands refl (λ k. grind (arith, nat_tests)) s;
  leaves_sharers = each-state (λ s. (row s).leaves_sharers) leaves_sharers refl (λ k. grind (arith, nat_tests)) s;
  granted_to = each-state (λ s. (row s).granted_to) (λ s. leads (granted_to s)) refl (λ k. refl) s;
  filled_to = each-state (λ s. (row s).filled_to) (λ s. leads (filled_to s)) refl (λ k. refl) s;
}

pub returns-then-i-lt-STATES : goal.returns-then-i-lt-STATES
returns-then-i-lt-STATES c = rows c.args.state

pub returns-else-i-lt-STATES : goal.returns-else-i-lt-STATES
returns-else-i-lt-STATES c = subst (IsRowOf c.args.state) (get_or-eq_default TABLE EMPTY (omega arith)) (rows c.args.state)
