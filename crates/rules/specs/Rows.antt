-- The code's form of the card state table: a row for each state, with all that Table says of it.
use Rattle.std.specs.Prelude.{ℕ, ◌≡◌}
use Rattle.rules.specs.Numbers.{gets, getx, putx}
use Rattle.rules.specs.Table.{
  leads,
  row_of,
  loads,
  stores,
  asks_gets,
  asks_getx,
  asks_putx,
  drops,
  waits,
  is_reader,
  can_give,
  comes_from,
  upgrades,
  put_stands,
  leaves_sharers,
  granted_to,
  filled_to,
}
use Rattle.rules.specs.declared.Edition.TheVariants.{Msi, Mosi}
use Rattle.rules.specs.declared.table.Row.{Row}

-- r is the row of state s
pub record IsRowOf (s : ℕ) (r : Row) : Type 0 where
  pub loads : r.loads ≡ loads s
  pub stores : r.stores ≡ stores s
  pub asks_gets : r.asks_gets ≡ leads (asks_gets s)
  pub asks_getx : r.asks_getx ≡ leads (asks_getx s)
  pub asks_putx : r.asks_putx ≡ leads (asks_putx s)
  pub sees_gets_msi : r.sees_gets_msi ≡ leads ((row_of s).see_gets Msi)
  pub sees_gets_mosi : r.sees_gets_mosi ≡ leads ((row_of s).see_gets Mosi)
  pub sees_getx : r.sees_getx ≡ leads (row_of s).see_getx
  pub drops : r.drops ≡ drops s
  pub waits : r.waits ≡ waits s
  pub is_reader : r.is_reader ≡ is_reader s
  pub can_give : r.can_give ≡ can_give s
  pub from_gets : r.from_gets ≡ comes_from gets s
  pub from_getx : r.from_getx ≡ comes_from getx s
  pub from_putx : r.from_putx ≡ comes_from putx s
  pub upgrades : r.upgrades ≡ upgrades s
  pub put_stands : r.put_stands ≡ put_stands s
  pub leaves_sharers : r.leaves_sharers ≡ leaves_sharers s
  pub granted_to : r.granted_to ≡ leads (granted_to s)
  pub filled_to : r.filled_to ≡ leads (filled_to s)
