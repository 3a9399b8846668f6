-- "The events": for each, the reasons to refuse it in the paper's order, and what it does where none holds.
use Rattle.std.specs.Prelude.{Ok, ℕ, ◌^◌, ◌<◌, Bool, cond, not, ◌&&◌, List, [], ◌∷◌, ◌++◌, length, eqb, leb}
use Rattle.rules.specs.Lists.{replace, removed, keep}
use Rattle.rules.specs.Masks.{only, without, inside}
use Rattle.rules.specs.Numbers.{home, room, no_number, same_number, first_retry, gets, putx, none, taken, stale}
use Rattle.rules.specs.Table.{loads, stores, drops, waits, asked, filled_to}
use Rattle.rules.specs.Chassis.{
  Block,
  Chassis,
  a_cell,
  a_request,
  a_block,
  cell_of,
  state_of,
  idle,
  fresh,
  no_chassis,
  message_of,
  goes,
  storing,
  with_cell,
  like,
  changed,
  cell_changed,
  pool_changed,
}
use Rattle.rules.specs.Answers.{Step, result, Reason, ◌if◌, refused_by}
use Rattle.rules.specs.Order.{order, order_reasons}
use Rattle.rules.specs.Formed.{sizes, well_formed}
use Rattle.rules.specs.declared.Edition.{Edition}
use Rattle.rules.specs.declared.Cell.{Cell}
use Rattle.rules.specs.declared.Message.{Message}
use Rattle.rules.specs.declared.Refusal.TheVariants.{
  NoSuchCard,
  NoSuchBlock,
  NoRight,
  AskNotAllowed,
  NoSuchKind,
  StrangerInMask,
  LineFull,
  PoolFull,
  NoSuchMessage,
  NoSuchSize,
  IllFormed,
}
use Rattle.rules.specs.declared.Event.{Event}
use Rattle.rules.specs.declared.Event.TheVariants.{
  Load,
  Store,
  Drop,
  Ask,
  Order,
  Deliver,
  Copy,
  Rejoin,
}

-- Refusals

-- 1 and 2: "no such card; no such block"
unfoldable pub no_card : Chassis → ℕ → Reason
no_card c k = NoSuchCard if leb c.cards k

unfoldable pub no_block : Chassis → ℕ → Reason
no_block c b = NoSuchBlock if leb c.blocks b

-- "Load, Store, Drop: 1, 2, 3", where 3 is "the state gives no right to this load, store or drop"
unfoldable pub right_reasons : Chassis → ℕ → ℕ → (ℕ → Bool) → List Reason
right_reasons c k b right = no_card c k ∷ no_block c b ∷ (NoRight if not (right (state_of c k b))) ∷ []

-- 11: "position not below the pool's count"
unfoldable pub no_message : Chassis → ℕ → Reason
no_message c i = NoSuchMessage if leb (length c.pool) i

-- every event's refusals, in the paper's order; Order's are with Order
unfoldable pub reasons : Chassis → Event → List Reason
reasons c (Load k b) = right_reasons c k b loads
reasons c (Store k b v) = right_reasons c k b stores
reasons c (Drop k b) = right_reasons c k b drops
-- "Ask: 1, 2, 5, 6, 4, 7"
reasons c (Ask k b kind mask) =
    no_card c k ∷
    no_block c b ∷
    (NoSuchKind if not (leb gets kind && leb kind putx)) ∷
    (StrangerInMask if not (inside c.cards mask)) ∷
    (AskNotAllowed if eqb (asked kind (state_of c k b)) none) ∷
    (LineFull if leb room (length c.line)) ∷ []
reasons c Order = order_reasons c c.line
-- "Deliver: 11"
reasons c (Deliver i) = no_message c i ∷ []
-- "Copy: 11, 10"
reasons c (Copy i) = no_message c i ∷ (PoolFull if leb room (length c.pool)) ∷ []
-- "Rejoin: 1"
reasons c (Rejoin k) = no_card c k ∷ []

-- Ask

-- "the cell moves by the table; the request joins the line's tail with retry 0"
unfoldable pub ask : Chassis → ℕ → ℕ → ℕ → ℕ → Chassis
ask c k b kind mask = changed c b (with_cell (c.block b) k (goes (asked kind (state_of c k b)) (cell_of c k b)))
    (c.line ++ a_request k b kind mask first_retry ∷ []) c.pool c.last

-- Deliver and Copy

-- "the receiver is in 6, 7 or 8 for that block and awaits that number"
unfoldable pub live : Block → Message → Bool
live B m = let x = B.cell m.receiver in waits x.state && same_number x.awaits m.number

-- "it takes the value and goes to 1, 2 or 2": also from 8, where "A move between two Load states" would keep the old one
abbrev pub takes : Message → Cell → Cell
takes m x = a_cell (filled_to x.state) m.value no_number

-- "(outcome 1). Otherwise the message is stale (outcome 2). It leaves the pool either way; later ones close up."
unfoldable pub deliver : Chassis → ℕ → Message → Step
deliver c i m =
    let B = c.block m.block in
    let rest = removed i c.pool in
    cond (live B m)
    (result (Ok taken)
    (changed c m.block (with_cell B m.receiver (takes m (B.cell m.receiver))) c.line rest c.last))
    (result (Ok stale) (pool_changed c rest))

-- Rejoin

-- "its cells become I", "it leaves all sharer sets, blocks it owns go to home"; "Memory .. stay". R-1: "On Rejoin of an O owner home takes the
-- block and the other sharers stay."
unfoldable pub rejoin_block : ℕ → Block → Block
rejoin_block k B = a_block B.memory (cond (eqb B.owner k) home B.owner) (without B.sharers (only k)) (replace B.cell k idle)

-- "its requests leave the line (the rest close up)"; "pool and order number stay"
unfoldable pub rejoin : Chassis → ℕ → Chassis
rejoin c k = like c (λ b. rejoin_block k (c.block b)) (keep (λ r. not (eqb r.card k)) c.line) c.pool c.last

-- Every event

-- "A block holds one 32-bit value": what is stored fits; of an event's other numbers nothing is asked
abbrev pub EventFits : Event → Type 0
EventFits (Load k b) = Unit {0}
EventFits (Store k b v) = v < 2 ^ 32
EventFits (Drop k b) = Unit {0}
EventFits (Ask k b kind mask) = Unit {0}
EventFits Order = Unit {0}
EventFits (Deliver i) = Unit {0}
EventFits (Copy i) = Unit {0}
EventFits (Rejoin k) = Unit {0}

-- what an event answers and leaves where nothing refuses it
unfoldable pub effect : Chassis → Event → Step
effect c (Load k b) = result (Ok (cell_of c k b).value) c
effect c (Store k b v) = result (Ok 0) (cell_changed c k b (storing v (cell_of c k b)))
-- "S becomes I, home is not told"
effect c (Drop k b) = result (Ok 0) (cell_changed c k b idle)
effect c (Ask k b kind mask) = result (Ok 0) (ask c k b kind mask)
effect c Order = order c c.line
effect c (Deliver i) = deliver c i (message_of c i)
-- "the message again, at the pool's tail"
effect c (Copy i) = result (Ok 0) (pool_changed c (c.pool ++ message_of c i ∷ []))
effect c (Rejoin k) = result (Ok 0) (rejoin c k)

-- "15 comes first wherever a state is handed in, so at every event but Start"
unfoldable pub step : Chassis → Event → Step
step c e = refused_by c ((IllFormed if not (well_formed c)) ∷ reasons c e) (effect c e)

-- Start: 14 "outside 1 to 8 cards or 1 to 32 blocks; whatever refuses to make a state answers one of 0 cards and 0 blocks, all places unused"
unfoldable pub start : Edition → ℕ → ℕ → Step
start e cards blocks = refused_by no_chassis ((NoSuchSize if not (sizes cards blocks)) ∷ []) (result (Ok 0) (fresh e cards blocks))
