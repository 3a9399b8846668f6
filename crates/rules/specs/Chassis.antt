-- The chassis: home's part and the cards' cells block by block, the line, the pool, the last order number.
use Rattle.std.specs.Prelude.{ℕ, cond, List, [], get_or}
use Rattle.rules.specs.Lists.{replace}
use Rattle.rules.specs.Numbers.{home, no_number, first_retry, I}
use Rattle.rules.specs.Table.{loads}
use Rattle.rules.specs.declared.Edition.{Edition}
use Rattle.rules.specs.declared.Edition.TheVariants.{Msi}
use Rattle.rules.specs.declared.OrderNo.{OrderNo}
use Rattle.rules.specs.declared.RetryNo.{RetryNo}
use Rattle.rules.specs.declared.Cell.{Cell}
use Rattle.rules.specs.declared.Request.{Request}
use Rattle.rules.specs.declared.Message.{Message}

-- "Home has for each block a memory value, an owner (home or a card) and a set of sharers"; "Each card has for each block" a cell
pub record Block : Type 0 where
  pub memory : ℕ
  pub owner : ℕ
  pub sharers : ℕ
  pub cell : ℕ → Cell

-- the line's and the pool's heads stand first; R-1: "the MOSI edition beside MSI, chosen at Start"
pub record Chassis : Type 0 where
  pub edition : Edition
  pub cards : ℕ
  pub blocks : ℕ
  pub block : ℕ → Block
  pub line : List Request
  pub pool : List Message
  pub last : OrderNo

-- One function makes each item, and each change of one goes through it: a new field is added here.

abbrev pub a_cell : ℕ → ℕ → OrderNo → Cell
a_cell state value awaits = record { state = state; value = value; awaits = awaits }

abbrev pub a_request : ℕ → ℕ → ℕ → ℕ → RetryNo → Request
a_request card block kind mask retry = record { card = card; block = block; kind = kind; mask = mask; retry = retry }

abbrev pub a_message : ℕ → ℕ → ℕ → ℕ → OrderNo → Message
a_message sender receiver block value number = record {
  sender = sender;
  receiver = receiver;
  block = block;
  value = value;
  number = number;
}

abbrev pub a_block : ℕ → ℕ → ℕ → (ℕ → Cell) → Block
a_block memory owner sharers cell = record { memory = memory; owner = owner; sharers = sharers; cell = cell }

abbrev pub a_chassis : Edition → ℕ → ℕ → (ℕ → Block) → List Request → List Message → OrderNo → Chassis
a_chassis edition cards blocks block line pool last = record {
  edition = edition;
  cards = cards;
  blocks = blocks;
  block = block;
  line = line;
  pool = pool;
  last = last;
}

-- Looking

-- card k's cell for block b, and its state
abbrev pub cell_of : Chassis → ℕ → ℕ → Cell
cell_of c k b = (c.block b).cell k

abbrev pub state_of : Chassis → ℕ → ℕ → ℕ
state_of c k b = (cell_of c k b).state

-- What Start makes

-- a cell in I
abbrev pub idle : Cell
idle = a_cell I 0 no_number

-- "all cells I, memory 0, owners home, the rest empty"
abbrev pub fresh_block : Block
fresh_block = a_block 0 home 0 (λ k. idle)

-- "an unused line or pool place is all 0"
abbrev pub unused_request : Request
unused_request = a_request 0 0 0 0 first_retry

abbrev pub unused_message : Message
unused_message = a_message 0 0 0 0 no_number

-- a chassis of this edition and of so many cards and blocks, just started
abbrev pub fresh : Edition → ℕ → ℕ → Chassis
fresh edition cards blocks = a_chassis edition cards blocks (λ b. fresh_block) [] [] no_number

-- "one of 0 cards and 0 blocks, all places unused"
abbrev pub no_chassis : Chassis
no_chassis = fresh Msi 0 0

-- the message at a position; an unused one is refused before it is looked at
abbrev pub message_of : Chassis → ℕ → Message
message_of c i = get_or c.pool i unused_message

-- Cells that change

-- to state s, awaiting order number n: "The value is 0 in a state without Load", "A move between two Load states keeps the value"
abbrev pub goes_for : OrderNo → ℕ → Cell → Cell
goes_for n s x = a_cell s (cond (loads s) x.value 0) n

-- to a state that awaits nothing: "the awaited number is 0 outside states 6, 7 and 8"
abbrev pub goes : ℕ → Cell → Cell
goes s x = goes_for no_number s x

-- a value stored: state and awaited number stay
abbrev pub storing : ℕ → Cell → Cell
storing v x = a_cell x.state v x.awaits

-- Blocks that change

-- block B with card k's cell anew; with home's part anew
abbrev pub with_cell : Block → ℕ → Cell → Block
with_cell B k x = a_block B.memory B.owner B.sharers (replace B.cell k x)

abbrev pub with_home : Block → ℕ → ℕ → ℕ → Block
with_home B memory owner sharers = a_block memory owner sharers B.cell

-- A chassis that changes

-- of the same edition, cards and blocks, with all else anew
abbrev pub like : Chassis → (ℕ → Block) → List Request → List Message → OrderNo → Chassis
like c block line pool last = a_chassis c.edition c.cards c.blocks block line pool last

-- with block b, the line, the pool and the last number anew
abbrev pub changed : Chassis → ℕ → Block → List Request → List Message → OrderNo → Chassis
changed c b B line pool last = like c (replace c.block b B) line pool last

-- with every block anew; with block b; with card k's cell of it
abbrev pub blocks_changed : Chassis → (ℕ → Block) → Chassis
blocks_changed c block = like c block c.line c.pool c.last

abbrev pub block_changed : Chassis → ℕ → Block → Chassis
block_changed c b B = blocks_changed c (replace c.block b B)

abbrev pub cell_changed : Chassis → ℕ → ℕ → Cell → Chassis
cell_changed c k b x = block_changed c b (with_cell (c.block b) k x)

-- with the line anew; the pool; the last number
abbrev pub line_changed : Chassis → List Request → Chassis
line_changed c line = like c c.block line c.pool c.last

abbrev pub pool_changed : Chassis → List Message → Chassis
pool_changed c pool = like c c.block c.line pool c.last

abbrev pub last_changed : Chassis → OrderNo → Chassis
last_changed c last = like c c.block c.line c.pool last
