-- What is proved of the words of a chassis. Each claim is proved under its own name, in small letters, in proofs/.
use Rattle.std.specs.Prelude.{Ok, ℕ, ◌^◌, ◌≤◌, ◌<◌, true, List, ◌≡◌, length, get_or}
use Rattle.rules.specs.Numbers.{most_cards, most_blocks, mask_bits, room}
use Rattle.rules.specs.Chassis.{Block, Chassis, idle, fresh_block, unused_request, unused_message}
use Rattle.rules.specs.Answers.{value_of}
use Rattle.rules.specs.Formed.{well_formed}
use Rattle.rules.specs.Events.{EventFits, step, start}
use Rattle.rules.specs.declared.Edition.{Edition}
use Rattle.rules.specs.declared.Cell.{Cell}
use Rattle.rules.specs.declared.Request.{Request}
use Rattle.rules.specs.declared.Message.{Message}
use Rattle.rules.specs.declared.Event.{Event}
use Rattle.words.specs.Layout.{all_words}
use Rattle.words.specs.Words.{words, view, formed}

-- A chassis that words can say: what is narrower than a word fits its field, and beyond the room there is it is as Start makes it

pub record CellFits (x : Cell) : Type 0 where
  pub state : x.state < 2 ^ 8
  pub value : x.value < 2 ^ 32

pub record BlockFits (B : Block) : Type 0 where
  pub memory : B.memory < 2 ^ 32
  pub owner : B.owner < 2 ^ 8
  pub sharers : B.sharers < 2 ^ mask_bits
  pub cells : (k : ℕ) → k < most_cards → CellFits (B.cell k)
  pub beyond : (k : ℕ) → most_cards ≤ k → B.cell k ≡ idle

pub record RequestFits (r : Request) : Type 0 where
  pub card : r.card < 2 ^ 8
  pub block : r.block < 2 ^ 8
  pub kind : r.kind < 2 ^ 8
  pub mask : r.mask < 2 ^ mask_bits
  pub retry : r.retry.0 < 2 ^ 8

pub record MessageFits (m : Message) : Type 0 where
  pub sender : m.sender < 2 ^ 8
  pub receiver : m.receiver < 2 ^ 8
  pub block : m.block < 2 ^ 8
  pub value : m.value < 2 ^ 32

pub record Fits (c : Chassis) : Type 0 where
  pub line_room : length c.line ≤ room
  pub pool_room : length c.pool ≤ room
  pub blocks : (b : ℕ) → b < most_blocks → BlockFits (c.block b)
  pub beyond : (b : ℕ) → most_blocks ≤ b → c.block b ≡ fresh_block
  pub requests : (i : ℕ) → i < length c.line → RequestFits (get_or c.line i unused_request)
  pub messages : (i : ℕ) → i < length c.pool → MessageFits (get_or c.pool i unused_message)

-- What is claimed

-- the words of a chassis say that chassis: no layout that loses a field does this
abbrev pub ViewWords : Type 0
ViewWords = (c : Chassis) → Fits c → view (words c) ≡ c

-- there are as many as the layout has
abbrev pub AllWords : Type 0
AllWords = (c : Chassis) → length (words c) ≡ all_words

-- words that are formed are those of a well formed chassis that fits, and such a chassis has formed words
pub record FormedSays : Type 0 where
  pub says : (w : List ℕ) → formed w ≡ true → (w ≡ words (view w)) × Fits (view w) × (well_formed (view w) ≡ true)
  pub said : (c : Chassis) → Fits c → well_formed c ≡ true → formed (words c) ≡ true

-- an accepted Start makes formed words; an event leaves them formed
abbrev pub StartForms : Type 0
StartForms = (e : Edition) (cards blocks v : ℕ) → (start e cards blocks).answer ≡ Ok v → formed (words (start e cards blocks).after) ≡ true

abbrev pub StepForms : Type 0
StepForms = (w : List ℕ) (e : Event) → EventFits e → formed w ≡ true → formed (words (step (view w) e).after) ≡ true

-- what an event on words answers has a value of 32 bits
abbrev pub ValueFits : Type 0
ValueFits = (w : List ℕ) (e : Event) → value_of (step (view w) e).answer < 2 ^ 32
