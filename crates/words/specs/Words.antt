-- The words of a chassis, the chassis that words say, and which words are formed.
use Rattle.std.specs.Prelude.{ℕ, zero, suc, ◌+◌, ◌%◌, ◌^◌, Bool, cond, ◌&&◌, List, [], ◌∷◌, ◌++◌, length, get_or, eqb, ltb}
use Rattle.rules.specs.Lists.{same}
use Rattle.rules.specs.Numbers.{most_cards, most_blocks, mask_bits, room, order_no, retry_no, edition_no}
use Rattle.rules.specs.Chassis.{
  Block,
  Chassis,
  a_cell,
  a_request,
  a_message,
  a_block,
  a_chassis,
  idle,
  fresh_block,
  unused_request,
  unused_message,
}
use Rattle.rules.specs.Formed.{well_formed}
use Rattle.rules.specs.declared.Edition.{Edition}
use Rattle.rules.specs.declared.Edition.TheVariants.{Msi, Mosi}
use Rattle.rules.specs.declared.OrderNo.{OrderNo}
use Rattle.rules.specs.declared.Cell.{Cell}
use Rattle.rules.specs.declared.Request.{Request}
use Rattle.rules.specs.declared.Message.{Message}
use Rattle.words.specs.Layout.{
  edition_at,
  cards_at,
  blocks_at,
  waiting_at,
  pooled_at,
  last_at,
  home_place,
  cell_place,
  request_place,
  message_place,
}

-- Laying a chassis out

-- n rows, end to end
unfoldable pub rows : ℕ → (ℕ → List ℕ) → List ℕ
rows zero f = []
rows (suc n) f = f zero ++ rows n (λ j. f (suc j))

abbrev pub head_row : Edition → ℕ → ℕ → ℕ → ℕ → OrderNo → List ℕ
head_row e cards blocks waiting pooled last = edition_no e ∷ cards ∷ blocks ∷ waiting ∷ pooled ∷ last.0 ∷ []

abbrev pub home_row : ℕ → ℕ → ℕ → List ℕ
home_row memory owner sharers = memory ∷ owner ∷ sharers ∷ []

abbrev pub cell_row : Cell → List ℕ
cell_row x = x.state ∷ x.value ∷ x.awaits.0 ∷ []

abbrev pub block_row : Block → List ℕ
block_row B = home_row B.memory B.owner B.sharers ++ rows most_cards (λ k. cell_row (B.cell k))

abbrev pub request_row : Request → List ℕ
request_row r = r.card ∷ r.block ∷ r.kind ∷ r.mask ∷ r.retry.0 ∷ []

abbrev pub message_row : Message → List ℕ
message_row m = m.sender ∷ m.receiver ∷ m.block ∷ m.value ∷ m.number.0 ∷ []

unfoldable pub words : Chassis → List ℕ
words c =
    head_row c.edition c.cards c.blocks (length c.line) (length c.pool) c.last
    ++ (rows most_blocks (λ b. block_row (c.block b))
    ++ (rows room (λ i. request_row (get_or c.line i unused_request))
    ++ rows room (λ i. message_row (get_or c.pool i unused_message))))

-- Reading one back

-- an edition is what its word says; what is no edition's number is read as one that has another word
abbrev pub as_edition : ℕ → Edition
as_edition n = cond (eqb n (edition_no Msi)) Msi Mosi

abbrev pub edition_of : List ℕ → Edition
edition_of w = as_edition (get_or w edition_at 0)

abbrev pub cards_of : List ℕ → ℕ
cards_of w = get_or w cards_at 0

abbrev pub blocks_of : List ℕ → ℕ
blocks_of w = get_or w blocks_at 0

abbrev pub waiting_of : List ℕ → ℕ
waiting_of w = get_or w waiting_at 0

abbrev pub pooled_of : List ℕ → ℕ
pooled_of w = get_or w pooled_at 0

abbrev pub last_of : List ℕ → OrderNo
last_of w = order_no (get_or w last_at 0)

-- a field of a byte, of a mask's bits or of a value's 32 is what its word is below that
abbrev pub as_byte : ℕ → ℕ
as_byte n = n % 2 ^ 8

abbrev pub as_mask : ℕ → ℕ
as_mask n = n % 2 ^ mask_bits

abbrev pub as_value : ℕ → ℕ
as_value n = n % 2 ^ 32

abbrev pub cell_at : List ℕ → ℕ → ℕ → Cell
cell_at w k b = let p = cell_place k b in
    a_cell (as_byte (get_or w p 0)) (as_value (get_or w (p + 1) 0)) (order_no (get_or w (p + 2) 0))

abbrev pub request_at : List ℕ → ℕ → Request
request_at w i = let p = request_place i in
    a_request (as_byte (get_or w p 0)) (as_byte (get_or w (p + 1) 0)) (as_byte (get_or w (p + 2) 0)) (as_mask (get_or w (p + 3) 0))
    (retry_no (as_byte (get_or w (p + 4) 0)))

abbrev pub message_at : List ℕ → ℕ → Message
message_at w i = let p = message_place i in
    a_message (as_byte (get_or w p 0)) (as_byte (get_or w (p + 1) 0)) (as_byte (get_or w (p + 2) 0)) (as_value (get_or w (p + 3) 0))
    (order_no (get_or w (p + 4) 0))

abbrev pub memory_at : List ℕ → ℕ → ℕ
memory_at w b = as_value (get_or w (home_place b) 0)

abbrev pub owner_at : List ℕ → ℕ → ℕ
owner_at w b = as_byte (get_or w (home_place b + 1) 0)

abbrev pub sharers_at : List ℕ → ℕ → ℕ
sharers_at w b = as_mask (get_or w (home_place b + 2) 0)

-- beyond the cards and blocks that there is room for, a chassis is as Start makes it
abbrev pub block_of : List ℕ → ℕ → Block
block_of w b = a_block (memory_at w b) (owner_at w b) (sharers_at w b) (λ k. cond (ltb k most_cards) (cell_at w k b) idle)

-- f 0, f 1 and so on, n of them
module _ {A : Type 0} where
  unfoldable pub first : ℕ → (ℕ → A) → List A
  first zero f = []
  first (suc n) f = f zero ∷ first n (λ j. f (suc j))

unfoldable pub view : List ℕ → Chassis
view w = a_chassis (edition_of w) (cards_of w) (blocks_of w) (λ b. cond (ltb b most_blocks) (block_of w b) fresh_block)
    (first (waiting_of w) (request_at w)) (first (pooled_of w) (message_at w)) (last_of w)

-- 15

-- the words are those of the chassis that they say (each fits its field, and an unused place is all 0), and it is well formed
unfoldable pub formed : List ℕ → Bool
formed w = same w (words (view w)) && well_formed (view w)
