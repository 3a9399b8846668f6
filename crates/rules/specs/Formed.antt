-- Well formed: "15 comes first wherever a state is handed in". A state is ill formed where one of these tests fails.
use Rattle.std.specs.Prelude.{ℕ, Bool, cond, not, ◌||◌, [], ◌∷◌, length, eqb, ltb, leb}
use Rattle.rules.specs.Tests.{◌⇒◌, each, all, all_of}
use Rattle.rules.specs.Masks.{every, inside}
use Rattle.rules.specs.Numbers.{
  most_cards,
  most_blocks,
  home,
  room,
  no_number,
  same_number,
  up_to_number,
  last_retry,
  same_retry,
  up_to_retry,
  gets,
  putx,
  states_in,
}
use Rattle.rules.specs.Table.{loads, waits}
use Rattle.rules.specs.Chassis.{Block, Chassis, idle, fresh_block}
use Rattle.rules.specs.declared.Edition.{Edition}
use Rattle.rules.specs.declared.OrderNo.{OrderNo}
use Rattle.rules.specs.declared.Cell.{Cell}
use Rattle.rules.specs.declared.Request.{Request}
use Rattle.rules.specs.declared.Message.{Message}

-- "1 to 8 cards .. 1 to 32 blocks"
unfoldable pub sizes : ℕ → ℕ → Bool
sizes cards blocks = each (leb 1 cards ∷ leb cards most_cards ∷ leb 1 blocks ∷ leb blocks most_blocks ∷ [])

-- home or a card that is there
unfoldable pub home_or_card : ℕ → ℕ → Bool
home_or_card cards k = eqb k home || ltb k cards

-- a cell of a card that is there, where last is the last order number given
unfoldable pub ok_cell : Edition → OrderNo → Cell → Bool
ok_cell e last x = each (
    -- "a .. code .. out of range"; R-1: "in MSI states 11 to 13 are ill formed"
    ltb x.state (states_in e) ∷
    -- "an order number above the last given"
    up_to_number x.awaits last ∷
    -- "an awaited number of 0 in 6, 7 or 8"
    (waits x.state ⇒ not (same_number x.awaits no_number)) ∷
    -- "a cell against the two rules above": "the awaited number is 0 outside states 6, 7 and 8"
    (not (waits x.state) ⇒ same_number x.awaits no_number) ∷
    -- "The value is 0 in a state without Load"
    (not (loads x.state) ⇒ eqb x.value 0) ∷ [])

-- an unused cell, as Start makes it
unfoldable pub unused_cell : Cell → Bool
unused_cell x = each (
    eqb x.state idle.state ∷
    eqb x.value idle.value ∷
    same_number x.awaits idle.awaits ∷ [])

-- a block that is there
unfoldable pub ok_block : Edition → ℕ → OrderNo → Block → Bool
ok_block e cards last B = each (
    -- "a .. card .. out of range"
    home_or_card cards B.owner ∷
    -- "a .. mask .. out of range"
    inside cards B.sharers ∷
    all most_cards (λ k. cond (ltb k cards) (ok_cell e last (B.cell k)) (unused_cell (B.cell k))) ∷ [])

-- an unused block, as Start makes it
unfoldable pub unused_block : Block → Bool
unused_block B = each (
    eqb B.memory fresh_block.memory ∷
    eqb B.owner fresh_block.owner ∷
    eqb B.sharers fresh_block.sharers ∷
    all most_cards (λ k. unused_cell (B.cell k)) ∷ [])

-- a request in the line
unfoldable pub ok_request : ℕ → ℕ → Request → Bool
ok_request cards blocks r = each (
    -- "a .. code, card, block, mask or retry (0 to 3) out of range"
    ltb r.card cards ∷
    ltb r.block blocks ∷
    leb gets r.kind ∷
    leb r.kind putx ∷
    inside cards r.mask ∷
    up_to_retry r.retry last_retry ∷
    -- "a retry of 3 with a mask other than every card"
    (same_retry r.retry last_retry ⇒ eqb r.mask (every cards)) ∷ [])

-- a message in the pool
unfoldable pub ok_message : ℕ → ℕ → OrderNo → Message → Bool
ok_message cards blocks last m = each (
    -- "a .. card, block .. out of range"
    home_or_card cards m.sender ∷
    ltb m.receiver cards ∷
    ltb m.block blocks ∷
    -- "a message's number of 0"
    not (same_number m.number no_number) ∷
    -- "an order number above the last given"
    up_to_number m.number last ∷ [])

-- an unused place of the line or the pool is not in their lists, so it cannot be ill formed here
unfoldable pub well_formed : Chassis → Bool
well_formed c = each (
    -- "a size .. out of range"
    sizes c.cards c.blocks ∷
    -- "a .. count .. out of range"
    leb (length c.line) room ∷
    leb (length c.pool) room ∷
    all_of c.line (ok_request c.cards c.blocks) ∷
    all_of c.pool (ok_message c.cards c.blocks c.last) ∷
    -- "or an unused place not as Start makes it"
    all most_blocks (λ b. cond (ltb b c.blocks) (ok_block c.edition c.cards c.last (c.block b)) (unused_block (c.block b))) ∷ [])
