-- The test of 15 item by item: the words at an item's place are those of the item, and the item passes the rules' test.
use Rattle.std.specs.Prelude.{ℕ, suc, Bool, true, cond, ◌&&◌, List, [], ◌∷◌, get_or, eqb, ltb, leb}
use Rattle.rules.specs.Tests.{each, all}
use Rattle.rules.specs.Masks.{inside}
use Rattle.rules.specs.Numbers.{most_cards, most_blocks, room, edition_no}
use Rattle.rules.specs.Chassis.{Block, idle, fresh_block, unused_request, unused_message}
use Rattle.rules.specs.Formed.{sizes, home_or_card, ok_cell, ok_request, ok_message}
use Rattle.rules.specs.declared.Edition.TheVariants.{Mosi}
use Rattle.rules.specs.declared.Cell.{Cell}
use Rattle.rules.specs.declared.Request.{Request}
use Rattle.rules.specs.declared.Message.{Message}
use Rattle.words.specs.Layout.{edition_at, home_place, cell_place, request_place, message_place}
use Rattle.words.specs.Words.{
  home_row,
  cell_row,
  request_row,
  message_row,
  edition_of,
  cards_of,
  blocks_of,
  waiting_of,
  pooled_of,
  last_of,
  cell_at,
  owner_at,
  sharers_at,
  request_at,
  message_at,
  block_of,
}

-- the words from place p on are these
unfoldable pub row_is : List ℕ → ℕ → List ℕ → Bool
row_is w p [] = true
row_is w p (x ∷ xs) = eqb (get_or w p 0) x && row_is w (suc p) xs

-- the header
unfoldable pub head_test : List ℕ → Bool
head_test w = leb (get_or w edition_at 0) (edition_no Mosi) && sizes (cards_of w) (blocks_of w) && leb (waiting_of w) room && leb (pooled_of w) room

-- the words of home's part of block b, of card k's cell, of place i of the line and of the pool
abbrev pub home_is : List ℕ → ℕ → Block → Bool
home_is w b B = row_is w (home_place b) (home_row B.memory B.owner B.sharers)

abbrev pub cell_is : List ℕ → ℕ → ℕ → Cell → Bool
cell_is w k b x = row_is w (cell_place k b) (cell_row x)

abbrev pub request_is : List ℕ → ℕ → Request → Bool
request_is w i r = row_is w (request_place i) (request_row r)

abbrev pub message_is : List ℕ → ℕ → Message → Bool
message_is w i m = row_is w (message_place i) (message_row m)

-- card k's cell of block b, where so many cards have one
unfoldable pub cell_test : List ℕ → ℕ → ℕ → ℕ → Bool
cell_test w cards b k = cond (ltb k cards)
    (cell_is w k b (cell_at w k b) && ok_cell (edition_of w) (last_of w) (cell_at w k b))
    (cell_is w k b idle)

-- block b: home's part, and the cells
unfoldable pub home_test : List ℕ → ℕ → Bool
home_test w b = home_is w b (block_of w b)
    && (home_or_card (cards_of w) (owner_at w b) && inside (cards_of w) (sharers_at w b))

unfoldable pub block_test : List ℕ → ℕ → Bool
block_test w b = cond (ltb b (blocks_of w))
    (home_test w b && all most_cards (cell_test w (cards_of w) b))
    (home_is w b fresh_block && all most_cards (cell_test w 0 b))

-- place i of the line, and of the pool
unfoldable pub request_test : List ℕ → ℕ → Bool
request_test w i = cond (ltb i (waiting_of w))
    (request_is w i (request_at w i) && ok_request (cards_of w) (blocks_of w) (request_at w i))
    (request_is w i unused_request)

unfoldable pub message_test : List ℕ → ℕ → Bool
message_test w i = cond (ltb i (pooled_of w))
    (message_is w i (message_at w i) && ok_message (cards_of w) (blocks_of w) (last_of w) (message_at w i))
    (message_is w i unused_message)

-- all of them
abbrev pub tests : List ℕ → List Bool
tests w = head_test w ∷ all most_blocks (block_test w) ∷ all room (request_test w) ∷ all room (message_test w) ∷ []

unfoldable pub tested : List ℕ → Bool
tested w = each (tests w)
