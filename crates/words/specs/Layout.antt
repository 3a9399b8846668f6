-- How a chassis lies in words: the header, the blocks, the line's places, the pool's places. A field is one word.
use Rattle.std.specs.Prelude.{ℕ, ◌+◌, ◌*◌}
use Rattle.rules.specs.Numbers.{most_cards, most_blocks, room}

-- the header: the edition, cards, blocks, how many wait in the line, how many are in the pool, the last order number
abbrev pub edition_at : ℕ
edition_at = 0

abbrev pub cards_at : ℕ
cards_at = 1

abbrev pub blocks_at : ℕ
blocks_at = 2

abbrev pub waiting_at : ℕ
waiting_at = 3

abbrev pub pooled_at : ℕ
pooled_at = 4

abbrev pub last_at : ℕ
last_at = 5

abbrev pub head_words : ℕ
head_words = last_at + 1

-- a block: memory, owner, sharers, and for each card state, value, awaited number
abbrev pub home_words : ℕ
home_words = 3

abbrev pub cell_words : ℕ
cell_words = 3

abbrev pub block_words : ℕ
block_words = home_words + cell_words * most_cards

-- a place of the line: card, block, kind, mask, retry; one of the pool: sender, receiver, block, value, number
abbrev pub place_words : ℕ
place_words = 5

-- where the blocks, the line and the pool begin, and how many words there are
abbrev pub blocks_from : ℕ
blocks_from = head_words

abbrev pub line_from : ℕ
line_from = blocks_from + block_words * most_blocks

abbrev pub pool_from : ℕ
pool_from = line_from + place_words * room

abbrev pub all_words : ℕ
all_words = pool_from + place_words * room

-- the place of home's part of block b, of card k's cell of it, of the request and of the message at place i
abbrev pub home_place : ℕ → ℕ
home_place b = blocks_from + block_words * b

abbrev pub cell_place : ℕ → ℕ → ℕ
cell_place k b = home_place b + home_words + cell_words * k

-- place i, where the places begin at base
abbrev pub place_from : ℕ → ℕ → ℕ
place_from base i = base + place_words * i

abbrev pub request_place : ℕ → ℕ
request_place i = place_from line_from i

abbrev pub message_place : ℕ → ℕ
message_place i = place_from pool_from i
