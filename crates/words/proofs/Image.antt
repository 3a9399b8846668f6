-- The words of a chassis by its places: a store of one item, a read of one word of it, and places that close up.
use Prim.Native.Nat.{ℕ, zero, suc, ◌+◌, ◌*◌, ◌≤◌, ◌<◌}
use native.Mathlib.Nat.{add-zero}
use native.Mathlib.Omega.{arith}
use mathlib.Core.List.{List, [], ◌++◌, append_assoc, append-nil}
use mathlib.Core.Path.{◌≡◌, refl, sym, ap, ◌∙◌}
use lib.ListN.{length, get_or, length-append}
use lib.Seq.{sets}
use Rattle.rules.specs.Lists.{replace}
use Rattle.rules.specs.Numbers.{most_cards, most_blocks, room}
use Rattle.rules.specs.Chassis.{Block, Chassis, with_cell, with_home, unused_request, unused_message}
use Rattle.rules.specs.declared.Edition.{Edition}
use Rattle.rules.specs.declared.OrderNo.{OrderNo}
use Rattle.rules.specs.declared.Cell.{Cell}
use Rattle.rules.specs.declared.Request.{Request}
use Rattle.rules.specs.declared.Message.{Message}
use Rattle.words.specs.Layout.{
  head_words,
  home_words,
  cell_words,
  block_words,
  place_words,
  line_from,
  pool_from,
  home_place,
  cell_place,
  request_place,
  message_place,
  all_words,
}
use Rattle.words.specs.Words.{
  rows,
  head_row,
  home_row,
  cell_row,
  block_row,
  request_row,
  message_row,
  words,
}
use Rattle.words.specs.Claims.{AllWords}
use Rattle.words.specs.Inner.Parts.{put_cell, put_home, put_request, put_message, closing}
use Rattle.words.proofs.Rows.{length-rows, table-sets, table-get_or}
use Rattle.words.proofs.Closing.{pulled, table-closing}

-- A chassis by its places: the counts, and what stands in each place, used or not

pub record Plain : Type 0 where
  pub edition : Edition
  pub cards : ℕ
  pub blocks : ℕ
  pub waiting : ℕ
  pub pooled : ℕ
  pub last : OrderNo
  pub block : ℕ → Block
  pub line : ℕ → Request
  pub pool : ℕ → Message

-- with the counts, the blocks, the line and the pool anew: what leaves one with something changed goes through this
abbrev pub alike : Plain → ℕ → ℕ → (ℕ → Block) → (ℕ → Request) → (ℕ → Message) → Plain
alike p waiting pooled block line pool = record {
  edition = p.edition;
  cards = p.cards;
  blocks = p.blocks;
  waiting = waiting;
  pooled = pooled;
  last = p.last;
  block = block;
  line = line;
  pool = pool;
}

abbrev pub plain : Chassis → Plain
plain c = record {
  edition = c.edition;
  cards = c.cards;
  blocks = c.blocks;
  waiting = length c.line;
  pooled = length c.pool;
  last = c.last;
  block = c.block;
  line = λ i. get_or c.line i unused_request;
  pool = λ i. get_or c.pool i unused_message;
}

abbrev header : Plain → List ℕ
header p = head_row p.edition p.cards p.blocks p.waiting p.pooled p.last

abbrev blocks_rows : Plain → List ℕ
blocks_rows p = rows most_blocks (λ b. block_row (p.block b))

abbrev line_rows : Plain → List ℕ
line_rows p = rows room (λ i. request_row (p.line i))

abbrev pool_rows : Plain → List ℕ
pool_rows p = rows room (λ i. message_row (p.pool i))

unfoldable pub image : Plain → List ℕ
image p = header p ++ (blocks_rows p ++ (line_rows p ++ pool_rows p))

pub words-image : (c : Chassis) → words c ≡ image (plain c)
unfolding words image
words-image c = refl

-- One place anew

abbrev pub in_block : Plain → ℕ → Block → Plain
in_block p b B = alike p p.waiting p.pooled (replace p.block b B) p.line p.pool

-- the line's places anew, and the pool's
abbrev pub with_line : Plain → (ℕ → Request) → Plain
with_line p line = alike p p.waiting p.pooled p.block line p.pool

abbrev pub with_pool : Plain → (ℕ → Message) → Plain
with_pool p pool = alike p p.waiting p.pooled p.block p.line pool

-- Where the parts begin

cell-wide : (x : Cell) → length (cell_row x) ≡ cell_words
cell-wide x = refl

block-wide : (B : Block) → length (block_row B) ≡ block_words
block-wide B = length-append (home_row B.memory B.owner B.sharers) (rows most_cards (λ k. cell_row (B.cell k)))
    ∙ ap (λ n. home_words + n) (length-rows cell_words most_cards (λ k. cell_row (B.cell k)) (λ k. refl))

length-blocks : (p : Plain) → length (blocks_rows p) ≡ block_words * most_blocks
length-blocks p = length-rows block_words most_blocks (λ b. block_row (p.block b)) (λ b. block-wide (p.block b))

length-line : (p : Plain) → length (line_rows p) ≡ place_words * room
length-line p = length-rows place_words room (λ i. request_row (p.line i)) (λ i. refl)

length-pool : (p : Plain) → length (pool_rows p) ≡ place_words * room
length-pool p = length-rows place_words room (λ i. message_row (p.pool i)) (λ i. refl)

before-line : (p : Plain) → length (header p ++ blocks_rows p) ≡ line_from
before-line p = length-append (header p) (blocks_rows p) ∙ ap (λ n. head_words + n) (length-blocks p)

before-pool : (p : Plain) → length ((header p ++ blocks_rows p) ++ line_rows p) ≡ pool_from
before-pool p = length-append (header p ++ blocks_rows p) (line_rows p) ∙ rw (before-line p, length-line p)

pub length-image : (p : Plain) → length (image p) ≡ all_words
unfolding image
length-image p = simp length-append (omega (arith, length-blocks p, length-line p, length-pool p))

at-line : (p : Plain) → image p ≡ (header p ++ blocks_rows p) ++ (line_rows p ++ pool_rows p)
unfolding image
at-line p = sym (append_assoc (header p) (blocks_rows p) (line_rows p ++ pool_rows p))

at-pool : (p : Plain) → image p ≡ ((header p ++ blocks_rows p) ++ line_rows p) ++ (pool_rows p ++ [])
at-pool p = at-line p ∙ sym (append_assoc (header p ++ blocks_rows p) (line_rows p) (pool_rows p))
    ∙ ap (λ (l : List ℕ). ((header p ++ blocks_rows p) ++ line_rows p) ++ l) (sym (append-nil (pool_rows p)))

-- A store of one item

-- a cell within its block
cell-in-block : (B : Block) (k : ℕ) (x : Cell) → k < most_cards → sets (block_row B) (home_words + cell_words * k) (cell_row x) ≡ block_row (with_cell B k x)
cell-in-block B k x h =
    let a = home_row B.memory B.owner B.sharers in
    let e : home_words + cell_words * k ≡ length a + (cell_words * k + 0) = omega arith in
    let cells : List ℕ = rows most_cards (λ k. cell_row (B.cell k)) in
    rw e (ap (λ (l : List ℕ). sets (a ++ l) (length a + (cell_words * k + 0)) (cell_row x)) (sym (append-nil cells))
    ∙ table-sets cell_words most_cards cell_row cell-wide a [] B.cell k 0 (cell_row x) x h (omega arith) refl
    ∙ ap (λ (l : List ℕ). a ++ l) (append-nil (rows most_cards (λ j. cell_row (replace B.cell k x j)))))

block-sets : (p : Plain) (b r : ℕ) (vs : List ℕ) (B : Block) → b < most_blocks → r + length vs ≤ block_words
    → sets (block_row (p.block b)) r vs ≡ block_row B → sets (image p) (home_place b + r) vs ≡ image (in_block p b B)
unfolding image
block-sets p b r vs B h k e =
    let at : home_place b + r ≡ length (header p) + (block_words * b + r) = omega arith in
    rw at (table-sets block_words most_blocks block_row block-wide (header p) (line_rows p ++ pool_rows p) p.block b r vs B h k e)

pub put-cell : (p : Plain) (k b : ℕ) (x : Cell) → k < most_cards → b < most_blocks
    → put_cell (image p) k b x ≡ image (in_block p b (with_cell (p.block b) k x))
put-cell p k b x hk hb =
    let at : cell_place k b ≡ home_place b + (home_words + cell_words * k) = omega arith in
    rw at (block-sets p b (home_words + cell_words * k) (cell_row x) (with_cell (p.block b) k x) hb (omega arith) (cell-in-block (p.block b) k x hk))

pub put-home : (p : Plain) (b memory owner sharers : ℕ) → b < most_blocks
    → put_home (image p) b memory owner sharers ≡ image (in_block p b (with_home (p.block b) memory owner sharers))
put-home p b memory owner sharers hb =
    let vs = home_row memory owner sharers in
    let B = with_home (p.block b) memory owner sharers in
    ap (λ q. sets (image p) q vs) (sym (add-zero (home_place b))) ∙ block-sets p b 0 vs B hb (omega arith) refl

pub put-request : (p : Plain) (i : ℕ) (r : Request) → i < room
    → put_request (image p) i r ≡ image (with_line p (replace p.line i r))
put-request p i r h =
    let a = header p ++ blocks_rows p in
    let at : request_place i ≡ length a + (place_words * i + 0) = omega (arith, before-line p) in
    rw (at, at-line p, at-line (with_line p (replace p.line i r)))
    (table-sets place_words room request_row (λ _. refl) a (pool_rows p) p.line i 0 (request_row r) r h (omega arith) refl)

pub put-message : (p : Plain) (i : ℕ) (m : Message) → i < room
    → put_message (image p) i m ≡ image (with_pool p (replace p.pool i m))
put-message p i m h =
    let a = (header p ++ blocks_rows p) ++ line_rows p in
    let at : message_place i ≡ length a + (place_words * i + 0) = omega (arith, before-pool p) in
    rw (at, at-pool p, at-pool (with_pool p (replace p.pool i m)))
    (table-sets place_words room message_row (λ _. refl) a [] p.pool i 0 (message_row m) m h (omega arith) refl)

-- Places that close up

pub close-line : (p : Plain) (i t : ℕ) → i + t < room
    → closing (image p) (request_place i) (place_words * t) place_words ≡ image (with_line p (pulled p.line i t))
close-line p i t h =
    let a = header p ++ blocks_rows p in
    let from : request_place i ≡ length a + place_words * i = omega (arith, before-line p) in
    rw (from, at-line p, at-line (with_line p (pulled p.line i t)))
    (table-closing place_words request_row (λ _. refl) a (pool_rows p) room i t p.line h)

pub close-pool : (p : Plain) (i t : ℕ) → i + t < room
    → closing (image p) (message_place i) (place_words * t) place_words ≡ image (with_pool p (pulled p.pool i t))
close-pool p i t h =
    let a = (header p ++ blocks_rows p) ++ line_rows p in
    let from : message_place i ≡ length a + place_words * i = omega (arith, before-pool p) in
    rw (from, at-pool p, at-pool (with_pool p (pulled p.pool i t)))
    (table-closing place_words message_row (λ _. refl) a [] room i t p.pool h)

-- A read of one word

get-block : (p : Plain) (b r : ℕ) → b < most_blocks → r < block_words → get_or (image p) (home_place b + r) 0 ≡ get_or (block_row (p.block b)) r 0
unfolding image
get-block p b r h k =
    let at : home_place b + r ≡ length (header p) + (block_words * b + r) = omega arith in
    rw at (table-get_or block_words most_blocks block_row block-wide (header p) (line_rows p ++ pool_rows p) p.block b r h k)

pub get-home : (p : Plain) (b r : ℕ) → b < most_blocks → r < home_words
    → get_or (image p) (home_place b + r) 0 ≡ get_or (home_row (p.block b).memory (p.block b).owner (p.block b).sharers) r 0
get-home p b zero h k = get-block p b zero h (omega arith)
get-home p b (suc zero) h k = get-block p b 1 h (omega arith)
get-home p b (suc (suc zero)) h k = get-block p b 2 h (omega arith)
get-home p b (suc (suc (suc r))) h k = absurd (omega arith)

pub get-cell : (p : Plain) (k b r : ℕ) → k < most_cards → b < most_blocks → r < cell_words
    → get_or (image p) (cell_place k b + r) 0 ≡ get_or (cell_row ((p.block b).cell k)) r 0
get-cell p k b r hk hb hr =
    let B = p.block b in
    let a = home_row B.memory B.owner B.sharers in
    let cells : List ℕ = rows most_cards (λ k. cell_row (B.cell k)) in
    let at : cell_place k b + r ≡ home_place b + (home_words + (cell_words * k + r)) = omega arith in
    rw at (get-block p b (home_words + (cell_words * k + r)) hb (omega arith)
    ∙ ap (λ (l : List ℕ). get_or (a ++ l) (length a + (cell_words * k + r)) 0) (sym (append-nil cells))
    ∙ table-get_or cell_words most_cards cell_row cell-wide a [] B.cell k r hk hr)

pub get-request : (p : Plain) (i r : ℕ) → i < room → r < place_words → get_or (image p) (request_place i + r) 0 ≡ get_or (request_row (p.line i)) r 0
get-request p i r h k =
    let a = header p ++ blocks_rows p in
    let at : request_place i + r ≡ length a + (place_words * i + r) = omega (arith, before-line p) in
    rw (at, at-line p) (table-get_or place_words room request_row (λ _. refl) a (pool_rows p) p.line i r h k)

pub get-message : (p : Plain) (i r : ℕ) → i < room → r < place_words → get_or (image p) (message_place i + r) 0 ≡ get_or (message_row (p.pool i)) r 0
get-message p i r h k =
    let a = (header p ++ blocks_rows p) ++ line_rows p in
    let at : message_place i + r ≡ length a + (place_words * i + r) = omega (arith, before-pool p) in
    rw (at, at-pool p) (table-get_or place_words room message_row (λ _. refl) a [] p.pool i r h k)

pub all_words_lem : AllWords
all_words_lem c = ap length (words-image c) ∙ length-image (plain c)
