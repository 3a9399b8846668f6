-- Order: "takes the head, from card q, and the next order number".
use Rattle.std.specs.Prelude.{Ok, ℕ, Bool, true, cond, not, ◌&&◌, ◌||◌, List, [], ◌∷◌, ◌++◌, length, eqb, leb}
use Rattle.rules.specs.Tests.{any, some}
use Rattle.rules.specs.Masks.{has, only, every, union}
use Rattle.rules.specs.Mask.{suffices}
use Rattle.rules.specs.Numbers.{
  home,
  room,
  last_number,
  next_number,
  up_to_number,
  last_retry,
  next_retry,
  up_to_retry,
  gets,
  putx,
  granted,
  too_small,
  put_taken,
  put_lapsed,
}
use Rattle.rules.specs.Table.{
  sees_gets,
  sees_getx,
  waits,
  is_reader,
  can_give,
  comes_from,
  upgrades,
  put_stands,
  leaves_sharers,
  granted_to,
}
use Rattle.rules.specs.Chassis.{
  Block,
  Chassis,
  a_request,
  a_message,
  a_block,
  idle,
  goes,
  goes_for,
  changed,
}
use Rattle.rules.specs.Answers.{Step, result, Reason, ◌if◌}
use Rattle.rules.specs.declared.Edition.{Edition}
use Rattle.rules.specs.declared.OrderNo.{OrderNo}
use Rattle.rules.specs.declared.RetryNo.{RetryNo}
use Rattle.rules.specs.declared.Cell.{Cell}
use Rattle.rules.specs.declared.Request.{Request}
use Rattle.rules.specs.declared.Message.{Message}
use Rattle.rules.specs.declared.Turn.{Turn}
use Rattle.rules.specs.declared.Turn.TheVariants.{
  GetsGranted,
  GetxGranted,
  GetsMissed,
  GetxMissed,
  PutTaken,
  PutLapsed,
}
use Rattle.rules.specs.declared.Refusal.TheVariants.{
  LineEmpty,
  BlockHeld,
  PoolFull,
  NumbersSpent,
  Impossible,
}

-- Refusals

-- 9: "some card is in 6, 7 or 8 for the head's block"
unfoldable pub held : ℕ → Block → Bool
held cards B = some cards (λ k. waits (B.cell k).state)

-- 13: "impossible", where q's request r for block B is at the head
unfoldable pub impossible : Block → Request → Bool
impossible B r =
    let q = r.card in
    let from = (B.cell q).state in
    let isPut = eqb r.kind putx in
    any (
    -- "GETS not from 3, GETX not from 4 or 5, PUTX not from 9 or 10", R-1: "GETX may come from 12 and PUTX from 13"
    not (comes_from r.kind from) ∷
    -- "for GETS and GETX the owner is q"; R-1: from 12 "only with q as owner"
    (not isPut && not (upgrades from) && eqb B.owner q) ∷
    (not isPut && upgrades from && not (eqb B.owner q)) ∷
    -- "or a card not in 2 or 9", R-1: "the owner may be in 11 to 13"
    (not isPut && not (eqb B.owner home) && not (can_give (B.cell B.owner).state)) ∷
    -- "PUTX from 9 with another owner", R-1: from 13 "only with q as owner"
    (isPut && put_stands from && not (eqb B.owner q)) ∷
    -- "or from 10 with q as owner"
    (isPut && not (put_stands from) && eqb B.owner q) ∷ [])

-- 10: "pool full, .. at Order of GETS or GETX, whatever its mask"
unfoldable pub no_room_for : Chassis → Request → Bool
no_room_for c r = not (eqb r.kind putx) && leb room (length c.pool)

-- "Order: 8, 12, 9, 13, 10"
unfoldable pub order_reasons : Chassis → List Request → List Reason
order_reasons c [] = (LineEmpty if true) ∷ []
order_reasons c (r ∷ rest) =
    (NumbersSpent if up_to_number last_number c.last) ∷
    (BlockHeld if held c.cards (c.block r.block)) ∷
    (Impossible if impossible (c.block r.block) r) ∷
    (PoolFull if no_room_for c r) ∷ []

-- The turn: what comes of the head request

unfoldable pub turn : Chassis → Request → Turn
turn c r =
    let B = c.block r.block in
    cond (eqb r.kind putx)
    (cond (put_stands (B.cell r.card).state) PutTaken PutLapsed)
    (cond (suffices c.cards B r)
    (cond (eqb r.kind gets) (GetsGranted c.edition) GetxGranted)
    (cond (eqb r.kind gets) GetsMissed GetxMissed))

-- What a turn does

-- its outcome; home's part, by the block and the asker: memory, owner, sharers; the cards' parts, each by its own cell: the asker's, that of
-- the owner, if it is another card, and a reader's, of any other card in the mask; the message; the line
pub record Upshot : Type 0 where
  pub outcome : ℕ
  pub memory : Block → ℕ → ℕ
  pub owner : Block → ℕ → ℕ
  pub sharers : Block → ℕ → ℕ
  pub asker_sees : OrderNo → Cell → Cell
  pub owner_sees : Cell → Cell
  pub reader_sees : Cell → Cell
  pub sent : Block → Request → OrderNo → List Message
  pub again : ℕ → Block → Request → List Request

abbrev pub upshot : ℕ → (Block → ℕ → ℕ) → (Block → ℕ → ℕ) → (Block → ℕ → ℕ) → (OrderNo → Cell → Cell) → (Cell → Cell) → (Cell → Cell)
    → (Block → Request → OrderNo → List Message) → (ℕ → Block → Request → List Request) → Upshot
upshot outcome memory owner sharers asker owns reads sent again = record {
  outcome = outcome;
  memory = memory;
  owner = owner;
  sharers = sharers;
  asker_sees = asker;
  owner_sees = owns;
  reader_sees = reads;
  sent = sent;
  again = again;
}

-- all stays, but for what is said behind it
abbrev pub stays_at : ℕ → Upshot
stays_at outcome = upshot outcome (λ B q. B.memory) (λ B q. B.owner) (λ B q. B.sharers) (λ n x. x) (λ x. x) (λ x. x) (λ B r n. []) (λ cards B r. [])

infixl 5 ◌but◌
abbrev pub ◌but◌ : Upshot → (Upshot → Upshot) → Upshot
u but f = f u

abbrev pub memory_takes : (Block → ℕ → ℕ) → Upshot → Upshot
memory_takes f u = upshot u.outcome f u.owner u.sharers u.asker_sees u.owner_sees u.reader_sees u.sent u.again

abbrev pub owner_becomes : (Block → ℕ → ℕ) → Upshot → Upshot
owner_becomes f u = upshot u.outcome u.memory f u.sharers u.asker_sees u.owner_sees u.reader_sees u.sent u.again

abbrev pub sharers_become : (Block → ℕ → ℕ) → Upshot → Upshot
sharers_become f u = upshot u.outcome u.memory u.owner f u.asker_sees u.owner_sees u.reader_sees u.sent u.again

abbrev pub asker_goes : (OrderNo → Cell → Cell) → Upshot → Upshot
asker_goes f u = upshot u.outcome u.memory u.owner u.sharers f u.owner_sees u.reader_sees u.sent u.again

-- an owning card "moves by the table"
abbrev pub owner_moves : (ℕ → ℕ) → Upshot → Upshot
owner_moves to u = upshot u.outcome u.memory u.owner u.sharers u.asker_sees (λ x. goes (to x.state) x) u.reader_sees u.sent u.again

-- "Cards in the mask, other than q, in states 1 and 5 move by the table"
abbrev pub readers_move : (ℕ → ℕ) → Upshot → Upshot
readers_move to u = upshot u.outcome u.memory u.owner u.sharers u.asker_sees u.owner_sees
    (λ x. cond (is_reader x.state) (goes (to x.state) x) x) u.sent u.again

abbrev pub sends : (Block → Request → OrderNo → Message) → Upshot → Upshot
sends f u = upshot u.outcome u.memory u.owner u.sharers u.asker_sees u.owner_sees u.reader_sees (λ B r n. f B r n ∷ []) u.again

abbrev pub goes_back : (ℕ → Block → Request → Request) → Upshot → Upshot
goes_back f u = upshot u.outcome u.memory u.owner u.sharers u.asker_sees u.owner_sees u.reader_sees u.sent (λ cards B r. f cards B r ∷ [])

-- Grants

-- who gives the data to q: the old owner; R-1: of an upgrade "data from memory, sender home"
unfoldable pub giver : Block → ℕ → ℕ
giver B q = cond (eqb B.owner q) home B.owner

-- what an owning card gives away, or else memory's value
unfoldable pub given : Block → ℕ → ℕ
given B q = cond (eqb (giver B q) home) B.memory (B.cell (giver B q)).value

-- "Every grant puts one message at the pool's tail: sender (old owner), receiver q, block, memory's value, order number."
unfoldable pub data_for : Block → Request → OrderNo → Message
data_for B r n = a_message (giver B r.card) r.card r.block (given B r.card) n

-- "q goes to 6", "from 4 to 7 or from 5 to 8"; "q awaits that number"
abbrev pub granted_cell : OrderNo → Cell → Cell
granted_cell n x = goes_for n (granted_to x.state) x

-- R-1: an owner that sees GETS and is still in a state that can give "keeps the ownership": home's part follows from where it goes
unfoldable pub keeps : Edition → Block → Bool
keeps e B = can_give (sees_gets e (B.cell B.owner).state)

-- "the sharers become that card and q .. With home as owner, q joins the sharers"; R-1: beside an owner that keeps it "the asker joins the
-- sharers"
abbrev pub sharers_with : Edition → Block → ℕ → ℕ
sharers_with e B q = union (cond (eqb B.owner home || keeps e B) B.sharers (only B.owner)) (only q)

-- "Granted GETS (outcome 1): an owning card moves by the table, its value goes to memory, the sharers become that card and q, the owner
-- becomes home. With home as owner, q joins the sharers. q goes to 6." R-1: "An M owner that sees GETS goes to a new state O: it keeps the
-- ownership ..; memory still gets the value"
abbrev pub granted_gets : Edition → Upshot
granted_gets e = stays_at granted
    but owner_moves (sees_gets e)
    but memory_takes given
    but sharers_become (sharers_with e)
    but owner_becomes (λ B q. cond (keeps e B) B.owner home)
    but asker_goes granted_cell
    but sends data_for

-- "Granted GETX (outcome 1): an owning card moves by the table, its value goes to memory. Cards in the mask, other than q, in states 1 and 5
-- move by the table. The owner becomes q, the sharers none. q goes from 4 to 7 or from 5 to 8." R-1: "Another's granted GETX takes 11, 12, 13 to
-- 0, 4, 10"; an upgrade goes from 12 to 8.
abbrev pub granted_getx : Upshot
granted_getx = stays_at granted
    but owner_moves sees_getx
    but memory_takes given
    but readers_move sees_getx
    but owner_becomes (λ B q. q)
    but sharers_become (λ B q. 0)
    but asker_goes granted_cell
    but sends data_for

-- Too small a mask

-- "The new mask for retry 1 and 2 is the owner, if a card, and the sharers; for retry 3 it is every card."
unfoldable pub retry_mask : ℕ → Block → RetryNo → ℕ
retry_mask cards B retry = cond (up_to_retry last_retry retry) (every cards)
    (cond (eqb B.owner home) B.sharers (union (only B.owner) B.sharers))

-- the request, "retry one higher"
unfoldable pub retried : ℕ → Block → Request → Request
retried cards B r =
    let retry = next_retry r.retry in
    a_request r.card r.block r.kind (retry_mask cards B retry) retry

-- "Too small a mask (outcome 2): the request goes to the line's tail, retry one higher."
abbrev pub missed_gets : Upshot
missed_gets = stays_at too_small
    but goes_back retried

-- "For GETX the cards in the old mask, other than q, in states 1 and 5 still move by the table; nothing else does." R-1: "one not granted
-- moves none of" 11, 12, 13
abbrev pub missed_getx : Upshot
missed_getx = stays_at too_small
    but goes_back retried
    but readers_move sees_getx

-- Puts: "PUTX ignores the mask."

-- "From 9 (outcome 3): memory takes the value, the owner becomes home, the sharers none, q goes to 0." R-1: "A put from 13 (outcome 3) leaves
-- the sharers listed."
abbrev pub taken_put : Upshot
taken_put = stays_at put_taken
    but memory_takes (λ B q. (B.cell q).value)
    but owner_becomes (λ B q. home)
    but sharers_become (λ B q. cond (leaves_sharers (B.cell q).state) B.sharers 0)
    but asker_goes (λ n x. idle)

-- "From 10 (outcome 4): q goes to 0, and home changes nothing."
abbrev pub lapsed_put : Upshot
lapsed_put = stays_at put_lapsed
    but asker_goes (λ n x. idle)

-- The whole

unfoldable pub upshot_of : Turn → Upshot
upshot_of (GetsGranted e) = granted_gets e
upshot_of GetxGranted = granted_getx
upshot_of GetsMissed = missed_gets
upshot_of GetxMissed = missed_getx
upshot_of PutTaken = taken_put
upshot_of PutLapsed = lapsed_put

-- card k's cell after the turn: "seen at once by home, the asker and the cards in its mask"
unfoldable pub sees : Turn → Block → Request → OrderNo → ℕ → Cell
sees t B r n k =
    let u = upshot_of t in
    let x = B.cell k in
    cond (eqb r.card k) (u.asker_sees n x)
    (cond (eqb B.owner k) (u.owner_sees x) (cond (has r.mask k) (u.reader_sees x) x))

-- the block after the turn: home's part, and each card's
unfoldable pub ordered : Turn → Block → Request → OrderNo → Block
ordered t B r n =
    let u = upshot_of t in
    a_block (u.memory B r.card) (u.owner B r.card) (u.sharers B r.card) (sees t B r n)

-- the head r is taken, with what its turn does to block, line and pool, under the next order number
unfoldable pub order_head : Chassis → Request → List Request → Step
order_head c r rest =
    let B = c.block r.block in
    let n = next_number c.last in
    let t = turn c r in
    let u = upshot_of t in
    result (Ok u.outcome)
    (changed c r.block (ordered t B r n) (rest ++ u.again c.cards B r) (c.pool ++ u.sent B r n) n)

-- an empty line is refused before this
unfoldable pub order : Chassis → List Request → Step
order c [] = result (Ok 0) c
order c (r ∷ rest) = order_head c r rest
