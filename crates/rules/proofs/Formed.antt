-- Well formed, clause by clause: the tests of 15 as records of what they say, both ways.
use Prim.Native.Nat.{ℕ, ◌≤◌, ◌<◌}
use native.Mathlib.Omega.{arith}
use mathlib.Core.Bool.{Bool, true, false, cond, not}
use mathlib.Core.List.{[], ◌∷◌}
use mathlib.Core.Path.{◌≡◌, refl}
use lib.ListN.{length}
use lib.Dec.{eqb, ltb, leb}
use borrow.Author.Tests.{eqb-true, ltb-true, ltb-false, le-ltb, lt-ltb, le-leb, leb-true}
use Rattle.rules.specs.Tests.{◌⇒◌, each, all, all_of}
use Rattle.rules.specs.Lists.{All}
use Rattle.rules.specs.Masks.{every, inside}
use Rattle.rules.specs.Numbers.{
  most_cards,
  most_blocks,
  home,
  room,
  no_number,
  same_number,
  up_to_number,
  last_retry,
  same_retry,
  up_to_retry,
  gets,
  putx,
  states_in,
}
use Rattle.rules.specs.Table.{loads, waits}
use Rattle.rules.specs.Chassis.{Block, Chassis, idle, goes, goes_for}
use Rattle.rules.specs.Formed.{
  sizes,
  home_or_card,
  ok_cell,
  unused_cell,
  ok_block,
  unused_block,
  ok_request,
  ok_message,
  well_formed,
}
use Rattle.rules.specs.declared.Edition.{Edition}
use Rattle.rules.specs.declared.Edition.TheVariants.{Msi, Mosi}
use Rattle.rules.specs.declared.OrderNo.{OrderNo}
use Rattle.rules.specs.declared.Cell.{Cell}
use Rattle.rules.specs.declared.Request.{Request}
use Rattle.rules.specs.declared.Message.{Message}
use Rattle.rules.proofs.Tests.{test, cond_cases, each→, →each, all-elim, all-intro, all_of→, →all_of}

-- Cells

pub record CellWf (e : Edition) (last : OrderNo) (x : Cell) : Type 0 where
  pub code : x.state < states_in e
  pub given : x.awaits.0 ≤ last.0
  pub awaited : (waits x.state ⇒ not (same_number x.awaits no_number)) ≡ true
  pub unawaited : (not (waits x.state) ⇒ same_number x.awaits no_number) ≡ true
  pub unloaded : (not (loads x.state) ⇒ eqb x.value 0) ≡ true

pub cell→ : (e : Edition) (last : OrderNo) (x : Cell) → ok_cell e last x ≡ true → CellWf e last x
unfolding ok_cell
cell→ e last x h =
    let t = each→ (ltb x.state (states_in e) ∷ up_to_number x.awaits last ∷ _ ∷ _ ∷ _ ∷ []) h in
    record {
      code = ltb-true x.state (states_in e) t.0;
      given = leb-true x.awaits.0 last.0 t.1.0;
      awaited = t.1.1.0;
      unawaited = t.1.1.1.0;
      unloaded = t.1.1.1.1.0;
    }

pub →cell : (e : Edition) (last : OrderNo) (x : Cell) → CellWf e last x → ok_cell e last x ≡ true
unfolding ok_cell
→cell e last x h = →each _ (
  lt-ltb x.state (states_in e) h.code,
  (le-leb x.awaits.0 last.0 h.given, (h.awaited, (h.unawaited, (h.unloaded, tt)))),
)

-- a cell that goes to a state
pub goes_for-wf : (e : Edition) (last n : OrderNo) (s : ℕ) (x : Cell) → s < states_in e → n.0 ≤ last.0 → (waits s ⇒ not (same_number n no_number)) ≡ true
    → (not (waits s) ⇒ same_number n no_number) ≡ true → CellWf e last (goes_for n s x)
goes_for-wf e last n s x l le p q = record {
  code = l;
  given = le;
  awaited = p;
  unawaited = q;
  unloaded = test (loads s) (λ e. rw e) (λ e. rw e);
}

pub goes-wf : (e : Edition) (last : OrderNo) (s : ℕ) (x : Cell) → s < states_in e → waits s ≡ false → CellWf e last (goes s x)
goes-wf e last s x l w = goes_for-wf e last no_number s x l (omega arith) (rw w) (rw w)

-- I is a state of every edition
idle_code : (e : Edition) → idle.state < states_in e
idle_code Msi = omega arith
idle_code Mosi = omega arith

pub idle-wf : (e : Edition) (last : OrderNo) → CellWf e last idle
unfolding waits loads
idle-wf e last = record { code = idle_code e; given = omega arith; awaited = refl; unawaited = refl; unloaded = refl }

-- more order numbers are given
pub grow : (e : Edition) (last last' : OrderNo) (x : Cell) → last.0 ≤ last'.0 → CellWf e last x → CellWf e last' x
grow e last last' x le h = record {
  code = h.code;
  given = let g = h.given in omega arith;
  awaited = h.awaited;
  unawaited = h.unawaited;
  unloaded = h.unloaded;
}

-- an unused cell is idle
pub unused-idle : (x : Cell) → unused_cell x ≡ true → x ≡ idle
unfolding unused_cell
unused-idle x h =
    let t = each→ (eqb x.state 0 ∷ eqb x.value 0 ∷ eqb x.awaits.0 0 ∷ []) h in
    let s = eqb-true x.state 0 t.0 in
    let v = eqb-true x.value 0 t.1.0 in
    let n = eqb-true x.awaits.0 0 t.1.1.0 in
    λ i. record { state = s i; value = v i; awaits = record { 0 = n i } }

pub idle-unused : unused_cell idle ≡ true
unfolding unused_cell each
idle-unused = refl

-- Blocks

-- a cell is well formed where a card is there, and unused where none is
pub record Place (e : Edition) (cards : ℕ) (last : OrderNo) (k : ℕ) (x : Cell) : Type 0 where
  pub used : k < cards → CellWf e last x
  pub unused : cards ≤ k → unused_cell x ≡ true

pub record BlockWf (e : Edition) (cards : ℕ) (last : OrderNo) (B : Block) : Type 0 where
  pub owner : home_or_card cards B.owner ≡ true
  pub sharers : inside cards B.sharers ≡ true
  pub places : (k : ℕ) → k < most_cards → Place e cards last k (B.cell k)

-- the test of a place
abbrev place_test : Edition → ℕ → OrderNo → Block → ℕ → Bool
place_test e cards last B k = cond (ltb k cards) (ok_cell e last (B.cell k)) (unused_cell (B.cell k))

pub block→ : (e : Edition) (cards : ℕ) (last : OrderNo) (B : Block) → ok_block e cards last B ≡ true → BlockWf e cards last B
unfolding ok_block
block→ e cards last B h =
    let t = each→ (home_or_card cards B.owner ∷ inside cards B.sharers ∷ all most_cards (place_test e cards last B) ∷ []) h in
    let at = all-elim most_cards (place_test e cards last B) t.1.1.0 in
    record {
      owner = t.0;
      sharers = t.1.0;
      places = λ k l. record {
        used = λ q. cell→ e last (B.cell k) (rw (lt-ltb k cards q) at (at k l));
        unused = λ q. rw (le-ltb k cards q) at (at k l);
      };
    }

pub →block : (e : Edition) (cards : ℕ) (last : OrderNo) (B : Block) → BlockWf e cards last B → ok_block e cards last B ≡ true
unfolding ok_block
→block e cards last B h = →each _ (
  h.owner,
  (
    h.sharers,
    (
      all-intro most_cards (place_test e cards last B) (λ k l.
          cond_cases (λ t. t ≡ true) (ltb k cards) (ok_cell e last (B.cell k)) (unused_cell (B.cell k))
          (λ p. →cell e last (B.cell k) ((h.places k l).used (ltb-true k cards p)))
          (λ p. (h.places k l).unused (ltb-false k cards p))),
      tt,
    ),
  ),
)

pub grow-block : (e : Edition) (cards : ℕ) (last last' : OrderNo) (B : Block) → last.0 ≤ last'.0 → BlockWf e cards last B → BlockWf e cards last' B
grow-block e cards last last' B le h = record {
  owner = h.owner;
  sharers = h.sharers;
  places = λ k l. record {
    used = λ q. grow e last last' (B.cell k) le ((h.places k l).used q);
    unused = (h.places k l).unused;
  };
}

pub record BlockUnused (B : Block) : Type 0 where
  pub memory : B.memory ≡ 0
  pub owner : B.owner ≡ home
  pub sharers : B.sharers ≡ 0
  pub cells : (k : ℕ) → k < most_cards → unused_cell (B.cell k) ≡ true

pub unused→ : (B : Block) → unused_block B ≡ true → BlockUnused B
unfolding unused_block
unused→ B h =
    let cells : ℕ → Bool = λ k. unused_cell (B.cell k) in
    let t = each→ (eqb B.memory 0 ∷ eqb B.owner home ∷ eqb B.sharers 0 ∷ all most_cards cells ∷ []) h in
    record {
      memory = eqb-true B.memory 0 t.0;
      owner = eqb-true B.owner home t.1.0;
      sharers = eqb-true B.sharers 0 t.1.1.0;
      cells = all-elim most_cards cells t.1.1.1.0;
    }

pub →unused : (B : Block) → BlockUnused B → unused_block B ≡ true
unfolding unused_block
→unused B h = →each _ (
  rw h.memory,
  (
    rw h.owner,
    (
      rw h.sharers,
      (all-intro most_cards (λ k. unused_cell (B.cell k)) h.cells, tt),
    ),
  ),
)

-- Requests and messages

pub record RequestWf (cards blocks : ℕ) (r : Request) : Type 0 where
  pub card : r.card < cards
  pub block : r.block < blocks
  pub low : gets ≤ r.kind
  pub high : r.kind ≤ putx
  pub mask : inside cards r.mask ≡ true
  pub retry : r.retry.0 ≤ last_retry.0
  pub full : (same_retry r.retry last_retry ⇒ eqb r.mask (every cards)) ≡ true

pub request→ : (cards blocks : ℕ) (r : Request) → ok_request cards blocks r ≡ true → RequestWf cards blocks r
unfolding ok_request
request→ cards blocks r h =
    let t = each→ (ltb r.card cards ∷ ltb r.block blocks ∷ leb gets r.kind ∷ leb r.kind putx
    ∷ inside cards r.mask ∷ up_to_retry r.retry last_retry ∷ _ ∷ []) h in
    record {
      card = ltb-true r.card cards t.0;
      block = ltb-true r.block blocks t.1.0;
      low = leb-true gets r.kind t.1.1.0;
      high = leb-true r.kind putx t.1.1.1.0;
      mask = t.1.1.1.1.0;
      retry = leb-true r.retry.0 last_retry.0 t.1.1.1.1.1.0;
      full = t.1.1.1.1.1.1.0;
    }

pub →request : (cards blocks : ℕ) (r : Request) → RequestWf cards blocks r → ok_request cards blocks r ≡ true
unfolding ok_request
→request cards blocks r h = →each _ (
  lt-ltb r.card cards h.card,
  (
    lt-ltb r.block blocks h.block,
    (
      le-leb gets r.kind h.low,
      (
        le-leb r.kind putx h.high,
        (
          h.mask,
          (le-leb r.retry.0 last_retry.0 h.retry, (h.full, tt)),
        ),
      ),
    ),
  ),
)

pub record MessageWf (cards blocks : ℕ) (last : OrderNo) (m : Message) : Type 0 where
  pub sender : home_or_card cards m.sender ≡ true
  pub receiver : m.receiver < cards
  pub block : m.block < blocks
  pub numbered : not (same_number m.number no_number) ≡ true
  pub given : m.number.0 ≤ last.0

pub message→ : (cards blocks : ℕ) (last : OrderNo) (m : Message) → ok_message cards blocks last m ≡ true → MessageWf cards blocks last m
unfolding ok_message
message→ cards blocks last m h =
    let t = each→ (home_or_card cards m.sender ∷ ltb m.receiver cards ∷ ltb m.block blocks
    ∷ not (same_number m.number no_number) ∷ up_to_number m.number last ∷ []) h in
    record {
      sender = t.0;
      receiver = ltb-true m.receiver cards t.1.0;
      block = ltb-true m.block blocks t.1.1.0;
      numbered = t.1.1.1.0;
      given = leb-true m.number.0 last.0 t.1.1.1.1.0;
    }

pub →message : (cards blocks : ℕ) (last : OrderNo) (m : Message) → MessageWf cards blocks last m → ok_message cards blocks last m ≡ true
unfolding ok_message
→message cards blocks last m h = →each _ (
  h.sender,
  (
    lt-ltb m.receiver cards h.receiver,
    (lt-ltb m.block blocks h.block, (h.numbered, (le-leb m.number.0 last.0 h.given, tt))),
  ),
)

pub grow-message : (cards blocks : ℕ) (last last' : OrderNo) (m : Message) → last.0 ≤ last'.0 → ok_message cards blocks last m ≡ true
    → ok_message cards blocks last' m ≡ true
grow-message cards blocks last last' m le h =
    let x = message→ cards blocks last m h in
    →message cards blocks last' m (record {
      sender = x.sender;
      receiver = x.receiver;
      block = x.block;
      numbered = x.numbered;
      given = let g = x.given in omega arith;
    })

-- The chassis

pub record SizesWf (cards blocks : ℕ) : Type 0 where
  pub a-card : 1 ≤ cards
  pub few-cards : cards ≤ most_cards
  pub has_block : 1 ≤ blocks
  pub few-blocks : blocks ≤ most_blocks

pub sizes→ : (cards blocks : ℕ) → sizes cards blocks ≡ true → SizesWf cards blocks
unfolding sizes
sizes→ cards blocks h =
    let t = each→ (leb 1 cards ∷ leb cards most_cards ∷ leb 1 blocks ∷ leb blocks most_blocks ∷ []) h in
    record {
      a-card = leb-true 1 cards t.0;
      few-cards = leb-true cards most_cards t.1.0;
      has_block = leb-true 1 blocks t.1.1.0;
      few-blocks = leb-true blocks most_blocks t.1.1.1.0;
    }

pub record Wf (c : Chassis) : Type 0 where
  pub size : sizes c.cards c.blocks ≡ true
  pub line_room : length c.line ≤ room
  pub pool_room : length c.pool ≤ room
  pub requests : All (λ r. ok_request c.cards c.blocks r ≡ true) c.line
  pub messages : All (λ m. ok_message c.cards c.blocks c.last m ≡ true) c.pool
  pub used : (b : ℕ) → b < most_blocks → b < c.blocks → BlockWf c.edition c.cards c.last (c.block b)
  pub unused : (b : ℕ) → b < most_blocks → c.blocks ≤ b → unused_block (c.block b) ≡ true

-- the test of a block's place
abbrev block_test : Chassis → ℕ → Bool
block_test c b = cond (ltb b c.blocks) (ok_block c.edition c.cards c.last (c.block b)) (unused_block (c.block b))

pub wf→ : (c : Chassis) → well_formed c ≡ true → Wf c
unfolding well_formed
wf→ c h =
    let t = each→ (sizes c.cards c.blocks ∷ leb (length c.line) room ∷ leb (length c.pool) room
    ∷ all_of c.line (ok_request c.cards c.blocks) ∷ all_of c.pool (ok_message c.cards c.blocks c.last)
    ∷ all most_blocks (block_test c) ∷ []) h in
    let at = all-elim most_blocks (block_test c) t.1.1.1.1.1.0 in
    record {
      size = t.0;
      line_room = leb-true (length c.line) room t.1.0;
      pool_room = leb-true (length c.pool) room t.1.1.0;
      requests = all_of→ (ok_request c.cards c.blocks) c.line t.1.1.1.0;
      messages = all_of→ (ok_message c.cards c.blocks c.last) c.pool t.1.1.1.1.0;
      used = λ b l u. block→ c.edition c.cards c.last (c.block b) (rw (lt-ltb b c.blocks u) at (at b l));
      unused = λ b l u. rw (le-ltb b c.blocks u) at (at b l);
    }

pub →wf : (c : Chassis) → Wf c → well_formed c ≡ true
unfolding well_formed
→wf c w = →each _ (
  w.size,
  (
    le-leb (length c.line) room w.line_room,
    (
      le-leb (length c.pool) room w.pool_room,
      (
        →all_of (ok_request c.cards c.blocks) c.line w.requests,
        (
          →all_of (ok_message c.cards c.blocks c.last) c.pool w.messages,
          (
            all-intro most_blocks (block_test c) (λ b l. test (ltb b c.blocks)
                (λ u. rw u (→block c.edition c.cards c.last (c.block b) (w.used b l (ltb-true b c.blocks u))))
                (λ u. rw u (w.unused b l (ltb-false b c.blocks u)))),
            tt,
          ),
        ),
      ),
    ),
  ),
)
