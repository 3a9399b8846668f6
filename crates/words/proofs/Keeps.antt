-- An event keeps formed words formed: what it leaves fits its fields, and is as Start makes it beyond the room there is.
use Rattle.std.specs.Prelude.{Err, Ok}
use Prim.Native.Nat.{ℕ, zero, suc, ◌^◌, ◌≤◌, ◌<◌}
use native.Mathlib.Omega.{arith}
use mathlib.Core.Bool.{true, false, cond}
use mathlib.Core.List.{List, [], ◌∷◌, ◌++◌}
use mathlib.Core.Path.{◌≡◌, refl, sym, ap, ◌∙◌, subst, fun_ext}
use lib.ListN.{length}
use lib.Dec.{eqb, ltb}
use lib.Pow.{pow_mono}
use borrow.Author.Tests.{eqb-true, ltb-true, ltb-false, le-ltb, leb-false}
use Rattle.rules.specs.Lists.{replace, removed, All}
use Rattle.rules.specs.Masks.{without, inside}
use Rattle.rules.specs.Numbers.{most_cards, most_blocks, mask_bits, home, no_number, next_number, granted, too_small}
use Rattle.rules.specs.Table.{loads, asked, granted_to}
use Rattle.rules.specs.Chassis.{
  Block,
  Chassis,
  a_block,
  cell_of,
  state_of,
  idle,
  fresh_block,
  fresh,
  message_of,
  goes,
  goes_for,
  storing,
  with_cell,
  changed,
  pool_changed,
  no_chassis,
}
use Rattle.rules.specs.Answers.{Step, NoneHolds}
use Rattle.rules.specs.Order.{
  given,
  upshot_of,
  granted_cell,
  ordered,
  data_for,
  turn,
  order_head,
  order,
  giver,
}
use Rattle.rules.specs.Formed.{home_or_card, unused_block, ok_request, ok_message, well_formed}
use Rattle.rules.specs.Events.{
  EventFits,
  no_card,
  no_block,
  right_reasons,
  no_message,
  reasons,
  ask,
  live,
  deliver,
  rejoin_block,
  rejoin,
  effect,
  start,
  step,
}
use Rattle.rules.specs.declared.OrderNo.{OrderNo}
use Rattle.rules.specs.declared.Cell.{Cell}
use Rattle.rules.specs.declared.Request.{Request}
use Rattle.rules.specs.declared.Message.{Message}
use Rattle.rules.specs.Answers.{Answer}
use Rattle.rules.specs.declared.Refusal.{Refusal}
use Rattle.rules.specs.declared.Turn.{Turn}
use Rattle.rules.specs.declared.Event.{Event}
use Rattle.rules.specs.declared.Event.TheVariants.{
  Load,
  Store,
  Drop,
  Ask,
  Order,
  Deliver,
  Copy,
  Rejoin,
}
use Rattle.rules.proofs.Tests.{test, cond_cases}
use Rattle.rules.proofs.Lists.{replace-cases, All-append, All-removed, All-at}
use Rattle.rules.proofs.Masks.{none_inside}
use Rattle.rules.proofs.States.{Column, in-states}
use Rattle.rules.proofs.Refusals.{refused-cases}
use Rattle.rules.proofs.Upshots.{by-outcome, memory-cases, cell-sees, In, turn_in}
use Rattle.rules.proofs.Formed.{
  CellWf,
  idle-wf,
  unused-idle,
  BlockWf,
  unused→,
  request→,
  message→,
  SizesWf,
  sizes→,
  Wf,
  wf→,
}
use Rattle.rules.proofs.Stays.{stays-formed}
use Rattle.rules.proofs.Start.{start-cases, refused≢done, fresh-formed}
use Rattle.words.specs.Words.{words, cell_at, message_at, pooled_of, block_of, first, view, formed}
use Rattle.words.specs.Claims.{BlockFits, RequestFits, MessageFits, Fits, FormedSays, StartForms, StepForms}
use Rattle.words.specs.Inner.Parts.{act, Does}
use Rattle.rules.specs.declared.Edition.{Edition}
use Rattle.words.proofs.Does.{sizes, step-act}
use Rattle.words.proofs.View.{cards-of, formed-chassis, formed-words, formed-of, view_words}

-- What of fitting does not follow from being well formed: values have 32 bits, and what there is no room for is as Start makes it

abbrev Low : ℕ → Type 0
Low v = v < 2 ^ 32

abbrev LowCell : Cell → Type 0
LowCell x = Low x.value

abbrev LowMessage : Message → Type 0
LowMessage m = Low m.value

-- a block, by its memory and its cells
record Within (memory : ℕ) (cell : ℕ → Cell) : Type 0 where
  low : Low memory
  values : (k : ℕ) → LowCell (cell k)
  beyond : (k : ℕ) → most_cards ≤ k → cell k ≡ idle

abbrev BlockWithin : Block → Type 0
BlockWithin B = Within B.memory B.cell

record Kept (c : Chassis) : Type 0 where
  blocks : (b : ℕ) → BlockWithin (c.block b)
  beyond : (b : ℕ) → most_blocks ≤ b → c.block b ≡ fresh_block
  messages : All LowMessage c.pool

fresh-within : BlockWithin fresh_block
fresh-within = record { low = omega arith; values = λ _. omega arith; beyond = λ _ _. refl }

-- What any words say has it

all_first : {A : Type 0} (P : A → Type 0) (n : ℕ) (f : ℕ → A) → ((i : ℕ) → P (f i)) → All P (first n f)
unfolding first
all_first P zero f h = tt
all_first P (suc n) f h = (h zero, all_first P n (λ j. f (suc j)) (λ j. h (suc j)))

said-within : (w : List ℕ) (b : ℕ) → BlockWithin (block_of w b)
said-within w b = record {
  low = omega arith;
  values = λ k. cond_cases LowCell (ltb k most_cards) (cell_at w k b) idle (λ _. omega arith) (λ _. omega arith);
  beyond = λ k l. rw (le-ltb k most_cards l);
}

view-kept : (w : List ℕ) → Kept (view w)
unfolding view
view-kept w = record {
  blocks = λ b. cond_cases BlockWithin (ltb b most_blocks) (block_of w b) fresh_block (λ _. said-within w b) (λ _. fresh-within);
  beyond = λ b l. rw (le-ltb b most_blocks l);
  messages = all_first LowMessage (pooled_of w) (message_at w) (λ i. omega arith);
}

-- A well formed chassis that has it fits

abbrev RequestOk : Chassis → Request → Type 0
RequestOk c r = ok_request c.cards c.blocks r ≡ true

abbrev MessageOk : Chassis → Message → Type 0
MessageOk c m = ok_message c.cards c.blocks c.last m ≡ true

owner-fits : (cards k : ℕ) → cards ≤ most_cards → home_or_card cards k ≡ true → k < 2 ^ 8
unfolding home_or_card
owner-fits cards k few h = test (eqb k home)
    (λ e. let z = eqb-true k home e in omega arith)
    (λ e. let z = ltb-true k cards (rw e at h) in omega arith)

mask_fits : (cards mask : ℕ) → cards ≤ most_cards → inside cards mask ≡ true → mask < 2 ^ mask_bits
unfolding inside
mask_fits cards mask few h = omega (arith, ltb-true mask (2 ^ cards) h, pow_mono few)

-- an unused block is a well formed one
unused-wf : (e : Edition) (cards : ℕ) (last : OrderNo) (B : Block) → unused_block B ≡ true → BlockWf e cards last B
unfolding home_or_card
unused-wf e cards last B h =
    let u = unused→ B h in
    record {
      owner = rw u.owner;
      sharers = rw u.sharers (none_inside cards);
      places = λ k l. record {
        used = λ _. subst (CellWf e last) (sym (unused-idle (B.cell k) (u.cells k l))) (idle-wf e last);
        unused = λ _. u.cells k l;
      };
    }

block-fits : (e : Edition) (cards : ℕ) (last : OrderNo) (B : Block) → cards ≤ most_cards → BlockWf e cards last B → BlockWithin B → BlockFits B
block-fits e cards last B few w h = record {
  memory = h.low;
  owner = owner-fits cards B.owner few w.owner;
  sharers = mask_fits cards B.sharers few w.sharers;
  cells = λ k l. record {
    state = test (ltb k cards)
        (λ t. let z = in-states e (B.cell k).state ((w.places k l).used (ltb-true k cards t)).code in omega arith)
        (λ t. rw (unused-idle (B.cell k) ((w.places k l).unused (ltb-false k cards t))) (omega arith));
    value = h.values k;
  };
  beyond = h.beyond;
}

request-fits : (cards blocks : ℕ) (r : Request) → SizesWf cards blocks → ok_request cards blocks r ≡ true → RequestFits r
request-fits cards blocks r few h =
    let w = request→ cards blocks r h in
    record {
      card = omega arith;
      block = omega arith;
      kind = omega arith;
      mask = mask_fits cards r.mask few.few-cards w.mask;
      retry = omega arith;
    }

message-fits : (cards blocks : ℕ) (last : OrderNo) (m : Message) → SizesWf cards blocks → ok_message cards blocks last m ≡ true → LowMessage m
    → MessageFits m
message-fits cards blocks last m few h v =
    let w = message→ cards blocks last m h in
    record {
      sender = owner-fits cards m.sender few.few-cards w.sender;
      receiver = omega arith;
      block = omega arith;
      value = v;
    }

chassis-fits : (c : Chassis) → Wf c → Kept c → Fits c
chassis-fits c w h =
    let n = c.last in
    let few = sizes→ c.cards c.blocks w.size in
    record {
      line_room = w.line_room;
      pool_room = w.pool_room;
      blocks = λ b l. block-fits c.edition c.cards n (c.block b) few.few-cards (test (ltb b c.blocks)
          (λ e. w.used b l (ltb-true b c.blocks e))
          (λ e. unused-wf c.edition c.cards n (c.block b) (w.unused b l (ltb-false b c.blocks e)))) (h.blocks b);
      beyond = h.beyond;
      requests = λ i l. request-fits c.cards c.blocks _ few
          (All-at (RequestOk c) c.line i _ l w.requests);
      messages = λ i l. message-fits c.cards c.blocks n _ few
          (All-at (MessageOk c) c.pool i _ l w.messages)
          (All-at LowMessage c.pool i _ l h.messages);
    }

-- so its words are formed, and say it
abbrev pub Sayable : Chassis → Type 0
Sayable c = (formed (words c) ≡ true) × (view (words c) ≡ c)

words-say : (c : Chassis) → well_formed c ≡ true → Kept c → Sayable c
words-say c h k =
    let again = view_words c (chassis-fits c (wf→ c h) k) in
    (formed-of (words c) (sym (ap words again)) (subst (λ d. well_formed d ≡ true) (sym again) h), again)

-- What a turn leaves of cells, memory and pool

-- "The value is 0 in a state without Load"
goes-low : (n : OrderNo) (s : ℕ) (x : Cell) → LowCell x → LowCell (goes_for n s x)
goes-low n s x h = cond_cases Low (loads s) x.value 0 (λ _. h) (λ _. omega arith)

-- where no card is, a cell that sees a request stays idle
pub idle-sees : (e : Edition) (f : ℕ → ℕ) → Column e f → (x : Cell) → x ≡ idle → goes (f x.state) x ≡ idle
unfolding loads
idle-sees e f col x is = ap (λ y. goes (f y.state) y) is ∙ rw col.idle

module _ (B : Block) (h : BlockWithin B) (r : Request) (n : OrderNo) where
  given-low : Low (given B r.card)
  unfolding given
  given-low = cond_cases Low (eqb (giver B r.card) home) B.memory _ (λ _. h.low) (λ _. h.values (giver B r.card))

  -- memory, what is sent, and the asker
  memory-low : (t : Turn) → Low ((upshot_of t).memory B r.card)
  memory-low t = memory-cases Low t B r.card h.low given-low (h.values r.card)

  sent-low : (t : Turn) → All LowMessage ((upshot_of t).sent B r n)
  unfolding data_for
  sent-low t = rw ((by-outcome t).sent B r n)
      (cond_cases (All LowMessage) (eqb (upshot_of t).outcome granted) (data_for B r n ∷ []) [] (λ _. (given-low, tt)) (λ _. tt))

  asker-low : (t : Turn) (x : Cell) → LowCell x → LowCell ((upshot_of t).asker_sees n x)
  asker-low t x v = rw ((by-outcome t).asker n x) (cond_cases LowCell (eqb (upshot_of t).outcome granted) (granted_cell n x) _
      (λ _. goes-low n (granted_to x.state) x v)
      (λ _. cond_cases LowCell (eqb (upshot_of t).outcome too_small) x idle (λ _. v) (λ _. omega arith)))

  ordered-within : (e : Edition) (t : Turn) → In e t → r.card < most_cards → BlockWithin (ordered t B r n)
  unfolding ordered
  ordered-within e t i q< = record {
    low = memory-low t;
    values = λ k. let x = B.cell k in cell-sees e LowCell t i B r n k
        (λ _. asker-low t x (h.values k)) (h.values k) (λ f _. goes-low no_number (f x.state) x (h.values k));
    beyond = λ k l. let x = B.cell k in cell-sees e (λ (y : Cell). y ≡ idle) t i B r n k
        (λ f. absurd (omega arith)) (h.beyond k l) (λ f col. idle-sees e f col x (h.beyond k l));
  }

-- A block anew

-- one cell anew: of a card that there is room for, or idle
cell-within : {memory : ℕ} {cell : ℕ → Cell} (k : ℕ) (x : Cell) → LowCell x → (most_cards ≤ k → x ≡ idle)
    → Within memory cell → Within memory (replace cell k x)
cell-within {memory} {cell} k x v i h = record {
  low = h.low;
  values = λ j. replace-cases LowCell cell k x j (λ _. v) (λ _. h.values j);
  beyond = λ j l. replace-cases (λ (y : Cell). y ≡ idle) cell k x j (λ e. i (omega arith)) (λ _. h.beyond j l);
}

-- a card that rejoins leaves a fresh block as it is
pub rejoin-fresh : (k : ℕ) → rejoin_block k fresh_block ≡ fresh_block
unfolding rejoin_block without
rejoin-fresh k =
    let o : cond (eqb home k) home home ≡ home = cond_cases (λ y. y ≡ home) (eqb home k) home home (λ _. refl) (λ _. refl) in
    let x : replace (λ _. idle) k idle ≡ (λ _. idle) = fun_ext (λ j.
    replace-cases (λ y. y ≡ idle) (λ _. idle) k idle j (λ _. refl) (λ _. refl)) in
    λ i. a_block 0 (o i) 0 (x i)

-- What an event leaves

module _ {c : Chassis} (w : Wf c) (h : Kept c) where
  card-room : {k : ℕ} → k < c.cards → k < most_cards
  card-room l = let few = sizes→ c.cards c.blocks w.size in omega arith

  block_room : {b : ℕ} → b < c.blocks → b < most_blocks
  block_room l = let few = sizes→ c.cards c.blocks w.size in omega arith

  -- the pool anew; a block anew, with line, pool and last number; one cell of a card that is there anew
  pool-kept : (p : List Message) → All LowMessage p → Kept (pool_changed c p)
  pool-kept p l = record { blocks = h.blocks; beyond = h.beyond; messages = l }

  changed-kept : (b : ℕ) (B : Block) (l : List Request) (p : List Message) (n : OrderNo) → b < c.blocks → BlockWithin B → All LowMessage p
      → Kept (changed c b B l p n)
  changed-kept b B l p n b< x ms = record {
    blocks = λ j. replace-cases BlockWithin c.block b B j (λ _. x) (λ _. h.blocks j);
    beyond = λ j far. replace-cases (λ X. X ≡ fresh_block) c.block b B j
        (λ e. absurd (let r = block_room b< in omega arith)) (λ _. h.beyond j far);
    messages = ms;
  }

  cell-kept : (k b : ℕ) (x : Cell) (l : List Request) (p : List Message) → k < c.cards → b < c.blocks → LowCell x → All LowMessage p
      → Kept (changed c b (with_cell (c.block b) k x) l p c.last)
  cell-kept k b x l p k< b< v ms =
      changed-kept b _ l p c.last b< (cell-within k x v (λ l. absurd (let r = card-room k< in omega arith)) (h.blocks b)) ms

  deliver-kept : (i : ℕ) (m : Message) → MessageOk c m → LowMessage m → Kept (deliver c i m).after
  unfolding deliver
  deliver-kept i m ok v =
      let x = message→ c.cards c.blocks c.last m ok in
      let rest = All-removed LowMessage i c.pool h.messages in
      cond_cases (λ (o : Step). Kept o.after) (live (c.block m.block) m) _ _
      (λ _. cell-kept m.receiver m.block _ c.line (removed i c.pool) x.receiver x.block v rest)
      (λ _. pool-kept (removed i c.pool) rest)

  rejoin-kept : (k : ℕ) → Kept (rejoin c k)
  unfolding rejoin rejoin_block
  rejoin-kept k = record {
    blocks = λ b. cell-within k idle (omega arith) (λ _. refl) (h.blocks b);
    beyond = λ b far. ap (rejoin_block k) (h.beyond b far) ∙ rejoin-fresh k;
    messages = h.messages;
  }

  order-kept : (l : List Request) → c.line ≡ l → Kept (order c l).after
  unfolding order order_head
  order-kept [] at = h
  order-kept (r ∷ rest) at =
      let B = c.block r.block in
      let n = next_number c.last in
      let t = turn c r in
      let x = request→ c.cards c.blocks r (subst (All (RequestOk c)) at w.requests).0 in
      changed-kept r.block _ (rest ++ (upshot_of t).again c.cards B r) (c.pool ++ (upshot_of t).sent B r n) n x.block
      (ordered-within B (h.blocks r.block) r n c.edition t (turn_in c r) (card-room x.card))
      (All-append LowMessage c.pool ((upshot_of t).sent B r n) h.messages (sent-low B (h.blocks r.block) r n t))

  -- every event
  effect-kept : (e : Event) → NoneHolds (reasons c e) → EventFits e → Kept (effect c e).after
  unfolding reasons right_reasons no_card no_block no_message effect ask
  effect-kept (Load k b) g f = h
  effect-kept (Store k b v) g f =
      cell-kept k b (storing v (cell_of c k b)) c.line c.pool (leb-false c.cards k g.0) (leb-false c.blocks b g.1.0)
      f h.messages
  effect-kept (Drop k b) g f =
      cell-kept k b idle c.line c.pool (leb-false c.cards k g.0) (leb-false c.blocks b g.1.0) (omega arith) h.messages
  effect-kept (Ask k b kind mask) g f =
      cell-kept k b _ _ c.pool (leb-false c.cards k g.0) (leb-false c.blocks b g.1.0)
      (goes-low no_number (asked kind (state_of c k b)) (cell_of c k b) ((h.blocks b).values k)) h.messages
  effect-kept Order g f = order-kept c.line refl
  effect-kept (Deliver i) g f =
      let l = leb-false (length c.pool) i g.0 in
      deliver-kept i (message_of c i)
      (All-at (MessageOk c) c.pool i _ l w.messages)
      (All-at LowMessage c.pool i _ l h.messages)
  effect-kept (Copy i) g f =
      let low = All-at LowMessage c.pool i _ (leb-false (length c.pool) i g.0) h.messages in
      pool-kept (c.pool ++ message_of c i ∷ []) (All-append LowMessage c.pool (message_of c i ∷ []) h.messages (low, tt))
  effect-kept (Rejoin k) g f = rejoin-kept k

  act-kept : (e : Event) → EventFits e → Kept (act c e).after
  unfolding act
  act-kept e f = refused-cases c (λ (o : Step). Kept o.after) (reasons c e) (effect c e) (λ _. h) (λ g. effect-kept e g f)

-- Formed words stay formed

-- the words that an event leaves of formed words
pub act-says : (w : List ℕ) (e : Event) → formed w ≡ true → EventFits e → Sayable (act (view w) e).after
act-says w e h f =
    let c = view w in
    let wf = formed-chassis w h in
    words-say (act c e).after
    (subst (λ (o : Step). well_formed o.after ≡ true) (step-act c e wf) (stays-formed c e wf))
    (act-kept (wf→ c wf) (view-kept w) e f)

-- an event keeps a chassis that its words say
pub step-says : (c : Chassis) (e : Event) → EventFits e → Sayable c → Sayable (step c e).after
step-says c e f h =
    let well : well_formed c ≡ true = subst (λ (d : Chassis). well_formed d ≡ true) h.1 (formed-chassis (words c) h.0) in
    subst (λ (o : Step). Sayable o.after) (sym (step-act c e well))
    (subst (λ (d : Chassis). Sayable (act d e).after) h.1 (act-says (words c) e h.0 f))

-- what does an event leaves formed words formed
pub does-formed : (w : List ℕ) (e : Event) (r : Answer) (w' : List ℕ) → formed w ≡ true → EventFits e → Does w e r w' → formed w' ≡ true
does-formed w e r w' h f d = subst (λ (l : List ℕ). formed l ≡ true) (sym d.after) (act-says w e h f).0

-- the words of a chassis just started say it, whatever its size
pub fresh-view : (e : Edition) (cards blocks : ℕ) → view (words (fresh e cards blocks)) ≡ fresh e cards blocks
fresh-view e cards blocks = view_words (fresh e cards blocks) (record {
  line_room = omega arith;
  pool_room = omega arith;
  blocks = λ b l. record {
    memory = omega arith;
    owner = omega arith;
    sharers = omega arith;
    cells = λ k m. record { state = omega arith; value = omega arith };
    beyond = λ k m. refl;
  };
  beyond = λ b l. refl;
  requests = λ i l. absurd (omega arith);
  messages = λ i l. absurd (omega arith);
})

-- the words that an accepted Start makes
pub start-says : (e : Edition) (cards blocks v : ℕ) → (start e cards blocks).answer ≡ Ok v → Sayable (start e cards blocks).after
start-says e cards blocks v = start-cases e cards blocks (λ (o : Step). o.answer ≡ Ok v → Sayable o.after)
    (λ s _. words-say (fresh e cards blocks) (fresh-formed e cards blocks s)
    (record { blocks = λ _. fresh-within; beyond = λ _ _. refl; messages = tt }))
    (λ r f. absurd (refused≢done r v f))

-- a refused one makes none
none-formed : formed (words no_chassis) ≡ false
none-formed = test (formed (words no_chassis))
    (λ e. absurd (let s = (sizes (words no_chassis) e).a-card in let n = cards-of no_chassis (words no_chassis) refl in omega arith))
    (λ e. e)

pub start-refused-words : (e : Edition) (cards blocks : ℕ) (r : Refusal) → (start e cards blocks).answer ≡ Err r
    → formed (words (start e cards blocks).after) ≡ false
start-refused-words e cards blocks r = start-cases e cards blocks (λ (o : Step). o.answer ≡ Err r → formed (words o.after) ≡ false)
    (λ _ e. absurd (refused≢done r 0 (sym e)))
    (λ _ _. none-formed)

-- The claims

pub formed_says : FormedSays
formed_says = record {
  says = λ w h. (formed-words w h, chassis-fits (view w) (wf→ (view w) (formed-chassis w h)) (view-kept w), formed-chassis w h);
  said = λ c f h. let again = view_words c f in formed-of (words c) (sym (ap words again)) (subst (λ d. well_formed d ≡ true) (sym again) h);
}

pub start_forms : StartForms
start_forms e cards blocks v h = (start-says e cards blocks v h).0

pub step_forms : StepForms
step_forms w e f h =
    subst (λ (o : Step). formed (words o.after) ≡ true) (sym (step-act (view w) e (formed-chassis w h))) (act-says w e h f).0
