-- A well formed state stays well formed under every event.
use Prim.Native.Nat.{ℕ, suc, ◌+◌, ◌≤◌, ◌<◌}
use native.Mathlib.Omega.{arith}
use mathlib.Core.Bool.{Bool, true, false, not, ◌&&◌, true≢false}
use mathlib.Core.List.{List, [], ◌∷◌, ◌++◌}
use mathlib.Core.Path.{◌≡◌, refl, sym, subst}
use lib.ListN.{length, length-append}
use lib.Dec.{eqb, leb}
use borrow.Author.Tests.{eqb-true, eqb-false, eq-eqb, ne_eqb, ltb-true, lt-ltb, le-leb, leb-true, leb-false, not-false}
use Rattle.rules.specs.Lists.{removed, keep, All}
use Rattle.rules.specs.Masks.{only, every, without, inside}
use Rattle.rules.specs.Mask.{suffices}
use Rattle.rules.specs.Numbers.{
  most_cards,
  home,
  room,
  no_number,
  next_number,
  same_number,
  first_retry,
  last_retry,
  next_retry,
  same_retry,
  up_to_retry,
  gets,
  putx,
  granted,
  too_small,
  none,
}
use Rattle.rules.specs.Table.{loads, stores, waits, asked, comes_from, granted_to}
use Rattle.rules.specs.Chassis.{
  Block,
  Chassis,
  cell_of,
  state_of,
  a_request,
  idle,
  message_of,
  goes,
  goes_for,
  storing,
  with_cell,
  changed,
  cell_changed,
  pool_changed,
}
use Rattle.rules.specs.Answers.{Step, NoneHolds}
use Rattle.rules.specs.Order.{
  held,
  impossible,
  no_room_for,
  order_reasons,
  turn,
  upshot_of,
  sees,
  ordered,
  giver,
  data_for,
  retry_mask,
  retried,
  order_head,
  order,
}
use Rattle.rules.specs.Formed.{home_or_card, unused_cell, unused_block, ok_request, ok_message, well_formed}
use Rattle.rules.specs.Events.{
  no_card,
  no_block,
  right_reasons,
  no_message,
  reasons,
  ask,
  live,
  takes,
  deliver,
  rejoin_block,
  rejoin,
  effect,
  step,
}
use Rattle.rules.specs.Claims.{StaysFormed}
use Rattle.rules.specs.declared.OrderNo.{OrderNo}
use Rattle.rules.specs.declared.Cell.{Cell}
use Rattle.rules.specs.declared.Turn.{Turn}
use Rattle.rules.specs.declared.Request.{Request}
use Rattle.rules.specs.declared.Message.{Message}
use Rattle.rules.specs.declared.Event.{Event}
use Rattle.rules.specs.declared.Event.TheVariants.{
  Load,
  Store,
  Drop,
  Ask,
  Order,
  Deliver,
  Copy,
  Rejoin,
}
use Rattle.rules.proofs.Tests.{clash, test, cond_cases, and_l, and_r, or-i, imp, imp-i, any→, some-false}
use Rattle.rules.proofs.Lists.{replace-cases, All-map, All-append, All-removed, All-at, All-keep, removed-short, keep-short}
use Rattle.rules.proofs.Masks.{only-inside, union-inside, without-inside, every-inside, none_inside}
use Rattle.rules.proofs.Mask.{every-suffices}
use Rattle.rules.proofs.States.{in-states, state, filled, asking, asks}
use Rattle.rules.proofs.Refusals.{refused-cases}
use Rattle.rules.proofs.Steps.{live-waits}
use Rattle.rules.proofs.Upshots.{by-outcome, grant-no-put, miss-too-small, owner-cases, sharers-cases, In, turn_in, cell-sees}
use Rattle.rules.proofs.Formed.{
  CellWf,
  goes_for-wf,
  goes-wf,
  idle-wf,
  grow,
  unused-idle,
  idle-unused,
  Place,
  BlockWf,
  grow-block,
  unused→,
  →unused,
  RequestWf,
  request→,
  →request,
  message→,
  →message,
  grow-message,
  SizesWf,
  sizes→,
  Wf,
  wf→,
  →wf,
}

-- the next order number is not 0
next-numbered : (n : OrderNo) → not (same_number (next_number n) no_number) ≡ true
next-numbered n = rw (ne_eqb (suc n.0) 0 (omega arith))

-- A block that is not there stays as it is when a card rejoins

rejoin-unused : (k : ℕ) (B : Block) → unused_block B ≡ true → unused_block (rejoin_block k B) ≡ true
unfolding rejoin_block without
rejoin-unused k B h =
    let u = unused→ B h in
    →unused (rejoin_block k B) (record {
      memory = u.memory;
      owner = cond_cases (λ y. y ≡ home) (eqb B.owner k) home B.owner (λ _. refl) (λ _. u.owner);
      sharers = rw u.sharers;
      cells = λ j l. replace-cases (λ y. unused_cell y ≡ true) B.cell k idle j (λ _. idle-unused) (λ _. u.cells j l);
    })

module _ {c : Chassis} (w : Wf c) where
  abbrev RequestsOk : List Request → Type 0
  RequestsOk l = All (λ r. ok_request c.cards c.blocks r ≡ true) l

  abbrev MessagesOk : OrderNo → List Message → Type 0
  MessagesOk n p = All (λ m. ok_message c.cards c.blocks n m ≡ true) p

  few : SizesWf c.cards c.blocks
  few = sizes→ c.cards c.blocks w.size

  block_at : (b : ℕ) → b < c.blocks → BlockWf c.edition c.cards c.last (c.block b)
  block_at b l = let f = few.few-blocks in w.used b (omega arith) l

  place_at : (k b : ℕ) → k < c.cards → b < c.blocks → CellWf c.edition c.last (cell_of c k b)
  place_at k b k< b< = let f = few.few-cards in ((block_at b b<).places k (omega arith)).used k<

  -- the old messages, where more order numbers are given
  older : (n : OrderNo) → c.last.0 ≤ n.0 → MessagesOk n c.pool
  older n le = All-map (λ m. grow-message c.cards c.blocks c.last n m le) c.pool w.messages

  -- What an event leaves

  changed-wf : (b : ℕ) (B : Block) (l : List Request) (p : List Message) (n : OrderNo) → b < c.blocks → c.last.0 ≤ n.0
      → BlockWf c.edition c.cards n B → length l ≤ room → length p ≤ room → RequestsOk l → MessagesOk n p → Wf (changed c b B l p n)
  changed-wf b B l p n b< le new lr pr rs ms = record {
    size = w.size;
    line_room = lr;
    pool_room = pr;
    requests = rs;
    messages = ms;
    used = λ b' l u. replace-cases (BlockWf c.edition c.cards n) c.block b B b'
        (λ _. new) (λ _. grow-block c.edition c.cards c.last n (c.block b') le (w.used b' l u));
    unused = λ b' l u. replace-cases (λ X. unused_block X ≡ true) c.block b B b' (λ e. absurd (omega arith)) (λ _. w.unused b' l u);
  }

  -- one cell of a card that is there anew
  cell-wf : (k b : ℕ) (x : Cell) → k < c.cards → b < c.blocks → CellWf c.edition c.last x
      → BlockWf c.edition c.cards c.last (with_cell (c.block b) k x)
  cell-wf k b x k< b< h =
      let B = block_at b b< in
      record {
        owner = B.owner;
        sharers = B.sharers;
        places = λ j l. replace-cases (Place c.edition c.cards c.last j) (c.block b).cell k x j
            (λ e. record { used = λ _. h; unused = λ q. absurd (omega arith) }) (λ _. B.places j l);
      }

  cell-step : (k b : ℕ) (x : Cell) → k < c.cards → b < c.blocks → CellWf c.edition c.last x → Wf (cell_changed c k b x)
  cell-step k b x k< b< h = changed-wf b (with_cell (c.block b) k x) c.line c.pool c.last b< (omega arith)
      (cell-wf k b x k< b< h) w.line_room w.pool_room w.requests w.messages

  pool-wf : (p : List Message) → length p ≤ room → MessagesOk c.last p → Wf (pool_changed c p)
  pool-wf p l h = record {
    size = w.size;
    line_room = w.line_room;
    pool_room = l;
    requests = w.requests;
    messages = h;
    used = w.used;
    unused = w.unused;
  }

  -- Store and Ask

  stored-wf : (k b v : ℕ) → k < c.cards → b < c.blocks → stores (state_of c k b) ≡ true → CellWf c.edition c.last (storing v (cell_of c k b))
  stored-wf k b v k< b< h =
      let x = place_at k b k< b< in
      record {
        code = x.code;
        given = x.given;
        awaited = x.awaited;
        unawaited = x.unawaited;
        unloaded = rw ((state (state_of c k b) (in-states c.edition (state_of c k b) x.code)).stores-loads h);
      }

  ask-wf : (k b kind mask : ℕ) → k < c.cards → b < c.blocks → gets ≤ kind → kind ≤ putx → inside c.cards mask ≡ true
      → eqb (asked kind (state_of c k b)) none ≡ false → length c.line < room → Wf (ask c k b kind mask)
  unfolding ask
  ask-wf k b kind mask k< b< lo hi m h lr =
      let s = state_of c k b in
      let l = (place_at k b k< b<).code in
      let t = asks kind s (omega arith) (in-states c.edition s l) h in
      let r = a_request k b kind mask first_retry in
      changed-wf b _ (c.line ++ r ∷ []) c.pool c.last b< (omega arith)
      (cell-wf k b (goes (asked kind s) (cell_of c k b)) k< b< (goes-wf c.edition c.last (asked kind s) (cell_of c k b) (t.code c.edition l) t.waits-not))
      (rw (length-append c.line (r ∷ [])) (omega arith)) w.pool_room
      (All-append (λ r. ok_request c.cards c.blocks r ≡ true) c.line (r ∷ []) w.requests (
        →request c.cards c.blocks r
            (record { card = k<; block = b<; low = lo; high = hi; mask = m; retry = omega arith; full = refl }),
        tt,
      ))
      w.messages

  -- Deliver and Copy

  deliver-wf : (i : ℕ) → i < length c.pool → Wf (deliver c i (message_of c i)).after
  unfolding deliver
  deliver-wf i l =
      let m = message_of c i in
      let b = m.block in
      let k = m.receiver in
      let x = cell_of c k b in
      let P : Message → Type 0 = λ m. ok_message c.cards c.blocks c.last m ≡ true in
      let mok = message→ c.cards c.blocks c.last m (All-at P c.pool i _ l w.messages) in
      let p = removed i c.pool in
      let short : length p ≤ room = let a = removed-short i c.pool in let b = w.pool_room in omega arith in
      cond_cases (λ (o : Step). Wf o.after) (live (c.block b) m) _ _
      (λ e. let wt = live-waits (c.block b) m e in
      let at = (place_at k b mok.receiver mok.block).code in
      let t = filled x.state (in-states c.edition x.state at) wt in
      changed-wf b (with_cell (c.block b) k (takes m x)) c.line p c.last mok.block (omega arith)
      (cell-wf k b (takes m x) mok.receiver mok.block (record {
        code = t.code c.edition at;
        given = omega arith;
        awaited = rw t.waits-not;
        unawaited = rw t.waits-not;
        unloaded = rw t.loaded;
      }))
      w.line_room short w.requests (All-removed P i c.pool w.messages))
      (λ _. pool-wf p short (All-removed P i c.pool w.messages))

  copy-wf : (i : ℕ) → i < length c.pool → length c.pool < room → Wf (pool_changed c (c.pool ++ message_of c i ∷ []))
  copy-wf i l r =
      let P : Message → Type 0 = λ m. ok_message c.cards c.blocks c.last m ≡ true in
      pool-wf (c.pool ++ message_of c i ∷ []) (rw (length-append c.pool (message_of c i ∷ [])) (omega arith))
      (All-append P c.pool (message_of c i ∷ []) w.messages (All-at P c.pool i _ l w.messages, tt))

  -- Rejoin

  rejoin-wf : (k : ℕ) → k < c.cards → Wf (rejoin c k)
  unfolding rejoin rejoin_block home_or_card
  rejoin-wf k k< =
      let stays : Request → Bool = λ r. not (eqb r.card k) in
      record {
        size = w.size;
        line_room = let a = keep-short stays c.line in let b = w.line_room in omega arith;
        pool_room = w.pool_room;
        requests = All-map (λ r h. h.0) (keep stays c.line)
            (All-keep (λ r. ok_request c.cards c.blocks r ≡ true) stays c.line w.requests);
        messages = w.messages;
        used = λ b l u. let B = w.used b l u in record {
          owner = cond_cases (λ y. home_or_card c.cards y ≡ true) (eqb (c.block b).owner k) home (c.block b).owner
              (λ _. refl) (λ _. B.owner);
          sharers = without-inside c.cards (c.block b).sharers (only k) B.sharers (only-inside c.cards k k<);
          places = λ j l8. replace-cases (Place c.edition c.cards c.last j) (c.block b).cell k idle j
              (λ _. record { used = λ _. idle-wf c.edition c.last; unused = λ _. idle-unused }) (λ _. B.places j l8);
        };
        unused = λ b l u. rejoin-unused k (c.block b) (w.unused b l u);
      }

  -- Order

  module _ (r : Request) (rest : List Request) (at : c.line ≡ r ∷ rest) (h : held c.cards (c.block r.block) ≡ false) where
    abbrev Head : Block
    Head = c.block r.block

    abbrev Next : OrderNo
    Next = next_number c.last

    requests : RequestsOk (r ∷ rest)
    requests = subst RequestsOk at w.requests

    asks-ok : RequestWf c.cards c.blocks r
    asks-ok = request→ c.cards c.blocks r requests.0

    block-ok : BlockWf c.edition c.cards c.last Head
    block-ok = block_at r.block asks-ok.block

    owner-card : eqb Head.owner home ≡ false → Head.owner < c.cards
    unfolding home_or_card
    owner-card e = ltb-true Head.owner c.cards (rw e at block-ok.owner)

    free : (k : ℕ) → k < c.cards → waits (state_of c k r.block) ≡ false
    unfolding held
    free k k< = some-false c.cards (λ k. waits (Head.cell k).state) h k k<

    -- every card's cell
    seen-wf : (t : Turn) → In c.edition t → CellWf c.edition Next ((upshot_of t).asker_sees Next (cell_of c r.card r.block))
        → (k : ℕ) → k < most_cards → Place c.edition c.cards Next k (sees t Head r Next k)
    unfolding loads
    seen-wf t in' asker k k8 =
        let x = Head.cell k in
        let pl = block-ok.places k k8 in
        let card = asks-ok.card in
        record {
          used = λ k<. let y = pl.used k< in
              cell-sees c.edition (CellWf c.edition Next) t in' Head r Next k
              (λ e. subst (λ i. CellWf c.edition Next ((upshot_of t).asker_sees Next (Head.cell i))) e asker)
              (grow c.edition c.last Next x (omega arith) y)
              (λ f col. goes-wf c.edition Next (f x.state) x (col.code x.state y.code (free k k<)) (col.waits-not x.state y.code (free k k<)));
          unused = λ ge. let e = unused-idle x (pl.unused ge) in
              cell-sees c.edition (λ y. unused_cell y ≡ true) t in' Head r Next k (λ f. absurd (omega arith)) (pl.unused ge)
              (λ f col. subst (λ y. unused_cell (goes (f y.state) y) ≡ true) (sym e) (rw col.idle idle-unused));
        }

    -- home's part
    owner-in : (t : Turn) → home_or_card c.cards ((upshot_of t).owner Head r.card) ≡ true
    unfolding home_or_card
    owner-in t = owner-cases (λ y. home_or_card c.cards y ≡ true) t Head r.card block-ok.owner refl
        (or-i {a = eqb r.card home} (λ _. lt-ltb r.card c.cards asks-ok.card))

    sharers-in : (t : Turn) → inside c.cards ((upshot_of t).sharers Head r.card) ≡ true
    sharers-in t = sharers-cases (λ y. inside c.cards y ≡ true) t Head r.card (union-inside c.cards) block-ok.sharers (none_inside c.cards)
        (λ e. only-inside c.cards Head.owner (owner-card e)) (only-inside c.cards r.card asks-ok.card)

    -- the line and the pool
    line-fits : (t : Turn) → length (rest ++ (upshot_of t).again c.cards Head r) ≤ room
    line-fits t =
        let fits : suc (length rest) ≤ room = subst (λ l. length l ≤ room) at w.line_room in
        rw (length-append rest ((upshot_of t).again c.cards Head r), (by-outcome t).again c.cards Head r)
        (cond_cases (λ l. length rest + length l ≤ room) (eqb (upshot_of t).outcome too_small) _ _ (λ _. omega arith) (λ _. omega arith))

    data-wf : ok_message c.cards c.blocks Next (data_for Head r Next) ≡ true
    unfolding data_for giver home_or_card
    data-wf = →message c.cards c.blocks Next (data_for Head r Next) (record {
      sender = cond_cases (λ k. home_or_card c.cards k ≡ true) (eqb Head.owner r.card) home Head.owner (λ _. refl) (λ _. block-ok.owner);
      receiver = asks-ok.card;
      block = asks-ok.block;
      numbered = next-numbered c.last;
      given = omega arith;
    })

    sent-wf : (t : Turn) → MessagesOk Next ((upshot_of t).sent Head r Next)
    sent-wf t = rw ((by-outcome t).sent Head r Next)
        (cond_cases (MessagesOk Next) (eqb (upshot_of t).outcome granted) _ _ (λ _. (data-wf, tt)) (λ _. tt))

    -- a turn, from what depends on it
    turn-wf : (t : Turn) → In c.edition t → CellWf c.edition Next ((upshot_of t).asker_sees Next (cell_of c r.card r.block))
        → length (c.pool ++ (upshot_of t).sent Head r Next) ≤ room → RequestsOk ((upshot_of t).again c.cards Head r)
        → Wf (changed c r.block (ordered t Head r Next) (rest ++ (upshot_of t).again c.cards Head r) (c.pool ++ (upshot_of t).sent Head r Next) Next)
    unfolding ordered
    turn-wf t in' asker pr rs =
        changed-wf r.block (ordered t Head r Next) (rest ++ (upshot_of t).again c.cards Head r) (c.pool ++ (upshot_of t).sent Head r Next) Next
        asks-ok.block (omega arith)
        (record { owner = owner-in t; sharers = sharers-in t; places = seen-wf t in' asker })
        (line-fits t) pr
        (All-append (λ r. ok_request c.cards c.blocks r ≡ true) rest ((upshot_of t).again c.cards Head r) requests.1 rs)
        (All-append (λ m. ok_message c.cards c.blocks Next m ≡ true) c.pool ((upshot_of t).sent Head r Next)
        (older Next (omega arith)) (sent-wf t))

    -- so a request that is put back has a retry to go
    retried-wf : suffices c.cards Head r ≡ false → ok_request c.cards c.blocks (retried c.cards Head r) ≡ true
    unfolding retried retry_mask
    retried-wf f =
        let next = next_retry r.retry in
        let less : next.0 ≤ last_retry.0 = test (same_retry r.retry last_retry)
        (λ e. absurd (clash (every-suffices c.cards Head r owner-card (eqb-true r.mask (every c.cards) (imp asks-ok.full e))) f))
        (λ e. let ne = eqb-false r.retry.0 last_retry.0 e in let le = asks-ok.retry in omega arith) in
        →request c.cards c.blocks (retried c.cards Head r) (record {
          card = asks-ok.card;
          block = asks-ok.block;
          low = asks-ok.low;
          high = asks-ok.high;
          retry = less;
          mask = cond_cases (λ y. inside c.cards y ≡ true) (up_to_retry last_retry next) (every c.cards) _ (λ _. every-inside c.cards)
              (λ _. cond_cases (λ y. inside c.cards y ≡ true) (eqb Head.owner home) Head.sharers _ (λ _. block-ok.sharers)
              (λ e. union-inside c.cards (only Head.owner) Head.sharers
              (only-inside c.cards Head.owner (owner-card e)) block-ok.sharers));
          full = imp-i (same_retry next last_retry) (λ e.
              rw (le-leb last_retry.0 next.0 (let z = eqb-true next.0 last_retry.0 e in omega arith)) (eq-eqb (every c.cards) (every c.cards) refl));
        })

    head-wf : impossible Head r ≡ false → no_room_for c r ≡ false → Wf (order_head c r rest).after
    unfolding order_head impossible no_room_for
    head-wf i full =
        let s = (Head.cell r.card).state in
        let y = cell_of c r.card r.block in
        let x = place_at r.card r.block asks-ok.card asks-ok.block in
        let from : comes_from r.kind s ≡ true = not-false (comes_from r.kind s) (any→ (not (comes_from r.kind s) ∷ _ ∷ _ ∷ _ ∷ _ ∷ _ ∷ []) i).0 in
        let a = asking r.kind s (in-states c.edition s x.code) from in
        let t = turn c r in
        let u = by-outcome t in
        let o = (upshot_of t).outcome in
        let no-put : eqb o granted ≡ true → eqb r.kind putx ≡ false = λ g. grant-no-put c r (eqb-true o granted g) in
        turn-wf t (turn_in c r)
        (rw (u.asker Next y) (cond_cases (CellWf c.edition Next) (eqb o granted) (goes_for Next (granted_to s) y) _
        (λ g. goes_for-wf c.edition Next Next (granted_to s) y (a.granted-code (no-put g) c.edition x.code) (omega arith)
        (imp-i (waits (granted_to s)) (λ _. next-numbered c.last)) (rw (a.granted-waits (no-put g))))
        (λ _. cond_cases (CellWf c.edition Next) (eqb o too_small) y idle (λ _. grow c.edition c.last Next y (omega arith) x) (λ _. idle-wf c.edition Next))))
        (rw (length-append c.pool ((upshot_of t).sent Head r Next), u.sent Head r Next)
        (cond_cases (λ p. length c.pool + length p ≤ room) (eqb o granted) (data_for Head r Next ∷ []) []
        (λ g. let lt = leb-false room (length c.pool) (rw (no-put g) at full) in omega arith) (λ _. let le = w.pool_room in omega arith)))
        (rw (u.again c.cards Head r) (cond_cases RequestsOk (eqb o too_small) _ _
        (λ g. (retried-wf (miss-too-small c r (eqb-true o too_small g)), tt)) (λ _. tt)))

  order-wf : (l : List Request) → c.line ≡ l → NoneHolds (order_reasons c l) → Wf (order c l).after
  unfolding order order_reasons
  order-wf [] at h = absurd (true≢false h.0)
  order-wf (r ∷ rest) at h = head-wf r rest at h.1.0 h.1.1.0 h.1.1.1.0

  -- Every event

  effect-wf : (e : Event) → NoneHolds (reasons c e) → Wf (effect c e).after
  unfolding reasons right_reasons no_card no_block no_message effect
  effect-wf (Load k b) h = w
  effect-wf (Store k b v) h =
      let k< = leb-false c.cards k h.0 in
      let b< = leb-false c.blocks b h.1.0 in
      cell-step k b (storing v (cell_of c k b)) k< b< (stored-wf k b v k< b< (not-false (stores (state_of c k b)) h.1.1.0))
  effect-wf (Drop k b) h =
      cell-step k b idle (leb-false c.cards k h.0) (leb-false c.blocks b h.1.0) (idle-wf c.edition c.last)
  effect-wf (Ask k b kind mask) h =
      let known = not-false (leb gets kind && leb kind putx) h.1.1.0 in
      ask-wf k b kind mask (leb-false c.cards k h.0) (leb-false c.blocks b h.1.0)
      (leb-true gets kind (and_l (leb gets kind) (leb kind putx) known)) (leb-true kind putx (and_r (leb gets kind) (leb kind putx) known))
      (not-false (inside c.cards mask) h.1.1.1.0) h.1.1.1.1.0
      (leb-false room (length c.line) h.1.1.1.1.1.0)
  effect-wf Order h = order-wf c.line refl h
  effect-wf (Deliver i) h = deliver-wf i (leb-false (length c.pool) i h.0)
  effect-wf (Copy i) h = copy-wf i (leb-false (length c.pool) i h.0) (leb-false room (length c.pool) h.1.0)
  effect-wf (Rejoin k) h = rejoin-wf k (leb-false c.cards k h.0)

pub stays-formed : StaysFormed
unfolding step
stays-formed c e h = refused-cases c (λ (o : Step). well_formed o.after ≡ true) _ (effect c e)
    (λ _. h) (λ g. →wf (effect c e).after (effect-wf (wf→ c h) e g.1))
