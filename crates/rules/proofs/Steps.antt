-- Every event keeps the invariant.
use Rattle.std.specs.Prelude.{Ok}
use Prim.Native.Nat.{ℕ, ◌≤◌, ◌<◌}
use native.Mathlib.Omega.{arith}
use mathlib.Core.Bool.{Bool, true, false, cond, not, ◌&&◌, true≢false}
use mathlib.Core.List.{List, [], ◌∷◌, ◌++◌, append-nil}
use mathlib.Core.Path.{◌≡◌, refl, sym, ◌∙◌, ap, subst}
use mathlib.Core.Logic.{◌≢◌}
use lib.ListN.{length}
use lib.Dec.{eqb, leb}
use borrow.Author.Tests.{eqb-true, eq-eqb, leb-true, leb-false, not-true, not-false}
use Rattle.rules.specs.Lists.{replace, removed, keep, All}
use Rattle.rules.specs.Numbers.{next_number, same_number, first_retry, gets, putx, granted, too_small, put_taken, put_lapsed, none}
use Rattle.rules.specs.Table.{stores, drops, asked, waits, comes_from}
use Rattle.rules.specs.Chassis.{
  Block,
  Chassis,
  cell_of,
  state_of,
  a_request,
  idle,
  message_of,
  goes,
  storing,
  with_cell,
  changed,
  cell_changed,
  pool_changed,
}
use Rattle.rules.specs.Answers.{Step, result, NoneHolds}
use Rattle.rules.specs.Order.{held, order_reasons, upshot_of, sees, ordered, data_for, retried, order_head, order}
use Rattle.rules.specs.Events.{
  no_card,
  no_block,
  right_reasons,
  no_message,
  reasons,
  ask,
  live,
  takes,
  deliver,
  rejoin_block,
  rejoin,
  effect,
  step,
}
use Rattle.rules.specs.History.{Did, loaded, stored, settles, rejoined, quiet, head_block, did_accepted, did}
use Rattle.rules.specs.declared.OrderNo.{OrderNo}
use Rattle.rules.specs.declared.Cell.{Cell}
use Rattle.rules.specs.declared.Turn.{Turn}
use Rattle.rules.specs.declared.Request.{Request}
use Rattle.rules.specs.declared.Message.{Message}
use Rattle.rules.specs.declared.Event.{Event}
use Rattle.rules.specs.declared.Event.TheVariants.{
  Load,
  Store,
  Drop,
  Ask,
  Order,
  Deliver,
  Copy,
  Rejoin,
}
use Rattle.rules.proofs.Tests.{clash, cond_cases, and_l, and_r}
use Rattle.rules.proofs.Lists.{
  replace-cases,
  replace-same,
  All-map,
  All-map₂,
  All-append,
  All-removed,
  All-at,
  All-keep,
}
use Rattle.rules.proofs.Board.{
  pick,
  here,
  pending,
  base,
  Only,
  only-stored,
  only-settles,
  only-quiet,
  pending-other,
  base-other,
}
use Rattle.rules.proofs.Invariant.{BlockOk, MessageOk, RequestOk, Other, Distinct, Inv}
use Rattle.rules.proofs.States.{kinds, idle-calm, filled, asking, asks}
use Rattle.rules.proofs.Blocks.{store-block, drop_block, ask-block, fill-block, rejoin-block}
use Rattle.rules.proofs.Holders.{held-not, given-current}
use Rattle.rules.proofs.Upshots.{by-outcome}
use Rattle.rules.proofs.Turns.{Ordered, ordered-block, turn-cases}
use Rattle.rules.proofs.Refusals.{refused-cases}

-- The line

distinct_snoc : (l : List Request) (r : Request) → Distinct l → All (Other r.card r.block) l → Distinct (l ++ r ∷ [])
distinct_snoc [] r d a = (tt, tt)
distinct_snoc (x ∷ l) r d a = (
  All-append (Other x.card x.block) l (r ∷ []) d.0 ((λ e e'. a.0 (sym e) (sym e')), tt),
  distinct_snoc l r d.1 a.1,
)

distinct-keep : (f : Request → Bool) (l : List Request) → Distinct l → Distinct (keep f l)
unfolding keep
distinct-keep f [] d = tt
distinct-keep f (x ∷ l) d = cond_cases Distinct (f x) (x ∷ keep f l) (keep f l)
    (λ _. (All-map (λ y p. p.0) (keep f l) (All-keep (Other x.card x.block) f l d.0), distinct-keep f l d.1))
    (λ _. distinct-keep f l d.1)

-- A message that is awaited

-- the match of a cell with an order number
abbrev Awaits : OrderNo → Cell → Type 0
Awaits n y = (waits y.state && same_number y.awaits n) ≡ true

pub live-waits : (B : Block) (m : Message) → live B m ≡ true → waits (B.cell m.receiver).state ≡ true
unfolding live
live-waits B m h = and_l (waits (B.cell m.receiver).state) (same_number (B.cell m.receiver).awaits m.number) h

-- one cell goes to a state without data on its way: no message becomes live there
calm-live : (B : Block) (k : ℕ) (x : Cell) (m : Message) → waits x.state ≡ false
    → live (with_cell B k x) m ≡ true → live B m ≡ true
unfolding live
calm-live B k x m h = replace-cases (λ y. Awaits m.number y → live B m ≡ true) B.cell k x m.receiver
    (λ _ p. absurd (clash (and_l (waits x.state) (eqb x.awaits.0 m.number.0) p) h)) (λ _ p. p)

-- a card's other requests stand
cell-stands : (B : Block) (k : ℕ) (x : Cell) (j kind : ℕ) → k ≢ j → comes_from kind (B.cell j).state ≡ true
    → comes_from kind ((with_cell B k x).cell j).state ≡ true
cell-stands B k x j kind ne p = replace-cases (λ y. comes_from kind y.state ≡ true) B.cell k x j (λ e. absurd (ne e)) (λ _. p)

module _ {c : Chassis} {log : List Did} (inv : Inv c log) where
  -- Block b anew

  changed-ok : (b : ℕ) (B : Block) (l : List Request) (p : List Message) (n : OrderNo) (d : Did) → Only b d
      → BlockOk c.cards B (pending b (d ∷ log)) (base b (d ∷ log))
      → All (λ m. MessageOk n (replace c.block b B m.block) m) p
      → All (λ r. RequestOk (replace c.block b B r.block) r) l
      → Distinct l → Inv (changed c b B l p n) (d ∷ log)
  changed-ok b B l p n d only new ms rs ds = record {
    few = inv.few;
    blocks-ok = λ b'. replace-cases (λ X. BlockOk c.cards X (pending b' (d ∷ log)) (base b' (d ∷ log))) c.block b B b'
        (λ e. rw (← e) new)
        (λ ne. rw (pending-other b b' d log only ne, base-other b b' d log only ne) (inv.blocks-ok b'));
    messages = ms;
    requests = rs;
    distinct = ds;
  }

  -- the messages, where block b becomes B
  messages-ok : (b : ℕ) (B : Block) (n : OrderNo) → c.last.0 ≤ n.0
      → ((m : Message) → m.number.0 ≤ c.last.0 → live B m ≡ true
      → (live (c.block b) m ≡ true) × (B.memory ≡ (c.block b).memory))
      → All (λ m. MessageOk n (replace c.block b B m.block) m) c.pool
  messages-ok b B n le h = All-map (λ m k. record {
    given = let g = k.given in omega arith;
    carries = replace-cases (λ X. live X m ≡ true → m.value ≡ X.memory) c.block b B m.block
        (λ e p. let t = h m k.given p in
        let old = subst (λ i. live (c.block i) m ≡ true → m.value ≡ (c.block i).memory) (sym e) k.carries in
        old t.0 ∙ sym t.1)
        (λ _. k.carries);
  }) c.pool inv.messages

  -- the requests of a line, where block b becomes B and only card q's cell may stop waiting
  requests-ok : (b : ℕ) (B : Block) (q : ℕ) (l : List Request)
      → ((j kind : ℕ) → q ≢ j → comes_from kind ((c.block b).cell j).state ≡ true → comes_from kind (B.cell j).state ≡ true)
      → All (λ r. RequestOk (c.block r.block) r) l → All (Other q b) l
      → All (λ r. RequestOk (replace c.block b B r.block) r) l
  requests-ok b B q l h = All-map₂ (λ r k ne.
      replace-cases (λ X. comes_from r.kind (X.cell r.card).state ≡ true) c.block b B r.block
      (λ e. h r.card r.kind (λ e'. ne (sym e') (sym e))
      (subst (λ i. comes_from r.kind ((c.block i).cell r.card).state ≡ true) (sym e) k))
      (λ _. k)) l

  -- a card in a state that no request waits in has none in the line
  none-waiting : (k b : ℕ) → ((kind : ℕ) → comes_from kind (state_of c k b) ≡ true → ⊥) → All (Other k b) c.line
  none-waiting k b h = All-map (λ r p e e'. h r.kind
      (subst (λ i. comes_from r.kind (state_of c i b) ≡ true) e
      (subst (λ i. comes_from r.kind (state_of c r.card i) ≡ true) e' p))) c.line inv.requests

  -- Events that change no block

  -- the pool anew
  pool-ok : (p : List Message) → All (λ m. MessageOk c.last (c.block m.block) m) p → Inv (pool_changed c p) (quiet ∷ log)
  unfolding pending base
  pool-ok p h = record { few = inv.few; blocks-ok = inv.blocks-ok; messages = h; requests = inv.requests; distinct = inv.distinct }

  quiet_ok : Inv c (quiet ∷ log)
  quiet_ok = pool-ok c.pool inv.messages

  loaded-ok : (k b v : ℕ) → Inv c (loaded k b v ∷ log)
  unfolding pending base
  loaded-ok k b v = record {
    few = inv.few;
    blocks-ok = inv.blocks-ok;
    messages = inv.messages;
    requests = inv.requests;
    distinct = inv.distinct;
  }

  -- Events that change one cell

  store_ok : (k b v : ℕ) → stores (state_of c k b) ≡ true → Inv (cell_changed c k b (storing v (cell_of c k b))) (stored k b v ∷ log)
  unfolding pending base live
  store_ok k b v h =
      let y = storing v (cell_of c k b) in
      let B = with_cell (c.block b) k y in
      changed-ok b B c.line c.pool c.last (stored k b v) only-stored
      (rw (eq-eqb b b refl) (store-block (inv.blocks-ok b) k v h))
      (messages-ok b B c.last (omega arith) (λ m _ p. (
        replace-cases (λ z. Awaits m.number z → live (c.block b) m ≡ true) (c.block b).cell k y m.receiver
            (λ e q. rw (← e) q) (λ _ q. q) p,
        refl,
      )))
      (All-map (λ r p. replace-cases (λ X. comes_from r.kind (X.cell r.card).state ≡ true) c.block b B r.block
      (λ e. replace-cases (λ z. comes_from r.kind z.state ≡ true) (c.block b).cell k y r.card
      (λ e'. rw (e, e') p) (λ _. rw e p)) (λ _. p)) c.line inv.requests)
      inv.distinct

  drop-ok : (k b : ℕ) → drops (state_of c k b) ≡ true → Inv (cell_changed c k b idle) (quiet ∷ log)
  unfolding pending base
  drop-ok k b h =
      let B = with_cell (c.block b) k idle in
      let l = ((inv.blocks-ok b).cells k).code in
      changed-ok b B c.line c.pool c.last quiet only-quiet
      (drop_block (inv.blocks-ok b) k h)
      (messages-ok b B c.last (omega arith) (λ m _ p. (calm-live (c.block b) k idle m idle-calm.waits-not p, refl)))
      (requests-ok b B k c.line (cell-stands (c.block b) k idle) inv.requests
      (none-waiting k b (λ kind w. clash h (asking kind (state_of c k b) l w).drops-not)))
      inv.distinct

  ask-ok : (k b kind mask : ℕ) → k < c.cards → kind < kinds → eqb (asked kind (state_of c k b)) none ≡ false
      → Inv (ask c k b kind mask) (quiet ∷ log)
  unfolding pending base ask
  ask-ok k b kind mask k< kind< h =
      let x = goes (asked kind (state_of c k b)) (cell_of c k b) in
      let B = with_cell (c.block b) k x in
      let r = a_request k b kind mask first_retry in
      let t = asks kind (state_of c k b) kind< ((inv.blocks-ok b).cells k).code h in
      let free = none-waiting k b t.none-waiting in
      changed-ok b B (c.line ++ r ∷ []) c.pool c.last quiet only-quiet
      (ask-block (inv.blocks-ok b) k kind k< kind< h)
      (messages-ok b B c.last (omega arith) (λ m _ p. (calm-live (c.block b) k x m t.waits-not p, refl)))
      (All-append (λ r. RequestOk (replace c.block b B r.block) r) c.line (r ∷ [])
      (requests-ok b B k c.line (cell-stands (c.block b) k x) inv.requests free)
      (rw (replace-same c.block b B) (rw (replace-same (c.block b).cell k x) t.stands), tt))
      (distinct_snoc c.line r inv.distinct free)

  -- an outcome keeps the invariant
  abbrev pub Keeps : Event → Step → Type 0
  Keeps e o = Inv o.after (did c e o.answer ∷ log)

  deliver-ok : (i : ℕ) → i < length c.pool → Keeps (Deliver i) (deliver c i (message_of c i))
  unfolding pending base deliver did did_accepted
  deliver-ok i l =
      let m = message_of c i in
      let b = m.block in
      let k = m.receiver in
      let B = c.block b in
      let s = (B.cell k).state in
      let code = ((inv.blocks-ok b).cells k).code in
      let mok = All-at (λ m. MessageOk c.last (c.block m.block) m) c.pool i _ l inv.messages in
      let x = takes m (B.cell k) in
      let B' = with_cell B k x in
      cond_cases (Keeps (Deliver i)) (live B m) _ _
      (λ e. let w = live-waits B m e in
      changed-ok b B' c.line (removed i c.pool) c.last quiet only-quiet
      (fill-block (inv.blocks-ok b) k m w (mok.carries e))
      (All-removed (λ a. MessageOk c.last (replace c.block b B' a.block) a) i c.pool
      (messages-ok b B' c.last (omega arith) (λ a _ p. (calm-live B k x a (filled s code w).waits-not p, refl))))
      (requests-ok b B' k c.line (cell-stands B k x) inv.requests
      (none-waiting k b (λ kind q. clash w (asking kind s code q).waits-not)))
      inv.distinct)
      (λ _. pool-ok (removed i c.pool) (All-removed (λ a. MessageOk c.last (c.block a.block) a) i c.pool inv.messages))

  copy-ok : (i : ℕ) → i < length c.pool → Inv (pool_changed c (c.pool ++ message_of c i ∷ [])) (quiet ∷ log)
  copy-ok i l =
      let P : Message → Type 0 = λ m. MessageOk c.last (c.block m.block) m in
      pool-ok (c.pool ++ message_of c i ∷ [])
      (All-append P c.pool (message_of c i ∷ []) inv.messages (All-at P c.pool i _ l inv.messages, tt))

  -- Rejoin

  rejoin-ok : (k : ℕ) → k < c.cards → Inv (rejoin c k) (rejoined k ∷ log)
  unfolding pending base rejoin rejoin_block live
  rejoin-ok k k< =
      let stays : Request → Bool = λ r. not (eqb r.card k) in
      record {
        few = inv.few;
        blocks-ok = λ b. rejoin-block (inv.blocks-ok b) k k< inv.few;
        messages = All-map (λ m p. record {
          given = p.given;
          carries = λ q. p.carries (calm-live (c.block m.block) k idle m idle-calm.waits-not q);
        }) c.pool inv.messages;
        requests = All-map (λ r p. replace-cases (λ y. comes_from r.kind y.state ≡ true) (c.block r.block).cell k idle r.card
            (λ e. absurd (clash (eq-eqb r.card k (sym e)) (not-true (eqb r.card k) p.1))) (λ _. p.0))
            (keep stays c.line) (All-keep (λ r. RequestOk (c.block r.block) r) stays c.line inv.requests);
        distinct = distinct-keep stays c.line inv.distinct;
      }

  -- Order: what is left to show once its block is known

  ordered-ok : (b q : ℕ) (B' : Block) (l : List Request) (p : List Message) (d : Did) → Only b d
      → Ordered c.cards (c.block b) B' q (next_number c.last) (pending b (d ∷ log)) (base b (d ∷ log))
      → All (λ m. MessageOk (next_number c.last) (replace c.block b B' m.block) m) p
      → All (λ r. RequestOk (replace c.block b B' r.block) r) l → Distinct l
      → Inv (changed c b B' l (c.pool ++ p) (next_number c.last)) (d ∷ log)
  unfolding live
  ordered-ok b q B' l p d only or ms rs ds =
      let n = next_number c.last in
      changed-ok b B' l (c.pool ++ p) n d only (ordered-block or)
      (All-append (λ m. MessageOk n (replace c.block b B' m.block) m) c.pool p
      (messages-ok b B' n (omega arith) (λ m g h.
      let x = B'.cell m.receiver in
      let w = ap (λ (i : OrderNo). i.0) ((or.seen m.receiver).waits-only (and_l (waits x.state) (eqb x.awaits.0 m.number.0) h)).1 in
      let e = eqb-true x.awaits.0 m.number.0 (and_r (waits x.state) (eqb x.awaits.0 m.number.0) h) in
      absurd (omega arith))) ms) rs ds

  module _ (r : Request) (rest : List Request) (at : c.line ≡ r ∷ rest) (h : held c.cards (c.block r.block) ≡ false) where
    -- the block, the number and what a turn leaves of the block
    abbrev Head : Block
    Head = c.block r.block

    abbrev Next : OrderNo
    Next = next_number c.last

    abbrev After : Turn → Block
    After t = ordered t Head r Next

    waiting : All (λ r. RequestOk (c.block r.block) r) (r ∷ rest)
    waiting = subst (All (λ r. RequestOk (c.block r.block) r)) at inv.requests

    apart : Distinct (r ∷ rest)
    apart = subst Distinct at inv.distinct

    free : (k : ℕ) → waits (Head.cell k).state ≡ false
    free = held-not (inv.blocks-ok r.block) inv.few h

    head-block : head_block c.line ≡ r.block
    unfolding head_block
    head-block = ap head_block at

    -- the requests behind the head
    rest_ok : (t : Turn) {ws : List _} {d : ℕ} → Ordered c.cards Head (After t) r.card Next ws d
        → All (λ a. RequestOk (replace c.block r.block (After t) a.block) a) rest
    rest_ok t or = requests-ok r.block (After t) r.card rest (λ j kind ne w. (or.seen j).stands kind ne w) waiting.1 apart.0

    -- a turn that takes the request out of the line
    leaves : (t : Turn) (d : Did) → Only r.block d
        → Ordered c.cards Head (After t) r.card Next (pending r.block (d ∷ log)) (base r.block (d ∷ log))
        → (p : List Message) → All (λ m. MessageOk Next (replace c.block r.block (After t) m.block) m) p
        → Inv (changed c r.block (After t) (rest ++ []) (c.pool ++ p) Next) (d ∷ log)
    leaves t d only or p ms = rw (append-nil rest)
        (ordered-ok r.block r.card (After t) rest p d only or ms (rest_ok t or) apart.1)

    -- one that puts it back at the tail
    returned : (t : Turn)
        → Ordered c.cards Head (After t) r.card Next (pending r.block log) (base r.block log)
        → (After t).cell r.card ≡ Head.cell r.card
        → Inv (changed c r.block (After t) (rest ++ retried c.cards Head r ∷ []) (c.pool ++ []) Next) (quiet ∷ log)
    unfolding pending base retried
    returned t or w =
        let again = retried c.cards Head r in
        ordered-ok r.block r.card (After t) (rest ++ again ∷ []) [] quiet only-quiet or tt
        (All-append (λ a. RequestOk (replace c.block r.block (After t) a.block) a) rest (again ∷ []) (rest_ok t or)
        (rw (replace-same c.block r.block (After t), w) waiting.0, tt))
        (distinct_snoc rest again apart.1 apart.0)

    -- the message of a grant
    data-ok : (t : Turn) → eqb r.kind putx ≡ false
        → Ordered c.cards Head (After t) r.card Next [] (pick here (pending r.block log) (base r.block log))
        → All (λ m. MessageOk Next (replace c.block r.block (After t) m.block) m) (data_for Head r Next ∷ [])
    unfolding data_for
    data-ok t no-put or = (
      record {
        given = omega arith;
        carries = λ _. rw (replace-same c.block r.block (After t))
            (given-current (inv.blocks-ok r.block) inv.few free r.card
            ((asking r.kind (Head.cell r.card).state ((inv.blocks-ok r.block).cells r.card).code waiting.0).stores-not no-put)
            ∙ sym or.memory-is);
      },
      tt,
    )

    -- a grant settles the block's stores
    settles-ok : (t : Turn)
        → Ordered c.cards Head (After t) r.card Next [] (pick here (pending r.block log) (base r.block log))
        → (p : List Message) → All (λ m. MessageOk Next (replace c.block r.block (After t) m.block) m) p
        → Inv (changed c r.block (After t) (rest ++ []) (c.pool ++ p) Next) (settles (head_block c.line) ∷ log)
    unfolding pending base
    settles-ok t or p ms = rw head-block (leaves t (settles r.block) only-settles (rw (eq-eqb r.block r.block refl) or) p ms)

    asker-stays : (t : Turn) → (upshot_of t).outcome ≡ too_small → (After t).cell r.card ≡ Head.cell r.card
    unfolding ordered sees
    asker-stays t o = rw (eq-eqb r.card r.card refl, (by-outcome t).asker Next (Head.cell r.card), o)

    -- what the turn leaves of the chassis
    abbrev At : Turn → Step
    At t = result (Ok (upshot_of t).outcome)
        (changed c r.block (After t) (rest ++ (upshot_of t).again c.cards Head r) (c.pool ++ (upshot_of t).sent Head r Next) Next)

    -- with what its outcome says of the line and the pool
    at-outcome : (t : Turn) (o : ℕ) → (upshot_of t).outcome ≡ o
        → Inv (changed c r.block (After t) (rest ++ cond (eqb o too_small) (retried c.cards Head r ∷ []) [])
        (c.pool ++ cond (eqb o granted) (data_for Head r Next ∷ []) []) Next) (did_accepted c Order o ∷ log) → Keeps Order (At t)
    unfolding did
    at-outcome t o e h = rw ((by-outcome t).sent Head r Next, (by-outcome t).again c.cards Head r, e) h

    order-head-ok : Keeps Order (order_head c r rest)
    unfolding order_head did_accepted pending base
    order-head-ok = turn-cases c r Next (inv.blocks-ok r.block) inv.few free waiting.0 (λ t. Keeps Order (At t))
        (λ t e p or. at-outcome t granted e (settles-ok t or (data_for Head r Next ∷ []) (data-ok t p or)))
        (λ t e or. at-outcome t too_small e (returned t or (asker-stays t e)))
        (λ t e or. at-outcome t put_taken e (settles-ok t or [] tt))
        (λ t e or. at-outcome t put_lapsed e (leaves t quiet only-quiet or [] tt))

  order-ok : (l : List Request) → c.line ≡ l → NoneHolds (order_reasons c l) → Keeps Order (order c l)
  unfolding order order_reasons
  order-ok [] at h = absurd (true≢false h.0)
  order-ok (r ∷ rest) at h = order-head-ok r rest at h.1.0

  -- Every event

  effect-ok : (e : Event) → NoneHolds (reasons c e) → Keeps e (effect c e)
  unfolding reasons right_reasons no_card no_block no_message effect did did_accepted
  effect-ok (Load k b) h = loaded-ok k b (cell_of c k b).value
  effect-ok (Store k b v) h = store_ok k b v (not-false (stores (state_of c k b)) h.1.1.0)
  effect-ok (Drop k b) h = drop-ok k b (not-false (drops (state_of c k b)) h.1.1.0)
  effect-ok (Ask k b kind mask) h = ask-ok k b kind mask (leb-false c.cards k h.0)
      (let t = leb-true kind putx (and_r (leb gets kind) (leb kind putx) (not-false (leb gets kind && leb kind putx) h.1.1.0)) in
      omega arith)
      h.1.1.1.1.0
  effect-ok Order h = order-ok c.line refl h
  effect-ok (Deliver i) h = deliver-ok i (leb-false (length c.pool) i h.0)
  effect-ok (Copy i) h = copy-ok i (leb-false (length c.pool) i h.0)
  effect-ok (Rejoin k) h = rejoin-ok k (leb-false c.cards k h.0)

  pub step_ok : (e : Event) → Keeps e (step c e)
  unfolding step did
  step_ok e = refused-cases c (Keeps e) _ (effect c e) (λ _. quiet_ok) (λ h. effect-ok e h.1)
