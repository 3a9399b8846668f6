-- The test of 15 item by item is the test that words are formed.
use Prim.Native.Nat.{ℕ, zero, suc, ◌+◌, ◌≤◌, ◌<◌}
use native.Mathlib.Nat.{add-zero}
use native.Mathlib.Omega.{arith}
use mathlib.Core.Bool.{Bool, true, false, cond, ◌&&◌, and-true, and_assoc}
use mathlib.Core.List.{List, [], ◌∷◌}
use mathlib.Core.Path.{◌≡◌, refl, sym, ap, ◌∙◌, subst}
use lib.ListN.{length, get_or, get_or-eq_default}
use lib.Dec.{ltb, leb, eqb}
use borrow.Author.Tests.{ltb-true, ltb-false, lt-ltb, le-ltb, leb-true, le-leb, eqb-true, eqb-false}
use Rattle.rules.specs.Tests.{each, all}
use Rattle.rules.specs.Lists.{All}
use Rattle.rules.specs.Masks.{inside}
use Rattle.rules.specs.Numbers.{most_cards, most_blocks, home, room, edition_no}
use Rattle.rules.specs.Chassis.{idle, fresh_block, unused_request, unused_message}
use Rattle.rules.specs.Formed.{sizes, home_or_card, ok_cell, unused_cell, unused_block, ok_request, ok_message}
use Rattle.rules.proofs.Tests.{test, and_l, and_r, and_i, each→, →each, all-elim, all-intro}
use Rattle.rules.proofs.Lists.{All-at}
use Rattle.rules.proofs.Formed.{
  cell→,
  →cell,
  unused-idle,
  idle-unused,
  Place,
  BlockWf,
  unused→,
  →unused,
  sizes→,
  Wf,
  wf→,
  →wf,
}
use Rattle.words.specs.Layout.{home_place, cell_place, all_words, edition_at}
use Rattle.words.specs.Words.{
  cards_of,
  blocks_of,
  waiting_of,
  pooled_of,
  last_of,
  cell_at,
  owner_at,
  sharers_at,
  request_at,
  message_at,
  block_of,
  first,
  view,
  formed,
  as_edition,
  edition_of,
}
use Rattle.words.specs.Inner.Tested.{
  row_is,
  home_is,
  cell_is,
  request_is,
  message_is,
  head_test,
  cell_test,
  home_test,
  block_test,
  request_test,
  message_test,
  tests,
  tested,
}
use Rattle.rules.specs.declared.Edition.{Edition}
use Rattle.rules.specs.declared.Edition.TheVariants.{Msi, Mosi}
use Rattle.words.proofs.View.{formed-words, formed-chassis, formed-of, length-first, first-at}
use Rattle.words.proofs.Same.{Same, row_at, same-words, words_same}

-- Places of the line or of the pool: n items f i are used, and the rest are d

module _ {A : Type 0} (d : A) (n : ℕ) (f : ℕ → A) (is : ℕ → A → Bool) (ok : A → Bool) where
  -- the test of a place
  abbrev slot : ℕ → Bool
  slot i = cond (ltb i n) (is i (f i) && ok (f i)) (is i d)

  beyond : (i : ℕ) → n ≤ i → get_or (first n f) i d ≡ d
  beyond i h = get_or-eq_default (first n f) d {n = i} (omega (arith, length-first n f))

  slot_is : (i : ℕ) → slot i ≡ true → is i (get_or (first n f) i d) ≡ true
  slot_is i h = test (ltb i n)
      (λ e. subst (λ x. is i x ≡ true) (sym (first-at d n f i (ltb-true i n e))) (and_l (is i (f i)) (ok (f i)) (rw e at h)))
      (λ e. subst (λ x. is i x ≡ true) (sym (beyond i (ltb-false i n e))) (rw e at h))

  slot_ok : (i : ℕ) → slot i ≡ true → i < n → ok (f i) ≡ true
  slot_ok i h l = and_r (is i (f i)) (ok (f i)) (rw (lt-ltb i n l) at h)

  slot-i : (i : ℕ) → is i (get_or (first n f) i d) ≡ true → All (λ x. ok x ≡ true) (first n f) → slot i ≡ true
  slot-i i h o = test (ltb i n)
      (λ e. let g = first-at d n f i (ltb-true i n e) in
      let l : i < length (first n f) = omega (arith, ltb-true i n e, length-first n f) in
      rw e (and_i {a = is i (f i)} (subst (λ x. is i x ≡ true) g h)
      (subst (λ x. ok x ≡ true) g (All-at (λ x. ok x ≡ true) (first n f) i d l o))))
      (λ e. rw e (subst (λ x. is i x ≡ true) (beyond i (ltb-false i n e)) h))

-- what holds of each of n items holds of their list
first-all : {A : Type 0} (P : A → Type 0) (n : ℕ) (f : ℕ → A) → ((i : ℕ) → i < n → P (f i)) → All P (first n f)
unfolding first
first-all P zero f h = tt
first-all P (suc n) f h = (h zero (omega arith), first-all P n (λ j. f (suc j)) (λ i l. h (suc i) (omega arith)))

-- The header

-- what is no greater than the last edition's number is the number of what it says
edition-word : (n : ℕ) → n ≤ edition_no Mosi → n ≡ edition_no (as_edition n)
edition-word n l = test (eqb n (edition_no Msi))
    (λ e. rw e (eqb-true n (edition_no Msi) e))
    (λ e. rw e (let ne = eqb-false n (edition_no Msi) e in omega arith))

edition-low : (e : Edition) → edition_no e ≤ edition_no Mosi
edition-low Msi = omega arith
edition-low Mosi = omega arith

record HeadWf (w : List ℕ) : Type 0 where
  pub edition : get_or w edition_at 0 ≤ edition_no Mosi
  pub size : sizes (cards_of w) (blocks_of w) ≡ true
  pub waiting : waiting_of w ≤ room
  pub pooled : pooled_of w ≤ room

head→ : (w : List ℕ) → head_test w ≡ true → HeadWf w
unfolding head_test
head→ w h =
    let e = leb (get_or w edition_at 0) (edition_no Mosi) in
    let s = sizes (cards_of w) (blocks_of w) in
    let l = leb (waiting_of w) room in
    let p = leb (pooled_of w) room in
    let esl = and_l (e && s && l) p h in
    let es = and_l (e && s) l esl in
    record {
      edition = leb-true (get_or w edition_at 0) (edition_no Mosi) (and_l e s es);
      size = and_r e s es;
      waiting = leb-true (waiting_of w) room (and_r (e && s) l esl);
      pooled = leb-true (pooled_of w) room (and_r (e && s && l) p h);
    }

→head : (w : List ℕ) → HeadWf w → head_test w ≡ true
unfolding head_test
→head w h =
    let e = leb (get_or w edition_at 0) (edition_no Mosi) in
    let s = sizes (cards_of w) (blocks_of w) in
    let l = leb (waiting_of w) room in
    and_i {a = e && s && l} (and_i {a = e && s} (and_i {a = e} (le-leb (get_or w edition_at 0) (edition_no Mosi) h.edition) h.size)
    (le-leb (waiting_of w) room h.waiting)) (le-leb (pooled_of w) room h.pooled)

-- Blocks

-- the three words of a row, where it is tested
three→ : (w : List ℕ) (p a b c : ℕ) → row_is w p (a ∷ b ∷ c ∷ []) ≡ true
    → (get_or w p 0 ≡ a) × (get_or w (p + 1) 0 ≡ b) × (get_or w (p + 2) 0 ≡ c)
three→ w p a b c h =
    let at = row_at w p (a ∷ b ∷ c ∷ []) h in
    (ap (λ q. get_or w q 0) (sym (add-zero p)) ∙ at 0 (omega arith), at 1 (omega arith), at 2 (omega arith))

with_all : (t : Bool) (n : ℕ) (f : ℕ → Bool) → (t && all n f) ≡ true → (t ≡ true) × ((i : ℕ) → i < n → f i ≡ true)
with_all t n f h = (and_l t (all n f) h, all-elim n f (and_r t (all n f) h))

module _ (w : List ℕ) where
  -- words of an idle cell are read as one
  blank-cell : (k b : ℕ) → cell_is w k b idle ≡ true → cell_at w k b ≡ idle
  blank-cell k b h = let t = three→ w (cell_place k b) 0 0 0 h in rw (t.0, t.1, t.2)

  -- a cell, where so many cards have one: what its test says, and that it passes
  cell-is : (cards k b : ℕ) → cell_test w cards b k ≡ true → cell_is w k b (cell_at w k b) ≡ true
  unfolding cell_test
  cell-is cards k b h = test (ltb k cards)
      (λ e. and_l (cell_is w k b (cell_at w k b)) (ok_cell (edition_of w) (last_of w) (cell_at w k b)) (rw e at h))
      (λ e. let h' = rw e at h in subst (λ x. cell_is w k b x ≡ true) (sym (blank-cell k b h')) h')

  cell-wf : (cards k b : ℕ) → cell_test w cards b k ≡ true → Place (edition_of w) cards (last_of w) k (cell_at w k b)
  unfolding cell_test
  cell-wf cards k b h = record {
    used = λ l. cell→ (edition_of w) (last_of w) (cell_at w k b)
        (and_r (cell_is w k b (cell_at w k b)) (ok_cell (edition_of w) (last_of w) (cell_at w k b)) (rw (lt-ltb k cards l) at h));
    unused = λ l. subst (λ x. unused_cell x ≡ true) (sym (blank-cell k b (rw (le-ltb k cards l) at h))) idle-unused;
  }

  cell-test : (cards k b : ℕ) → cell_is w k b (cell_at w k b) ≡ true → Place (edition_of w) cards (last_of w) k (cell_at w k b) → cell_test w cards b k ≡ true
  unfolding cell_test
  cell-test cards k b h p = test (ltb k cards)
      (λ e. rw e (and_i {a = cell_is w k b (cell_at w k b)} h (→cell (edition_of w) (last_of w) (cell_at w k b) (p.used (ltb-true k cards e)))))
      (λ e. rw e (subst (λ x. cell_is w k b x ≡ true) (unused-idle (cell_at w k b) (p.unused (ltb-false k cards e))) h))

  cell-of : (k b : ℕ) → k < most_cards → (block_of w b).cell k ≡ cell_at w k b
  cell-of k b hk = rw (lt-ltb k most_cards hk)

  -- a block: what its test says
  module _ (b : ℕ) (h : block_test w b ≡ true) where
    abbrev cells : ℕ → ℕ → Bool
    cells cards = cell_test w cards b

    used-parts : b < blocks_of w → (home_test w b ≡ true) × ((k : ℕ) → k < most_cards → cells (cards_of w) k ≡ true)
    unfolding block_test
    used-parts l = with_all (home_test w b) most_cards (cells (cards_of w)) (rw (lt-ltb b (blocks_of w) l) at h)

    unused-parts : blocks_of w ≤ b → (home_is w b fresh_block ≡ true) × ((k : ℕ) → k < most_cards → cells 0 k ≡ true)
    unfolding block_test
    unused-parts l = with_all (home_is w b fresh_block) most_cards (cells 0) (rw (le-ltb b (blocks_of w) l) at h)

    block-home : home_is w b (block_of w b) ≡ true
    unfolding home_test
    block-home = test (ltb b (blocks_of w))
        (λ e. and_l (home_is w b (block_of w b)) _ (used-parts (ltb-true b (blocks_of w) e)).0)
        (λ e. let h = (unused-parts (ltb-false b (blocks_of w) e)).0 in let t = three→ w (home_place b) 0 home 0 h in rw (t.0, t.1, t.2) h)

    block-cell : (k : ℕ) → k < most_cards → cell_is w k b (cell_at w k b) ≡ true
    block-cell k hk = test (ltb b (blocks_of w))
        (λ e. cell-is (cards_of w) k b ((used-parts (ltb-true b (blocks_of w) e)).1 k hk))
        (λ e. cell-is 0 k b ((unused-parts (ltb-false b (blocks_of w) e)).1 k hk))

    block-wf : b < blocks_of w → BlockWf (edition_of w) (cards_of w) (last_of w) (block_of w b)
    unfolding home_test
    block-wf l =
        let o = home_or_card (cards_of w) (owner_at w b) in
        let i = inside (cards_of w) (sharers_at w b) in
        let t = and_r (home_is w b (block_of w b)) (o && i) (used-parts l).0 in
        record {
          owner = and_l o i t;
          sharers = and_r o i t;
          places = λ k hk. subst (Place (edition_of w) (cards_of w) (last_of w) k) (sym (cell-of k b hk)) (cell-wf (cards_of w) k b ((used-parts l).1 k hk));
        }

    block-unused : blocks_of w ≤ b → unused_block (block_of w b) ≡ true
    block-unused l =
        let t = three→ w (home_place b) 0 home 0 (unused-parts l).0 in
        →unused (block_of w b) (record {
          memory = rw t.0;
          owner = rw t.1;
          sharers = rw t.2;
          cells = λ k hk. subst (λ x. unused_cell x ≡ true) (sym (cell-of k b hk)) ((cell-wf 0 k b ((unused-parts l).1 k hk)).unused (omega arith));
        })

  -- and that it passes
  block-test : Same w → (b : ℕ) → b < most_blocks → (b < blocks_of w → BlockWf (edition_of w) (cards_of w) (last_of w) (block_of w b))
      → (blocks_of w ≤ b → unused_block (block_of w b) ≡ true) → block_test w b ≡ true
  unfolding block_test home_test
  block-test s b hb f g = test (ltb b (blocks_of w))
      (λ e. let t = f (ltb-true b (blocks_of w) e) in
      rw e (and_i {a = home_test w b}
      (and_i {a = home_is w b (block_of w b)} (s.home b hb) (and_i {a = home_or_card (cards_of w) (owner_at w b)} t.owner t.sharers))
      (all-intro most_cards (cell_test w (cards_of w) b) (λ k hk.
      cell-test (cards_of w) k b (s.cell k b hk hb) (subst (Place (edition_of w) (cards_of w) (last_of w) k) (cell-of k b hk) (t.places k hk))))))
      (λ e. let t = unused→ (block_of w b) (g (ltb-false b (blocks_of w) e)) in
      rw e (and_i {a = home_is w b fresh_block}
      (rw (t.memory, t.owner, t.sharers) at (s.home b hb))
      (all-intro most_cards (cell_test w 0 b) (λ k hk. cell-test 0 k b (s.cell k b hk hb) (record {
        used = λ l. absurd (omega arith);
        unused = λ _. subst (λ x. unused_cell x ≡ true) (cell-of k b hk) (t.cells k hk);
      })))))

  -- The words whole

  abbrev requests : ℕ → Bool
  requests = slot unused_request (waiting_of w) (request_at w) (request_is w) (ok_request (cards_of w) (blocks_of w))

  abbrev messages : ℕ → Bool
  messages = slot unused_message (pooled_of w) (message_at w) (message_is w) (ok_message (cards_of w) (blocks_of w) (last_of w))

  -- what the tests say
  module _ (h : tested w ≡ true) where
    passes : All (λ t. t ≡ true) (tests w)
    unfolding tested
    passes = each→ (tests w) h

    block-passes : (b : ℕ) → b < most_blocks → block_test w b ≡ true
    block-passes = all-elim most_blocks (block_test w) passes.1.0

    request-passes : (i : ℕ) → i < room → requests i ≡ true
    unfolding request_test
    request-passes = all-elim room (request_test w) passes.1.1.0

    message-passes : (i : ℕ) → i < room → messages i ≡ true
    unfolding message_test
    message-passes = all-elim room (message_test w) passes.1.1.1.0

    head-wf : HeadWf w
    head-wf = head→ w passes.0

    tested-same : Same w
    unfolding view
    tested-same = record {
      edition = edition-word (get_or w edition_at 0) head-wf.edition;
      home = λ b hb. block-home b (block-passes b hb);
      cell = λ k b hk hb. block-cell b (block-passes b hb) k hk;
      request = λ i l. slot_is unused_request (waiting_of w) (request_at w) (request_is w) (ok_request (cards_of w) (blocks_of w)) i (request-passes i l);
      message = λ i l.
          slot_is unused_message (pooled_of w) (message_at w) (message_is w) (ok_message (cards_of w) (blocks_of w) (last_of w)) i (message-passes i l);
    }

    tested-wf : Wf (view w)
    unfolding view
    tested-wf = record {
      size = head-wf.size;
      line_room = omega (arith, head-wf.waiting, length-first (waiting_of w) (request_at w));
      pool_room = omega (arith, head-wf.pooled, length-first (pooled_of w) (message_at w));
      requests = first-all _ (waiting_of w) (request_at w) (λ i l.
          slot_ok unused_request (waiting_of w) (request_at w) (request_is w) (ok_request (cards_of w) (blocks_of w)) i
          (request-passes i (omega (arith, head-wf.waiting))) l);
      messages = first-all _ (pooled_of w) (message_at w) (λ i l.
          slot_ok unused_message (pooled_of w) (message_at w) (message_is w) (ok_message (cards_of w) (blocks_of w) (last_of w)) i
          (message-passes i (omega (arith, head-wf.pooled))) l);
      used = λ b hb l. rw (lt-ltb b most_blocks hb) (block-wf b (block-passes b hb) l);
      unused = λ b hb l. rw (lt-ltb b most_blocks hb) (block-unused b (block-passes b hb) l);
    }

  -- and that they pass
  wf-tested : Same w → Wf (view w) → tested w ≡ true
  unfolding tested request_test message_test view
  wf-tested s t = →each (tests w) (
    →head w (record {
      edition = subst (λ n. n ≤ edition_no Mosi) (sym s.edition) (edition-low (edition_of w));
      size = t.size;
      waiting = omega (arith, t.line_room, length-first (waiting_of w) (request_at w));
      pooled = omega (arith, t.pool_room, length-first (pooled_of w) (message_at w));
    }),
    (
      all-intro most_blocks (block_test w) (λ b hb.
          block-test s b hb (λ l. rw (lt-ltb b most_blocks hb) at (t.used b hb l)) (λ l. rw (lt-ltb b most_blocks hb) at (t.unused b hb l))),
      (
        all-intro room (request_test w) (λ i l.
            slot-i unused_request (waiting_of w) (request_at w) (request_is w) (ok_request (cards_of w) (blocks_of w)) i (s.request i l) t.requests),
        (
          all-intro room (message_test w) (λ i l.
              slot-i unused_message (pooled_of w) (message_at w) (message_is w) (ok_message (cards_of w) (blocks_of w) (last_of w)) i
              (s.message i l) t.messages),
          tt,
        ),
      ),
    ),
  )

-- two tests of which each passes where the other does
both : (a b : Bool) → (a ≡ true → b ≡ true) → (b ≡ true → a ≡ true) → a ≡ b
both true b f g = sym (f refl)
both false true f g = g refl
both false false f g = refl

pub tested-formed : (w : List ℕ) → length w ≡ all_words → tested w ≡ formed w
tested-formed w len = both (tested w) (formed w)
    (λ h. formed-of w (same-words w len (tested-same w h)) (→wf (view w) (tested-wf w h)))
    (λ h. wf-tested w (words_same w (formed-words w h)) (wf→ (view w) (formed-chassis w h)))

-- What the code needs: the header is tested first, and then the rest

pub head-cards : (w : List ℕ) → head_test w ≡ true → cards_of w ≤ most_cards
head-cards w h = (sizes→ (cards_of w) (blocks_of w) (head→ w h).size).few-cards

pub is-formed : (w : List ℕ) (b l p : Bool) → length w ≡ all_words → head_test w ≡ true → b ≡ all most_blocks (block_test w)
    → l ≡ all room (request_test w) → p ≡ all room (message_test w) → (b && l && p) ≡ formed w
unfolding tested each
is-formed w b l p len h hb hl hp = rw (hb, hl, hp, ← tested-formed w len, h) (simp (and_assoc, and-true))

pub not-formed : (w : List ℕ) → length w ≡ all_words → head_test w ≡ false → false ≡ formed w
unfolding tested each
not-formed w len h = rw h at (tested-formed w len)
