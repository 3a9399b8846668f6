-- The chassis that words say: what is read off them, and that the words of a chassis say that chassis.
use Prim.Native.Nat.{ℕ, zero, suc, ◌+◌, ◌<◌}
use native.Mathlib.Nat.{add-zero, mod-eq_of_lt}
use native.Mathlib.Omega.{arith}
use mathlib.Core.Bool.{true, cond}
use mathlib.Core.List.{List, [], ◌∷◌}
use mathlib.Core.Path.{◌≡◌, refl, sym, ap, ◌∙◌, fun_ext}
use lib.ListN.{length, get_or}
use lib.Dec.{ltb}
use borrow.Author.Tests.{lt-ltb, ltb-true, ltb-false}
use Rattle.rules.specs.Lists.{same}
use Rattle.rules.specs.Numbers.{most_cards, most_blocks, room, edition_no}
use Rattle.rules.specs.Chassis.{Block, Chassis, a_block, a_chassis, cell_of, idle, fresh_block, unused_request, unused_message}
use Rattle.rules.specs.Formed.{well_formed}
use Rattle.rules.specs.declared.Edition.{Edition}
use Rattle.rules.specs.declared.Edition.TheVariants.{Msi, Mosi}
use Rattle.rules.specs.declared.Cell.{Cell}
use Rattle.rules.proofs.Lists.{same-eq, same_self}
use Rattle.rules.proofs.Tests.{test, and_i, and_l, and_r}
use Rattle.words.specs.Layout.{home_words, cell_words, place_words, home_place, cell_place, request_place, message_place}
use Rattle.words.specs.Words.{
  home_row,
  cell_row,
  request_row,
  message_row,
  words,
  cards_of,
  blocks_of,
  waiting_of,
  pooled_of,
  last_of,
  as_edition,
  edition_of,
  as_byte,
  as_mask,
  as_value,
  cell_at,
  request_at,
  message_at,
  block_of,
  first,
  view,
  formed,
}
use Rattle.words.specs.Claims.{CellFits, BlockFits, RequestFits, MessageFits, ViewWords}
use Rattle.words.proofs.Image.{plain, image, get-home, get-cell, get-request, get-message}

-- What formed words are

pub formed-words : (w : List ℕ) → formed w ≡ true → w ≡ words (view w)
unfolding formed
formed-words w h = same-eq w (words (view w)) (and_l (same w (words (view w))) (well_formed (view w)) h)

pub formed-chassis : (w : List ℕ) → formed w ≡ true → well_formed (view w) ≡ true
unfolding formed
formed-chassis w h = and_r (same w (words (view w))) (well_formed (view w)) h

-- the words of a well formed chassis that they say
pub formed-of : (w : List ℕ) → w ≡ words (view w) → well_formed (view w) ≡ true → formed w ≡ true
unfolding formed
formed-of w e h = and_i {a = same w (words (view w))} (ap (same w) (sym e) ∙ same_self w) h

-- What is read off words

pub view-block : (w : List ℕ) (b : ℕ) → b < most_blocks → (view w).block b ≡ block_of w b
unfolding view
view-block w b hb = rw (lt-ltb b most_blocks hb)

pub view-cell : (w : List ℕ) (k b : ℕ) → k < most_cards → b < most_blocks → cell_of (view w) k b ≡ cell_at w k b
view-cell w k b hk hb = ap (λ (B : Block). B.cell k) (view-block w b hb) ∙ rw (lt-ltb k most_cards hk)

pub length-first : {A : Type 0} (n : ℕ) (f : ℕ → A) → length (first n f) ≡ n
unfolding first
length-first zero f = refl
length-first (suc n) f = ap suc (length-first n (λ j. f (suc j)))

pub first-at : {A : Type 0} (d : A) (n : ℕ) (f : ℕ → A) (i : ℕ) → i < n → get_or (first n f) i d ≡ f i
unfolding first
first-at d zero f i h = absurd (omega arith)
first-at d (suc n) f zero h = refl
first-at d (suc n) f (suc i) h = first-at d n (λ j. f (suc j)) i (omega arith)

-- the counts
pub waiting-is : (w : List ℕ) → length (view w).line ≡ waiting_of w
unfolding view
waiting-is w = length-first (waiting_of w) (request_at w)

pub pooled-is : (w : List ℕ) → length (view w).pool ≡ pooled_of w
unfolding view
pooled-is w = length-first (pooled_of w) (message_at w)

pub view-request : (w : List ℕ) (i : ℕ) → i < waiting_of w → get_or (view w).line i unused_request ≡ request_at w i
unfolding view
view-request w i h = first-at unused_request (waiting_of w) (request_at w) i h

pub view-message : (w : List ℕ) (i : ℕ) → i < pooled_of w → get_or (view w).pool i unused_message ≡ message_at w i
unfolding view
view-message w i h = first-at unused_message (pooled_of w) (message_at w) i h

-- the header of a chassis's words
edition-again : (e : Edition) → as_edition (edition_no e) ≡ e
edition-again Msi = refl
edition-again Mosi = refl

module _ (c : Chassis) (w : List ℕ) (e : w ≡ words c) where
  pub edition-of : edition_of w ≡ c.edition
  unfolding words
  edition-of = ap edition_of e ∙ edition-again c.edition

  pub cards-of : cards_of w ≡ c.cards
  unfolding words
  cards-of = ap cards_of e

  pub blocks-of : blocks_of w ≡ c.blocks
  unfolding words
  blocks-of = ap blocks_of e

  pub waiting-of : waiting_of w ≡ length c.line
  unfolding words
  waiting-of = ap waiting_of e

  pub pooled-of : pooled_of w ≡ length c.pool
  unfolding words
  pooled-of = ap pooled_of e

  pub last-of : last_of w ≡ c.last
  unfolding words
  last-of = ap last_of e

-- The words of a chassis say that chassis, where it fits them

-- a list is the first of its elements
first-list : {A : Type 0} (d : A) (l : List A) (f : ℕ → A) → ((i : ℕ) → i < length l → f i ≡ get_or l i d) → first (length l) f ≡ l
unfolding first
first-list d [] f h = refl
first-list {A} d (x ∷ l) f h =
    ap (λ (y : A). y ∷ first (length l) (λ j. f (suc j))) (h zero (omega arith))
    ∙ ap (λ (r : List A). x ∷ r) (first-list d l (λ j. f (suc j)) (λ i k. h (suc i) (omega arith)))

-- the word at the beginning of an item
first_word : (w : List ℕ) (p : ℕ) {x : ℕ} → get_or w (p + 0) 0 ≡ x → get_or w p 0 ≡ x
first_word w p h = ap (λ q. get_or w q 0) (sym (add-zero p)) ∙ h

module _ (c : Chassis) where
  abbrev w : List ℕ
  w = image (plain c)

  pub cell-again : (k b : ℕ) → k < most_cards → b < most_blocks → CellFits (cell_of c k b) → cell_at w k b ≡ cell_of c k b
  cell-again k b hk hb f =
      let at : (r : ℕ) → r < cell_words → get_or w (cell_place k b + r) 0 ≡ get_or (cell_row (cell_of c k b)) r 0 = λ r. get-cell (plain c) k b r hk hb in
      rw (
        first_word w (cell_place k b) (at 0 (omega arith)),
        at 1 (omega arith),
        at 2 (omega arith),
        mod-eq_of_lt f.state,
        mod-eq_of_lt f.value,
      )

  block-again : (b : ℕ) → b < most_blocks → BlockFits (c.block b) → block_of w b ≡ c.block b
  block-again b hb f =
      let B = c.block b in
      let at : (r : ℕ) → r < home_words → get_or w (home_place b + r) 0 ≡ get_or (home_row B.memory B.owner B.sharers) r 0 = λ r. get-home (plain c) b r hb in
      let m = ap as_value (first_word w (home_place b) (at 0 (omega arith))) ∙ mod-eq_of_lt f.memory in
      let o = ap as_byte (at 1 (omega arith)) ∙ mod-eq_of_lt f.owner in
      let s = ap as_mask (at 2 (omega arith)) ∙ mod-eq_of_lt f.sharers in
      let x : ◌≡◌ {A = ℕ → Cell} (λ k. cond (ltb k most_cards) (cell_at w k b) idle) B.cell = fun_ext (λ k. test (ltb k most_cards)
      (λ e. rw e (cell-again k b (ltb-true k most_cards e) hb (f.cells k (ltb-true k most_cards e))))
      (λ e. rw e (sym (f.beyond k (ltb-false k most_cards e))))) in
      λ i. a_block (m i) (o i) (s i) (x i)

  request-again : (i : ℕ) → i < room → RequestFits (get_or c.line i unused_request) → request_at w i ≡ get_or c.line i unused_request
  request-again i h f =
      let p = request_place i in
      let at : (r : ℕ) → r < place_words → get_or w (p + r) 0 ≡ get_or (request_row (get_or c.line i unused_request)) r 0 = λ r. get-request (plain c) i r h in
      rw (
        first_word w p (at 0 (omega arith)),
        at 1 (omega arith),
        at 2 (omega arith),
        at 3 (omega arith),
        at 4 (omega arith),
        mod-eq_of_lt f.card,
        mod-eq_of_lt f.block,
        mod-eq_of_lt f.kind,
        mod-eq_of_lt f.mask,
        mod-eq_of_lt f.retry,
      )

  message-again : (i : ℕ) → i < room → MessageFits (get_or c.pool i unused_message) → message_at w i ≡ get_or c.pool i unused_message
  message-again i h f =
      let p = message_place i in
      let at : (r : ℕ) → r < place_words → get_or w (p + r) 0 ≡ get_or (message_row (get_or c.pool i unused_message)) r 0 = λ r. get-message (plain c) i r h in
      rw (
        first_word w p (at 0 (omega arith)),
        at 1 (omega arith),
        at 2 (omega arith),
        at 3 (omega arith),
        at 4 (omega arith),
        mod-eq_of_lt f.sender,
        mod-eq_of_lt f.receiver,
        mod-eq_of_lt f.block,
        mod-eq_of_lt f.value,
      )

pub view_words : ViewWords
unfolding view words image
view_words c f =
    let w = image (plain c) in
    let B : ◌≡◌ {A = ℕ → Block} (λ b. cond (ltb b most_blocks) (block_of w b) fresh_block) c.block = fun_ext (λ b. test (ltb b most_blocks)
    (λ e. rw e (block-again c b (ltb-true b most_blocks e) (f.blocks b (ltb-true b most_blocks e))))
    (λ e. rw e (sym (f.beyond b (ltb-false b most_blocks e))))) in
    let l = first-list unused_request c.line (request_at w) (λ i h. request-again c i (let r = f.line_room in omega arith) (f.requests i h)) in
    let p = first-list unused_message c.pool (message_at w) (λ i h. message-again c i (let r = f.pool_room in omega arith) (f.messages i h)) in
    λ i. a_chassis (edition-again c.edition i) c.cards c.blocks (B i) (l i) (p i) c.last
