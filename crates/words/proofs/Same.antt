-- Words are those of the chassis that they say, where the words at each item's place are those of the item.
use Prim.Native.Nat.{ℕ, zero, suc, ◌+◌, ◌*◌, ◌≤◌, ◌<◌}
use native.Mathlib.Nat.{add-zero, add-suc, suc-add, mul-zero, mul-suc}
use native.Mathlib.Omega.{arith}
use mathlib.Core.Bool.{true}
use mathlib.Core.List.{List, [], ◌∷◌, ◌++◌}
use mathlib.Core.Path.{◌≡◌, refl, sym, ap, ◌∙◌}
use lib.ListN.{length, get_or, take, drop, take-append-drop, length-drop}
use lib.Seq.{take-add, drop-drop, drop-cons, take_all}
use lib.Dec.{eqb}
use borrow.Author.Tests.{eqb-true, eq-eqb}
use Rattle.rules.specs.Numbers.{most_cards, most_blocks, room, edition_no}
use Rattle.rules.specs.Chassis.{Block, unused_request, unused_message}
use Rattle.rules.proofs.Tests.{and_l, and_r, and_i}
use Rattle.words.specs.Layout.{head_words, home_words, cell_words, block_words, place_words, line_from, pool_from, home_place, cell_place, request_place, message_place, all_words, edition_at}
use Rattle.words.specs.Words.{
  rows,
  head_row,
  home_row,
  cell_row,
  block_row,
  request_row,
  message_row,
  words,
  cards_of,
  blocks_of,
  waiting_of,
  pooled_of,
  last_of,
  cell_at,
  request_at,
  message_at,
  block_of,
  view,
  edition_of,
}
use Rattle.words.specs.Inner.Tested.{row_is, home_is, cell_is, request_is, message_is}
use Rattle.words.proofs.Rows.{rows_ext}
use Rattle.words.proofs.Image.{plain, image, words-image, get-home, get-cell, get-request, get-message}
use Rattle.words.proofs.View.{view-block, view-cell, length-first}

-- The words from a place on are these

-- where the test passes, they are
row-take : (w : List ℕ) (p : ℕ) (xs : List ℕ) → p + length xs ≤ length w → row_is w p xs ≡ true → take (length xs) (drop p w) ≡ xs
unfolding row_is
row-take w p [] l h = refl
row-take w p (x ∷ xs) l h = rw (
  drop-cons w p 0 (omega arith),
  eqb-true (get_or w p 0) x (and_l (eqb (get_or w p 0) x) (row_is w (suc p) xs) h),
  row-take w (suc p) xs (omega arith) (and_r (eqb (get_or w p 0) x) (row_is w (suc p) xs) h),
)

-- where they are, it passes
pub row-test : (w : List ℕ) (p : ℕ) (xs : List ℕ) → ((r : ℕ) → r < length xs → get_or w (p + r) 0 ≡ get_or xs r 0) → row_is w p xs ≡ true
unfolding row_is
row-test w p [] at = refl
row-test w p (x ∷ xs) at =
    and_i {a = eqb (get_or w p 0) x}
    (eq-eqb (get_or w p 0) x (ap (λ q. get_or w q 0) (sym (add-zero p)) ∙ at 0 (omega arith)))
    (row-test w (suc p) xs (λ r l. ap (λ q. get_or w q 0) (suc-add p r ∙ sym (add-suc p r)) ∙ at (suc r) (omega arith)))

-- what they are, one by one
pub row_at : (w : List ℕ) (p : ℕ) (xs : List ℕ) → row_is w p xs ≡ true → (r : ℕ) → r < length xs → get_or w (p + r) 0 ≡ get_or xs r 0
unfolding row_is
row_at w p [] h r l = absurd (omega arith)
row_at w p (x ∷ xs) h zero l = ap (λ q. get_or w q 0) (add-zero p) ∙ eqb-true (get_or w p 0) x (and_l (eqb (get_or w p 0) x) (row_is w (suc p) xs) h)
row_at w p (x ∷ xs) h (suc r) l =
    ap (λ q. get_or w q 0) (add-suc p r ∙ sym (suc-add p r)) ∙ row_at w (suc p) xs (and_r (eqb (get_or w p 0) x) (row_is w (suc p) xs) h) r (omega arith)

-- Rows of words

-- the words from base on, the first m apart
split : (m base : ℕ) (w : List ℕ) → drop base w ≡ take m (drop base w) ++ drop (base + m) w
split m base w =
    sym (ap (λ (l : List ℕ). take m (drop base w) ++ l) (sym (drop-drop m base w)) ∙ take-append-drop m (drop base w))

-- any words are rows of words
rows_of : (m n base : ℕ) (w : List ℕ) → take (m * n) (drop base w) ≡ rows n (λ i. take m (drop (base + m * i) w))
unfolding rows
rows_of m zero base w = rw mul-zero
rows_of m (suc n) base w =
    let e : m * suc n ≡ m + m * n = rw mul-suc (omega arith) in
    let z : base ≡ base + m * zero = rw mul-zero (omega arith) in
    ap (λ q. take q (drop base w)) e
    ∙ take-add m (m * n) (drop base w)
    ∙ ap (λ (l : List ℕ). take m (drop base w) ++ take (m * n) l) (drop-drop m base w)
    ∙ ap (λ (l : List ℕ). take m (drop base w) ++ l)
    (rows_of m n (base + m) w ∙ rows_ext n _ _ (λ i _. ap (λ q. take m (drop q w)) (next i)))
    ∙ ap (λ q. take m (drop q w) ++ rows n (λ i. take m (drop (base + m * suc i) w))) z
  where
    next : (i : ℕ) → base + m + m * i ≡ base + m * suc i
    next i = rw mul-suc (omega arith)

-- Words that are those of the items

pub record Same (w : List ℕ) : Type 0 where
  pub edition : get_or w edition_at 0 ≡ edition_no (edition_of w)
  pub home : (b : ℕ) → b < most_blocks → home_is w b (block_of w b) ≡ true
  pub cell : (k b : ℕ) → k < most_cards → b < most_blocks → cell_is w k b (cell_at w k b) ≡ true
  pub request : (i : ℕ) → i < room → request_is w i (get_or (view w).line i unused_request) ≡ true
  pub message : (i : ℕ) → i < room → message_is w i (get_or (view w).pool i unused_message) ≡ true

module _ (w : List ℕ) (e : w ≡ words (view w)) where
  at-image : (p x : ℕ) → get_or (image (plain (view w))) p 0 ≡ x → get_or w p 0 ≡ x
  at-image p x h = ap (λ l. get_or l p 0) (e ∙ words-image (view w)) ∙ h

  head-word : get_or w edition_at 0 ≡ edition_no (edition_of w)
  unfolding words view
  head-word = ap (λ l. get_or l edition_at 0) e

  pub words_same : Same w
  words_same = record {
    edition = head-word;
    home = λ b hb. row-test w (home_place b) _ (λ r l. at-image (home_place b + r) _ (get-home (plain (view w)) b r hb l
        ∙ ap (λ (B : Block). get_or (home_row B.memory B.owner B.sharers) r 0) (view-block w b hb)));
    cell = λ k b hk hb. row-test w (cell_place k b) _ (λ r l. at-image (cell_place k b + r) _
        (get-cell (plain (view w)) k b r hk hb l ∙ ap (λ x. get_or (cell_row x) r 0) (view-cell w k b hk hb)));
    request = λ i h. row-test w (request_place i) _ (λ r l. at-image (request_place i + r) _ (get-request (plain (view w)) i r h l));
    message = λ i h. row-test w (message_place i) _ (λ r l. at-image (message_place i + r) _ (get-message (plain (view w)) i r h l));
  }

module _ (w : List ℕ) (len : length w ≡ all_words) (s : Same w) where
  row_is_lem : (p : ℕ) (xs : List ℕ) → p + length xs ≤ all_words → row_is w p xs ≡ true → take (length xs) (drop p w) ≡ xs
  row_is_lem p xs l h = row-take w p xs (omega arith) h

  cells_are : (b : ℕ) → b < most_blocks → take (cell_words * most_cards) (drop (home_place b + home_words) w)
      ≡ rows most_cards (λ k. cell_row (((view w).block b).cell k))
  cells_are b hb = rows_of cell_words most_cards (home_place b + home_words) w ∙ rows_ext most_cards _ _ (λ k hk.
      row_is_lem (cell_place k b) (cell_row (cell_at w k b)) (omega arith) (s.cell k b hk hb) ∙ ap cell_row (sym (view-cell w k b hk hb)))

  block-is : (b : ℕ) → b < most_blocks → take block_words (drop (home_place b) w) ≡ block_row ((view w).block b)
  block-is b hb =
      let B = block_of w b in
      take-add home_words (cell_words * most_cards) (drop (home_place b) w)
      ∙ rw (drop-drop home_words (home_place b) w, cells_are b hb)
      (ap (λ (l : List ℕ). l ++ rows most_cards (λ k. cell_row (((view w).block b).cell k)))
      (row_is_lem (home_place b) (home_row B.memory B.owner B.sharers) (omega arith) (s.home b hb)
      ∙ ap (λ (B : Block). home_row B.memory B.owner B.sharers) (sym (view-block w b hb))))

  request-is : (i : ℕ) → i < room → take place_words (drop (request_place i) w) ≡ request_row (get_or (view w).line i unused_request)
  request-is i h = row_is_lem (request_place i) (request_row (get_or (view w).line i unused_request)) (omega arith) (s.request i h)

  message-is : (i : ℕ) → i < room → take place_words (drop (message_place i) w) ≡ message_row (get_or (view w).pool i unused_message)
  message-is i h = row_is_lem (message_place i) (message_row (get_or (view w).pool i unused_message)) (omega arith) (s.message i h)

  -- the header says what is read off it
  head-is : take head_words w ≡ head_row (view w).edition (view w).cards (view w).blocks (length (view w).line) (length (view w).pool) (view w).last
  unfolding view
  head-is =
      rw (length-first (waiting_of w) (request_at w), length-first (pooled_of w) (message_at w))
      (row_is_lem 0 (head_row (edition_of w) (cards_of w) (blocks_of w) (waiting_of w) (pooled_of w) (last_of w)) (omega arith) (row-test w 0 _ at_head))
    where
      at_head : (r : ℕ) → r < head_words → get_or w (0 + r) 0 ≡ get_or (head_row (edition_of w) (cards_of w) (blocks_of w) (waiting_of w) (pooled_of w) (last_of w)) r 0
      at_head zero l = s.edition
      at_head (suc zero) l = refl
      at_head (suc (suc zero)) l = refl
      at_head (suc (suc (suc zero))) l = refl
      at_head (suc (suc (suc (suc zero)))) l = refl
      at_head (suc (suc (suc (suc (suc zero))))) l = refl
      at_head (suc (suc (suc (suc (suc (suc r)))))) l = absurd (omega arith)

  pub same-words : w ≡ words (view w)
  unfolding words
  same-words =
      let end : drop pool_from w ≡ take (place_words * room) (drop pool_from w)
      = sym (take_all (place_words * room) (drop pool_from w) (simp length-drop (omega arith))) in
      sym (take-append-drop head_words w)
      ∙ rw (
        head-is,
        split (block_words * most_blocks) head_words w,
        split (place_words * room) line_from w,
        end,
        rows_of block_words most_blocks head_words w,
        rows_of place_words room line_from w,
        rows_of place_words room pool_from w,
        rows_ext most_blocks _ _ block-is,
        rows_ext room _ _ request-is,
        rows_ext room _ _ message-is,
      )
