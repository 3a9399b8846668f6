-- The words that Start makes: zeros, then home's part block by block, then the counts.
use Prim.Native.Nat.{ℕ, zero, suc, ◌+◌, ◌*◌, ◌<◌}
use native.Mathlib.Nat.{zero-add, suc-add, mul-zero, mul-suc}
use native.Mathlib.Omega.{arith}
use mathlib.Core.Bool.{cond}
use mathlib.Core.List.{List, ◌∷◌, ◌++◌}
use mathlib.Core.Path.{◌≡◌, refl, sym, ap, ap₂, ◌∙◌, fun_ext}
use lib.ListN.{set, replicate}
use lib.Dec.{ltb}
use borrow.Author.Tests.{lt-ltb, le-ltb, ltb-true, ltb-false}
use Rattle.rules.specs.Numbers.{home, most_cards, most_blocks, room, no_number, edition_no}
use Rattle.rules.specs.Chassis.{
  Block,
  Chassis,
  a_block,
  idle,
  fresh,
  no_chassis,
  fresh_block,
  unused_request,
  unused_message,
  with_home,
  blocks_changed,
  block_changed,
}
use Rattle.rules.specs.declared.Edition.{Edition}
use Rattle.rules.specs.declared.Edition.TheVariants.{Msi}
use Rattle.rules.proofs.Tests.{test}
use Rattle.rules.proofs.Lists.{replace-cases}
use Rattle.words.specs.Layout.{edition_at, cards_at, blocks_at, head_words, home_words, cell_words, block_words, place_words, all_words}
use Rattle.words.specs.Words.{rows, head_row, home_row, cell_row, block_row, request_row, message_row, words}
use Rattle.words.specs.Inner.Parts.{put_home}
use Rattle.words.proofs.Rows.{rows_ext}
use Rattle.words.proofs.Changes.{home-words}

-- Zeros

abbrev zeros : ℕ → List ℕ
zeros n = replicate n 0

zeros-append : (m n : ℕ) → zeros m ++ zeros n ≡ zeros (m + n)
zeros-append zero n = ap zeros (sym (zero-add n))
zeros-append (suc m) n = ap (λ (l : List ℕ). 0 ∷ l) (zeros-append m n) ∙ ap zeros (sym (suc-add m n))

-- rows of zeros are zeros
zeros-rows : (m n : ℕ) (f : ℕ → List ℕ) → ((j : ℕ) → f j ≡ zeros m) → rows n f ≡ zeros (m * n)
unfolding rows
zeros-rows m zero f h = ap zeros (sym (mul-zero m))
zeros-rows m (suc n) f h =
    let next : m + m * n ≡ m * suc n = rw (mul-suc m n) (omega arith) in
    ap₂ (λ (l r : List ℕ). l ++ r) (h zero) (zeros-rows m n (λ j. f (suc j)) (λ j. h (suc j)))
    ∙ zeros-append m (m * n) ∙ ap zeros next

-- a block whose words are all 0
abbrev zero_block : Block
zero_block = a_block 0 0 0 (λ _. idle)

zero-block : block_row zero_block ≡ zeros block_words
zero-block = ap (λ (l : List ℕ). home_row 0 0 0 ++ l) (zeros-rows cell_words most_cards (λ k. cell_row idle) (λ _. refl))
    ∙ zeros-append home_words (cell_words * most_cards)

-- Home's part, block by block

-- an empty chassis whose blocks below n are as Start makes them, and the others zeros
unfoldable pub begun : ℕ → Chassis
begun n = blocks_changed no_chassis (λ b. cond (ltb b n) fresh_block zero_block)

-- at first no block is
pub none-begun : zeros all_words ≡ words (begun 0)
unfolding words begun
none-begun =
    sym (ap₂ (λ (l r : List ℕ). zeros head_words ++ (l ++ r))
    (zeros-rows block_words most_blocks (λ b. block_row ((begun 0).block b)) (λ b. rw (le-ltb b 0 (omega arith)) zero-block))
    (ap₂ (λ (l r : List ℕ). l ++ r)
    (zeros-rows place_words room (λ i. request_row unused_request) (λ _. refl))
    (zeros-rows place_words room (λ i. message_row unused_message) (λ _. refl))
    ∙ zeros-append (place_words * room) (place_words * room))
    ∙ ap (λ (l : List ℕ). zeros head_words ++ l) (zeros-append (block_words * most_blocks) (place_words * room + place_words * room))
    ∙ zeros-append head_words (block_words * most_blocks + (place_words * room + place_words * room)))

-- home's part of the next block
next-begun : (n : ℕ) → block_changed (begun n) n (with_home ((begun n).block n) 0 home 0) ≡ begun (n + 1)
unfolding begun
next-begun n =
    let after : ℕ → Block = (begun (n + 1)).block in
    let B : (block_changed (begun n) n (with_home ((begun n).block n) 0 home 0)).block ≡ after = fun_ext (λ b.
    replace-cases (λ (X : Block). X ≡ after b) (begun n).block n _ b
    (λ e. rw (le-ltb n n (omega arith), lt-ltb b (n + 1) (omega arith)))
    (λ ne. test (ltb b n)
    (λ p. let h = ltb-true b n p in rw (p, lt-ltb b (n + 1) (omega arith)))
    (λ p. let h = ltb-false b n p in rw (p, le-ltb b (n + 1) (omega arith))))) in
    ap (blocks_changed no_chassis) B

pub begin-next : (w w' : List ℕ) (n : ℕ) → n < most_blocks → w ≡ words (begun n) → w' ≡ put_home w n 0 home 0 → w' ≡ words (begun (n + 1))
begin-next w w' n h e e' = e' ∙ home-words (begun n) w e n 0 home 0 h ∙ ap words (next-begun n)

-- in the end all are
pub all-begun : (w : List ℕ) (n : ℕ) → n ≡ most_blocks → w ≡ words (begun n) → w ≡ words no_chassis
unfolding words begun
all-begun w n h e = e ∙ ap (λ k. words (begun k)) h
    ∙ ap (λ (l : List ℕ). head_row Msi 0 0 0 0 no_number ++ (l ++ (rows room (λ i. request_row unused_request) ++ rows room (λ i. message_row unused_message))))
    (rows_ext most_blocks (λ b. block_row ((begun most_blocks).block b)) (λ b. block_row fresh_block) (λ b l. rw (lt-ltb b most_blocks l)))

-- the edition and the counts
pub counted : (e : Edition) (cards blocks : ℕ) (w w₁ w₂ w₃ : List ℕ) → w ≡ words no_chassis → w₁ ≡ set w edition_at (edition_no e)
    → w₂ ≡ set w₁ cards_at cards → w₃ ≡ set w₂ blocks_at blocks → w₃ ≡ words (fresh e cards blocks)
unfolding words
counted e cards blocks w w₁ w₂ w₃ is e₁ e₂ e₃ = e₃ ∙ ap (λ (l : List ℕ). set l blocks_at blocks) (e₂
    ∙ ap (λ (l : List ℕ). set l cards_at cards) (e₁ ∙ ap (λ (l : List ℕ). set l edition_at (edition_no e)) is))
