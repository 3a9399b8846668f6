-- The cards' parts of a turn: the cards see a request one after another.
use Prim.Native.Nat.{ℕ, ◌+◌, ◌<◌}
use native.Mathlib.Omega.{arith}
use mathlib.Core.Bool.{cond}
use mathlib.Core.List.{List}
use mathlib.Core.Path.{◌≡◌, sym, ◌∙◌, ap, subst, fun_ext}
use lib.Dec.{ltb}
use borrow.Author.Tests.{lt-ltb, le-ltb, ltb-true, ltb-false}
use Rattle.rules.specs.Lists.{replace}
use Rattle.rules.specs.Numbers.{most_cards, most_blocks}
use Rattle.rules.specs.Chassis.{Block, Chassis, a_block, cell_of, with_cell, blocks_changed, block_changed}
use Rattle.rules.specs.Order.{sees}
use Rattle.rules.specs.declared.OrderNo.{OrderNo}
use Rattle.rules.specs.declared.Cell.{Cell}
use Rattle.rules.specs.declared.Request.{Request}
use Rattle.rules.specs.declared.Turn.{Turn}
use Rattle.rules.proofs.Lists.{replace-cases, replace-same, replace-own, replace-twice}
use Rattle.rules.proofs.Tests.{test}
use Rattle.words.specs.Words.{words, cell_at}
use Rattle.words.specs.Claims.{CellFits}
use Rattle.words.specs.Inner.Parts.{put_cell, seen_below}
use Rattle.words.proofs.Image.{words-image}
use Rattle.words.proofs.View.{cell-again}
use Rattle.words.proofs.Changes.{cell-words}

-- what is f below m and g from there on: for m = 0 it is g, and f's own at m makes it so for m + 1
module _ {A : Type 0} (f g : ℕ → A) where
  abbrev below : ℕ → ℕ → A
  below m k = cond (ltb k m) (f k) (g k)

  below_none : g ≡ below 0
  below_none = fun_ext (λ k. rw (le-ltb k 0 (omega arith)))

  below_more : (m : ℕ) → replace (below m) m (f m) ≡ below (m + 1)
  below_more m = fun_ext (λ k. replace-cases (λ y. y ≡ below (m + 1) k) (below m) m (f m) k
      (λ e. rw (lt-ltb k (m + 1) (omega arith)) (ap f e))
      (λ d. test (ltb k m)
      (λ h. rw (h, lt-ltb k (m + 1) (let l = ltb-true k m h in omega arith)))
      (λ h. rw (h, le-ltb k (m + 1) (let l = ltb-false k m h in omega arith)))))

-- other cells of a block
abbrev pub with_cells : Block → (ℕ → Cell) → Block
with_cells B g = a_block B.memory B.owner B.sharers g

module _ (w : List ℕ) (t : Turn) (n : OrderNo) (r : Request) (owner : ℕ) where
  -- w' are the words after the cards below m have seen request r, where home lists this owner
  abbrev pub Seen : ℕ → List ℕ → Type 0
  Seen m w' = (c : Chassis) → w ≡ words c → ((k : ℕ) → k < most_cards → CellFits (cell_of c k r.block))
      → (c.block r.block).owner ≡ owner
      → w' ≡ words (block_changed c r.block (seen_below m t (c.block r.block) r n))

  pub seen_none : Seen 0 w
  seen_none c e f o =
      let b = r.block in
      let B = c.block b in
      e ∙ ap (λ (g : ℕ → Block). words (blocks_changed c g)) (sym (replace-own c.block b))
      ∙ ap (λ (g : ℕ → Cell). words (block_changed c b (with_cells B g))) (below_none (sees t B r n) B.cell)

  pub seen_more : (w₁ w₂ : List ℕ) (m : ℕ) (x y : Cell) → m < most_cards → r.block < most_blocks → Seen m w₁
      → x ≡ cell_at w₁ m r.block → ((B : Block) → B.owner ≡ owner → B.cell m ≡ x → y ≡ sees t B r n m)
      → w₂ ≡ put_cell w₁ m r.block y → Seen (m + 1) w₂
  seen_more w₁ w₂ m x y hm hb s ex ey e₂ c e f o =
      let b = r.block in
      let B = c.block b in
      let B₁ = seen_below m t B r n in
      let c₁ = block_changed c b B₁ in
      let e₁ = s c e f o in
      let same = replace-same c.block b B₁ in
      let own : cell_of c₁ m b ≡ B.cell m = ap (λ (B : Block). B.cell m) same ∙ rw (le-ltb m m (omega arith)) in
      let ix : x ≡ B.cell m =
      ex ∙ ap (λ (l : List ℕ). cell_at l m b) (e₁ ∙ words-image c₁) ∙ cell-again c₁ m b hm hb (subst CellFits (sym own) (f m hm)) ∙ own in
      e₂ ∙ cell-words c₁ w₁ e₁ m b y hm hb
      ∙ ap (λ (B : Block). words (block_changed c₁ b (with_cell B m y))) same
      ∙ ap (λ (g : ℕ → Block). words (blocks_changed c g)) (replace-twice c.block b B₁ (with_cell B₁ m y))
      ∙ ap (λ (z : Cell). words (block_changed c b (with_cell B₁ m z))) (ey B o (sym ix))
      ∙ ap (λ (g : ℕ → Cell). words (block_changed c b (with_cells B g))) (below_more (sees t B r n) B.cell m)
