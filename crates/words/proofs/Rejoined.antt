-- Rejoin: the card's requests leave the line, it leaves the blocks that are there, and so the rules' rejoin is done.
use Rattle.std.specs.Prelude.{Err, Ok}
use Prim.Native.Nat.{ℕ, zero, suc, ◌+◌, ◌^◌, ◌≤◌, ◌<◌}
use native.Mathlib.Nat.{add-zero, mod-eq_of_lt}
use native.Mathlib.Numerals.{add-one}
use native.Mathlib.Omega.{arith}
use mathlib.Core.Bool.{Bool, true, false, cond}
use mathlib.Core.List.{List, [], ◌∷◌}
use mathlib.Core.Path.{◌≡◌, refl, sym, ap, ◌∙◌, fun_ext}
use mathlib.Core.Logic.{inl}
use lib.ListN.{length, get_or}
use lib.Dec.{eqb, ltb}
use borrow.Author.Tests.{eq-eqb, ne_eqb, lt-ltb, le-ltb, ltb-true, ltb-false, lt-leb, le-leb}
use Rattle.rules.specs.Lists.{removed, keep, All}
use Rattle.rules.specs.Masks.{only, without}
use Rattle.rules.specs.Numbers.{most_cards, most_blocks, home, room}
use Rattle.rules.specs.Chassis.{Block, Chassis, a_block, idle, fresh_block, unused_request, with_home, like, blocks_changed, block_changed, line_changed}
use Rattle.rules.specs.Events.{no_card, reasons, rejoin_block, rejoin, effect}
use Rattle.rules.specs.declared.Cell.{Cell}
use Rattle.rules.specs.declared.Request.{Request}
use Rattle.rules.specs.declared.Refusal.TheVariants.{NoSuchCard}
use Rattle.rules.specs.declared.Event.TheVariants.{Rejoin}
use Rattle.rules.proofs.Tests.{test}
use Rattle.rules.proofs.Lists.{replace-cases, replace-same, All-map, All-at, keep-short, replace-twice}
use Rattle.rules.proofs.Formed.{unused-idle, unused→, request→}
use Rattle.rules.specs.declared.Home.{Home}
use Rattle.words.specs.Layout.{home_words, home_place, request_place}
use Rattle.words.specs.Words.{
  words,
  view,
  home_row,
  as_byte,
  as_mask,
  as_value,
  cards_of,
  blocks_of,
  waiting_of,
  memory_at,
  owner_at,
  sharers_at,
  request_at,
  formed,
}
use Rattle.words.specs.Claims.{BlockFits}
use Rattle.words.specs.Inner.Parts.{Becomes, Does, put_cell, put_home}
use Rattle.words.specs.Inner.Leaving.{home_left, BlocksFit, block_left, blocks_left, stays, line_left, BecomesIf}
use Rattle.words.proofs.Image.{plain, words-image, get-home, get-request}
use Rattle.words.proofs.View.{formed-words, view-block, waiting-is, waiting-of, blocks-of}
use Rattle.words.proofs.Changes.{cell-words, home-words}
use Rattle.words.proofs.Does.{wf, sizes, line_room, refused, done}
use Rattle.words.proofs.Keeps.{rejoin-fresh, formed_says}

-- Home's part of a block

-- what the code makes of home's part, where x is the owner that it puts, a the card's mask and m the sharers without it
pub home-left : (h : Home) (k x a m : ℕ) → x ≡ cond (eqb h.owner k) home h.owner → a ≡ only k → m ≡ without h.sharers a
    → record { memory = h.memory; owner = x; sharers = m } ≡ home_left h k
home-left h k x a m e ea em =
    let s = em ∙ ap (without h.sharers) ea in
    λ i. record { memory = h.memory; owner = e i; sharers = s i }

-- A block

module _ (c : Chassis) (w : List ℕ) (e : w ≡ words c) (b : ℕ) (b< : b < most_blocks) (f : BlockFits (c.block b)) where
  -- the block
  abbrev B : Block
  B = c.block b

  -- a word of home's part
  home-word : (r : ℕ) → r < home_words → get_or w (home_place b + r) 0 ≡ get_or (home_row B.memory B.owner B.sharers) r 0
  home-word r h = ap (λ (l : List ℕ). get_or l (home_place b + r) 0) (e ∙ words-image c) ∙ get-home (plain c) b r b< h

  -- home's part is read as it is
  home-is : (h : Home) → h.memory ≡ memory_at w b → h.owner ≡ owner_at w b → h.sharers ≡ sharers_at w b
      → h ≡ record { memory = B.memory; owner = B.owner; sharers = B.sharers }
  home-is h m o s =
      let m' = m ∙ ap (λ p. as_value (get_or w p 0)) (sym (add-zero (home_place b))) ∙ ap as_value (home-word 0 (omega arith)) ∙ mod-eq_of_lt f.memory in
      let o' = o ∙ ap as_byte (home-word 1 (omega arith)) ∙ mod-eq_of_lt f.owner in
      let s' = s ∙ ap as_mask (home-word 2 (omega arith)) ∙ mod-eq_of_lt f.sharers in
      λ i. record { memory = m' i; owner = o' i; sharers = s' i }

  -- home's part anew, then the cell
  pub block-left : (k : ℕ) → k < most_cards → (h h' : Home) → h.memory ≡ memory_at w b → h.owner ≡ owner_at w b → h.sharers ≡ sharers_at w b
      → h' ≡ home_left h k → (w₁ w₂ : List ℕ) → w₁ ≡ put_home w b h'.memory h'.owner h'.sharers → w₂ ≡ put_cell w₁ k b idle
      → w₂ ≡ words (block_left c k b)
  unfolding rejoin_block
  block-left k k< h h' m o s e' w₁ w₂ e₁ e₂ =
      let g : Home = home_left (record { memory = B.memory; owner = B.owner; sharers = B.sharers }) k in
      let is : h' ≡ g = e' ∙ ap (λ (x : Home). home_left x k) (home-is h m o s) in
      let c₁ = block_changed c b (with_home B g.memory g.owner g.sharers) in
      let one : w₁ ≡ words c₁ = e₁ ∙ ap (λ (x : Home). put_home w b x.memory x.owner x.sharers) is
      ∙ home-words c w e b g.memory g.owner g.sharers b< in
      e₂ ∙ cell-words c₁ w₁ one k b idle k< b< ∙ rw (replace-same, replace-twice)

-- The blocks that are there

module _ (k : ℕ) (c : Chassis) where
  -- at first the card has left none
  pub none_left : c ≡ blocks_left c k 0
  unfolding blocks_left
  none_left =
      let B : c.block ≡ (blocks_left c k 0).block = fun_ext (λ b. rw (le-ltb b 0 (omega arith))) in
      ap (blocks_changed c) B

  -- it has left those below n, and now leaves n
  next-left : (n : ℕ) → block_left (blocks_left c k n) k n ≡ blocks_left c k (n + 1)
  unfolding blocks_left
  next-left n =
      let after : ℕ → Block = (blocks_left c k (n + 1)).block in
      let B : (block_left (blocks_left c k n) k n).block ≡ after = fun_ext (λ b.
      replace-cases (λ (X : Block). X ≡ after b) (blocks_left c k n).block n (rejoin_block k ((blocks_left c k n).block n)) b
      (λ e. rw (le-ltb n n (omega arith), lt-ltb b (n + 1) (omega arith)) (ap (λ j. rejoin_block k (c.block j)) e))
      (λ ne. test (ltb b n)
      (λ p. let h = ltb-true b n p in rw (p, lt-ltb b (n + 1) (omega arith)))
      (λ p. let h = ltb-false b n p in rw (p, le-ltb b (n + 1) (omega arith))))) in
      ap (blocks_changed c) B

  -- so on the words
  pub leave-next : (w w' : List ℕ) (n : ℕ) → n < most_blocks → BlocksFit c → w ≡ words (blocks_left c k n)
      → BecomesIf (λ d. BlockFits (d.block n)) w w' (λ d. block_left d k n) → w' ≡ words (blocks_left c k (n + 1))
  unfolding blocks_left
  leave-next w w' n n< f e step =
      step (blocks_left c k n) (rw (le-ltb n n (omega arith)) (f n n<)) e ∙ ap words (next-left n)

-- The line

-- the first i of a list, and those of the rest that pass the test
unfoldable pub leaving : {A : Type 0} → (A → Bool) → ℕ → List A → List A
leaving f zero l = keep f l
leaving f (suc i) [] = []
leaving f (suc i) (x ∷ l) = x ∷ leaving f i l

module _ {A : Type 0} (f : A → Bool) (d : A) where
  -- one that passes stays; one that fails goes; past the end nothing is left to do
  leaving-pass : (i : ℕ) (l : List A) → i < length l → f (get_or l i d) ≡ true → leaving f (suc i) l ≡ leaving f i l
  unfolding leaving keep
  leaving-pass i [] h t = absurd (omega arith)
  leaving-pass zero (x ∷ l) h t = rw t
  leaving-pass (suc i) (x ∷ l) h t = ap (λ r. x ∷ r) (leaving-pass i l (omega arith) t)

  leaving-out : (i : ℕ) (l : List A) → i < length l → f (get_or l i d) ≡ false → removed i (leaving f (suc i) l) ≡ leaving f i l
  unfolding leaving keep removed
  leaving-out i [] h t = absurd (omega arith)
  leaving-out zero (x ∷ l) h t = rw t
  leaving-out (suc i) (x ∷ l) h t = ap (λ r. x ∷ r) (leaving-out i l (omega arith) t)

  leaving-end : (i : ℕ) (l : List A) → length l ≤ i → leaving f i l ≡ l
  unfolding leaving keep
  leaving-end zero [] h = refl
  leaving-end (suc i) [] h = refl
  leaving-end zero (x ∷ l) h = absurd (omega arith)
  leaving-end (suc i) (x ∷ l) h = ap (λ r. x ∷ r) (leaving-end i l (omega arith))

  -- the first keep their places, and no more are there than there were
  leaving-first : (j i : ℕ) (l : List A) → j < i → get_or (leaving f i l) j d ≡ get_or l j d
  unfolding leaving
  leaving-first j zero l h = absurd (omega arith)
  leaving-first j (suc i) [] h = refl
  leaving-first zero (suc i) (x ∷ l) h = refl
  leaving-first (suc j) (suc i) (x ∷ l) h = leaving-first j i l (omega arith)

  leaving-long : (i : ℕ) (l : List A) → i ≤ length l → i ≤ length (leaving f i l)
  unfolding leaving
  leaving-long zero l h = omega arith
  leaving-long (suc i) [] h = h
  leaving-long (suc i) (x ∷ l) h = let n = leaving-long i l (omega arith) in omega arith

  leaving-short : (i : ℕ) (l : List A) → length (leaving f i l) ≤ length l
  unfolding leaving
  leaving-short zero l = keep-short f l
  leaving-short (suc i) [] = omega arith
  leaving-short (suc i) (x ∷ l) = let n = leaving-short i l in omega arith

-- the words where card k's requests have left the line but for its first i places
module _ (w : List ℕ) (k : ℕ) where
  abbrev line : List Request
  line = (view w).line

  abbrev after : ℕ → Chassis
  after i = line_changed (view w) (leaving (stays k) i line)

  abbrev pub Leaves : List ℕ → ℕ → Type 0
  Leaves w' i = w' ≡ words (after i)

module _ (w : List ℕ) (f : formed w ≡ true) (k : ℕ) where
  -- at first none has left, and at last all have
  pub leaves_none : Leaves w k w (waiting_of w)
  leaves_none = formed-words w f
      ∙ ap (λ l. words (line_changed (view w) l)) (sym (leaving-end (stays k) unused_request (waiting_of w) (line w k) (let n = waiting-is w in omega arith)))

  pub leaves_all : (w' : List ℕ) → Leaves w k w' 0 → w' ≡ words (line_left (view w) k)
  unfolding leaving
  leaves_all w' e = e

  -- the request at i, the last that is still to be looked at
  module _ (w' : List ℕ) (i : ℕ) (e : Leaves w k w' (i + 1)) (i< : i < waiting_of w) where
    there : i < length (line w k)
    there = let n = waiting-is w in omega arith

    waiting-now : waiting_of w' ≡ length (leaving (stays k) (i + 1) (line w k))
    waiting-now = waiting-of (after w k (i + 1)) w' e

    pub leaves-room : (i < waiting_of w') × (waiting_of w' ≤ room)
    leaves-room =
        let long = leaving-long (stays k) unused_request (i + 1) (line w k) (let h = there in omega arith) in
        let short = leaving-short (stays k) unused_request (i + 1) (line w k) in
        let n = waiting-is w in
        let s = line_room w f in
        (omega (arith, waiting-now), omega (arith, waiting-now))

    -- as the code reads it
    module _ (r : Request) (er : r ≡ request_at w' i) where
      card-is : r.card ≡ (get_or (line w k) i unused_request).card
      unfolding view
      card-is =
          let p = request_place i in
          let few = (sizes w f).few-cards in
          let cards : All (λ r. r.card < 2 ^ 8) (line w k) = All-map (λ r h. let x = request→ (view w).cards (view w).blocks r h in omega arith) (line w k) (wf w f).requests in
          ap (λ (q : Request). q.card) er
          ∙ ap (λ q. as_byte (get_or w' q 0)) (sym (add-zero p))
          ∙ ap (λ (l : List ℕ). as_byte (get_or l (p + 0) 0)) (e ∙ words-image (after w k (i + 1)))
          ∙ ap as_byte (get-request (plain (after w k (i + 1))) i 0 (let s = leaves-room in omega arith) (omega arith))
          ∙ ap (λ (q : Request). as_byte q.card) (leaving-first (stays k) unused_request i (i + 1) (line w k) (omega arith))
          ∙ mod-eq_of_lt (All-at (λ r. r.card < 2 ^ 8) (line w k) i unused_request there cards)

      -- another card's request stays
      pub leaves-pass : (r.card ≡ k → ⊥) → Leaves w k w' i
      leaves-pass ne =
          let t : stays k (get_or (line w k) i unused_request) ≡ true = rw (← card-is, ne_eqb r.card k ne) in
          e ∙ ap (λ l. words (line_changed (view w) l))
          (ap (λ j. leaving (stays k) j (line w k)) (add-one i) ∙ leaving-pass (stays k) unused_request i (line w k) there t)

      -- card k's is removed
      pub leaves-out : r.card ≡ k → (w'' : List ℕ) → Becomes w' w'' (λ d. line_changed d (removed i d.line)) → Leaves w k w'' i
      leaves-out is-k w'' gone =
          let t : stays k (get_or (line w k) i unused_request) ≡ false = rw (← card-is, eq-eqb r.card k is-k) in
          gone (after w k (i + 1)) e ∙ ap (λ l. words (line_changed (view w) l))
          (ap (λ j. removed i (leaving (stays k) j (line w k))) (add-one i) ∙ leaving-out (stays k) unused_request i (line w k) there t)

-- The event

-- a block that is not there is as Start makes it
unused-fresh : (w : List ℕ) → formed w ≡ true → (b : ℕ) → blocks_of w ≤ b → (view w).block b ≡ fresh_block
unfolding view
unused-fresh w f b h = test (ltb b most_blocks)
    (λ p. let b< = ltb-true b most_blocks p in
    let B = (view w).block b in
    let u = unused→ B ((wf w f).unused b b< h) in
    let x : ◌≡◌ {A = ℕ → Cell} B.cell (λ _. idle) = fun_ext (λ k. test (ltb k most_cards)
    (λ q. unused-idle (B.cell k) (u.cells k (ltb-true k most_cards q)))
    (λ q. ap (λ (X : Block). X.cell k) (view-block w b b<) ∙ rw q)) in
    λ i. a_block (u.memory i) (u.owner i) (u.sharers i) (x i))
    (λ p. rw p)

module _ (w : List ℕ) (f : formed w ≡ true) (k : ℕ) where
  pub rejoin-refused : cards_of w ≤ k → Does w (Rejoin k) (Err NoSuchCard) w
  unfolding reasons no_card view
  rejoin-refused h = refused w f (Rejoin k) NoSuchCard (inl (le-leb (cards_of w) k h, refl))

  -- the line left, then the blocks that are there, is the rules' rejoin
  rejoin-is : blocks_left (line_left (view w) k) k (view w).blocks ≡ rejoin (view w) k
  unfolding blocks_left rejoin view
  rejoin-is =
      let c = view w in
      let B : (blocks_left (line_left c k) k c.blocks).block ≡ (rejoin c k).block = fun_ext (λ b. test (ltb b c.blocks)
      (λ p. rw p)
      (λ p. let z = unused-fresh w f b (ltb-false b c.blocks p) in rw p (z ∙ sym (rejoin-fresh k) ∙ ap (rejoin_block k) (sym z)))) in
      ap (λ block. like c block (keep (stays k) c.line) c.pool c.last) B

  -- what words say fits
  said_fits : BlocksFit (line_left (view w) k)
  said_fits b b< = (formed_says.says w f).1.blocks b b<

  pub rejoin-done : (w₁ w₂ : List ℕ) → k < cards_of w → w₁ ≡ words (line_left (view w) k)
      → BecomesIf BlocksFit w₁ w₂ (λ c. blocks_left c k c.blocks) → Does w (Rejoin k) (Ok 0) w₂
  unfolding reasons no_card effect view
  rejoin-done w₁ w₂ h e left = done w f (Rejoin k) (Ok 0) w₂ (lt-leb (cards_of w) k h, tt) refl
      (left (line_left (view w) k) said_fits e ∙ ap words rejoin-is)

  -- there are as many blocks once the line is left
  pub blocks-few : (w₁ : List ℕ) → w₁ ≡ words (line_left (view w) k) → blocks_of w₁ ≤ most_blocks
  unfolding view
  blocks-few w₁ e = let s = sizes w f in omega (arith, blocks-of (line_left (view w) k) w₁ e)
