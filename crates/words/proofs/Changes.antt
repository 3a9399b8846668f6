-- What a store in the words of a chassis makes of the chassis.
use Prim.Native.Nat.{ℕ, ◌+◌, ◌-◌, ◌*◌, ◌≤◌, ◌<◌}
use native.Mathlib.Omega.{arith}
use mathlib.Core.List.{List, [], ◌∷◌, ◌++◌}
use mathlib.Core.Path.{◌≡◌, refl, sym, ap, ◌∙◌}
use lib.ListN.{set}
use Rattle.rules.specs.Lists.{replace, removed}
use Rattle.rules.specs.Numbers.{most_cards, most_blocks, room}
use Rattle.rules.specs.Chassis.{
  Chassis,
  with_home,
  block_changed,
  cell_changed,
  line_changed,
  pool_changed,
  last_changed,
  unused_request,
  unused_message,
}
use Rattle.rules.specs.declared.OrderNo.{OrderNo}
use Rattle.rules.specs.declared.Cell.{Cell}
use Rattle.rules.specs.declared.Request.{Request}
use Rattle.rules.specs.declared.Message.{Message}
use Rattle.words.specs.Layout.{waiting_at, pooled_at, last_at, place_words, request_place, message_place}
use Rattle.words.specs.Words.{words, waiting_of, pooled_of}
use Rattle.words.specs.Inner.Parts.{put_cell, put_home, put_request, put_message, closing}
use Rattle.words.proofs.Image.{
  Plain,
  alike,
  plain,
  image,
  words-image,
  put-cell,
  put-home,
  put-request,
  put-message,
  close-line,
  close-pool,
}
use Rattle.words.proofs.View.{waiting-of, pooled-of}
use Rattle.words.proofs.Closing.{pulled, pushed, left}

module _ (c : Chassis) (w : List ℕ) (e : w ≡ words c) where
  at-image : w ≡ image (plain c)
  at-image = e ∙ words-image c

  pub cell-words : (k b : ℕ) (x : Cell) → k < most_cards → b < most_blocks → put_cell w k b x ≡ words (cell_changed c k b x)
  cell-words k b x hk hb =
      ap (λ (l : List ℕ). put_cell l k b x) at-image ∙ put-cell (plain c) k b x hk hb ∙ sym (words-image (cell_changed c k b x))

  pub home-words : (b memory owner sharers : ℕ) → b < most_blocks
      → put_home w b memory owner sharers ≡ words (block_changed c b (with_home (c.block b) memory owner sharers))
  home-words b memory owner sharers hb =
      ap (λ (l : List ℕ). put_home l b memory owner sharers) at-image ∙ put-home (plain c) b memory owner sharers hb
      ∙ sym (words-image (block_changed c b (with_home (c.block b) memory owner sharers)))

  pub last-words : (n : OrderNo) → set w last_at n.0 ≡ words (last_changed c n)
  unfolding words
  last-words n = ap (λ (l : List ℕ). set l last_at n.0) e

-- The line and the pool, by how many places are used and what stands in each

abbrev line_words : Plain → ℕ → (ℕ → Request) → List ℕ
line_words p n f = image (alike p n p.pooled p.block f p.pool)

abbrev pool_words : Plain → ℕ → (ℕ → Message) → List ℕ
pool_words p n f = image (alike p p.waiting n p.block p.line f)

-- the places from a up to z, each taken by the next
abbrev line_closed : List ℕ → ℕ → ℕ → List ℕ
line_closed w a z = closing w (request_place a) (request_place z - request_place a) place_words

abbrev pool_closed : List ℕ → ℕ → ℕ → List ℕ
pool_closed w a z = closing w (message_place a) (message_place z - message_place a) place_words

module _ (p : Plain) where
  line_store : (n : ℕ) (f : ℕ → Request) (i : ℕ) (x : Request) → i < room → put_request (line_words p n f) i x ≡ line_words p n (replace f i x)
  line_store n f i x h = put-request _ i x h

  line-count : (n m : ℕ) (f : ℕ → Request) → set (line_words p n f) waiting_at m ≡ line_words p m f
  unfolding image
  line-count n m f = refl

  line-close : (n : ℕ) (f : ℕ → Request) (a t : ℕ) → a + t < room → line_closed (line_words p n f) a (a + t) ≡ line_words p n (pulled f a t)
  line-close n f a t h =
      let size : request_place (a + t) - request_place a ≡ place_words * t = omega arith in
      ap (λ k. closing (line_words p n f) (request_place a) k place_words) size ∙ close-line _ a t h

  pool-store : (n : ℕ) (f : ℕ → Message) (i : ℕ) (x : Message) → i < room → put_message (pool_words p n f) i x ≡ pool_words p n (replace f i x)
  pool-store n f i x h = put-message _ i x h

  pool-count : (n m : ℕ) (f : ℕ → Message) → set (pool_words p n f) pooled_at m ≡ pool_words p m f
  unfolding image
  pool-count n m f = refl

  pool-close : (n : ℕ) (f : ℕ → Message) (a t : ℕ) → a + t < room → pool_closed (pool_words p n f) a (a + t) ≡ pool_words p n (pulled f a t)
  pool-close n f a t h =
      let size : message_place (a + t) - message_place a ≡ place_words * t = omega arith in
      ap (λ k. closing (pool_words p n f) (message_place a) k place_words) size ∙ close-pool _ a t h

module _ (c : Chassis) (w : List ℕ) (e : w ≡ words c) where
  at : w ≡ image (plain c)
  at = e ∙ words-image c

  -- one more at the tail, where n are there
  pub push-request : (r : Request) (n : ℕ) (w₁ w₂ : List ℕ) → n ≡ waiting_of w → n < room → w₁ ≡ put_request w n r → w₂ ≡ set w₁ waiting_at (n + 1)
      → w₂ ≡ words (line_changed c (c.line ++ r ∷ []))
  push-request r n w₁ w₂ en h e₁ e₂ =
      let p = plain c in
      pushed unused_request (line_words p) waiting_at room put_request (line_store p) (line-count p) c.line r n w w₁ w₂
      (en ∙ waiting-of c w e) h at e₁ e₂
      ∙ sym (words-image (line_changed c (c.line ++ r ∷ [])))

  pub push-message : (m : Message) (n : ℕ) (w₁ w₂ : List ℕ) → n ≡ pooled_of w → n < room → w₁ ≡ put_message w n m → w₂ ≡ set w₁ pooled_at (n + 1)
      → w₂ ≡ words (pool_changed c (c.pool ++ m ∷ []))
  push-message m n w₁ w₂ en h e₁ e₂ =
      let p = plain c in
      pushed unused_message (pool_words p) pooled_at room put_message (pool-store p) (pool-count p) c.pool m n w w₁ w₂
      (en ∙ pooled-of c w e) h at e₁ e₂
      ∙ sym (words-image (pool_changed c (c.pool ++ m ∷ [])))

  -- item a leaves, the later ones close up to the last place, z, and that is cleared
  pub remove-request : (a z : ℕ) (w₁ w₂ w₃ : List ℕ) → z + 1 ≡ waiting_of w → a ≤ z → z < room → w₁ ≡ line_closed w a z
      → w₂ ≡ put_request w₁ z unused_request → w₃ ≡ set w₂ waiting_at z → w₃ ≡ words (line_changed c (removed a c.line))
  remove-request a z w₁ w₂ w₃ ez h k e₁ e₂ e₃ =
      let p = plain c in
      left unused_request (line_words p) waiting_at room put_request (line_store p) (line-count p) line_closed (line-close p) c.line a z
      w w₁ w₂ w₃ (ez ∙ waiting-of c w e) h k at e₁ e₂ e₃
      ∙ sym (words-image (line_changed c (removed a c.line)))

  pub remove-message : (a z : ℕ) (w₁ w₂ w₃ : List ℕ) → z + 1 ≡ pooled_of w → a ≤ z → z < room → w₁ ≡ pool_closed w a z
      → w₂ ≡ put_message w₁ z unused_message → w₃ ≡ set w₂ pooled_at z → w₃ ≡ words (pool_changed c (removed a c.pool))
  remove-message a z w₁ w₂ w₃ ez h k e₁ e₂ e₃ =
      let p = plain c in
      left unused_message (pool_words p) pooled_at room put_message (pool-store p) (pool-count p) pool_closed (pool-close p) c.pool a z
      w w₁ w₂ w₃ (ez ∙ pooled-of c w e) h k at e₁ e₂ e₃
      ∙ sym (words-image (pool_changed c (removed a c.pool)))
