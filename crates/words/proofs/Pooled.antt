-- Deliver and Copy: each way that they end, and what is known of a message of the pool.
use Rattle.std.specs.Prelude.{Err, Ok}
use Prim.Native.Nat.{ℕ, ◌≤◌, ◌<◌}
use native.Mathlib.Omega.{arith}
use mathlib.Core.Bool.{Bool, true, false, cond, ◌&&◌}
use mathlib.Core.List.{List, [], ◌∷◌, ◌++◌}
use mathlib.Core.Path.{◌≡◌, refl, sym, ◌∙◌, ap, subst}
use mathlib.Core.Logic.{inl, inr}
use lib.ListN.{length}
use borrow.Author.Tests.{le-leb, lt-leb}
use Rattle.rules.specs.Lists.{removed}
use Rattle.rules.specs.Numbers.{most_cards, most_blocks, room, same_number, taken, stale}
use Rattle.rules.specs.Table.{waits}
use Rattle.rules.specs.Chassis.{Chassis, cell_of, message_of, cell_changed, pool_changed, unused_message}
use Rattle.rules.specs.Answers.{Step, result, Reason, FirstHolds}
use Rattle.rules.specs.Formed.{ok_message}
use Rattle.rules.specs.Events.{no_message, live, takes, deliver, reasons, effect}
use Rattle.rules.specs.declared.Cell.{Cell}
use Rattle.rules.specs.declared.Message.{Message}
use Rattle.rules.specs.declared.Refusal.TheVariants.{NoSuchMessage, PoolFull}
use Rattle.rules.specs.declared.Event.{Event}
use Rattle.rules.specs.declared.Event.TheVariants.{Deliver, Copy}
use Rattle.rules.proofs.Lists.{All-at}
use Rattle.rules.proofs.Formed.{message→}
use Rattle.words.specs.Words.{words, view, pooled_of, cell_at, message_at, formed}
use Rattle.words.specs.Inner.Parts.{Does, Becomes, put_cell}
use Rattle.words.proofs.View.{formed-words, view-cell, view-message, pooled-is, pooled-of}
use Rattle.words.proofs.Changes.{cell-words}
use Rattle.words.proofs.Does.{wf, sizes, refused, done}

-- 11 is tested first
pub no-message : (w : List ℕ) → formed w ≡ true → (i : ℕ) (e : Event) (rs : List Reason)
    → reasons (view w) e ≡ no_message (view w) i ∷ rs → pooled_of w ≤ i → Does w e (Err NoSuchMessage) w
unfolding no_message
no-message w f i e rs is h = refused w f e NoSuchMessage (subst (λ l. FirstHolds l NoSuchMessage) (sym is)
    (inl (le-leb (length (view w).pool) i (omega (arith, pooled-is w)), refl)))

-- A message that is there

-- "in 6, 7 or 8 .. and awaits that number", of the receiver's cell
abbrev is_live : Cell → Message → Bool
is_live x m = waits x.state && same_number x.awaits m.number

module _ (w : List ℕ) (f : formed w ≡ true) (i : ℕ) (h : i < pooled_of w) where
  -- 11 does not hold
  there : (no_message (view w) i).holds ≡ false
  unfolding no_message
  there = lt-leb (length (view w).pool) i (omega (arith, pooled-is w))

  -- 10, of Copy
  pub copy-full : room ≤ pooled_of w → Does w (Copy i) (Err PoolFull) w
  unfolding reasons
  copy-full g = refused w f (Copy i) PoolFull (inr (there, inl (le-leb room (length (view w).pool) (omega (arith, pooled-is w)), refl)))

  -- a delivery that leaves what the rules' effect leaves
  delivered : (o : Step) → effect (view w) (Deliver i) ≡ o → (w' : List ℕ) → w' ≡ words o.after → Does w (Deliver i) o.answer w'
  unfolding reasons
  delivered o is w' b = done w f (Deliver i) o.answer w' (there, tt)
      (sym (ap (λ (o : Step). o.answer) is)) (b ∙ sym (ap (λ (o : Step). words o.after) is))

  module _ (m : Message) (at : m ≡ message_at w i) where
    -- it is the rules' message at that position
    message-is : message_of (view w) i ≡ m
    message-is = view-message w i h ∙ sym at

    -- it joins the tail again
    pub copy_done : pooled_of w < room → (w' : List ℕ) → Becomes w w' (λ c. pool_changed c (c.pool ++ m ∷ [])) → Does w (Copy i) (Ok 0) w'
    unfolding reasons effect
    copy_done g w' b = done w f (Copy i) (Ok 0) w'
        (there, (lt-leb room (length (view w).pool) (omega (arith, pooled-is w)), tt)) refl
        (b (view w) (formed-words w f) ∙ ap (λ (x : Message). words (pool_changed (view w) ((view w).pool ++ x ∷ []))) (sym message-is))

    -- its receiver and its block are there
    pub known : (m.receiver < most_cards) × (m.block < most_blocks)
    unfolding view
    known =
        let c = view w in
        let Ok : Message → Type 0 = λ x. ok_message c.cards c.blocks c.last x ≡ true in
        let ok = All-at Ok c.pool i unused_message (omega (arith, pooled-is w)) (wf w f).messages in
        let t = message→ c.cards c.blocks c.last m (subst Ok message-is ok) in
        let s = sizes w f in
        (omega arith, omega arith)

    module _ (x : Cell) (to : x ≡ cell_at w m.receiver m.block) where
      -- the cell read is the receiver's
      cell-is : cell_of (view w) m.receiver m.block ≡ x
      cell-is = view-cell w m.receiver m.block known.0 known.1 ∙ sym to

      -- the pool without it, and the chassis whose receiver has taken it
      abbrev rest : List Message
      rest = removed i (view w).pool

      abbrev filled : Chassis
      filled = cell_changed (view w) m.receiver m.block (takes m x)

      -- what comes of it, where it is known whether the receiver waits for it
      outcome : (t : Bool) → is_live x m ≡ t
          → effect (view w) (Deliver i) ≡ cond t (result (Ok taken) (pool_changed filled rest)) (result (Ok stale) (pool_changed (view w) rest))
      unfolding effect deliver live
      outcome t g = ap (deliver (view w) i) message-is ∙ rw (cell-is, g)

      -- the receiver does not wait for it
      pub deliver-stale : is_live x m ≡ false
          → (w' : List ℕ) → Becomes w w' (λ c. pool_changed c (removed i c.pool)) → Does w (Deliver i) (Ok stale) w'
      deliver-stale g w' b = delivered (result (Ok stale) (pool_changed (view w) rest)) (outcome false g) w' (b (view w) (formed-words w f))

      -- the receiver takes it: its cell is put anew, then the message leaves
      module _ (y : Cell) (is : y ≡ takes m x) (w₁ : List ℕ) (put : w₁ ≡ put_cell w m.receiver m.block y) where
        put-words : w₁ ≡ words filled
        put-words = put ∙ ap (put_cell w m.receiver m.block) is
            ∙ cell-words (view w) w (formed-words w f) m.receiver m.block (takes m x) known.0 known.1

        -- it is still in the pool then
        pub put-pooled : pooled_of w₁ ≡ pooled_of w
        put-pooled = pooled-of filled w₁ put-words ∙ pooled-is w

        pub deliver-taken : is_live x m ≡ true
            → (w' : List ℕ) → Becomes w₁ w' (λ c. pool_changed c (removed i c.pool)) → Does w (Deliver i) (Ok taken) w'
        deliver-taken g w' b = delivered (result (Ok taken) (pool_changed filled rest)) (outcome true g) w' (b filled put-words)
