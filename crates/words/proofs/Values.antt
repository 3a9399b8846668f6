-- What an event on words answers has a value of 32 bits.
use Prim.Native.Nat.{ℕ, ◌^◌, ◌<◌}
use native.Mathlib.Omega.{arith}
use mathlib.Core.Bool.{cond}
use mathlib.Core.List.{List, [], ◌∷◌}
use mathlib.Core.Path.{sym, ap, subst}
use lib.Dec.{ltb}
use Rattle.rules.specs.Numbers.{most_cards, most_blocks}
use Rattle.rules.specs.Chassis.{Block, Chassis, cell_of, idle, fresh_block, message_of}
use Rattle.rules.specs.Answers.{value_of, Step, Reason, refused_by}
use Rattle.rules.specs.Order.{turn, order_head, order}
use Rattle.rules.specs.Events.{live, deliver, effect, step}
use Rattle.rules.specs.declared.Cell.{Cell}
use Rattle.rules.specs.declared.Request.{Request}
use Rattle.rules.specs.declared.Message.{Message}
use Rattle.rules.specs.declared.Event.{Event}
use Rattle.rules.specs.declared.Event.TheVariants.{Load, Store, Drop, Ask, Order, Deliver, Copy, Rejoin}
use Rattle.rules.proofs.Tests.{test}
use Rattle.rules.proofs.Upshots.{by-outcome}
use Rattle.words.specs.Words.{cell_at, block_of, view}
use Rattle.words.specs.Claims.{ValueFits}

-- a refusal has value 0
first-reason : (c : Chassis) (rs : List Reason) (done : Step) → value_of done.answer < 2 ^ 32 → value_of (refused_by c rs done).answer < 2 ^ 32
unfolding refused_by
first-reason c [] done h = h
first-reason c (r ∷ rs) done h = test r.holds (λ e. rw e (omega arith)) (λ e. rw e (first-reason c rs done h))

-- a cell that words say has a value of 32 bits
block-value : (w : List ℕ) (k b : ℕ) → ((block_of w b).cell k).value < 2 ^ 32
block-value w k b = test (ltb k most_cards)
    (λ e. subst (λ (x : Cell). x.value < 2 ^ 32) (sym (ap (λ t. cond t (cell_at w k b) idle) e)) (omega arith))
    (λ e. subst (λ (x : Cell). x.value < 2 ^ 32) (sym (ap (λ t. cond t (cell_at w k b) idle) e)) (omega arith))

cell-value : (w : List ℕ) (k b : ℕ) → (cell_of (view w) k b).value < 2 ^ 32
unfolding view
cell-value w k b = test (ltb b most_blocks)
    (λ e. subst (λ (B : Block). (B.cell k).value < 2 ^ 32) (sym (ap (λ t. cond t (block_of w b) fresh_block) e)) (block-value w k b))
    (λ e. subst (λ (B : Block). (B.cell k).value < 2 ^ 32) (sym (ap (λ t. cond t (block_of w b) fresh_block) e)) (omega arith))

ordered-value : (c : Chassis) (l : List Request) → value_of (order c l).answer < 2 ^ 32
unfolding order order_head
ordered-value c [] = omega arith
ordered-value c (r ∷ rest) = let k = (by-outcome (turn c r)).known in omega arith

delivered-value : (c : Chassis) (i : ℕ) (m : Message) → value_of (deliver c i m).answer < 2 ^ 32
unfolding deliver
delivered-value c i m = test (live (c.block m.block) m) (λ e. rw e (omega arith)) (λ e. rw e (omega arith))

effect-value : (w : List ℕ) (e : Event) → value_of (effect (view w) e).answer < 2 ^ 32
unfolding effect
effect-value w (Load k b) = cell-value w k b
effect-value w (Store k b v) = omega arith
effect-value w (Drop k b) = omega arith
effect-value w (Ask k b kind mask) = omega arith
effect-value w Order = ordered-value (view w) (view w).line
effect-value w (Deliver i) = delivered-value (view w) i (message_of (view w) i)
effect-value w (Copy i) = omega arith
effect-value w (Rejoin k) = omega arith

pub value-fits : ValueFits
unfolding step
value-fits w e = first-reason (view w) _ (effect (view w) e) (effect-value w e)
