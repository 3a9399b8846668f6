-- The last order number never falls, and stays 64 bits wide.
use Prim.Native.Nat.{◌≤◌}
use native.Mathlib.Omega.{arith}
use mathlib.Core.List.{List, [], ◌∷◌}
use borrow.Author.Tests.{leb-false}
use Rattle.rules.specs.Numbers.{last_number}
use Rattle.rules.specs.Chassis.{Chassis, message_of}
use Rattle.rules.specs.Answers.{Step, NoneHolds}
use Rattle.rules.specs.Order.{order_reasons, order_head, order}
use Rattle.rules.specs.Events.{reasons, ask, live, deliver, rejoin, effect, step}
use Rattle.rules.specs.Claims.{NeverSetBack}
use Rattle.rules.specs.declared.Request.{Request}
use Rattle.rules.specs.declared.Event.{Event}
use Rattle.rules.specs.declared.Event.TheVariants.{
  Load,
  Store,
  Drop,
  Ask,
  Order,
  Deliver,
  Copy,
  Rejoin,
}
use Rattle.rules.proofs.Tests.{cond_cases}
use Rattle.rules.proofs.Refusals.{refused-cases}

module _ (c : Chassis) (wide : c.last.0 ≤ last_number.0) where
  abbrev Rises : Step → Type 0
  Rises o = (c.last.0 ≤ o.after.last.0) × (o.after.last.0 ≤ last_number.0)

  stays : (c.last.0 ≤ c.last.0) × (c.last.0 ≤ last_number.0)
  stays = (omega arith, wide)

  order-rises : (l : List Request) → NoneHolds (order_reasons c l) → Rises (order c l)
  unfolding order order_head order_reasons
  order-rises [] h = stays
  order-rises (r ∷ rest) h = let room = leb-false last_number.0 c.last.0 h.0 in (omega arith, omega arith)

  effect-rises : (e : Event) → NoneHolds (reasons c e) → Rises (effect c e)
  unfolding reasons effect ask deliver rejoin
  effect-rises (Load k b) h = stays
  effect-rises (Store k b v) h = stays
  effect-rises (Drop k b) h = stays
  effect-rises (Ask k b kind mask) h = stays
  effect-rises Order h = order-rises c.line h
  effect-rises (Deliver i) h = cond_cases Rises (live (c.block (message_of c i).block) (message_of c i)) _ _ (λ _. stays) (λ _. stays)
  effect-rises (Copy i) h = stays
  effect-rises (Rejoin k) h = stays

pub never-set-back : NeverSetBack
unfolding step
never-set-back c e wide = refused-cases c (Rises c wide) _ (effect c e) (λ _. stays c wide) (λ h. effect-rises c wide e h.1)
