-- What is decided of the head request: the tests that walk the cards, and each way that the decision ends.
use Rattle.std.specs.Prelude.{Err, Ok, Result}
use Prim.Native.Nat.{ℕ, ◌≤◌, ◌<◌}
use native.Mathlib.Omega.{arith}
use mathlib.Core.Bool.{Bool, true, false, not, ◌&&◌, ◌||◌}
use mathlib.Core.List.{List, [], ◌∷◌}
use mathlib.Core.Path.{◌≡◌, refl, sym, ◌∙◌, ap}
use lib.Dec.{eqb, leb}
use borrow.Author.Tests.{ltb-true, lt-ltb, le-leb, lt-leb}
use Rattle.rules.specs.Tests.{any}
use Rattle.rules.specs.Numbers.{most_cards, most_blocks, home, room, last_number, putx}
use Rattle.rules.specs.Table.{can_give, comes_from, upgrades, put_stands}
use Rattle.rules.specs.Chassis.{Block, Chassis, idle, cell_of, unused_request}
use Rattle.rules.specs.Formed.{home_or_card, ok_request}
use Rattle.rules.specs.Order.{held, impossible, no_room_for, turn}
use Rattle.rules.specs.declared.Edition.{Edition}
use Rattle.rules.specs.declared.OrderNo.{OrderNo}
use Rattle.rules.specs.declared.Request.{Request}
use Rattle.rules.specs.declared.Home.{Home}
use lib.ListN.{get_or}
use Rattle.rules.specs.declared.Cell.{Cell}
use Rattle.rules.specs.declared.Turn.{Turn}
use Rattle.rules.specs.declared.Refusal.TheVariants.{BlockHeld, PoolFull, NumbersSpent, Impossible}
use Rattle.rules.specs.declared.Refusal.{Refusal}
use Rattle.rules.proofs.Tests.{or-i}
use Rattle.rules.proofs.Lists.{All-at}
use Rattle.rules.proofs.Formed.{RequestWf, request→, BlockWf}
use Rattle.words.proofs.Does.{wf, sizes}
use Rattle.words.specs.Words.{
  view,
  block_of,
  edition_of,
  cards_of,
  waiting_of,
  pooled_of,
  last_of,
  cell_at,
  request_at,
  memory_at,
  owner_at,
  sharers_at,
  formed,
}
use Rattle.engine.specs.Looking.{home_of}
use Rattle.engine.specs.declared.head.Head.{Head}
use Rattle.engine.specs.Inner.Heads.{block_read, Reads}
use Rattle.engine.specs.Inner.Ordering.{judged_free, judged}
use Rattle.engine.proofs.Heads.{asker_read, owner_read, impossible-is}
use Rattle.words.proofs.View.{view-block, view-cell, view-request, waiting-is, pooled-is}

-- The owner

-- at home's number a chassis that words say has an idle cell
pub home-cell : (w : List ℕ) (b owner : ℕ) → owner ≡ home → b < most_blocks → idle ≡ ((view w).block b).cell owner
home-cell w b owner e h = ap (λ k. (block_of w b).cell k) (sym e) ∙ sym (ap (λ (B : Block). B.cell owner) (view-block w b h))

-- Impossible

or-any : (a b c d e f : Bool) → (a || b || c || d || e || f) ≡ any (a ∷ b ∷ c ∷ d ∷ e ∷ f ∷ [])
unfolding any
or-any true b c d e f = refl
or-any false true c d e f = refl
or-any false false true d e f = refl
or-any false false false true e f = refl
or-any false false false false true f = refl
or-any false false false false false true = refl
or-any false false false false false false = refl

-- the code's test, from what it read
pub impossible-test : (h : Head) (stands up from can : Bool) → stands ≡ put_stands h.asker.state → up ≡ upgrades h.asker.state
    → from ≡ comes_from h.request.kind h.asker.state → can ≡ can_give h.owner.state
    → (not from || not (eqb h.request.kind putx) && not up && eqb h.home.owner h.request.card
    || not (eqb h.request.kind putx) && up && not (eqb h.home.owner h.request.card)
    || not (eqb h.request.kind putx) && not (eqb h.home.owner home) && not can
    || eqb h.request.kind putx && stands && not (eqb h.home.owner h.request.card)
    || eqb h.request.kind putx && not stands && eqb h.home.owner h.request.card) ≡ impossible (block_read h) h.request
unfolding impossible
impossible-test h stands up from can e₁ e₂ e₃ e₄ =
    rw (e₁, e₂, e₃, e₄, asker_read h, owner_read h) (or-any _ _ _ _ _ _)

-- The head request

module _ (w : List ℕ) (f : formed w ≡ true) (some : 0 < waiting_of w) (r : Request) (at : r ≡ request_at w 0) where
  pub head-is : get_or (view w).line 0 unused_request ≡ r
  head-is = view-request w 0 some ∙ sym at

  -- it is well formed
  pub head-wf : RequestWf (view w).cards (view w).blocks r
  head-wf = request→ (view w).cards (view w).blocks r (rw (← head-is) (All-at (λ r. ok_request (view w).cards (view w).blocks r ≡ true)
      (view w).line 0 unused_request (let n = waiting-is w in omega arith) (wf w f).requests))

  pub head-card : r.card < most_cards
  unfolding view
  head-card = let c = head-wf.card in let s = (sizes w f).few-cards in omega arith

  pub head-block : r.block < most_blocks
  unfolding view
  head-block = let b = head-wf.block in let s = (sizes w f).few-blocks in omega arith

  -- and so is its block
  pub block-wf : BlockWf (view w).edition (view w).cards (view w).last ((view w).block r.block)
  block-wf = (wf w f).used r.block head-block head-wf.block

  -- home's part of the block, as it is read
  module _ (h : Home) (is : (h.memory ≡ memory_at w r.block) × (h.owner ≡ owner_at w r.block) × (h.sharers ≡ sharers_at w r.block)) where
    pub home-is : h ≡ home_of ((view w).block r.block)
    home-is =
        let e = view-block w r.block head-block in
        let memory = is.0 ∙ ap (λ (B : Block). B.memory) (sym e) in
        let owner = is.1 ∙ ap (λ (B : Block). B.owner) (sym e) in
        let sharers = is.2 ∙ ap (λ (B : Block). B.sharers) (sym e) in
        λ i. record { memory = memory i; owner = owner i; sharers = sharers i }

    owner-known : home_or_card (cards_of w) h.owner ≡ true
    unfolding view
    owner-known = ap (λ (x : Home). home_or_card (cards_of w) x.owner) home-is ∙ block-wf.owner

    pub owner-there : home_or_card most_cards h.owner ≡ true
    unfolding home_or_card
    owner-there = or-i {a = eqb h.owner home} (λ n. lt-ltb h.owner most_cards
        (let l = ltb-true h.owner (cards_of w) (rw n at owner-known) in let s = (sizes w f).few-cards in omega arith))

  pub asker-is : (x : Cell) → x ≡ cell_at w r.card r.block → cell_of (view w) r.card r.block ≡ x
  asker-is x e = view-cell w r.card r.block head-card head-block ∙ sym e

  -- What is read of the head's block leads to the decision

  module _ (h : Head) (is : (h.request ≡ r) × Reads (view w) h) (i : Bool) (ei : i ≡ impossible (block_read h) h.request) where
    impossible-here : i ≡ impossible ((view w).block r.block) r
    impossible-here = ei ∙ impossible-is h (view w) is.1 ∙ ap (λ (q : Request). impossible ((view w).block q.block) q) is.0

    pub free-impossible : i ≡ true → Err Impossible ≡ judged_free (view w) r
    unfolding judged_free
    free-impossible t = rw (← impossible-here, t)

    module _ (n : i ≡ false) (pool : ℕ) (ep : pool ≡ pooled_of w) where
      full_is : (not (eqb r.kind putx) && leb room pool) ≡ no_room_for (view w) r
      unfolding no_room_for
      full_is = ap (λ k. not (eqb r.kind putx) && leb room k) (ep ∙ sym (pooled-is w))

      pub free-full : (not (eqb r.kind putx) && leb room pool) ≡ true → Err PoolFull ≡ judged_free (view w) r
      unfolding judged_free
      free-full t = rw (← impossible-here, n, ← full_is, t)

      pub free-turn : (not (eqb r.kind putx) && leb room pool) ≡ false
          → (e : Edition) → e ≡ edition_of w
          → (t : Turn) → ((c : Chassis) → c.edition ≡ e → Reads c h → t ≡ turn c h.request)
          → Ok t ≡ judged_free (view w) r
      unfolding judged_free view
      free-turn f e ee t et = rw (← impossible-here, n, ← full_is, f)
          (ap Ok (et (view w) (sym ee) is.1 ∙ ap (turn (view w)) is.0))

  -- Refusals 12 and 9 come first

  number_is : (n : OrderNo) → n ≡ last_of w → n.0 ≡ (last_of w).0
  number_is n e = ap (λ (m : OrderNo). m.0) e

  pub numbers-spent : (n : OrderNo) → n ≡ last_of w → last_number.0 ≤ n.0 → Err NumbersSpent ≡ judged (view w) r
  unfolding judged view
  numbers-spent n e s = let i = number_is n e in rw (le-leb last_number.0 (last_of w).0 (omega arith))

  module _ (n : OrderNo) (e : n ≡ last_of w) (u : n.0 < last_number.0) (i : Bool) (ei : i ≡ held (cards_of w) ((view w).block r.block)) where
    pub block_held : i ≡ true → Err BlockHeld ≡ judged (view w) r
    unfolding judged view
    block_held t = let z = number_is n e in rw (lt-leb last_number.0 (last_of w).0 (omega arith), ← ei, t)

    pub block-free : i ≡ false → (j : Result Turn Refusal) → j ≡ judged_free (view w) r → j ≡ judged (view w) r
    unfolding judged view
    block-free t j ej = let z = number_is n e in rw (lt-leb last_number.0 (last_of w).0 (omega arith), ← ei, t) ej
