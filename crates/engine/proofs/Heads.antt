-- What is read for the turn of the request at the head, beside the block that it is read of: the rules make the same of both.
use Prim.Native.Nat.{ℕ, ◌<◌}
use mathlib.Core.Bool.{true, cond}
use mathlib.Core.Logic.{◌≢◌}
use mathlib.Core.Path.{◌≡◌, refl, ap, ◌∙◌}
use lib.Dec.{eqb}
use borrow.Author.Tests.{eq-eqb, ne_eqb, eqb-true, ltb-true}
use Rattle.rules.specs.Mask.{suffices}
use Rattle.rules.specs.Numbers.{most_cards, home, gets, putx}
use Rattle.rules.specs.Table.{put_stands, leaves_sharers}
use Rattle.rules.specs.Chassis.{Block, Chassis}
use Rattle.rules.specs.Formed.{home_or_card}
use Rattle.rules.specs.Order.{impossible, turn, giver, given, keeps, upshot_of, data_for, retry_mask, retried}
use Rattle.rules.specs.declared.Edition.{Edition}
use Rattle.rules.specs.declared.OrderNo.{OrderNo}
use Rattle.rules.specs.declared.RetryNo.{RetryNo}
use Rattle.rules.specs.declared.Cell.{Cell}
use Rattle.rules.specs.declared.Home.{Home}
use Rattle.rules.specs.declared.Turn.{Turn}
use Rattle.rules.specs.declared.Turn.TheVariants.{GetsGranted, GetxGranted, GetsMissed, GetxMissed, PutTaken, PutLapsed}
use Rattle.rules.proofs.Tests.{test}
use Rattle.rules.proofs.Upshots.{by-outcome}
use Rattle.engine.specs.declared.head.Head.{Head}
use Rattle.engine.specs.Inner.Heads.{block_read, Reads, home_after}

-- an owner that is not home is a card
pub owner-card : (owner : ℕ) → owner ≢ home → home_or_card most_cards owner ≡ true → owner < most_cards
unfolding home_or_card
owner-card owner n h = ltb-true owner most_cards (rw (ne_eqb owner home n) at h)

module _ (h : Head) where
  -- its asker's cell and its owner's are those that were read
  pub asker_read : cond (eqb h.request.card h.request.card) h.asker h.owner ≡ h.asker
  asker_read = rw (eq-eqb h.request.card h.request.card refl)

  pub owner_read : cond (eqb h.home.owner h.request.card) h.asker h.owner ≡ h.owner
  owner_read = test (eqb h.home.owner h.request.card)
      (λ e. rw e (h.one_cell (eqb-true h.home.owner h.request.card e)))
      (λ e. rw e)

  pub owner_is_card : h.home.owner ≢ home → h.home.owner < most_cards
  owner_is_card n = owner-card h.home.owner n h.owner_there

  -- a card that gives is the owner
  pub value_given : giver (block_read h) h.request.card ≢ home → h.owner.value ≡ given (block_read h) h.request.card
  unfolding given giver
  value_given n = test (eqb h.home.owner h.request.card)
      (λ e. absurd (n (rw e)))
      (λ e. rw (e, ne_eqb h.home.owner home (λ f. n (rw e f)), e))

  module _ (c : Chassis) (is : Reads c h) where
    abbrev B : Block
    B = c.block h.request.block

    memory-is : h.home.memory ≡ B.memory
    memory-is = ap (λ (x : Home). x.memory) is.home

    pub owner-is : h.home.owner ≡ B.owner
    owner-is = ap (λ (x : Home). x.owner) is.home

    sharers-is : h.home.sharers ≡ B.sharers
    sharers-is = ap (λ (x : Home). x.sharers) is.home

    cell-is : h.owner ≡ B.cell B.owner
    cell-is = is.owner ∙ ap (λ k. B.cell k) owner-is

    giver-is : giver (block_read h) h.request.card ≡ giver B h.request.card
    unfolding giver
    giver-is = ap (λ o. cond (eqb o h.request.card) home o) owner-is

    given-is : given (block_read h) h.request.card ≡ given B h.request.card
    unfolding given giver
    given-is = rw (← owner-is) (test (eqb h.home.owner h.request.card)
        (λ e. rw e memory-is)
        (λ e. rw e (test (eqb h.home.owner home)
        (λ f. rw f memory-is)
        (λ f. rw (f, e) (ap (λ (x : Cell). x.value) is.owner)))))

    keeps-is : (e : Edition) → keeps e (block_read h) ≡ keeps e B
    unfolding keeps
    keeps-is e = rw (owner_read, ← cell-is)

    pub home_after_is : (t : Turn) → home_after t (block_read h) h.request.card ≡ home_after t B h.request.card
    unfolding upshot_of
    home_after_is (GetsGranted e) = rw (given-is, keeps-is e, ← owner-is, ← sharers-is)
    home_after_is GetxGranted = rw given-is
    home_after_is GetsMissed = rw (← memory-is, ← owner-is, ← sharers-is)
    home_after_is GetxMissed = rw (← memory-is, ← owner-is, ← sharers-is)
    home_after_is PutTaken =
        let cell = asker_read ∙ is.asker in
        λ i. record { memory = (cell i).value; owner = home; sharers = cond (leaves_sharers (cell i).state) (sharers-is i) 0 }
    home_after_is PutLapsed = rw (← memory-is, ← owner-is, ← sharers-is)

    data_is : (n : OrderNo) → data_for (block_read h) h.request n ≡ data_for B h.request n
    unfolding data_for
    data_is n = rw (giver-is, given-is)

    pub sent-is : (t : Turn) (n : OrderNo) → (upshot_of t).sent (block_read h) h.request n ≡ (upshot_of t).sent B h.request n
    sent-is t n = rw ((by-outcome t).sent (block_read h) h.request n, (by-outcome t).sent B h.request n, data_is n)

    mask-is : (retry : RetryNo) → retry_mask h.cards (block_read h) retry ≡ retry_mask c.cards B retry
    unfolding retry_mask
    mask-is retry = rw (← is.cards, ← owner-is, ← sharers-is)

    retried-is : retried h.cards (block_read h) h.request ≡ retried c.cards B h.request
    unfolding retried
    retried-is = rw mask-is

    pub again-is : (t : Turn) → (upshot_of t).again h.cards (block_read h) h.request ≡ (upshot_of t).again c.cards B h.request
    again-is t = rw ((by-outcome t).again h.cards (block_read h) h.request, (by-outcome t).again c.cards B h.request, retried-is)

    suffices-is : suffices h.cards (block_read h) h.request ≡ suffices c.cards B h.request
    unfolding suffices
    suffices-is = rw (← is.cards, ← owner-is, ← sharers-is)

    pub impossible-is : impossible (block_read h) h.request ≡ impossible B h.request
    unfolding impossible
    impossible-is = rw (asker_read, owner_read, ← is.asker, ← cell-is, ← owner-is)

    -- what comes of the request, by what is read
    pub turn_is : cond (eqb h.request.kind putx) (cond (put_stands h.asker.state) PutTaken PutLapsed)
        (cond (suffices h.cards (block_read h) h.request)
        (cond (eqb h.request.kind gets) (GetsGranted c.edition) GetxGranted)
        (cond (eqb h.request.kind gets) GetsMissed GetxMissed)) ≡ turn c h.request
    unfolding turn
    turn_is = rw (suffices-is, ← is.asker)
