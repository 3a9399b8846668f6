-- One block under the invariant: who may load and store it, and which value is the current one.
use Prim.Native.Nat.{ℕ, ◌≤◌}
use native.Mathlib.Omega.{arith}
use mathlib.Core.Bool.{Bool, true, false, not, ◌&&◌}
use mathlib.Core.List.{List}
use mathlib.Core.Path.{◌≡◌, refl, sym, ◌∙◌, ap, subst}
use mathlib.Core.Logic.{◌≢◌}
use lib.Dec.{eqb}
use borrow.Author.Tests.{eqb-true, eqb-false, eq-eqb, ne_eqb}
use Rattle.rules.specs.Numbers.{home, I, putx}
use Rattle.rules.specs.Table.{loads, stores, waits, can_give, comes_from}
use Rattle.rules.specs.Chassis.{Block}
use Rattle.rules.specs.Order.{held, impossible, giver, given}
use Rattle.rules.specs.declared.Request.{Request}
use Rattle.rules.proofs.Tests.{clash, test, false-if, →any, some-false}
use Rattle.rules.proofs.Board.{Write, pick, here}
use Rattle.rules.proofs.Invariant.{owns, sole, shares, copies, BlockOk}
use Rattle.rules.proofs.States.{state, Calm, idle-calm, asking}
use Rattle.rules.proofs.Blocks.{stores-own, one-owner, no_writes}

module _ {cards : ℕ} {B : Block} {ws : List Write} {d : ℕ} (ok : BlockOk cards B ws d) (few : cards ≤ home) where
  -- a card that is not idle is not home
  pub there : (k : ℕ) → eqb (B.cell k).state I ≡ false → k ≢ home
  there k p e = let l = (ok.cells k).inside p in omega arith

  owner-there : (k : ℕ) → owns (B.cell k).state ≡ true → B.owner ≢ home
  owner-there k p e = there k ((state (B.cell k).state (ok.cells k).code).owns-there p) (sym ((ok.cells k).owned p) ∙ e)

  -- beside a sole owner nobody shares
  pub owner-alone : (j k : ℕ) → sole (B.cell j).state ≡ true → shares (B.cell k).state ≡ true → ⊥
  owner-alone j k p q =
      let is = (ok.cells j).owned ((state (B.cell j).state (ok.cells j).code).sole-owns p) in
      clash p (subst (λ i. sole (B.cell i).state ≡ false) is (ok.beside k q))

  -- a card that does not own is not the owner
  pub not-owner : (q : ℕ) → eqb (B.cell q).state I ≡ false → owns (B.cell q).state ≡ false → B.owner ≢ q
  not-owner q p h e = clash (rw e at (ok.owner-ok (λ f. there q p (sym e ∙ f)))) h

  -- beside a card that may store, no other may load
  pub loader-only : (j k : ℕ) → stores (B.cell j).state ≡ true → loads (B.cell k).state ≡ true → j ≡ k
  loader-only j k p q =
      let s = state (B.cell k).state (ok.cells k).code in
      let alone = (state (B.cell j).state (ok.cells j).code).stores-sole p in
      test (owns (B.cell k).state) (λ g. one-owner ok j k (stores-own ok j p) g)
      (λ g. absurd (owner-alone j k alone (s.copies-shares (s.loads-copies q (false-if (λ h. clash (s.stores-owns h) g))) g)))

  -- what a card loads is the current value
  pub load-current : (k : ℕ) → loads (B.cell k).state ≡ true → (B.cell k).value ≡ pick here ws d
  load-current k h = test (stores (B.cell k).state) (λ g. (ok.cells k).written g)
      (λ g. (ok.cells k).copied ((state (B.cell k).state (ok.cells k).code).loads-copies h g)
      ∙ ok.memory-is ∙ sym (no_writes ok (λ j. false-if (λ p. clash (rw (loader-only j k p h) at p) g))))

  -- where the owner may not store, nobody may, and memory's value is the current one
  memory-current : stores (B.cell B.owner).state ≡ false → B.memory ≡ pick here ws d
  memory-current h = ok.memory-is ∙ sym (no_writes ok (λ k. false-if (λ q.
      clash q (subst (λ i. stores (B.cell i).state ≡ false) ((ok.cells k).owned (stores-own ok k q)) h))))

  home-stores-not : B.owner ≡ home → stores (B.cell B.owner).state ≡ false
  home-stores-not e = false-if (λ q. owner-there B.owner (stores-own ok B.owner q) e)

  -- a block that is not held has no data on its way
  pub held-not : held cards B ≡ false → (k : ℕ) → waits (B.cell k).state ≡ false
  unfolding held
  held-not h k = test (eqb (B.cell k).state I)
      (λ e. rw (eqb-true (B.cell k).state I e) idle-calm.waits-not)
      (λ e. some-false cards (λ k. waits (B.cell k).state) h k ((ok.cells k).inside e))

  module _ (free : (k : ℕ) → waits (B.cell k).state ≡ false) where
    pub owner-gives : B.owner ≢ home → can_give (B.cell B.owner).state ≡ true
    owner-gives n = (state (B.cell B.owner).state (ok.cells B.owner).code).owns-gives (ok.owner-ok n) (free B.owner)

    -- an owner in a state of its own is a card
    pub owner-card : (j : ℕ) → B.owner ≡ j → eqb (B.cell j).state I ≡ false → can_give (B.cell j).state ≡ true
    owner-card j e p = subst (λ i. can_give (B.cell i).state ≡ true) e (owner-gives (λ f. there j p (sym e ∙ f)))

    -- a card that neither owns nor shares is calm
    pub calm-here : (j : ℕ) → (owns (B.cell j).state ≡ true → ⊥) → (shares (B.cell j).state ≡ true → ⊥) → Calm (B.cell j).state
    calm-here j p q = record {
      code = (ok.cells j).code;
      owns_not = false-if p;
      shares-not = false-if q;
      waits-not = free j;
    }

    -- what is given away

    given-cases : (P : ℕ → Type 0) (q : ℕ) → (B.owner ≡ q → P B.memory) → (B.owner ≡ home → P B.memory)
        → (B.owner ≢ q → B.owner ≢ home → P (B.cell B.owner).value) → P (given B q)
    unfolding given giver
    given-cases P q own none card =
        let o = B.owner in
        test (eqb o q) (λ e. rw e (own (eqb-true o q e)))
        (λ e. rw e (test (eqb o home) (λ h. rw h (none (eqb-true o home h)))
        (λ h. rw h (card (eqb-false o q e) (eqb-false o home h)))))

    -- an owner that may not store has memory's value
    owner-copies : B.owner ≢ home → stores (B.cell B.owner).state ≡ false → (B.cell B.owner).value ≡ B.memory
    owner-copies n h = (ok.cells B.owner).copied
        ((state (B.cell B.owner).state (ok.cells B.owner).code).gives-copies (owner-gives n) h)

    -- what is given beside a sharer is memory's value
    pub given-beside : (q j : ℕ) → shares (B.cell j).state ≡ true → given B q ≡ B.memory
    given-beside q j p = given-cases (λ v. v ≡ B.memory) q (λ _. refl) (λ _. refl) (λ _ n. owner-copies n (false-if (λ h.
        clash ((state (B.cell B.owner).state (ok.cells B.owner).code).stores-sole h) (ok.beside j p))))

    -- and so is what is given to a card that has that value
    pub given-copied : (q : ℕ) → copies (B.cell q).state ≡ true → given B q ≡ B.memory
    given-copied q p = test (owns (B.cell q).state)
        (λ h. given-cases (λ v. v ≡ B.memory) q (λ _. refl) (λ _. refl) (λ n _. absurd (n ((ok.cells q).owned h))))
        (λ h. given-beside q q ((state (B.cell q).state (ok.cells q).code).copies-shares p h))

    -- another's owner gives its own value
    pub given-owner : (q j : ℕ) → q ≢ j → B.owner ≡ j → eqb (B.cell j).state I ≡ false → given B q ≡ (B.cell j).value
    given-owner q j ne e p = given-cases (λ v. v ≡ (B.cell j).value) q
        (λ f. absurd (ne (sym f ∙ e))) (λ f. absurd (there j p (sym e ∙ f))) (λ _ _. ap (λ i. (B.cell i).value) e)

    -- what is given to a card that may not store itself is the current value
    pub given-current : (q : ℕ) → stores (B.cell q).state ≡ false → given B q ≡ pick here ws d
    given-current q h = given-cases (λ v. v ≡ pick here ws d) q
        (λ e. memory-current (subst (λ i. stores (B.cell i).state ≡ false) (sym e) h))
        (λ e. memory-current (home-stores-not e))
        (λ _ n. test (stores (B.cell B.owner).state) (λ s. (ok.cells B.owner).written s)
        (λ s. owner-copies n s ∙ memory-current s))

    -- refusal 13 has no cause: a request that comes from a right state is the owner's only where it is an upgrade or a put that stands
    pub possible : (r : Request) → comes_from r.kind (B.cell r.card).state ≡ true → impossible B r ≡ false
    unfolding impossible
    possible r w =
        let q = r.card in
        let s = (B.cell q).state in
        let o = B.owner in
        let isPut = eqb r.kind putx in
        let a = asking r.kind s (ok.cells q).code w in
        let agree : eqb o q ≡ owns s = test (owns s)
        (λ p. rw p (eq-eqb o q ((ok.cells q).owned p)))
        (λ p. rw p (ne_eqb o q (not-owner q a.there p))) in
        →any _ (
          rw w,
          (
            test isPut (λ e. rw e) (λ e. rw (a.upgrade-owns e, agree) (nor (not isPut) (owns s))),
            (
              test isPut (λ e. rw e) (λ e. rw (a.upgrade-owns e, agree) (never (not isPut) (owns s))),
              (
                test isPut (λ e. rw e) (λ e. test (eqb o home) (λ f. rw (e, f)) (λ f. rw (e, f, owner-gives (eqb-false o home f)))),
                (
                  test isPut (λ e. rw (a.put-owns e, agree) (never isPut (owns s))) (λ e. rw e),
                  (test isPut (λ e. rw (a.put-owns e, agree) (nor isPut (owns s))) (λ e. rw e), tt),
                ),
              ),
            ),
          ),
        )
      where
        never : (p o : Bool) → (p && o && not o) ≡ false
        never true true = refl
        never true false = refl
        never false o = refl

        nor : (p o : Bool) → (p && not o && o) ≡ false
        nor true true = refl
        nor true false = refl
        nor false o = refl
