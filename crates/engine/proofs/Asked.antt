-- Ask: each way that it ends.
use Rattle.std.specs.Prelude.{Err, Ok, Some, None, ok_or}
use Prim.Native.Nat.{ℕ, ◌≤◌, ◌<◌}
use native.Mathlib.Omega.{arith}
use mathlib.Core.Bool.{cond, true, false, not, ◌&&◌, ◌||◌}
use mathlib.Core.List.{List, [], ◌∷◌, ◌++◌}
use mathlib.Core.Path.{◌≡◌, refl, sym, ◌∙◌, ap}
use mathlib.Core.Logic.{◌≢◌, inl, inr}
use lib.ListN.{length}
use lib.Dec.{eqb, leb, ltb}
use borrow.Author.Tests.{eq-eqb, ne_eqb, eqb-true, eqb-false, le-leb, lt-leb, ltb-true, ltb-false}
use Rattle.rules.specs.Masks.{inside}
use Rattle.rules.specs.Numbers.{room, first_retry, gets, putx, none}
use Rattle.rules.specs.Table.{leads, asked}
use Rattle.rules.specs.Chassis.{a_request, state_of, goes, cell_changed, line_changed}
use Rattle.rules.specs.Events.{reasons, ask, effect}
use Rattle.rules.specs.declared.Cell.{Cell}
use Rattle.rules.specs.declared.Refusal.{Refusal}
use Rattle.rules.specs.declared.Refusal.TheVariants.{NoSuchKind, StrangerInMask, AskNotAllowed, LineFull}
use Rattle.rules.specs.declared.Event.TheVariants.{Ask}
use Rattle.rules.proofs.Tests.{test}
use Rattle.words.specs.Words.{words, view, cards_of, waiting_of, formed}
use Rattle.words.specs.Inner.Parts.{Does, Becomes, put_cell}
use Rattle.engine.specs.Inner.Sought.{sought}
use Rattle.words.proofs.View.{formed-words, waiting-is, waiting-of}
use Rattle.words.proofs.Changes.{cell-words}
use Rattle.words.proofs.Does.{refused, done}
use Rattle.engine.proofs.Rights.{known}

-- the code's test of a kind
pub kind-test : (kind : ℕ) → (ltb kind gets || ltb putx kind) ≡ not (leb gets kind && leb kind putx)
kind-test kind = test (ltb kind gets)
    (λ p. rw (p, lt-leb gets kind (ltb-true kind gets p)))
    (λ p. rw (p, le-leb gets kind (ltb-false kind gets p)) (test (ltb putx kind)
    (λ q. rw (q, lt-leb kind putx (ltb-true putx kind q)))
    (λ q. rw (q, le-leb kind putx (ltb-false putx kind q)))))

-- where the table has a place for an ask, and where it has none
pub allows : (t to : ℕ) → ok_or (leads t) AskNotAllowed ≡ Ok to → (t ≢ none) × (to ≡ t)
allows t to e = test (eqb t none)
    (λ h. let g : Err AskNotAllowed ≡ Ok to = sym (ap (λ b. ok_or (cond b None (Some t)) AskNotAllowed) h) ∙ e in absurd cc)
    (λ h. let g : Ok t ≡ Ok to = sym (ap (λ b. ok_or (cond b None (Some t)) AskNotAllowed) h) ∙ e in (eqb-false t none h, cc))

pub forbids : (t : ℕ) (x : Refusal) → ok_or (leads t) AskNotAllowed ≡ Err x → (t ≡ none) × (x ≡ AskNotAllowed)
forbids t x e = test (eqb t none)
    (λ h. let g : Err AskNotAllowed ≡ Err x = sym (ap (λ b. ok_or (cond b None (Some t)) AskNotAllowed) h) ∙ e in (eqb-true t none h, cc))
    (λ h. let g : Ok t ≡ Err x = sym (ap (λ b. ok_or (cond b None (Some t)) AskNotAllowed) h) ∙ e in absurd cc)

-- a cell anew leaves the line as it was
pub cell-waiting : (w : List ℕ) → formed w ≡ true → (k b : ℕ) (x y : Cell) → Ok x ≡ sought w k b → (w₁ : List ℕ) → w₁ ≡ put_cell w k b y
    → waiting_of w₁ ≡ waiting_of w
cell-waiting w f k b x y at w₁ e =
    let t = known w f k b x at in
    waiting-of (cell_changed (view w) k b y) w₁ (e ∙ cell-words (view w) w (formed-words w f) k b y t.card< t.block<) ∙ waiting-is w

module _ (w : List ℕ) (f : formed w ≡ true) (k b kind mask : ℕ) (x : Cell) (at : Ok x ≡ sought w k b) where
  pub bad_kind : not (leb gets kind && leb kind putx) ≡ true → Does w (Ask k b kind mask) (Err NoSuchKind) w
  unfolding reasons
  bad_kind h = let t = known w f k b x at in refused w f (Ask k b kind mask) NoSuchKind (inr (t.card, inr (t.block, inl (h, refl))))

  module _ (good : not (leb gets kind && leb kind putx) ≡ false) where
    pub stranger : inside (cards_of w) mask ≡ false → Does w (Ask k b kind mask) (Err StrangerInMask) w
    unfolding reasons view
    stranger h =
        let t = known w f k b x at in
        refused w f (Ask k b kind mask) StrangerInMask
        (inr (t.card, inr (t.block, inr (good, inl (rw h, refl)))))

    module _ (only-there : inside (cards_of w) mask ≡ true) where
      there : not (inside (view w).cards mask) ≡ false
      unfolding view
      there = rw only-there

      asked_is : asked kind (state_of (view w) k b) ≡ asked kind x.state
      asked_is = ap (λ (y : Cell). asked kind y.state) (known w f k b x at).cell

      pub not-allowed : asked kind x.state ≡ none → Does w (Ask k b kind mask) (Err AskNotAllowed) w
      unfolding reasons
      not-allowed h =
          let t = known w f k b x at in
          refused w f (Ask k b kind mask) AskNotAllowed
          (inr (t.card, inr (t.block, inr (good, inr (there, inl (eq-eqb _ none (asked_is ∙ h), refl))))))

      module _ (allowed : asked kind x.state ≢ none) where
        may-ask : eqb (asked kind (state_of (view w) k b)) none ≡ false
        may-ask = ne_eqb _ none (λ e. allowed (sym asked_is ∙ e))

        pub line-full : room ≤ waiting_of w → Does w (Ask k b kind mask) (Err LineFull) w
        unfolding reasons
        line-full h =
            let t = known w f k b x at in
            refused w f (Ask k b kind mask) LineFull (inr (
              t.card,
              inr (
                t.block,
                inr (
                  good,
                  inr (
                    there,
                    inr (
                      may-ask,
                      inl (le-leb room (length (view w).line) (omega (arith, waiting-is w)), refl),
                    ),
                  ),
                ),
              ),
            ))

        pub ask-done : waiting_of w < room → (w₁ w₂ : List ℕ) → w₁ ≡ put_cell w k b (goes (asked kind x.state) x)
            → Becomes w₁ w₂ (λ c. line_changed c (c.line ++ a_request k b kind mask first_retry ∷ [])) → Does w (Ask k b kind mask) (Ok 0) w₂
        unfolding reasons effect ask
        ask-done h w₁ w₂ e g =
            let t = known w f k b x at in
            let y = goes (asked kind x.state) x in
            let c₁ = cell_changed (view w) k b y in
            done w f (Ask k b kind mask) (Ok 0) w₂
            (t.card, (t.block, (good, (there, (may-ask, (lt-leb room (length (view w).line) (omega (arith, waiting-is w)), tt)))))) refl
            (g c₁ (e ∙ cell-words (view w) w (formed-words w f) k b y t.card< t.block<)
            ∙ ap (λ (z : Cell). words (line_changed (cell_changed (view w) k b (goes (asked kind z.state) z))
            ((view w).line ++ a_request k b kind mask first_retry ∷ [])))
            (sym t.cell))
