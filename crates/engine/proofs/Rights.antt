-- Events that name a card and a block: each way that they end, over the event and the right that it asks for.
use Rattle.std.specs.Prelude.{Err, Ok, Result}
use Prim.Native.Nat.{ℕ, ◌<◌}
use native.Mathlib.Omega.{arith}
use mathlib.Core.Bool.{Bool, true, false, not}
use mathlib.Core.List.{List, [], ◌∷◌}
use mathlib.Core.Path.{◌≡◌, refl, sym, ◌∙◌, ap, subst}
use mathlib.Core.Logic.{inl, inr}
use lib.Dec.{leb}
use borrow.Author.Tests.{leb-false}
use Rattle.rules.specs.Numbers.{most_cards, most_blocks}
use Rattle.rules.specs.Table.{loads, stores, drops}
use Rattle.rules.specs.Chassis.{cell_of, state_of, idle, storing, cell_changed}
use Rattle.rules.specs.Answers.{Step, result, Reason, FirstHolds, NoneHolds}
use Rattle.rules.specs.Events.{no_card, no_block, right_reasons, reasons, effect}
use Rattle.rules.specs.declared.Cell.{Cell}
use Rattle.rules.specs.Answers.{Answer}
use Rattle.rules.specs.declared.Refusal.{Refusal}
use Rattle.rules.specs.declared.Refusal.TheVariants.{NoRight}
use Rattle.rules.specs.declared.Event.{Event}
use Rattle.rules.specs.declared.Event.TheVariants.{Load, Store, Drop}
use Rattle.rules.proofs.Tests.{test}
use Rattle.words.specs.Words.{words, view, cards_of, blocks_of, formed}
use Rattle.words.specs.Inner.Parts.{Does, put_cell}
use Rattle.engine.specs.Inner.Sought.{sought}
use Rattle.words.proofs.View.{formed-words, view-cell}
use Rattle.words.proofs.Changes.{cell-words}
use Rattle.words.proofs.Does.{sizes, refused, done}

-- A cell that was looked up

-- what is known of a cell that is there
pub record Known (w : List ℕ) (k b : ℕ) (x : Cell) : Type 0 where
  pub card : (no_card (view w) k).holds ≡ false
  pub block : (no_block (view w) b).holds ≡ false
  pub card< : k < most_cards
  pub block< : b < most_blocks
  pub cell : cell_of (view w) k b ≡ x

-- what a look-up says: a refusal is 1 or 2, and else the cell is known
Named : List ℕ → ℕ → ℕ → List Reason → Result Cell Refusal → Type 0
Named w k b rs (Ok x) = Known w k b x
Named w k b rs (Err x) = FirstHolds (no_card (view w) k ∷ no_block (view w) b ∷ rs) x

says : (w : List ℕ) → formed w ≡ true → (k b : ℕ) (rs : List Reason) → Named w k b rs (sought w k b)
unfolding Named sought view no_card no_block
says w f k b rs = test (leb (cards_of w) k)
    (λ p. rw p (inl (p, refl)))
    (λ p. test (leb (blocks_of w) b)
    (λ q. rw (p, q) (inr (p, inl (q, refl))))
    (λ q. rw (p, q) (
    let s = sizes w f in
    let sc = s.few-cards in
    let sb = s.few-blocks in
    let hk = leb-false (cards_of w) k p in
    let hb = leb-false (blocks_of w) b q in
    let k< : k < most_cards = omega arith in
    let b< : b < most_blocks = omega arith in
    record { card = p; block = q; card< = k<; block< = b<; cell = view-cell w k b k< b< })))

module _ (w : List ℕ) (f : formed w ≡ true) (k b : ℕ) where
  pub known : (x : Cell) → Ok x ≡ sought w k b → Known w k b x
  unfolding Named
  known x e = subst (Named w k b []) (sym e) (says w f k b [])

  pub missing : (e : Event) (rs : List Reason) (x : Refusal) → reasons (view w) e ≡ no_card (view w) k ∷ no_block (view w) b ∷ rs
      → Err x ≡ sought w k b → Does w e (Err x) w
  unfolding Named
  missing e rs x is h = refused w f e x (subst (λ l. FirstHolds l x) (sym is) (subst (Named w k b rs) (sym h) (says w f k b rs)))

-- An event that asks for a right

module _ (w : List ℕ) (f : formed w ≡ true) (e : Event) (k b : ℕ) (right : ℕ → Bool)
    (is : reasons (view w) e ≡ right_reasons (view w) k b right) (x : Cell) (at : Ok x ≡ sought w k b) where
  state-is : state_of (view w) k b ≡ x.state
  state-is = ap (λ (y : Cell). y.state) (known w f k b x at).cell

  pub no-right : right x.state ≡ false → Does w e (Err NoRight) w
  unfolding right_reasons
  no-right h =
      let t = known w f k b x at in
      refused w f e NoRight (subst (λ rs. FirstHolds rs NoRight) (sym is)
      (inr (t.card, inr (t.block, inl (ap (λ s. not (right s)) state-is ∙ rw h, refl)))))

  pub with-right : right x.state ≡ true → (r : Answer) (w' : List ℕ) → r ≡ (effect (view w) e).answer
      → w' ≡ words (effect (view w) e).after → Does w e r w'
  unfolding right_reasons
  with-right h r w' a g =
      let t = known w f k b x at in
      done w f e r w' (subst NoneHolds (sym is) (t.card, (t.block, (ap (λ s. not (right s)) state-is ∙ rw h, tt)))) a g

-- Load, Store and Drop

module _ (w : List ℕ) (f : formed w ≡ true) (k b : ℕ) (x : Cell) (at : Ok x ≡ sought w k b) where
  pub load-done : loads x.state ≡ true → Does w (Load k b) (Ok x.value) w
  unfolding reasons effect
  load-done h = with-right w f (Load k b) k b loads refl x at h (Ok x.value) w
      (ap (λ (y : Cell). Ok y.value) (sym (known w f k b x at).cell)) (formed-words w f)

  -- a cell anew
  cell-done : (e : Event) (right : ℕ → Bool) → reasons (view w) e ≡ right_reasons (view w) k b right → right x.state ≡ true
      → (y : Cell) → effect (view w) e ≡ result (Ok 0) (cell_changed (view w) k b y) → (w' : List ℕ) → w' ≡ put_cell w k b y → Does w e (Ok 0) w'
  cell-done e right is h y o w' g =
      let t = known w f k b x at in
      with-right w f e k b right is x at h (Ok 0) w' (sym (ap (λ (o : Step). o.answer) o))
      (g ∙ cell-words (view w) w (formed-words w f) k b y t.card< t.block< ∙ sym (ap (λ (o : Step). words o.after) o))

  pub store-done : (v : ℕ) → stores x.state ≡ true → (w' : List ℕ) → w' ≡ put_cell w k b (storing v x) → Does w (Store k b v) (Ok 0) w'
  unfolding reasons effect
  store-done v h w' g = cell-done (Store k b v) stores refl h (storing v x)
      (ap (λ (y : Cell). result (Ok 0) (cell_changed (view w) k b (storing v y))) (known w f k b x at).cell) w' g

  pub drop-done : drops x.state ≡ true → (w' : List ℕ) → w' ≡ put_cell w k b idle → Does w (Drop k b) (Ok 0) w'
  unfolding reasons effect
  drop-done h w' g = cell-done (Drop k b) drops refl h idle refl w' g
