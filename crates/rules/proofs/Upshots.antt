-- What a turn does, said of any turn: each law goes by the six turns once, here, and what rests on it does not.
use Prim.Native.Nat.{ℕ, ◌≤◌}
use native.Mathlib.Omega.{arith}
use mathlib.Core.Bool.{true, false, cond, ◌||◌}
use mathlib.Core.List.{[], ◌∷◌}
use mathlib.Core.Path.{◌≡◌, refl, sym, ◌∙◌, subst}
use mathlib.Core.Logic.{◌≢◌}
use lib.Dec.{eqb}
use borrow.Author.Tests.{eqb-true, eqb-false}
use Rattle.rules.specs.Masks.{has, only, union}
use Rattle.rules.specs.Mask.{suffices}
use Rattle.rules.specs.Numbers.{home, gets, putx, granted, too_small, put_taken, put_lapsed}
use Rattle.rules.specs.Table.{is_reader, put_stands, leaves_sharers, sees_gets, sees_getx}
use Rattle.rules.specs.Chassis.{Block, Chassis, idle, goes}
use Rattle.rules.specs.Order.{
  turn,
  Upshot,
  given,
  data_for,
  granted_cell,
  keeps,
  retried,
  upshot_of,
  sees,
}
use Rattle.rules.specs.declared.Edition.{Edition}
use Rattle.rules.specs.declared.OrderNo.{OrderNo}
use Rattle.rules.specs.declared.Cell.{Cell}
use Rattle.rules.specs.declared.Request.{Request}
use Rattle.rules.specs.declared.Turn.{Turn}
use Rattle.rules.specs.declared.Turn.TheVariants.{
  GetsGranted,
  GetxGranted,
  GetsMissed,
  GetxMissed,
  PutTaken,
  PutLapsed,
}
use Rattle.rules.proofs.Tests.{test, cond_cases, or_l}
use Rattle.rules.proofs.States.{Column, gets-column, getx-column}

-- By its outcome

-- a grant sends the asker for its data; too small a mask leaves it, and has the request again; a put leaves the asker idle
pub record ByOutcome (u : Upshot) : Type 0 where
  pub known : u.outcome ≤ put_lapsed
  pub asker : (n : OrderNo) (x : Cell) → u.asker_sees n x ≡ cond (eqb u.outcome granted) (granted_cell n x) (cond (eqb u.outcome too_small) x idle)
  pub sent : (B : Block) (r : Request) (n : OrderNo) → u.sent B r n ≡ cond (eqb u.outcome granted) (data_for B r n ∷ []) []
  pub again : (cards : ℕ) (B : Block) (r : Request) → u.again cards B r ≡ cond (eqb u.outcome too_small) (retried cards B r ∷ []) []

pub by-outcome : (t : Turn) → ByOutcome (upshot_of t)
unfolding upshot_of
by-outcome (GetsGranted e) = record { known = omega arith; asker = λ n x. refl; sent = λ B r n. refl; again = λ cards B r. refl }
by-outcome GetxGranted = record { known = omega arith; asker = λ n x. refl; sent = λ B r n. refl; again = λ cards B r. refl }
by-outcome GetsMissed = record { known = omega arith; asker = λ n x. refl; sent = λ B r n. refl; again = λ cards B r. refl }
by-outcome GetxMissed = record { known = omega arith; asker = λ n x. refl; sent = λ B r n. refl; again = λ cards B r. refl }
by-outcome PutTaken = record { known = omega arith; asker = λ n x. refl; sent = λ B r n. refl; again = λ cards B r. refl }
by-outcome PutLapsed = record { known = omega arith; asker = λ n x. refl; sent = λ B r n. refl; again = λ cards B r. refl }

-- the outcome of the head's turn
pub turn-outcome : (c : Chassis) (r : Request) → let B = c.block r.block in
    (upshot_of (turn c r)).outcome ≡ cond (eqb r.kind putx) (cond (put_stands (B.cell r.card).state) put_taken put_lapsed)
    (cond (suffices c.cards B r) granted too_small)
unfolding turn upshot_of
turn-outcome c r =
    let B = c.block r.block in
    test (eqb r.kind putx)
    (λ e. test (put_stands (B.cell r.card).state) (λ f. rw (e, f)) (λ f. rw (e, f)))
    (λ e. test (suffices c.cards B r)
    (λ f. test (eqb r.kind gets) (λ g. rw (e, f, g)) (λ g. rw (e, f, g)))
    (λ f. test (eqb r.kind gets) (λ g. rw (e, f, g)) (λ g. rw (e, f, g))))

-- so what is granted is no put, and what is put back had too small a mask
pub grant-no-put : (c : Chassis) (r : Request) → (upshot_of (turn c r)).outcome ≡ granted → eqb r.kind putx ≡ false
grant-no-put c r h = test (eqb r.kind putx)
    (λ e. test (put_stands ((c.block r.block).cell r.card).state)
    (λ s. absurd (let g = rw (e, s) at (sym (turn-outcome c r) ∙ h) in omega arith))
    (λ s. absurd (let g = rw (e, s) at (sym (turn-outcome c r) ∙ h) in omega arith)))
    (λ e. e)

pub miss-too-small : (c : Chassis) (r : Request) → (upshot_of (turn c r)).outcome ≡ too_small → suffices c.cards (c.block r.block) r ≡ false
miss-too-small c r h = test (suffices c.cards (c.block r.block) r)
    (λ f. test (eqb r.kind putx)
    (λ e. test (put_stands ((c.block r.block).cell r.card).state)
    (λ s. absurd (let g = rw (e, s) at (sym (turn-outcome c r) ∙ h) in omega arith))
    (λ s. absurd (let g = rw (e, s) at (sym (turn-outcome c r) ∙ h) in omega arith)))
    (λ e. absurd (let g = rw (e, f) at (sym (turn-outcome c r) ∙ h) in omega arith)))
    (λ f. f)

-- Home's part

-- memory stays, or takes what is given away or put back
pub memory-cases : (P : ℕ → Type 0) (t : Turn) (B : Block) (q : ℕ) → P B.memory → P (given B q) → P (B.cell q).value → P ((upshot_of t).memory B q)
unfolding upshot_of
memory-cases P (GetsGranted e) B q same gives put = gives
memory-cases P GetxGranted B q same gives put = gives
memory-cases P GetsMissed B q same gives put = same
memory-cases P GetxMissed B q same gives put = same
memory-cases P PutTaken B q same gives put = put
memory-cases P PutLapsed B q same gives put = same

-- the owner stays, or becomes home or the asker
pub owner-cases : (P : ℕ → Type 0) (t : Turn) (B : Block) (q : ℕ) → P B.owner → P home → P q → P ((upshot_of t).owner B q)
unfolding upshot_of
owner-cases P (GetsGranted e) B q same back asker = cond_cases P (keeps e B) B.owner home (λ _. same) (λ _. back)
owner-cases P GetxGranted B q same back asker = asker
owner-cases P GetsMissed B q same back asker = same
owner-cases P GetxMissed B q same back asker = same
owner-cases P PutTaken B q same back asker = back
owner-cases P PutLapsed B q same back asker = same

-- the sharers are some of those there were, an owner that is a card, and the asker
pub sharers-cases : (P : ℕ → Type 0) (t : Turn) (B : Block) (q : ℕ) → ((a b : ℕ) → P a → P b → P (union a b)) → P B.sharers → P 0
    → (eqb B.owner home ≡ false → P (only B.owner)) → P (only q) → P ((upshot_of t).sharers B q)
unfolding upshot_of
sharers-cases P (GetsGranted e) B q join same none owner asker = join _ (only q)
    (cond_cases P (eqb B.owner home || keeps e B) B.sharers (only B.owner) (λ _. same)
    (λ h. owner (or_l (eqb B.owner home) (keeps e B) h))) asker
sharers-cases P GetxGranted B q join same none owner asker = none
sharers-cases P GetsMissed B q join same none owner asker = same
sharers-cases P GetxMissed B q join same none owner asker = same
sharers-cases P PutTaken B q join same none owner asker = cond_cases P (leaves_sharers (B.cell q).state) B.sharers 0 (λ _. same) (λ _. none)
sharers-cases P PutLapsed B q join same none owner asker = same

-- The cards' parts

-- a card sees a request: by the part that it has
pub sees-cases : (P : Cell → Type 0) (t : Turn) (B : Block) (r : Request) (n : OrderNo) (k : ℕ)
    → (r.card ≡ k → P ((upshot_of t).asker_sees n (B.cell k)))
    → (r.card ≢ k → B.owner ≡ k → P ((upshot_of t).owner_sees (B.cell k)))
    → (r.card ≢ k → B.owner ≢ k → has r.mask k ≡ true → P ((upshot_of t).reader_sees (B.cell k)))
    → (r.card ≢ k → B.owner ≢ k → has r.mask k ≡ false → P (B.cell k))
    → P (sees t B r n k)
unfolding sees
sees-cases P t B r n k f g h i =
    let q = r.card in
    let o = B.owner in
    let x = B.cell k in
    cond_cases P (eqb q k) ((upshot_of t).asker_sees n x) _ (λ e. f (eqb-true q k e))
    (λ e. cond_cases P (eqb o k) ((upshot_of t).owner_sees x) _ (λ e'. g (eqb-false q k e) (eqb-true o k e'))
    (λ e'. cond_cases P (has r.mask k) ((upshot_of t).reader_sees x) x
    (h (eqb-false q k e) (eqb-false o k e')) (i (eqb-false q k e) (eqb-false o k e'))))

-- a turn in a chassis of edition e
abbrev pub In : Edition → Turn → Type 0
In e (GetsGranted e') = e' ≡ e
In e GetxGranted = Unit {0}
In e GetsMissed = Unit {0}
In e GetxMissed = Unit {0}
In e PutTaken = Unit {0}
In e PutLapsed = Unit {0}

pub turn_in : (c : Chassis) (r : Request) → In c.edition (turn c r)
unfolding turn
turn_in c r =
    let B = c.block r.block in
    let P : Turn → Type 0 = In c.edition in
    cond_cases P (eqb r.kind putx) _ _
    (λ _. cond_cases P (put_stands (B.cell r.card).state) PutTaken PutLapsed (λ _. tt) (λ _. tt))
    (λ _. cond_cases P (suffices c.cards B r) _ _
    (λ _. cond_cases P (eqb r.kind gets) (GetsGranted c.edition) GetxGranted (λ _. refl) (λ _. tt))
    (λ _. cond_cases P (eqb r.kind gets) GetsMissed GetxMissed (λ _. tt) (λ _. tt)))

-- whose request it is not: its cell stays, or goes where a column of the table leads
abbrev Sees : Edition → (Cell → Type 0) → Cell → Cell → Type 0
Sees e P x y = P x → ((f : ℕ → ℕ) → Column e f → P (goes (f x.state) x)) → P y

reads : (e : Edition) (P : Cell → Type 0) (x : Cell) → Sees e P x (cond (is_reader x.state) (goes (sees_getx x.state) x) x)
reads e P x same moves = cond_cases P (is_reader x.state) (goes (sees_getx x.state) x) x (λ _. moves sees_getx (getx-column e)) (λ _. same)

owner-sees : (e : Edition) (P : Cell → Type 0) (t : Turn) → In e t → (x : Cell) → Sees e P x ((upshot_of t).owner_sees x)
unfolding upshot_of
owner-sees e P (GetsGranted e') h x same moves = moves (sees_gets e') (subst (λ e. Column e (sees_gets e')) h (gets-column e'))
owner-sees e P GetxGranted h x same moves = moves sees_getx (getx-column e)
owner-sees e P GetsMissed h x same moves = same
owner-sees e P GetxMissed h x same moves = same
owner-sees e P PutTaken h x same moves = same
owner-sees e P PutLapsed h x same moves = same

reader-sees : (e : Edition) (P : Cell → Type 0) (t : Turn) (x : Cell) → Sees e P x ((upshot_of t).reader_sees x)
unfolding upshot_of
reader-sees e P (GetsGranted e') x same moves = same
reader-sees e P GetxGranted x same moves = reads e P x same moves
reader-sees e P GetsMissed x same moves = same
reader-sees e P GetxMissed x same moves = reads e P x same moves
reader-sees e P PutTaken x same moves = same
reader-sees e P PutLapsed x same moves = same

pub cell-sees : (e : Edition) (P : Cell → Type 0) (t : Turn) → In e t → (B : Block) (r : Request) (n : OrderNo) (k : ℕ)
    → (r.card ≡ k → P ((upshot_of t).asker_sees n (B.cell k))) → Sees e P (B.cell k) (sees t B r n k)
cell-sees e P t h B r n k asker same moves = sees-cases P t B r n k asker
    (λ _ _. owner-sees e P t h (B.cell k) same moves) (λ _ _ _. reader-sees e P t (B.cell k) same moves) (λ _ _ _. same)
