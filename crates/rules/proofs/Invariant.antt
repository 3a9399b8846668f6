-- What holds in every state of a run from Start.
use Prim.Native.Nat.{ℕ, ◌≤◌, ◌<◌}
use mathlib.Core.Bool.{Bool, true, false}
use mathlib.Core.List.{List, [], ◌∷◌}
use mathlib.Core.Path.{◌≡◌}
use mathlib.Core.Logic.{◌≢◌}
use lib.Dec.{eqb}
use Rattle.rules.specs.Tests.{one_of}
use Rattle.rules.specs.Lists.{All}
use Rattle.rules.specs.Masks.{has}
use Rattle.rules.specs.Numbers.{
  home,
  I,
  S,
  M,
  SM_AD,
  IS_D,
  IM_D,
  SM_D,
  MI_A,
  O,
  OM_AD,
  OI_A,
  states,
}
use Rattle.rules.specs.Table.{stores, comes_from}
use Rattle.rules.specs.Chassis.{Block, Chassis}
use Rattle.rules.specs.Events.{live}
use Rattle.rules.specs.History.{Did}
use Rattle.rules.specs.declared.OrderNo.{OrderNo}
use Rattle.rules.specs.declared.Cell.{Cell}
use Rattle.rules.specs.declared.Request.{Request}
use Rattle.rules.specs.declared.Message.{Message}
use Rattle.rules.proofs.Board.{Write, pending, base, pick, here}

-- Four more sets of states, for the proof

-- home lists the card as the owner
unfoldable pub owns : ℕ → Bool
unfolding one_of
owns s = one_of (M ∷ IM_D ∷ SM_D ∷ MI_A ∷ O ∷ OM_AD ∷ OI_A ∷ []) s

-- it is an owner beside which nobody shares
unfoldable pub sole : ℕ → Bool
unfolding one_of
sole s = one_of (M ∷ IM_D ∷ SM_D ∷ MI_A ∷ []) s

-- home lists the card among the sharers
unfoldable pub shares : ℕ → Bool
unfolding one_of
shares s = one_of (S ∷ SM_AD ∷ IS_D ∷ []) s

-- the value is memory's
unfoldable pub copies : ℕ → Bool
unfolding one_of
copies s = one_of (S ∷ SM_AD ∷ SM_D ∷ O ∷ OM_AD ∷ OI_A ∷ []) s

-- cell x of card k beside home's part of a block; current is the value that a load must return
pub record CellOk (cards owner sharers memory current k : ℕ) (x : Cell) : Type 0 where
  pub code : x.state < states
  pub inside : eqb x.state I ≡ false → k < cards
  pub owned : owns x.state ≡ true → owner ≡ k
  pub shared : shares x.state ≡ true → has sharers k ≡ true
  pub copied : copies x.state ≡ true → x.value ≡ memory
  pub written : stores x.state ≡ true → x.value ≡ current

-- block B, where ws are the stores that wait to be settled, newest first, and d the value at the last settling
pub record BlockOk (cards : ℕ) (B : Block) (ws : List Write) (d : ℕ) : Type 0 where
  pub cells : (k : ℕ) → CellOk cards B.owner B.sharers B.memory (pick here ws d) k (B.cell k)
  pub owner-ok : B.owner ≢ home → owns (B.cell B.owner).state ≡ true
  pub beside : (k : ℕ) → shares (B.cell k).state ≡ true → sole (B.cell B.owner).state ≡ false
  pub writes : All (λ w. stores (B.cell w.card).state ≡ true) ws
  pub memory-is : B.memory ≡ d

-- a message that is still awaited carries memory's value; none has a number not yet given
pub record MessageOk (last : OrderNo) (B : Block) (m : Message) : Type 0 where
  pub given : m.number.0 ≤ last.0
  pub carries : live B m ≡ true → m.value ≡ B.memory

-- a request's card is in a state that waits for it
abbrev pub RequestOk : Block → Request → Type 0
RequestOk B r = comes_from r.kind (B.cell r.card).state ≡ true

-- no request of card k for block b
abbrev pub Other : ℕ → ℕ → Request → Type 0
Other k b r = r.card ≡ k → r.block ≡ b → ⊥

-- no two requests of one card for one block
abbrev pub Distinct : List Request → Type 0
Distinct [] = Unit {0}
Distinct (r ∷ rs) = All (Other r.card r.block) rs × Distinct rs

pub record Inv (c : Chassis) (log : List Did) : Type 0 where
  pub few : c.cards ≤ home
  pub blocks-ok : (b : ℕ) → BlockOk c.cards (c.block b) (pending b log) (base b log)
  pub messages : All (λ m. MessageOk c.last (c.block m.block) m) c.pool
  pub requests : All (λ r. RequestOk (c.block r.block) r) c.line
  pub distinct : Distinct c.line
