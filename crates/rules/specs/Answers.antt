-- "Numbers the engine says no with": the paper's refusal number and value for each answer.
use Rattle.std.specs.Prelude.{Err, Ok, ℕ, Bool, true, false, cond, List, [], ◌∷◌, ◌≡◌, ◌⊎◌, Result}
use Rattle.rules.specs.Chassis.{Chassis}
use Rattle.rules.specs.declared.Refusal.{Refusal}
use Rattle.rules.specs.declared.Refusal.TheVariants.{
  NoSuchCard,
  NoSuchBlock,
  NoRight,
  AskNotAllowed,
  NoSuchKind,
  StrangerInMask,
  LineFull,
  LineEmpty,
  BlockHeld,
  PoolFull,
  NoSuchMessage,
  NumbersSpent,
  Impossible,
  NoSuchSize,
  IllFormed,
}

-- the number of each refusal in the paper's list
abbrev pub refusal_no : Refusal → ℕ
refusal_no NoSuchCard = 1
refusal_no NoSuchBlock = 2
refusal_no NoRight = 3
refusal_no AskNotAllowed = 4
refusal_no NoSuchKind = 5
refusal_no StrangerInMask = 6
refusal_no LineFull = 7
refusal_no LineEmpty = 8
refusal_no BlockHeld = 9
refusal_no PoolFull = 10
refusal_no NoSuchMessage = 11
refusal_no NumbersSpent = 12
refusal_no Impossible = 13
refusal_no NoSuchSize = 14
refusal_no IllFormed = 15

-- what an event answers: a value, or a refusal
abbrev pub Answer : Type 0
Answer = Result ℕ Refusal

-- "the refusal or 0"
abbrev pub refusal_of : Answer → ℕ
refusal_of (Ok v) = 0
refusal_of (Err r) = refusal_no r

-- "the value (a load's, an outcome, else 0)"; "An engine refusal answers value 0"
abbrev pub value_of : Answer → ℕ
value_of (Ok v) = v
value_of (Err r) = 0

-- an event's answer, and the chassis after it
pub record Step : Type 0 where
  pub answer : Answer
  pub after : Chassis

abbrev pub result : Answer → Chassis → Step
result a c = record { answer = a; after = c }

-- a refusal, and when it is given
pub record Reason : Type 0 where
  pub why : Refusal
  pub holds : Bool

infix 10 ◌if◌
abbrev pub ◌if◌ : Refusal → Bool → Reason
r if t = record { why = r; holds = t }

-- the first reason that holds refuses "and keeps the state"; where none does, the event is done
unfoldable pub refused_by : Chassis → List Reason → Step → Step
refused_by c [] done = done
refused_by c (r ∷ rs) done = cond r.holds (result (Err r.why) c) (refused_by c rs done)

-- x is the first of the reasons that hold; none of them holds
abbrev pub FirstHolds : List Reason → Refusal → Type 0
FirstHolds [] x = ⊥
FirstHolds (r ∷ rs) x = ((r.holds ≡ true) × (r.why ≡ x)) ⊎ ((r.holds ≡ false) × FirstHolds rs x)

abbrev pub NoneHolds : List Reason → Type 0
NoneHolds [] = Unit {0}
NoneHolds (r ∷ rs) = (r.holds ≡ false) × NoneHolds rs
