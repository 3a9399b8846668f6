-- What is proved of the rules. Each claim is proved under its own name, in small letters, in proofs/.
use Rattle.std.specs.Prelude.{Err, Ok, ℕ, ◌≤◌, true, List, ◌≡◌}
use Rattle.rules.specs.Tests.{all_of}
use Rattle.rules.specs.Numbers.{last_number}
use Rattle.rules.specs.Chassis.{Chassis, no_chassis}
use Rattle.rules.specs.Answers.{result}
use Rattle.rules.specs.Formed.{well_formed}
use Rattle.rules.specs.Events.{step, start}
use Rattle.rules.specs.History.{run}
use Rattle.rules.specs.Demand.{Coherent}
use Rattle.rules.specs.Marked.{plays, marked_table, slips}
use Rattle.rules.specs.declared.Refusal.{Refusal}
use Rattle.rules.specs.declared.Refusal.TheVariants.{IllFormed}
use Rattle.rules.specs.declared.Edition.{Edition}
use Rattle.rules.specs.declared.Event.{Event}

-- a contract that says what the answer equals leaves no second one
abbrev pub OneAnswer : Type 1
OneAnswer = (A : Type 0) (d r r' : A) → r ≡ d → r' ≡ d → r ≡ r'

-- M1 to M16
abbrev pub MarkedHold : Type 0
MarkedHold = all_of marked_table (plays no_chassis) ≡ true

-- the slips that M1 to M16 do not show
abbrev pub SlipsHold : Type 0
SlipsHold = all_of slips (plays no_chassis) ≡ true

-- the customer's first demand: "A refused event changes nothing in the chassis"
abbrev pub RefusedKeeps : Type 0
RefusedKeeps = (c : Chassis) (e : Event) (r : Refusal) → (step c e).answer ≡ Err r → (step c e).after ≡ c

-- an accepted Start makes a well formed state
abbrev pub StartFormed : Type 0
StartFormed = (e : Edition) (cards blocks v : ℕ) → (start e cards blocks).answer ≡ Ok v → well_formed (start e cards blocks).after ≡ true

-- a refused Start answers the state of 0 cards and 0 blocks, which every event refuses with 15
abbrev pub RefusedStart : Type 0
RefusedStart = (e : Edition) (cards blocks : ℕ) (r : Refusal) → (start e cards blocks).answer ≡ Err r → ((start e cards blocks).after ≡ no_chassis)
    × ((v : Event) → step no_chassis v ≡ result (Err IllFormed) no_chassis)

-- a well formed state stays well formed under every event
abbrev pub StaysFormed : Type 0
StaysFormed = (c : Chassis) (e : Event) → well_formed c ≡ true → well_formed (step c e).after ≡ true

-- the last order number is "64 bits wide, never set back"
abbrev pub NeverSetBack : Type 0
NeverSetBack = (c : Chassis) (e : Event) → c.last.0 ≤ last_number.0
    → (c.last.0 ≤ (step c e).after.last.0) × ((step c e).after.last.0 ≤ last_number.0)

-- Demand 3, of both editions: "In any sequence of events other than Start from a freshly started chassis"
abbrev pub RulesCoherent : Type 0
RulesCoherent = (e : Edition) (cards blocks v : ℕ) → (start e cards blocks).answer ≡ Ok v
    → (es : List Event) → Coherent (run (start e cards blocks).after es)
