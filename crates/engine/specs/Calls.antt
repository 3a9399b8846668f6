-- Calls in a row: demand 3 and the marked sequences of the functions, by what they promise.
use Rattle.std.specs.Prelude.{Err, Ok, ℕ, true, List, [], ◌∷◌, ◌≡◌, ◌≢◌}
use Rattle.rules.specs.Lists.{All}
use Rattle.rules.specs.Answers.{refusal_of, value_of}
use Rattle.rules.specs.Events.{EventFits}
use Rattle.rules.specs.History.{Did, did}
use Rattle.rules.specs.Demand.{Coherent}
use Rattle.rules.specs.Marked.{Line, starts, ◌gives◌, ◌refused◌, shows, marked_table}
use Rattle.rules.specs.declared.Edition.{Edition}
use Rattle.rules.specs.Answers.{Answer}
use Rattle.rules.specs.declared.Refusal.TheVariants.{Impossible, IllFormed}
use Rattle.rules.specs.declared.Event.{Event}
use Rattle.words.specs.Words.{view}
use Rattle.engine.specs.Promise.{Answers, Starts}

-- Demand 3: events other than Start, one after another, on the words of a freshly started chassis

-- calls in a row, each on the words that the one before left; the log is of what they answered themselves, newest first
pub data Called : List ℕ → List Did → Type 0 where
  started : {w : List ℕ} (e : Edition) (cards blocks v : ℕ) → Starts e cards blocks (Ok v) w → Called w []
  called : {w w' : List ℕ} {log : List Did} (e : Event) (r : Answer)
      → Called w log → EventFits e → Answers w e r w' → Called w' (did (view w) e r ∷ log)

-- what is claimed of them
pub record CallsCoherent (w : List ℕ) (log : List Did) : Type 0 where
  pub coherent : Coherent (record { now = view w; log = log })
  -- 13 and 15 are never answered, whatever is called next
  pub never_13_or_15 : (e : Event) (r : Answer) (w' : List ℕ) → Answers w e r w' → (r ≢ Err Impossible) × (r ≢ Err IllFormed)

abbrev pub CallsAreCoherent : Type 0
CallsAreCoherent = (w : List ℕ) (log : List Did) → Called w log → CallsCoherent w log

-- "Marked sequences": the lines come out so, whatever keeps the promises, from words w

abbrev pub Comes : List ℕ → List Line → Type 0
Comes w [] = Unit {0}
Comes w (starts e cards blocks n ∷ ls) = (r : Answer) (w' : List ℕ) → Starts e cards blocks r w' → (refusal_of r ≡ n) × (value_of r ≡ 0) × Comes w' ls
Comes w (e gives v ∷ ls) = (r : Answer) (w' : List ℕ) → Answers w e r w' → (refusal_of r ≡ 0) × (value_of r ≡ v) × Comes w' ls
Comes w (e refused n ∷ ls) = (r : Answer) (w' : List ℕ) → Answers w e r w' → (refusal_of r ≡ n) × (value_of r ≡ 0) × Comes w' ls
Comes w (shows f ∷ ls) = (f (view w) ≡ true) × Comes w ls

-- the marked sequences, on any words
abbrev pub MarkedCome : Type 0
MarkedCome = (w : List ℕ) → All (Comes w) marked_table
