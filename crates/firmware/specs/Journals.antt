-- What reading a record, writing one and running over a journal answer in numbers, and what they leave in what is lent.
use Rattle.std.specs.Prelude.{Result, Err, None, Ok, Some, ℕ, ◌*◌, List, [], ◌∷◌, ◌≡◌, get_or}
use Rattle.rules.specs.Answers.{refusal_no}
use Rattle.rules.specs.declared.Refusal.{Refusal}
use Rattle.journal.specs.Records.{bytes_of}
use Rattle.journal.specs.Reading.{Found, damage_no, place_after, read_at}
use Rattle.journal.specs.Writing.{Written, written_no, place_written, Puts}
use Rattle.journal.specs.declared.Damage.{Damage}
use Rattle.journal.specs.declared.Record.{Record}
use Rattle.engine.specs.Running.{Runs}
use Rattle.engine.specs.declared.run.Reached.{Reached}
use Rattle.engine.specs.declared.run.Ran.{Ran}
use Rattle.engine.specs.declared.run.Ran.TheVariants.{More, Over}
use Rattle.firmware.specs.Halves.{half}
use Rattle.firmware.specs.Fields.{fields}

-- Reading

-- 1 for a record, 0 for the end, or the refusal
abbrev pub found_number : Found → ℕ
found_number (Ok (Some (one, next))) = 1
found_number (Ok None) = 0
found_number (Err d) = damage_no d * half

-- the fields of a record; else they stay
abbrev pub fields_after : List ℕ → Found → List ℕ
fields_after l (Ok (Some (one, next))) = fields one
fields_after l (Ok None) = l
fields_after l (Err d) = l

-- place and fields l before, place' and l' after reading at a place of a journal, which answers n
pub record Reads (journal : List ℕ) (place : ℕ) (l : List ℕ) (n place' : ℕ) (l' : List ℕ) : Type 0 where
  pub answer : n ≡ found_number (read_at journal place)
  pub after : place' ≡ place_after place (read_at journal place)
  pub fields_after : l' ≡ fields_after l (read_at journal place)

-- Writing

-- buffer and place before and after writing what was named, which answers n: the refusal, where nothing was
abbrev pub Writes : List ℕ → ℕ → Result Record Damage → ℕ → List ℕ → ℕ → Type 0
Writes buffer place (Ok one) n buffer' place' = (r : Written) × Puts buffer place (bytes_of one) r buffer'
    × (n ≡ written_no r * half) × (place' ≡ place_written place r)
Writes buffer place (Err d) n buffer' place' = (n ≡ damage_no d * half) × (buffer' ≡ buffer) × (place' ≡ place)

-- Running

-- where a run stands: the number and the place of the next record
abbrev pub reached_in : List ℕ → Reached
reached_in l = record { number = get_or l 0 0; place = get_or l 1 0 }

-- 1 where there may be more, 0 where the run is over, or the refusal
abbrev pub ran_number : Result Ran Refusal → ℕ
ran_number (Ok (More q n)) = 1
ran_number (Ok (Over q n)) = 0
ran_number (Err x) = refusal_no x * half

-- the number and the place of the next record, or of the one that ended the run, and how many bytes of text were written
abbrev pub standing_of : Ran → List ℕ
standing_of (More q n) = q.number ∷ q.place ∷ n ∷ []
standing_of (Over q n) = q.number ∷ q.place ∷ n ∷ []

-- a refusal keeps all three
abbrev pub standing_after : List ℕ → Result Ran Refusal → List ℕ
standing_after l (Ok r) = standing_of r
standing_after l (Err x) = l

-- words w, standing l and text t before, w', l' and t' after a piece of a run over a journal that answers n
pub record RunSays (w journal l t : List ℕ) (n : ℕ) (w' l' t' : List ℕ) : Type 0 where
  pub ran : Result Ran Refusal
  pub kept : Runs w journal (reached_in l) t ran w' t'
  pub told : n ≡ ran_number ran
  pub stands : l' ≡ standing_after l ran
