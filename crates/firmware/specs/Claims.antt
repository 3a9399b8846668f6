-- What is proved of the exports. Each claim is proved under its own name, in small letters, in proofs/.
use Rattle.std.specs.Prelude.{Result, Err, Ok, ℕ, ◌/◌, ◌%◌, ◌<◌, List, ◌≡◌, ◌≢◌, length, get_or}
use Rattle.rules.specs.Numbers.{edition_no}
use Rattle.rules.specs.Chassis.{no_chassis}
use Rattle.rules.specs.Answers.{refusal_of, value_of, result}
use Rattle.rules.specs.Events.{start}
use Rattle.rules.specs.declared.Edition.{Edition}
use Rattle.rules.specs.Answers.{Answer}
use Rattle.rules.specs.declared.Refusal.{Refusal}
use Rattle.rules.specs.declared.Refusal.TheVariants.{NoSuchSize}
use Rattle.rules.specs.declared.Event.{Event}
use Rattle.journal.specs.Text.{most_line}
use Rattle.journal.specs.declared.Damage.{Damage}
use Rattle.journal.specs.declared.Record.{Record}
use Rattle.words.specs.Layout.{all_words}
use Rattle.engine.specs.Promise.{Answers}
use Rattle.engine.specs.Looking.{Look}
use Rattle.engine.specs.declared.Seen.{Seen}
use Rattle.engine.specs.declared.run.Ran.{Ran}
use Rattle.firmware.specs.Halves.{half, one_number, Says}
use Rattle.firmware.specs.Editions.{start_byte, StartsByte}
use Rattle.firmware.specs.Fields.{fields, named}
use Rattle.firmware.specs.Journals.{standing_after, Reads, Writes, RunSays}
use Rattle.firmware.specs.Looks.{seen_after, Shows}
use Rattle.firmware.specs.Sizes.{header_words, header_fields, header_standing, header_seen, header_line}

-- Numbers

-- the upper half of an answer's number is the refusal and the lower the value, where the value is below a half
abbrev pub HalvesTell : Type 0
HalvesTell = (r : Answer) → value_of r < half → (one_number r / half ≡ refusal_of r) × (one_number r % half ≡ value_of r)

-- and so it is
pub record ValuesFit : Type 0 where
  pub start : (e cards blocks : ℕ) (r : Answer) (w' : List ℕ) → StartsByte e cards blocks r w' → value_of r < half
  pub event : (w : List ℕ) (e : Event) (r : Answer) (w' : List ℕ) → Answers w e r w' → value_of r < half

-- a byte that is an edition's number starts a chassis of it; any other is 14, and makes none
pub record ByteStarts : Type 0 where
  pub edition : (i : Edition) (cards blocks : ℕ) → start_byte (edition_no i) cards blocks ≡ start i cards blocks
  pub no_edition : (e cards blocks : ℕ) → ((i : Edition) → e ≢ edition_no i) → start_byte e cards blocks ≡ result (Err NoSuchSize) no_chassis

-- the numbers of a record name it again, each in its place
abbrev pub FieldsName : Type 0
FieldsName = (r : Record) → let l = fields r in
    named (get_or l 0 0) (get_or l 1 0) (get_or l 2 0) (get_or l 3 0) (get_or l 4 0) (get_or l 5 0) (get_or l 6 0) ≡ Ok r

-- the header's sizes are those of what is lent
pub record SizesHold : Type 0 where
  pub all_words : all_words ≡ header_words
  pub all_fields : (r : Record) → length (fields r) ≡ header_fields
  pub all_standing : (l : List ℕ) (r : Ran) → length (standing_after l (Ok r)) ≡ header_standing
  pub all_seen : (l : List ℕ) → length l ≡ header_seen → (s : Result Seen Refusal) → length (seen_after l s) ≡ header_seen
  pub longest_line : most_line ≡ header_line

-- No second number, and no second content of anything lent, keeps an export's promise

abbrev pub StartSaysUnique : Type 0
StartSaysUnique = (e cards blocks n m : ℕ) (w₁ w₂ : List ℕ) → Says (λ r. StartsByte e cards blocks r w₁) n → Says (λ r. StartsByte e cards blocks r w₂) m
    → (n ≡ m) × (w₁ ≡ w₂)

abbrev pub EventSaysUnique : Type 0
EventSaysUnique = (w : List ℕ) (e : Event) (n m : ℕ) (w₁ w₂ : List ℕ) → Says (λ r. Answers w e r w₁) n → Says (λ r. Answers w e r w₂) m
    → (n ≡ m) × (w₁ ≡ w₂)

abbrev pub ReadsUnique : Type 0
ReadsUnique = (journal : List ℕ) (place : ℕ) (l : List ℕ) (n m p₁ p₂ : ℕ) (l₁ l₂ : List ℕ) → Reads journal place l n p₁ l₁ → Reads journal place l m p₂ l₂
    → (n ≡ m) × (p₁ ≡ p₂) × (l₁ ≡ l₂)

abbrev pub WritesUnique : Type 0
WritesUnique = (buffer : List ℕ) (place : ℕ) (x : Result Record Damage) (n m : ℕ) (b₁ b₂ : List ℕ) (p₁ p₂ : ℕ) → Writes buffer place x n b₁ p₁ → Writes buffer place x m b₂ p₂
    → (n ≡ m) × (b₁ ≡ b₂) × (p₁ ≡ p₂)

abbrev pub RunSaysUnique : Type 0
RunSaysUnique = (w journal l t : List ℕ) (n m : ℕ) (w₁ w₂ l₁ l₂ t₁ t₂ : List ℕ) → RunSays w journal l t n w₁ l₁ t₁ → RunSays w journal l t m w₂ l₂ t₂
    → (n ≡ m) × (w₁ ≡ w₂) × (l₁ ≡ l₂) × (t₁ ≡ t₂)

abbrev pub ShowsUnique : Type 0
ShowsUnique = (w : List ℕ) (q : Look) (l : List ℕ) (n m : ℕ) (l₁ l₂ : List ℕ) → Shows w q l n l₁ → Shows w q l m l₂ → (n ≡ m) × (l₁ ≡ l₂)
