-- The header's sizes are those of the definitions.
use Rattle.std.specs.Prelude.{Result, Err, Ok}
use Prim.Native.Nat.{ℕ}
use mathlib.Core.List.{List}
use mathlib.Core.Path.{refl, ◌≡◌}
use lib.ListN.{length}
use Rattle.rules.specs.declared.Event.TheVariants.{Load, Store, Drop, Ask, Order, Deliver, Copy, Rejoin}
use Rattle.rules.specs.declared.Refusal.{Refusal}
use Rattle.journal.specs.declared.Record.{Record}
use Rattle.journal.specs.declared.Record.TheVariants.{Opening, Happens}
use Rattle.engine.specs.declared.Seen.{Seen}
use Rattle.engine.specs.declared.run.Ran.{Ran}
use Rattle.engine.specs.declared.run.Ran.TheVariants.{More, Over}
use Rattle.firmware.specs.Fields.{fields}
use Rattle.firmware.specs.Journals.{standing_after}
use Rattle.firmware.specs.Looks.{seen_after}
use Rattle.firmware.specs.Sizes.{header_fields, header_standing, header_seen}
use Rattle.firmware.specs.Claims.{SizesHold}

all_fields : (r : Record) → length (fields r) ≡ header_fields
all_fields (Opening e cards blocks) = refl
all_fields (Happens (Load k b)) = refl
all_fields (Happens (Store k b v)) = refl
all_fields (Happens (Drop k b)) = refl
all_fields (Happens (Ask k b kind mask)) = refl
all_fields (Happens Order) = refl
all_fields (Happens (Deliver i)) = refl
all_fields (Happens (Copy i)) = refl
all_fields (Happens (Rejoin k)) = refl

all_standing : (l : List ℕ) (r : Ran) → length (standing_after l (Ok r)) ≡ header_standing
all_standing l (More q n) = refl
all_standing l (Over q n) = refl

all_seen : (l : List ℕ) → length l ≡ header_seen → (s : Result Seen Refusal) → length (seen_after l s) ≡ header_seen
all_seen l h (Ok (Seen.Counts n)) = refl
all_seen l h (Ok (Seen.Message m)) = refl
all_seen l h (Ok (Seen.Request r)) = refl
all_seen l h (Ok (Seen.Cell x)) = refl
all_seen l h (Ok (Seen.Home o)) = refl
all_seen l h (Err x) = h

pub sizes-hold : SizesHold
sizes-hold = record {
  all_words = refl;
  all_fields = all_fields;
  all_standing = all_standing;
  all_seen = all_seen;
  longest_line = refl;
}
