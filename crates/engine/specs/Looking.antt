-- What can be looked at in a chassis, and what is seen. A look changes nothing: the state is lent to be read only.
use Rattle.std.specs.Prelude.{Result, Err, Ok, ℕ, cond, List, [], ◌∷◌, length, get_or, leb}
use Rattle.rules.specs.Chassis.{Block, Chassis, cell_of, message_of, unused_request}
use Rattle.rules.specs.Answers.{Reason, ◌if◌}
use Rattle.rules.specs.Events.{no_card, no_block, no_message}
use Rattle.rules.specs.declared.Home.{Home}
use Rattle.rules.specs.declared.Refusal.{Refusal}
use Rattle.rules.specs.declared.Refusal.TheVariants.{NoSuchMessage, IllFormed}
use Rattle.words.specs.Words.{view, formed}
use Rattle.engine.specs.declared.Counts.{Counts}
use Rattle.engine.specs.declared.Seen.{Seen}

-- the edition and the counts; a message of the pool and a request of the line, by position; a card's cell; home's part of a block
pub data Look : Type 0 where
  counts : Look
  message request : ℕ → Look
  cell : ℕ → ℕ → Look
  home : ℕ → Look

-- 1 and 2 where there is no such card or block, 11 where the position is not below the pool's count, or the line's
abbrev pub look_reasons : Chassis → Look → List Reason
look_reasons c counts = []
look_reasons c (message i) = no_message c i ∷ []
look_reasons c (request i) = (NoSuchMessage if leb (length c.line) i) ∷ []
look_reasons c (cell k b) = no_card c k ∷ no_block c b ∷ []
look_reasons c (home b) = no_block c b ∷ []

abbrev pub counts_of : Chassis → Counts
counts_of c = record {
  edition = c.edition;
  cards = c.cards;
  blocks = c.blocks;
  waiting = length c.line;
  pooled = length c.pool;
  last = c.last;
}

abbrev pub home_of : Block → Home
home_of B = record { memory = B.memory; owner = B.owner; sharers = B.sharers }

-- what there is to see
abbrev pub shown : Chassis → Look → Seen
shown c counts = Seen.Counts (counts_of c)
shown c (message i) = Seen.Message (message_of c i)
shown c (request i) = Seen.Request (get_or c.line i unused_request)
shown c (cell k b) = Seen.Cell (cell_of c k b)
shown c (home b) = Seen.Home (home_of (c.block b))

-- the first reason that holds refuses
unfoldable pub unless : List Reason → Seen → Result Seen Refusal
unless [] s = Ok s
unless (r ∷ rs) s = cond r.holds (Err r.why) (unless rs s)

-- what is seen on words: 15 first
unfoldable pub looks : List ℕ → Look → Result Seen Refusal
looks w q = cond (formed w) (unless (look_reasons (view w) q) (shown (view w) q)) (Err IllFormed)
