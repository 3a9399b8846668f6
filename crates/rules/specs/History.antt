-- The history of a run: what its events did, the stores they made, and what became of each.
use Rattle.std.specs.Prelude.{Err, Ok, ℕ, Bool, true, false, cond, not, ◌&&◌, ◌||◌, List, [], ◌∷◌, map, length, eqb}
use Rattle.rules.specs.Numbers.{granted, put_taken}
use Rattle.rules.specs.Chassis.{Chassis}
use Rattle.rules.specs.Events.{step}
use Rattle.rules.specs.declared.Request.{Request}
use Rattle.rules.specs.Answers.{Answer}
use Rattle.rules.specs.declared.Event.{Event}
use Rattle.rules.specs.declared.Event.TheVariants.{
  Load,
  Store,
  Drop,
  Ask,
  Order,
  Deliver,
  Copy,
  Rejoin,
}

-- The log

-- what an event did, as far as loads and stores are concerned
pub data Did : Type 0 where
  -- card, block, value
  loaded : ℕ → ℕ → ℕ → Did
  stored : ℕ → ℕ → ℕ → Did
  -- block
  settles : ℕ → Did
  -- card
  rejoined : ℕ → Did
  -- nothing, or it was refused
  quiet : Did

-- the block of the request at the head
unfoldable pub head_block : List Request → ℕ
head_block [] = 0
head_block (r ∷ rest) = r.block

-- what an accepted event with this value did: an "Order .. with outcome 1 or 3" settles the head's block
unfoldable pub did_accepted : Chassis → Event → ℕ → Did
did_accepted c (Load k b) v = loaded k b v
did_accepted c (Store k b v) _ = stored k b v
did_accepted c (Drop k b) _ = quiet
did_accepted c (Ask k b kind mask) _ = quiet
did_accepted c Order n = cond (eqb n granted || eqb n put_taken) (settles (head_block c.line)) quiet
did_accepted c (Deliver i) _ = quiet
did_accepted c (Copy i) _ = quiet
did_accepted c (Rejoin k) _ = rejoined k

-- what an event did by its answer
unfoldable pub did : Chassis → Event → Answer → Did
did c e (Ok v) = did_accepted c e v
did c e (Err r) = quiet

-- a chassis, and the log of what led to it, newest first
pub record Run : Type 0 where
  pub now : Chassis
  pub log : List Did

-- the run of these events from c, newest first
unfoldable pub run : Chassis → List Event → Run
run c [] = record { now = c; log = [] }
run c (e ∷ es) =
    let r = run c es in
    let o = step r.now e in
    record { now = o.after; log = did r.now e o.answer ∷ r.log }

-- The stores

-- what became of a store: not settled yet, settled, or struck
pub data Fate : Type 0 where
  unsettled settled struck : Fate

-- an accepted store: how many were made before it, who made it, where and of what value; the cards that loaded it; what became of it
pub record Story : Type 0 where
  pub serial : ℕ
  pub card : ℕ
  pub block : ℕ
  pub value : ℕ
  pub loaders : List ℕ
  pub fate : Fate

-- a store just made
abbrev pub made : ℕ → ℕ → ℕ → ℕ → Story
made n k b v = record { serial = n; card = k; block = b; value = v; loaders = []; fate = unsettled }

-- the store with another fate
abbrev pub with_fate : Fate → Story → Story
with_fate f w = record {
  serial = w.serial;
  card = w.card;
  block = w.block;
  value = w.value;
  loaders = w.loaders;
  fate = f;
}

-- the store with one more loader
abbrev pub with_loader : ℕ → Story → Story
with_loader k w = record {
  serial = w.serial;
  card = w.card;
  block = w.block;
  value = w.value;
  loaders = k ∷ w.loaders;
  fate = w.fate;
}

-- f where the store is unsettled, else its fate as it is
unfoldable pub meets : Fate → Fate → Fate
meets f unsettled = f
meets f settled = settled
meets f struck = struck

-- "A store is settled by the first later Order for its block with outcome 1 or 3."
unfoldable pub settle : ℕ → Story → Story
settle b w = cond (eqb w.block b) (with_fate (meets settled w.fate) w) w

-- "An accepted Rejoin strikes that card's unsettled stores."
unfoldable pub strike : ℕ → Story → Story
strike k w = cond (eqb w.card k) (with_fate (meets struck w.fate) w) w

-- the store was struck
unfoldable pub is_struck : Fate → Bool
is_struck unsettled = false
is_struck settled = false
is_struck struck = true

-- a store to b that has not been struck
unfoldable pub counts : ℕ → Story → Bool
counts b w = eqb w.block b && not (is_struck w.fate)

-- the value of the last store to b that has not been struck, or 0; newest first
unfoldable pub last_store : ℕ → List Story → ℕ
last_store b [] = 0
last_store b (w ∷ ws) = cond (counts b w) w.value (last_store b ws)

-- card k loads block b: it is one more loader of that store
unfoldable pub loaded_by : ℕ → ℕ → List Story → List Story
loaded_by k b [] = []
loaded_by k b (w ∷ ws) = cond (counts b w) (with_loader k w ∷ ws) (w ∷ loaded_by k b ws)

-- every store of a log, newest first, with what became of it by the log's end
unfoldable pub stories : List Did → List Story
stories [] = []
stories (loaded k b v ∷ log) = loaded_by k b (stories log)
stories (stored k b v ∷ log) = made (length (stories log)) k b v ∷ stories log
stories (settles b ∷ log) = map (settle b) (stories log)
stories (rejoined k ∷ log) = map (strike k) (stories log)
stories (quiet ∷ log) = stories log
