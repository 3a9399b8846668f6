-- Events on formed words, and the parts that they are made of.
use Rattle.std.specs.Prelude.{ℕ, zero, suc, ◌+◌, cond, List, ◌≡◌, get_or, set, ltb}
use Rattle.std.proofs.lemmas.List.Edits.{sets}
use Rattle.rules.specs.Answers.{Step, refused_by}
use Rattle.rules.specs.Chassis.{Block, Chassis, a_block}
use Rattle.rules.specs.Order.{sees}
use Rattle.rules.specs.Events.{reasons, effect}
use Rattle.rules.specs.declared.OrderNo.{OrderNo}
use Rattle.rules.specs.declared.Cell.{Cell}
use Rattle.rules.specs.declared.Request.{Request}
use Rattle.rules.specs.declared.Message.{Message}
use Rattle.rules.specs.declared.Turn.{Turn}
use Rattle.rules.specs.Answers.{Answer}
use Rattle.rules.specs.declared.Event.{Event}
use Rattle.words.specs.Layout.{home_place, cell_place, request_place, message_place}
use Rattle.words.specs.Words.{home_row, cell_row, request_row, message_row, words, view}

-- An event on formed words

-- the rules' step without its test of 15
unfoldable pub act : Chassis → Event → Step
act c e = refused_by c (reasons c e) (effect c e)

pub record Does (w : List ℕ) (e : Event) (r : Answer) (w' : List ℕ) : Type 0 where
  pub answer : r ≡ (act (view w) e).answer
  pub after : w' ≡ words (act (view w) e).after

-- A part of an event: the words of any chassis become those of another

abbrev pub Becomes : List ℕ → List ℕ → (Chassis → Chassis) → Type 0
Becomes w w' f = (c : Chassis) → w ≡ words c → w' ≡ words (f c)

-- the cards below m have seen request r
abbrev pub seen_below : ℕ → Turn → Block → Request → OrderNo → Block
seen_below m t B r n = a_block B.memory B.owner B.sharers (λ k. cond (ltb k m) (sees t B r n k) (B.cell k))

-- Stores of an item's words

abbrev pub put_cell : List ℕ → ℕ → ℕ → Cell → List ℕ
put_cell w k b x = sets w (cell_place k b) (cell_row x)

abbrev pub put_home : List ℕ → ℕ → ℕ → ℕ → ℕ → List ℕ
put_home w b memory owner sharers = sets w (home_place b) (home_row memory owner sharers)

abbrev pub put_request : List ℕ → ℕ → Request → List ℕ
put_request w i r = sets w (request_place i) (request_row r)

abbrev pub put_message : List ℕ → ℕ → Message → List ℕ
put_message w i m = sets w (message_place i) (message_row m)

-- n words from p on, each taken by the one m further
unfoldable pub closing : List ℕ → ℕ → ℕ → ℕ → List ℕ
closing w p zero m = w
closing w p (suc n) m = closing (set w p (get_or w (p + m) 0)) (p + 1) n m
