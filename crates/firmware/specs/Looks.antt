-- What a look shows in numbers: as many as the longest has, 0 behind those that there are.
use Rattle.std.specs.Prelude.{Result, Err, Ok, ℕ, ◌*◌, List, [], ◌∷◌, ◌≡◌}
use Rattle.rules.specs.Numbers.{edition_no}
use Rattle.rules.specs.Answers.{refusal_no}
use Rattle.rules.specs.declared.Refusal.{Refusal}
use Rattle.engine.specs.Looking.{Look, looks}
use Rattle.engine.specs.declared.Seen.{Seen}
use Rattle.firmware.specs.Halves.{half}

-- 0, or the refusal
abbrev pub seen_number : Result Seen Refusal → ℕ
seen_number (Ok s) = 0
seen_number (Err x) = refusal_no x * half

-- the numbers of what is seen
abbrev pub seen_numbers : Seen → List ℕ
seen_numbers (Seen.Counts n) = edition_no n.edition ∷ n.cards ∷ n.blocks ∷ n.waiting ∷ n.pooled ∷ n.last.0 ∷ []
seen_numbers (Seen.Message m) = m.sender ∷ m.receiver ∷ m.block ∷ m.value ∷ m.number.0 ∷ 0 ∷ []
seen_numbers (Seen.Request r) = r.card ∷ r.block ∷ r.kind ∷ r.mask ∷ r.retry.0 ∷ 0 ∷ []
seen_numbers (Seen.Cell x) = x.state ∷ x.value ∷ x.awaits.0 ∷ 0 ∷ 0 ∷ 0 ∷ []
seen_numbers (Seen.Home h) = h.memory ∷ h.owner ∷ h.sharers ∷ 0 ∷ 0 ∷ 0 ∷ []

-- what is seen; a refusal keeps the numbers that there were
abbrev pub seen_after : List ℕ → Result Seen Refusal → List ℕ
seen_after l (Ok s) = seen_numbers s
seen_after l (Err x) = l

-- numbers l before and l' after a look on words w that answers n
pub record Shows (w : List ℕ) (q : Look) (l : List ℕ) (n : ℕ) (l' : List ℕ) : Type 0 where
  pub answer : n ≡ seen_number (looks w q)
  pub numbers : l' ≡ seen_after l (looks w q)
