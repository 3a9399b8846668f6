-- What Start and the events on words promise: one shape for all of them.
use Rattle.std.specs.Prelude.{Err, ℕ, cond, List, ◌≡◌}
use Rattle.rules.specs.Events.{step, start}
use Rattle.rules.specs.declared.Edition.{Edition}
use Rattle.rules.specs.Answers.{Answer}
use Rattle.rules.specs.declared.Refusal.TheVariants.{IllFormed}
use Rattle.rules.specs.declared.Event.{Event}
use Rattle.words.specs.Words.{words, view, formed}

-- w before and w' after event e that answers r: what the rules give, or 15 with the words as they were
pub record Answers (w : List ℕ) (e : Event) (r : Answer) (w' : List ℕ) : Type 0 where
  pub answer : r ≡ cond (formed w) (step (view w) e).answer (Err IllFormed)
  pub after : w' ≡ cond (formed w) (words (step (view w) e).after) w

-- Start of this edition and of so many cards and blocks that answers r and makes the words w'
pub record Starts (e : Edition) (cards blocks : ℕ) (r : Answer) (w' : List ℕ) : Type 0 where
  pub answer : r ≡ (start e cards blocks).answer
  pub after : w' ≡ words (start e cards blocks).after

-- What is claimed of them: no second answer and no second words keep either

abbrev pub StartsUnique : Type 0
StartsUnique = (e : Edition) (cards blocks : ℕ) (r r' : Answer) (w₁ w₂ : List ℕ) → Starts e cards blocks r w₁ → Starts e cards blocks r' w₂ → (r ≡ r') × (w₁ ≡ w₂)

abbrev pub AnswersUnique : Type 0
AnswersUnique = (w : List ℕ) (e : Event) (r r' : Answer) (w₁ w₂ : List ℕ) → Answers w e r w₁ → Answers w e r' w₂ → (r ≡ r') × (w₁ ≡ w₂)
