-- The promises: what is done on formed words keeps them, and nothing second does.
use Rattle.std.specs.Prelude.{Err, Ok}
use Prim.Native.Nat.{ℕ}
use mathlib.Core.Bool.{true, false}
use mathlib.Core.List.{List}
use mathlib.Core.Path.{◌≡◌}
use lib.ListN.{set}
use Rattle.rules.specs.Numbers.{edition_no}
use Rattle.rules.specs.Chassis.{no_chassis}
use Rattle.rules.specs.Answers.{refused_by}
use Rattle.rules.specs.Formed.{sizes}
use Rattle.rules.specs.Events.{start}
use Rattle.rules.specs.declared.Edition.{Edition}
use Rattle.rules.specs.Answers.{Answer}
use Rattle.rules.specs.declared.Refusal.TheVariants.{NoSuchSize, IllFormed}
use Rattle.rules.specs.declared.Event.{Event}
use Rattle.rules.proofs.Unique.{one_answer}
use Rattle.words.specs.Layout.{edition_at, cards_at, blocks_at}
use Rattle.words.specs.Words.{words, view, formed}
use Rattle.words.specs.Inner.Parts.{Does}
use Rattle.words.proofs.View.{formed-chassis}
use Rattle.words.proofs.Does.{step-act}
use Rattle.words.proofs.Started.{counted}
use Rattle.engine.specs.Promise.{Answers, Starts, StartsUnique, AnswersUnique}

-- Start, on the words of an empty chassis

pub not-started : (e : Edition) (cards blocks : ℕ) → sizes cards blocks ≡ false → (w : List ℕ) → w ≡ words no_chassis
    → Starts e cards blocks (Err NoSuchSize) w
unfolding start refused_by
not-started e cards blocks t w is = record { answer = rw t; after = rw t is }

pub started : (e : Edition) (cards blocks : ℕ) → sizes cards blocks ≡ true → (w w₁ w₂ w₃ : List ℕ) → w ≡ words no_chassis
    → w₁ ≡ set w edition_at (edition_no e) → w₂ ≡ set w₁ cards_at cards → w₃ ≡ set w₂ blocks_at blocks → Starts e cards blocks (Ok 0) w₃
unfolding start refused_by
started e cards blocks t w w₁ w₂ w₃ is e₁ e₂ e₃ = record { answer = rw t; after = rw t (counted e cards blocks w w₁ w₂ w₃ is e₁ e₂ e₃) }

-- An event

pub answers-formed : (w : List ℕ) (e : Event) (r : Answer) (w' : List ℕ) → formed w ≡ true → Does w e r w' → Answers w e r w'
answers-formed w e r w' f d = record {
  answer = rw (f, step-act (view w) e (formed-chassis w f)) d.answer;
  after = rw (f, step-act (view w) e (formed-chassis w f)) d.after;
}

pub answers-ill-formed : (w : List ℕ) (e : Event) → formed w ≡ false → Answers w e (Err IllFormed) w
answers-ill-formed w e f = record { answer = rw f; after = rw f }

-- Nothing second

pub starts-unique : StartsUnique
starts-unique e cards blocks r r' w₁ w₂ a b = (one_answer _ _ r r' a.answer b.answer, one_answer _ _ w₁ w₂ a.after b.after)

pub answers-unique : AnswersUnique
answers-unique w e r r' w₁ w₂ a b = (one_answer _ _ r r' a.answer b.answer, one_answer _ _ w₁ w₂ a.after b.after)
