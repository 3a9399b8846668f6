-- A byte of C that stands for an edition.
use Rattle.std.specs.Prelude.{Err, ℕ, cond, List, ◌≡◌, eqb}
use Rattle.rules.specs.Numbers.{edition_no}
use Rattle.rules.specs.Chassis.{no_chassis}
use Rattle.rules.specs.Answers.{Step, result}
use Rattle.rules.specs.Events.{start}
use Rattle.rules.specs.declared.Edition.{Edition}
use Rattle.rules.specs.declared.Edition.TheVariants.{Msi, Mosi}
use Rattle.rules.specs.Answers.{Answer}
use Rattle.rules.specs.declared.Refusal.TheVariants.{NoSuchSize}
use Rattle.words.specs.Words.{words}

-- what comes of an edition's number, or of a byte that is none
module _ {A : Type 0} where
  unfoldable pub by_edition : ℕ → (Edition → A) → A → A
  by_edition n of other = cond (eqb n (edition_no Msi)) (of Msi) (cond (eqb n (edition_no Mosi)) (of Mosi) other)

-- Start, where a byte says the edition: one that is neither is 14
unfoldable pub start_byte : ℕ → ℕ → ℕ → Step
start_byte e cards blocks = by_edition e (λ i. start i cards blocks) (result (Err NoSuchSize) no_chassis)

-- a Start that answers r and makes the words w'
pub record StartsByte (e cards blocks : ℕ) (r : Answer) (w' : List ℕ) : Type 0 where
  pub answer : r ≡ (start_byte e cards blocks).answer
  pub after : w' ≡ words (start_byte e cards blocks).after
