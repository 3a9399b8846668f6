-- Demand 3, sentence by sentence; its last field says of 15 what the demand says of 13.
use Rattle.std.specs.Prelude.{Err, Ok, ℕ, List, [], ◌∷◌, ◌++◌, ◌≡◌, ◌≢◌, length}
use Rattle.rules.specs.Lists.{All}
use Rattle.rules.specs.Events.{step}
use Rattle.rules.specs.History.{
  Did,
  loaded,
  stored,
  settles,
  rejoined,
  quiet,
  Run,
  Story,
  struck,
  last_store,
  stories,
}
use Rattle.rules.specs.declared.Refusal.TheVariants.{Impossible, IllFormed}
use Rattle.rules.specs.declared.Event.{Event}
use Rattle.rules.specs.declared.Event.TheVariants.{Load, Store}

-- each accepted load of the log returned the last earlier accepted store to its block that had not been struck by then, or 0
abbrev pub LoadsLast : List Did → Type 0
LoadsLast [] = Unit {0}
LoadsLast (loaded k b v ∷ log) = (v ≡ last_store b (stories log)) × LoadsLast log
LoadsLast (stored k b v ∷ log) = LoadsLast log
LoadsLast (settles b ∷ log) = LoadsLast log
LoadsLast (rejoined k ∷ log) = LoadsLast log
LoadsLast (quiet ∷ log) = LoadsLast log

-- the store was made at some point of the log, and no entry since then settles its block
pub record NotSettled (log : List Did) (w : Story) : Type 0 where
  pub since : List Did
  pub earlier : List Did
  pub made_then : log ≡ since ++ stored w.card w.block w.value ∷ earlier
  pub this_store : w.serial ≡ length (stories earlier)
  pub none_settles : All (λ d. d ≢ settles w.block) since

-- at some point of the log the store's own card rejoined, and home had not settled the store by then
pub record StruckByRejoin (log : List Did) (w : Story) : Type 0 where
  pub later : List Did
  pub earlier : List Did
  pub at_rejoin : log ≡ later ++ rejoined w.card ∷ earlier
  pub not_settled : NotSettled earlier w

-- what the demand asks of a run
pub record Coherent (r : Run) : Type 0 where
  -- "each accepted load returns the last earlier accepted store to its block that has not been struck by then, or 0"
  pub loads_last : LoadsLast r.log
  -- "The only struck stores are those that a rejoining card made and home had not yet settled"
  pub struck_by_rejoin : All (λ w. w.fate ≡ struck → StruckByRejoin r.log w) (stories r.log)
  -- "no other card ever loaded one": not before it was struck; and after, a load returns another store, by loads_last
  pub struck_unseen : All (λ w. w.fate ≡ struck → All (λ k. k ≡ w.card) w.loaders) (stories r.log)
  -- "While one card may store to a block, no other card may load or store it"
  pub one_storer : (j k b v u x y : ℕ) → j ≢ k → (step r.now (Store j b v)).answer ≡ Ok x
      → ((step r.now (Load k b)).answer ≢ Ok y) × ((step r.now (Store k b u)).answer ≢ Ok y)
  -- "The refusal for an impossible state is never given"
  pub never_impossible : (e : Event) → (step r.now e).answer ≢ Err Impossible
  -- nor is that for an ill formed one
  pub never_ill_formed : (e : Event) → (step r.now e).answer ≢ Err IllFormed
