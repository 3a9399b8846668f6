-- Calls in a row do what the rules' run does, so demand 3 holds of them.
use Rattle.std.specs.Prelude.{Err, Ok}
use Prim.Native.Nat.{ℕ}
use mathlib.Core.Bool.{true, cond}
use mathlib.Core.List.{List, [], ◌∷◌}
use mathlib.Core.Path.{◌≡◌, refl, sym, ap, ap₂, subst, ◌∙◌}
use Rattle.rules.specs.Chassis.{Chassis}
use Rattle.rules.specs.Events.{step, start}
use Rattle.rules.specs.History.{Did, did, run}
use Rattle.rules.specs.Demand.{Coherent}
use Rattle.rules.specs.Answers.{Answer}
use Rattle.rules.specs.declared.Refusal.TheVariants.{IllFormed}
use Rattle.rules.specs.declared.Event.{Event}
use Rattle.rules.proofs.Demand.{rules-coherent}
use Rattle.words.specs.Words.{words, view, formed}
use Rattle.engine.specs.Promise.{Answers}
use Rattle.engine.specs.Calls.{Called, started, called, CallsAreCoherent}
use Rattle.rules.specs.declared.Edition.{Edition}
use Rattle.words.proofs.Keeps.{Sayable, step-says, start-says}

-- the words and the log are those of a run from an accepted Start
record Follows (w : List ℕ) (log : List Did) : Type 0 where
  edition : Edition
  cards : ℕ
  blocks : ℕ
  value : ℕ
  accepted : (start edition cards blocks).answer ≡ Ok value
  events : List Event
  says : Sayable (run (start edition cards blocks).after events).now
  words_of : w ≡ words (run (start edition cards blocks).after events).now
  log-of : log ≡ (run (start edition cards blocks).after events).log

module _ {w : List ℕ} {log : List Did} (f : Follows w log) where
  now : Chassis
  now = (run (start f.edition f.cards f.blocks).after f.events).now

  is-formed : formed w ≡ true
  is-formed = ap formed f.words_of ∙ f.says.0

  view-now : view w ≡ now
  unfolding now
  view-now = ap view f.words_of ∙ f.says.1

  -- so the promise of an event is what the rules' step gives
  answered : {e : Event} {r : Answer} {w' : List ℕ} → Answers w e r w' → r ≡ (step (view w) e).answer
  answered {e} a = a.answer ∙ ap (λ t. cond t (step (view w) e).answer (Err IllFormed)) is-formed

  left : {e : Event} {r : Answer} {w' : List ℕ} → Answers w e r w' → w' ≡ words (step now e).after
  left {e} a = a.after ∙ ap (λ t. cond t (words (step (view w) e).after) w) is-formed
      ∙ ap (λ (c : Chassis). words (step c e).after) view-now

follows : {w : List ℕ} {log : List Did} → Called w log → Follows w log
unfolding now run
follows (started e cards blocks v h) = record {
  edition = e;
  cards = cards;
  blocks = blocks;
  value = v;
  accepted = sym h.answer;
  events = [];
  says = start-says e cards blocks v (sym h.answer);
  words_of = h.after;
  log-of = refl;
}
follows (called e r k fits a) =
    let f = follows k in
    record {
      edition = f.edition;
      cards = f.cards;
      blocks = f.blocks;
      value = f.value;
      accepted = f.accepted;
      events = e ∷ f.events;
      says = step-says (now f) e fits f.says;
      words_of = left f a;
      log-of = ap₂ (λ d (l : List Did). d ∷ l)
          (ap₂ (λ (c : Chassis) x. did c e x) (view-now f) (answered f a ∙ ap (λ (c : Chassis). (step c e).answer) (view-now f))) f.log-of;
    }

pub calls_are_coherent : CallsAreCoherent
unfolding now
calls_are_coherent w log k =
    let f = follows k in
    let c : Coherent (record { now = view w; log = log })
    = subst Coherent (ap₂ (λ (x : Chassis) (l : List Did). record { now = x; log = l }) (sym (view-now f)) (sym f.log-of))
    (rules-coherent f.edition f.cards f.blocks f.value f.accepted f.events) in
    record {
      coherent = c;
      never_13_or_15 = λ e r w' a. (
        (λ x. c.never_impossible e (sym (answered f a) ∙ x)),
        (λ x. c.never_ill_formed e (sym (answered f a) ∙ x)),
      );
    }
