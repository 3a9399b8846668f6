-- What an event on formed words does, from the tests that led there.
use Rattle.std.specs.Prelude.{Err}
use Prim.Native.Nat.{ℕ, ◌≤◌}
use native.Mathlib.Omega.{arith}
use mathlib.Core.Bool.{true}
use mathlib.Core.List.{List}
use mathlib.Core.Path.{◌≡◌, refl, sym, ◌∙◌, ap}
use Rattle.rules.specs.Numbers.{room}
use Rattle.rules.specs.Chassis.{Chassis}
use Rattle.rules.specs.Answers.{Step, result, refused_by, FirstHolds, NoneHolds}
use Rattle.rules.specs.Formed.{well_formed}
use Rattle.rules.specs.Events.{reasons, effect, step}
use Rattle.rules.specs.Answers.{Answer}
use Rattle.rules.specs.declared.Refusal.{Refusal}
use Rattle.rules.specs.declared.Event.{Event}
use Rattle.rules.proofs.Refusals.{refuses, accepts}
use Rattle.rules.proofs.Formed.{Wf, wf→, SizesWf, sizes→}
use Rattle.words.specs.Words.{words, view, cards_of, blocks_of, waiting_of, pooled_of, formed}
use Rattle.words.specs.Inner.Parts.{act, Does}
use Rattle.words.proofs.View.{formed-words, formed-chassis, waiting-is, pooled-is}

-- What is known of formed words

module _ (w : List ℕ) (f : formed w ≡ true) where
  pub wf : Wf (view w)
  wf = wf→ (view w) (formed-chassis w f)

  pub sizes : SizesWf (cards_of w) (blocks_of w)
  unfolding view
  sizes = sizes→ (cards_of w) (blocks_of w) wf.size

  pub line_room : waiting_of w ≤ room
  line_room = let l = wf.line_room in omega (arith, waiting-is w)

  pub pool_room : pooled_of w ≤ room
  pool_room = let l = wf.pool_room in omega (arith, pooled-is w)

  -- Ways to end

  ends : (e : Event) (o : Step) (r : Answer) (w' : List ℕ) → act (view w) e ≡ o → r ≡ o.answer → w' ≡ words o.after → Does w e r w'
  ends e o r w' h a b = record {
    answer = a ∙ sym (ap (λ (o : Step). o.answer) h);
    after = b ∙ sym (ap (λ (o : Step). words o.after) h);
  }

  pub refused : (e : Event) (x : Refusal) → FirstHolds (reasons (view w) e) x → Does w e (Err x) w
  unfolding act
  refused e x h = ends e (result (Err x) (view w)) (Err x) w
      (refuses (view w) (reasons (view w) e) (effect (view w) e) x h) refl (formed-words w f)

  pub done : (e : Event) (r : Answer) (w' : List ℕ) → NoneHolds (reasons (view w) e)
      → r ≡ (effect (view w) e).answer → w' ≡ words (effect (view w) e).after → Does w e r w'
  unfolding act
  done e r w' h a b = ends e (effect (view w) e) r w' (accepts (view w) (reasons (view w) e) (effect (view w) e) h) a b

-- what is done for an event, once it is known which one
pub does-for : (w : List ℕ) (e e' : Event) (r : Answer) (w' : List ℕ) → e ≡ e' → Does w e' r w' → Does w e r w'
does-for w e e' r w' h d = rw h d

-- on a well formed chassis the rules' step is what is done without the test of 15
pub step-act : (c : Chassis) (e : Event) → well_formed c ≡ true → step c e ≡ act c e
unfolding step act refused_by
step-act c e h = rw h
