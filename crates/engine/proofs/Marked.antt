-- The marked sequences come out of calls: on words that say a chassis, what keeps the promises answers as the rules do.
use Rattle.std.specs.Prelude.{Err}
use Prim.Native.Nat.{ℕ, ◌^◌}
use mathlib.Core.Bool.{Bool, true, false, cond, ◌&&◌, true≢false}
use mathlib.Core.List.{List, [], ◌∷◌}
use mathlib.Core.Path.{◌≡◌, refl, sym, ap, subst, ◌∙◌}
use lib.Dec.{eqb, ltb}
use borrow.Author.Tests.{eqb-true, ltb-true}
use Rattle.rules.specs.Tests.{all_of}
use Rattle.rules.specs.Lists.{All}
use Rattle.rules.specs.Chassis.{Chassis, no_chassis}
use Rattle.rules.specs.Answers.{refusal_of, value_of, Step, result, refused_by}
use Rattle.rules.specs.Formed.{well_formed}
use Rattle.rules.specs.Events.{EventFits, step, start}
use Rattle.rules.specs.Marked.{
  Line,
  starts,
  ◌gives◌,
  ◌refused◌,
  shows,
  plays,
  marked_table,
}
use Rattle.rules.specs.Answers.{Answer}
use Rattle.rules.specs.declared.Refusal.TheVariants.{IllFormed}
use Rattle.rules.specs.declared.Event.{Event}
use Rattle.rules.specs.declared.Event.TheVariants.{Load, Store, Drop, Ask, Order, Deliver, Copy, Rejoin}
use Rattle.rules.proofs.Tests.{test, and_l, and_r}
use Rattle.rules.proofs.Start.{start-cases}
use Rattle.rules.proofs.Marked.{marked-hold}
use Rattle.words.specs.Words.{words, view, formed}
use Rattle.words.proofs.View.{formed-of}
use Rattle.words.proofs.Keeps.{fresh-view, step-says}
use Rattle.engine.specs.Promise.{Answers}
use Rattle.engine.specs.Calls.{Comes, MarkedCome}
use Rattle.rules.specs.declared.Edition.{Edition}
use Rattle.rules.specs.declared.Edition.TheVariants.{Msi}

-- words that say a chassis, formed or not
abbrev Means : List ℕ → Chassis → Type 0
Means w c = (w ≡ words c) × (view (words c) ≡ c)

module _ (w : List ℕ) (c : Chassis) (m : Means w c) where
  view-is : view w ≡ c
  view-is = ap view m.0 ∙ m.1

  well : well_formed c ≡ true → formed (words c) ≡ true
  well h = formed-of (words c) (sym (ap words m.1)) (subst (λ (d : Chassis). well_formed d ≡ true) (sym m.1) h)

  ill : formed w ≡ false → well_formed c ≡ false
  ill f = test (well_formed c) (λ h. absurd (true≢false (sym (ap formed m.0 ∙ well h) ∙ f))) (λ h. h)

-- what keeps an event's promise does what the rules do
ill-step : (c : Chassis) (e : Event) → well_formed c ≡ false → step c e ≡ result (Err IllFormed) c
unfolding step refused_by
ill-step c e h = rw h

answered : (w : List ℕ) (c : Chassis) → Means w c → (e : Event) (r : Answer) (w' : List ℕ) → Answers w e r w'
    → (r ≡ (step c e).answer) × (w' ≡ words (step c e).after)
answered w c m e r w' a = test (formed w)
    (λ f. (
      a.answer ∙ ap (λ t. cond t (step (view w) e).answer (Err IllFormed)) f ∙ ap (λ (d : Chassis). (step d e).answer) (view-is w c m),
      a.after ∙ ap (λ t. cond t (words (step (view w) e).after) w) f ∙ ap (λ (d : Chassis). words (step d e).after) (view-is w c m),
    ))
    (λ f. let s = ill-step c e (ill w c m f) in (
      a.answer ∙ ap (λ t. cond t (step (view w) e).answer (Err IllFormed)) f ∙ sym (ap (λ (o : Step). o.answer) s),
      a.after ∙ ap (λ t. cond t (words (step (view w) e).after) w) f ∙ m.0 ∙ sym (ap (λ (o : Step). words o.after) s),
    ))

step-means : (w : List ℕ) (c : Chassis) → Means w c → (e : Event) → EventFits e → view (words (step c e).after) ≡ (step c e).after
step-means w c m e f = test (well_formed c)
    (λ h. (step-says c e f (well w c m h, m.1)).1)
    (λ h. subst (λ (o : Step). view (words o.after) ≡ o.after) (sym (ill-step c e h)) m.1)

pub start-means : (e : Edition) (cards blocks : ℕ) → view (words (start e cards blocks).after) ≡ (start e cards blocks).after
start-means e cards blocks = start-cases e cards blocks (λ (o : Step). view (words o.after) ≡ o.after)
    (λ _. fresh-view e cards blocks) (λ _. fresh-view Msi 0 0)

-- what an event stores, or 0; and that what a line stores fits, a test that antt computes
value_in : Event → ℕ
value_in (Load k b) = 0
value_in (Store k b v) = v
value_in (Drop k b) = 0
value_in (Ask k b kind mask) = 0
value_in Order = 0
value_in (Deliver i) = 0
value_in (Copy i) = 0
value_in (Rejoin k) = 0

low : Event → Bool
low e = ltb (value_in e) (2 ^ 32)

low_line : Line → Bool
low_line (starts e cards blocks n) = true
low_line (e gives v) = low e
low_line (e refused n) = low e
low_line (shows f) = true

low_fits : (e : Event) → low e ≡ true → EventFits e
unfolding low value_in
low_fits (Load k b) h = tt
low_fits (Store k b v) h = ltb-true v (2 ^ 32) h
low_fits (Drop k b) h = tt
low_fits (Ask k b kind mask) h = tt
low_fits Order h = tt
low_fits (Deliver i) h = tt
low_fits (Copy i) h = tt
low_fits (Rejoin k) h = tt

-- a refusal and a value as they are to be, and what follows
told : (a b c d : ℕ) (t : Bool) → (eqb a b && eqb c d && t) ≡ true → (a ≡ b) × (c ≡ d) × (t ≡ true)
told a b c d t h =
    let l = and_l (eqb a b && eqb c d) t h in
    (eqb-true a b (and_l (eqb a b) (eqb c d) l), eqb-true c d (and_r (eqb a b) (eqb c d) l), and_r (eqb a b && eqb c d) t h)

-- an event, and then the rest, where that comes out
event-comes : (ls : List Line) (w : List ℕ) (c : Chassis) → Means w c → (e : Event) → low e ≡ true → (n v : ℕ)
    → ((w' : List ℕ) → Means w' (step c e).after → plays (step c e).after ls ≡ true → Comes w' ls)
    → (eqb (refusal_of (step c e).answer) n && eqb (value_of (step c e).answer) v && plays (step c e).after ls) ≡ true
    → (r : Answer) (w' : List ℕ) → Answers w e r w' → (refusal_of r ≡ n) × (value_of r ≡ v) × Comes w' ls
event-comes ls w c m e f n v rest h r w' a =
    let o = step c e in
    let d = answered w c m e r w' a in
    let p = told (refusal_of o.answer) n (value_of o.answer) v (plays o.after ls) h in
    (ap refusal_of d.0 ∙ p.0, ap value_of d.0 ∙ p.1, rest w' (d.1, step-means w c m e (low_fits e f)) p.2)

comes : (ls : List Line) (w : List ℕ) (c : Chassis) → Means w c → all_of ls low_line ≡ true → plays c ls ≡ true → Comes w ls
unfolding plays all_of low_line
comes [] w c m l h = tt
comes (starts e cards blocks n ∷ ls) w c m l h = λ r w' a.
    let o = start e cards blocks in
    let p = told (refusal_of o.answer) n (value_of o.answer) 0 (plays o.after ls) h in
    (ap refusal_of a.answer ∙ p.0, ap value_of a.answer ∙ p.1, comes ls w' o.after (a.after, start-means e cards blocks) l p.2)
comes (e gives v ∷ ls) w c m l h = event-comes ls w c m e (and_l (low e) (all_of ls low_line) l) 0 v
    (λ w' m'. comes ls w' (step c e).after m' (and_r (low e) (all_of ls low_line) l)) h
comes (e refused n ∷ ls) w c m l h = event-comes ls w c m e (and_l (low e) (all_of ls low_line) l) n 0
    (λ w' m'. comes ls w' (step c e).after m' (and_r (low e) (all_of ls low_line) l)) h
comes (shows f ∷ ls) w c m l h =
    (ap f (view-is w c m) ∙ and_l (f c) (plays c ls) h, comes ls w c m l (and_r (f c) (plays c ls) h))

-- a sequence that begins with Start comes out on any words
begins : List Line → Bool
begins [] = true
begins (starts e cards blocks n ∷ ls) = true
begins (e gives v ∷ ls) = false
begins (e refused n ∷ ls) = false
begins (shows f ∷ ls) = false

on-any : (w v : List ℕ) (ls : List Line) → begins ls ≡ true → Comes v ls → Comes w ls
unfolding begins
on-any w v [] b h = tt
on-any w v (starts e cards blocks n ∷ ls) b h = h
on-any w v (e gives x ∷ ls) b h = absurd (true≢false (sym b))
on-any w v (e refused n ∷ ls) b h = absurd (true≢false (sym b))
on-any w v (shows f ∷ ls) b h = absurd (true≢false (sym b))

all_come : (w : List ℕ) (t : List (List Line)) → all_of t begins ≡ true → all_of t (λ ls. all_of ls low_line) ≡ true → all_of t (plays no_chassis) ≡ true → All (Comes w) t
unfolding all_of
all_come w [] b l h = tt
all_come w (ls ∷ t) b l h = (
  on-any w (words no_chassis) ls (and_l (begins ls) (all_of t begins) b)
      (comes ls (words no_chassis) no_chassis (refl, fresh-view Msi 0 0) (and_l (all_of ls low_line) (all_of t (λ ls. all_of ls low_line)) l)
      (and_l (plays no_chassis ls) (all_of t (plays no_chassis)) h)),
  all_come w t (and_r (begins ls) (all_of t begins) b) (and_r (all_of ls low_line) (all_of t (λ ls. all_of ls low_line)) l)
      (and_r (plays no_chassis ls) (all_of t (plays no_chassis)) h),
)

pub marked_come : MarkedCome
unfolding all_of marked_table begins low_line low value_in
marked_come w = all_come w marked_table refl refl marked-hold
