-- Demand 3: every run from an accepted Start is coherent.
use Rattle.std.specs.Prelude.{Err, Ok}
use Prim.Native.Nat.{ℕ, ◌≤◌}
use native.Mathlib.Omega.{arith}
use mathlib.Core.Bool.{true, not, ◌||◌, true≢false}
use mathlib.Core.List.{List, [], ◌∷◌}
use mathlib.Core.Path.{◌≡◌, refl, sym, ◌∙◌, ap, subst}
use mathlib.Core.Logic.{◌≢◌}
use lib.Dec.{eqb}
use borrow.Author.Tests.{not-false}
use Rattle.rules.specs.Tests.{all_of}
use Rattle.rules.specs.Lists.{All}
use Rattle.rules.specs.Numbers.{home, granted, put_taken}
use Rattle.rules.specs.Table.{loads, stores}
use Rattle.rules.specs.Chassis.{Chassis, cell_of, state_of, fresh}
use Rattle.rules.specs.Answers.{refusal_no, Step, NoneHolds}
use Rattle.rules.specs.Order.{order_reasons}
use Rattle.rules.specs.Formed.{well_formed}
use Rattle.rules.specs.Events.{no_card, no_block, right_reasons, no_message, reasons, effect, step}
use Rattle.rules.specs.History.{Did, loaded, settles, quiet, head_block, did_accepted, did, Run, run, stories}
use Rattle.rules.specs.Demand.{Coherent}
use Rattle.rules.specs.Claims.{RulesCoherent}
use Rattle.rules.specs.declared.Edition.{Edition}
use Rattle.rules.specs.declared.Request.{Request}
use Rattle.rules.specs.Answers.{Answer}
use Rattle.rules.specs.declared.Refusal.TheVariants.{Impossible, IllFormed}
use Rattle.rules.specs.declared.Event.{Event}
use Rattle.rules.specs.declared.Event.TheVariants.{
  Load,
  Store,
  Drop,
  Ask,
  Order,
  Deliver,
  Copy,
  Rejoin,
}
use Rattle.rules.proofs.Tests.{clash, cond_cases}
use Rattle.rules.proofs.Lists.{All-map}
use Rattle.rules.proofs.Board.{pending, base, pick, current}
use Rattle.rules.proofs.Invariant.{RequestOk, Inv}
use Rattle.rules.proofs.States.{idle-sole}
use Rattle.rules.proofs.Blocks.{idle-ok, one_storer}
use Rattle.rules.proofs.Holders.{held-not, possible, loader-only, load-current}
use Rattle.rules.proofs.Stores.{LoadOk, Past, past-empty, past_more, struck_unseen}
use Rattle.rules.proofs.Refusals.{
  accepted-none,
  refused-cases,
  effect-done,
  Never,
  never_first,
  never-given,
  never-listed,
}
use Rattle.rules.proofs.Steps.{step_ok}
use Rattle.rules.proofs.Formed.{sizes→}
use Rattle.rules.proofs.Start.{start-cases, refused≢done, fresh-formed}
use Rattle.rules.proofs.Stays.{stays-formed}

-- The beginning

-- a fresh chassis has done nothing yet
fresh_ok : (e : Edition) (cards blocks : ℕ) → cards ≤ home → Inv (fresh e cards blocks) []
unfolding pending base pick
fresh_ok e cards blocks few = record {
  few = few;
  blocks-ok = λ b. record {
    cells = λ k. idle-ok cards home 0 0 0 k;
    owner-ok = λ n. absurd (n refl);
    beside = λ k p. idle-sole;
    writes = tt;
    memory-is = refl;
  };
  messages = tt;
  requests = tt;
  distinct = tt;
}

-- Every event

module _ {c : Chassis} {log : List Did} (inv : Inv c log) where
  -- an accepted load
  loaded-ok : (k b : ℕ) → loads (state_of c k b) ≡ true → LoadOk log (loaded k b (cell_of c k b).value)
  unfolding current
  loaded-ok k b h = (
    load-current (inv.blocks-ok b) inv.few k h,
    All-map (λ w p. loader-only (inv.blocks-ok b) inv.few w.card k p h) (pending b log) (inv.blocks-ok b).writes,
  )

  -- an accepted event that is no load
  other-ok : (e : Event) → ((v : ℕ) → LoadOk log (did_accepted c e v)) → (a : Answer) → LoadOk log (did c e a)
  unfolding did
  other-ok e h (Ok v) = h v
  other-ok e h (Err r) = tt

  effect-loads : (e : Event) → NoneHolds (reasons c e) → LoadOk log (did c e (effect c e).answer)
  unfolding reasons right_reasons effect did did_accepted
  effect-loads (Load k b) h = loaded-ok k b (not-false (loads (state_of c k b)) h.1.1.0)
  effect-loads (Store k b v) h = tt
  effect-loads (Drop k b) h = tt
  effect-loads (Ask k b kind mask) h = tt
  effect-loads Order h = other-ok Order (λ v. cond_cases (LoadOk log)
      (eqb v granted || eqb v put_taken) (settles (head_block c.line)) quiet (λ _. tt) (λ _. tt)) (effect c Order).answer
  effect-loads (Deliver i) h = other-ok (Deliver i) (λ v. tt) (effect c (Deliver i)).answer
  effect-loads (Copy i) h = tt
  effect-loads (Rejoin k) h = tt

  step-loads : (e : Event) → LoadOk log (did c e (step c e).answer)
  unfolding step did
  step-loads e = refused-cases c (λ (o : Step). LoadOk log (did c e o.answer)) _ (effect c e) (λ _. tt) (λ h. effect-loads e h.1)

  -- 13 is never given
  order-never : (l : List Request) → c.line ≡ l → Never (refusal_no Impossible) (order_reasons c l)
  unfolding order_reasons all_of
  order-never [] at = never-listed 13 _ refl
  order-never (r ∷ rest) at =
      let ok = inv.blocks-ok r.block in
      let asks = (subst (All (λ r. RequestOk (c.block r.block) r)) at inv.requests).0 in
      never_first 13 _ _ (λ _. omega arith) (λ _.
      never_first 13 _ _ (λ _. omega arith) (λ h.
      never_first 13 _ _ (λ p. absurd (clash p (possible ok inv.few (held-not ok inv.few h) r asks))) (λ _.
      never-listed 13 _ refl)))

  reasons-never : (e : Event) → Never (refusal_no Impossible) (reasons c e)
  unfolding reasons right_reasons no_card no_block no_message all_of
  reasons-never (Load k b) = never-listed 13 _ refl
  reasons-never (Store k b v) = never-listed 13 _ refl
  reasons-never (Drop k b) = never-listed 13 _ refl
  reasons-never (Ask k b kind mask) = never-listed 13 _ refl
  reasons-never Order = order-never c.line refl
  reasons-never (Deliver i) = never-listed 13 _ refl
  reasons-never (Copy i) = never-listed 13 _ refl
  reasons-never (Rejoin k) = never-listed 13 _ refl

  never_impossible : (e : Event) → (step c e).answer ≢ Err Impossible
  unfolding step
  never_impossible e = never-given c Impossible _ (effect c e)
      (never_first 13 _ _ (λ _. omega arith) (λ _. reasons-never e)) (effect-done c e)

-- 15 is given for an ill formed state alone
order-formed : (c : Chassis) (l : List Request) → Never (refusal_no IllFormed) (order_reasons c l)
unfolding order_reasons all_of
order-formed c [] = never-listed 15 _ refl
order-formed c (r ∷ rest) = never-listed 15 _ refl

reasons-formed : (c : Chassis) (e : Event) → Never (refusal_no IllFormed) (reasons c e)
unfolding reasons right_reasons no_card no_block no_message all_of
reasons-formed c (Load k b) = never-listed 15 _ refl
reasons-formed c (Store k b v) = never-listed 15 _ refl
reasons-formed c (Drop k b) = never-listed 15 _ refl
reasons-formed c (Ask k b kind mask) = never-listed 15 _ refl
reasons-formed c Order = order-formed c c.line
reasons-formed c (Deliver i) = never-listed 15 _ refl
reasons-formed c (Copy i) = never-listed 15 _ refl
reasons-formed c (Rejoin k) = never-listed 15 _ refl

never_ill_formed : (c : Chassis) → well_formed c ≡ true → (e : Event) → (step c e).answer ≢ Err IllFormed
unfolding step
never_ill_formed c w e = never-given c IllFormed _ (effect c e)
    (never_first 15 _ _ (λ p _. true≢false (sym p ∙ ap not w)) (λ _. reasons-formed c e)) (effect-done c e)

-- a load or a store that would be accepted has its right
load-right : (c : Chassis) (k b x : ℕ) → (step c (Load k b)).answer ≡ Ok x → loads (state_of c k b) ≡ true
unfolding reasons right_reasons
load-right c k b x h = not-false (loads (state_of c k b)) (accepted-none c (Load k b) x h).1.1.0

store-right : (c : Chassis) (k b v x : ℕ) → (step c (Store k b v)).answer ≡ Ok x → stores (state_of c k b) ≡ true
unfolding reasons right_reasons
store-right c k b v x h = not-false (stores (state_of c k b)) (accepted-none c (Store k b v) x h).1.1.0

-- Every run

record Good (r : Run) : Type 0 where
  inv : Inv r.now r.log
  past : Past r.log
  formed : well_formed r.now ≡ true

run-good : (c : Chassis) → Inv c [] → well_formed c ≡ true → (es : List Event) → Good (run c es)
unfolding run
run-good c i w [] = record { inv = i; past = past-empty; formed = w }
run-good c i w (e ∷ es) =
    let g = run-good c i w es in
    record {
      inv = step_ok g.inv e;
      past = past_more _ _ (step-loads g.inv e) g.past;
      formed = stays-formed _ e g.formed;
    }

coherent : (r : Run) → Good r → Coherent r
coherent r g = record {
  loads_last = g.past.loads_last;
  struck_by_rejoin = g.past.struck-ok;
  struck_unseen = All-map struck_unseen (stories r.log) g.past.unseen;
  one_storer = λ j k b v u x y ne h. let s = store-right r.now j b v x h in (
    (λ q. ne (loader-only (g.inv.blocks-ok b) g.inv.few j k s (load-right r.now k b y q))),
    (λ q. ne (one_storer (g.inv.blocks-ok b) j k s (store-right r.now k b u y q))),
  );
  never_impossible = never_impossible g.inv;
  never_ill_formed = never_ill_formed r.now g.formed;
}

pub rules-coherent : RulesCoherent
rules-coherent e cards blocks v = start-cases e cards blocks
    (λ o. o.answer ≡ Ok v → (es : List Event) → Coherent (run o.after es))
    (λ h _ es. coherent _ (run-good (fresh e cards blocks)
    (fresh_ok e cards blocks (let f = (sizes→ cards blocks h).few-cards in omega arith)) (fresh-formed e cards blocks h) es))
    (λ r f. absurd (refused≢done r v f))
