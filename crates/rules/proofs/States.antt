-- Facts of the card state table: each is one test of all states, proved by computing it. They hold of any table that passes the tests.
use Prim.Native.Nat.{ℕ, ◌<◌}
use native.Mathlib.Omega.{arith}
use mathlib.Core.Bool.{Bool, true, false, not, ◌&&◌, ◌||◌, beq}
use mathlib.Core.List.{[], ◌∷◌}
use mathlib.Core.Path.{◌≡◌, refl, sym, ap}
use lib.ListN.{get_or-eq_default}
use lib.Dec.{eqb, ltb}
use borrow.Author.Tests.{ltb-true, ltb-false, lt-ltb, not-true}
use Rattle.rules.specs.Tests.{◌⇒◌, each, all, one_of}
use Rattle.rules.specs.Numbers.{gets, getx, putx, I, states, states_in, none}
use Rattle.rules.specs.Table.{
  loads,
  stores,
  asked,
  sees_gets,
  sees_getx,
  drops,
  waits,
  is_reader,
  can_give,
  askers,
  comes_from,
  upgrades,
  put_stands,
  leaves_sharers,
  granted_to,
  filled_to,
}
use Rattle.rules.proofs.Tests.{clash, test, and_l, and_r, imp, each→, all-elim}
use Rattle.rules.specs.declared.Edition.{Edition}
use Rattle.rules.specs.declared.Edition.TheVariants.{Msi, Mosi}
use Rattle.rules.proofs.Invariant.{owns, sole, shares, copies}

imp-not : {a b : Bool} → (a ⇒ not b) ≡ true → a ≡ true → b ≡ false
imp-not {a} {b} h p = not-true b (imp h p)

-- a test fails where its negation is asked for
fails : {b : Bool} → b ≡ false → not b ≡ true
fails p = rw p

beq-eq : (a b : Bool) → beq a b ≡ true → a ≡ b
beq-eq true true h = refl
beq-eq true false h = sym h
beq-eq false true h = h
beq-eq false false h = refl

-- Editions

-- what holds in each edition holds in any
by-edition : (P : Edition → Type 0) → P Msi → P Mosi → (e : Edition) → P e
by-edition P msi mosi Msi = msi
by-edition P msi mosi Mosi = mosi

-- a state of an edition is one of all
pub in-states : (e : Edition) (s : ℕ) → s < states_in e → s < states
in-states Msi s l = omega arith
in-states Mosi s l = l

-- a fact of every state in each edition
edition-law : (g : Edition → ℕ → Bool) → all states (g Msi) ≡ true → all states (g Mosi) ≡ true → (e : Edition) (s : ℕ) → s < states → g e s ≡ true
edition-law g msi mosi e s l = all-elim states (g e) (by-edition (λ e. all states (g e) ≡ true) msi mosi e) s l

-- a move of states of an edition that leads to states of it
abbrev Inner : (ℕ → Bool) → (ℕ → ℕ) → Edition → Bool
Inner a f e = all (states_in e) (λ s. a s ⇒ ltb (f s) (states_in e))

inner-law : (a : ℕ → Bool) (f : ℕ → ℕ) (e : Edition) → Inner a f e ≡ true → (s : ℕ) → s < states_in e → a s ≡ true → f s < states_in e
inner-law a f e h s l p = ltb-true (f s) (states_in e) (imp (all-elim (states_in e) (λ s. a s ⇒ ltb (f s) (states_in e)) h s l) p)

-- Any state

pub record State (s : ℕ) : Type 0 where
  pub stores-owns : stores s ≡ true → owns s ≡ true
  pub stores-loads : stores s ≡ true → loads s ≡ true
  pub stores-sole : stores s ≡ true → sole s ≡ true
  pub sole-owns : sole s ≡ true → owns s ≡ true
  pub stores-copies : stores s ≡ true → copies s ≡ false
  pub owns-there : owns s ≡ true → eqb s I ≡ false
  pub owns-reader : owns s ≡ true → is_reader s ≡ false
  pub owns-gives : owns s ≡ true → waits s ≡ false → can_give s ≡ true
  pub gives-owns : can_give s ≡ true → owns s ≡ true
  pub gives-copies : can_give s ≡ true → stores s ≡ false → copies s ≡ true
  pub shares-reader : shares s ≡ true → waits s ≡ false → is_reader s ≡ true
  pub reader-there : is_reader s ≡ true → eqb s I ≡ false
  pub copies-listed : copies s ≡ true → (owns s || shares s) ≡ true
  pub copies-shares : copies s ≡ true → owns s ≡ false → shares s ≡ true
  pub loads-copies : loads s ≡ true → stores s ≡ false → copies s ≡ true
  pub drops-owns : drops s ≡ true → owns s ≡ false
  pub drops-stores : drops s ≡ true → stores s ≡ false
  pub waits_there : waits s ≡ true → eqb s I ≡ false
  pub waits-stores : waits s ≡ true → stores s ≡ false

pub state : (s : ℕ) → s < states → State s
unfolding all loads stores can_give owns sole shares copies is_reader drops waits
state s l = record {
  stores-owns = imp (all-elim states (λ s. stores s ⇒ owns s) refl s l);
  stores-loads = imp (all-elim states (λ s. stores s ⇒ loads s) refl s l);
  stores-sole = imp (all-elim states (λ s. stores s ⇒ sole s) refl s l);
  sole-owns = imp (all-elim states (λ s. sole s ⇒ owns s) refl s l);
  stores-copies = imp-not (all-elim states (λ s. stores s ⇒ not (copies s)) refl s l);
  owns-there = imp-not (all-elim states (λ s. owns s ⇒ not (eqb s I)) refl s l);
  owns-reader = imp-not (all-elim states (λ s. owns s ⇒ not (is_reader s)) refl s l);
  owns-gives = λ p q. imp (imp (all-elim states (λ s. owns s ⇒ not (waits s) ⇒ can_give s) refl s l) p) (fails q);
  gives-owns = imp (all-elim states (λ s. can_give s ⇒ owns s) refl s l);
  gives-copies = λ p q. imp (imp (all-elim states (λ s. can_give s ⇒ not (stores s) ⇒ copies s) refl s l) p) (fails q);
  shares-reader = λ p q. imp (imp (all-elim states (λ s. shares s ⇒ not (waits s) ⇒ is_reader s) refl s l) p) (fails q);
  reader-there = imp-not (all-elim states (λ s. is_reader s ⇒ not (eqb s I)) refl s l);
  copies-listed = imp (all-elim states (λ s. copies s ⇒ owns s || shares s) refl s l);
  copies-shares = λ p q. imp (imp (all-elim states (λ s. copies s ⇒ not (owns s) ⇒ shares s) refl s l) p) (fails q);
  loads-copies = λ p q. imp (imp (all-elim states (λ s. loads s ⇒ not (stores s) ⇒ copies s) refl s l) p) (fails q);
  drops-owns = imp-not (all-elim states (λ s. drops s ⇒ not (owns s)) refl s l);
  drops-stores = imp-not (all-elim states (λ s. drops s ⇒ not (stores s)) refl s l);
  waits_there = imp-not (all-elim states (λ s. waits s ⇒ not (eqb s I)) refl s l);
  waits-stores = imp-not (all-elim states (λ s. waits s ⇒ not (stores s)) refl s l);
}

-- Calm states: home lists the card neither as the owner nor, for its copy's sake, as a sharer, and no data is on its way

unfoldable pub calm : ℕ → Bool
calm s = each (ltb s states ∷ not (owns s) ∷ not (shares s) ∷ not (waits s) ∷ [])

pub record Calm (s : ℕ) : Type 0 where
  pub code : s < states
  pub owns_not : owns s ≡ false
  pub shares-not : shares s ≡ false
  pub waits-not : waits s ≡ false

calm→ : (s : ℕ) → calm s ≡ true → Calm s
unfolding calm
calm→ s h =
    let t = each→ (ltb s states ∷ not (owns s) ∷ not (shares s) ∷ not (waits s) ∷ []) h in
    record {
      code = ltb-true s states t.0;
      owns_not = not-true (owns s) t.1.0;
      shares-not = not-true (shares s) t.1.1.0;
      waits-not = not-true (waits s) t.1.1.1.0;
    }

pub idle-calm : Calm I
unfolding calm each owns shares waits
idle-calm = calm→ I refl

-- nobody is idle and the sole owner
pub idle-sole : sole I ≡ false
unfolding sole
idle-sole = refl

-- a reader or an owner that sees another's GETX
pub getx-calm : (s : ℕ) → s < states → (is_reader s || can_give s) ≡ true → Calm (sees_getx s)
unfolding all each is_reader can_give calm sees_getx owns shares waits
getx-calm s l p = calm→ (sees_getx s) (imp (all-elim states (λ s. is_reader s || can_give s ⇒ calm (sees_getx s)) refl s l) p)

-- A column of what is seen in an edition: an idle cell sees nothing, and what a state without data on its way sees leads to no such state

pub record Column (e : Edition) (f : ℕ → ℕ) : Type 0 where
  pub idle : f I ≡ I
  pub code : (s : ℕ) → s < states_in e → waits s ≡ false → f s < states_in e
  pub waits-not : (s : ℕ) → s < states_in e → waits s ≡ false → waits (f s) ≡ false

abbrev column_test : Edition → (ℕ → ℕ) → Bool
column_test e f = all (states_in e) (λ s. not (waits s) ⇒ ltb (f s) (states_in e) && not (waits (f s)))

column : (e : Edition) (f : ℕ → ℕ) → f I ≡ I → column_test e f ≡ true → Column e f
column e f i h =
    let n = states_in e in
    let at : (s : ℕ) → s < n → waits s ≡ false → (ltb (f s) n && not (waits (f s))) ≡ true
    = λ s l p. imp (all-elim n (λ s. not (waits s) ⇒ ltb (f s) n && not (waits (f s))) h s l) (fails p) in
    record {
      idle = i;
      code = λ s l p. ltb-true (f s) n (and_l (ltb (f s) n) (not (waits (f s))) (at s l p));
      waits-not = λ s l p. not-true (waits (f s)) (and_r (ltb (f s) n) (not (waits (f s))) (at s l p));
    }

pub gets-column : (e : Edition) → Column e (sees_gets e)
unfolding all waits sees_gets
gets-column = by-edition (λ e. Column e (sees_gets e)) (column Msi (sees_gets Msi) refl refl) (column Mosi (sees_gets Mosi) refl refl)

pub getx-column : (e : Edition) → Column e sees_getx
unfolding all waits sees_getx
getx-column = by-edition (λ e. Column e sees_getx) (column Msi sees_getx refl refl) (column Mosi sees_getx refl refl)

-- An owner in state s that sees GETS and goes to t: it keeps the block exactly where home still lists it as the owner, and one that does not
-- was the sole one

pub record Gave (s t : ℕ) : Type 0 where
  pub code : t < states
  pub stores-not : stores t ≡ false
  pub sole-not : sole t ≡ false
  pub waits-not : waits t ≡ false
  pub copies-loads : copies t ≡ true → loads t ≡ true
  pub keeps-owns : can_give t ≡ owns t
  pub keeps-shares : can_give t ≡ true → shares t ≡ false
  pub leaves-sole : can_give t ≡ false → sole s ≡ true

pub gave : (e : Edition) (s : ℕ) → s < states → can_give s ≡ true → Gave s (sees_gets e s)
unfolding all loads stores can_give owns sole shares copies waits sees_gets
gave e s l p = record {
  code = ltb-true (sees_gets e s) states (imp (edition-law (λ e s. can_give s ⇒ ltb (sees_gets e s) states) refl refl e s l) p);
  stores-not = imp-not (edition-law (λ e s. can_give s ⇒ not (stores (sees_gets e s))) refl refl e s l) p;
  sole-not = imp-not (edition-law (λ e s. can_give s ⇒ not (sole (sees_gets e s))) refl refl e s l) p;
  waits-not = imp-not (edition-law (λ e s. can_give s ⇒ not (waits (sees_gets e s))) refl refl e s l) p;
  copies-loads = imp (imp (edition-law (λ e s. can_give s ⇒ copies (sees_gets e s) ⇒ loads (sees_gets e s)) refl refl e s l) p);
  keeps-owns = beq-eq (can_give (sees_gets e s)) (owns (sees_gets e s))
      (imp (edition-law (λ e s. can_give s ⇒ beq (can_give (sees_gets e s)) (owns (sees_gets e s))) refl refl e s l) p);
  keeps-shares = imp-not (imp (edition-law (λ e s. can_give s ⇒ can_give (sees_gets e s) ⇒ not (shares (sees_gets e s))) refl refl e s l) p);
  leaves-sole = λ q. imp (imp (edition-law (λ e s. can_give s ⇒ not (can_give (sees_gets e s)) ⇒ sole s) refl refl e s l) p) (fails q);
}

-- An asker whose request is granted

pub record GrantedGets (s : ℕ) : Type 0 where
  pub there : eqb s I ≡ false
  pub owned-not : owns s ≡ false
  pub code : granted_to s < states
  pub owns_not : owns (granted_to s) ≡ false
  pub copies-not : copies (granted_to s) ≡ false
  pub stores-not : stores (granted_to s) ≡ false

pub granted-gets : (s : ℕ) → s < states → comes_from gets s ≡ true → GrantedGets s
unfolding all comes_from granted_to owns copies stores
granted-gets s l p = record {
  there = imp-not (all-elim states (λ s. comes_from gets s ⇒ not (eqb s I)) refl s l) p;
  owned-not = imp-not (all-elim states (λ s. comes_from gets s ⇒ not (owns s)) refl s l) p;
  code = ltb-true (granted_to s) states (imp (all-elim states (λ s. comes_from gets s ⇒ ltb (granted_to s) states) refl s l) p);
  owns_not = imp-not (all-elim states (λ s. comes_from gets s ⇒ not (owns (granted_to s))) refl s l) p;
  copies-not = imp-not (all-elim states (λ s. comes_from gets s ⇒ not (copies (granted_to s))) refl s l) p;
  stores-not = imp-not (all-elim states (λ s. comes_from gets s ⇒ not (stores (granted_to s))) refl s l) p;
}

pub record GrantedGetx (s : ℕ) : Type 0 where
  pub there : eqb s I ≡ false
  pub code : granted_to s < states
  pub owned : owns (granted_to s) ≡ true
  pub shares-not : shares (granted_to s) ≡ false
  pub stores-not : stores (granted_to s) ≡ false
  pub copies-from : copies (granted_to s) ≡ true → copies s ≡ true
  pub copies-loads : copies (granted_to s) ≡ true → loads (granted_to s) ≡ true

pub granted-getx : (s : ℕ) → s < states → comes_from getx s ≡ true → GrantedGetx s
unfolding all comes_from granted_to owns shares copies stores loads
granted-getx s l p = record {
  there = imp-not (all-elim states (λ s. comes_from getx s ⇒ not (eqb s I)) refl s l) p;
  code = ltb-true (granted_to s) states (imp (all-elim states (λ s. comes_from getx s ⇒ ltb (granted_to s) states) refl s l) p);
  owned = imp (all-elim states (λ s. comes_from getx s ⇒ owns (granted_to s)) refl s l) p;
  shares-not = imp-not (all-elim states (λ s. comes_from getx s ⇒ not (shares (granted_to s))) refl s l) p;
  stores-not = imp-not (all-elim states (λ s. comes_from getx s ⇒ not (stores (granted_to s))) refl s l) p;
  copies-from = imp (imp (all-elim states (λ s. comes_from getx s ⇒ copies (granted_to s) ⇒ copies s) refl s l) p);
  copies-loads = imp (imp (all-elim states (λ s. comes_from getx s ⇒ copies (granted_to s) ⇒ loads (granted_to s)) refl s l) p);
}

-- A put

pub record Put (s : ℕ) : Type 0 where
  pub gives : can_give s ≡ true
  pub loaded : loads s ≡ true
  pub ends-sole : leaves_sharers s ≡ false → sole s ≡ true
  pub leaves-copy : leaves_sharers s ≡ true → copies s ≡ true

pub put : (s : ℕ) → s < states → put_stands s ≡ true → Put s
unfolding all put_stands leaves_sharers can_give loads sole copies
put s l p = record {
  gives = imp (all-elim states (λ s. put_stands s ⇒ can_give s) refl s l) p;
  loaded = imp (all-elim states (λ s. put_stands s ⇒ loads s) refl s l) p;
  ends-sole = λ q. imp (imp (all-elim states (λ s. put_stands s ⇒ not (leaves_sharers s) ⇒ sole s) refl s l) p) (fails q);
  leaves-copy = imp (imp (all-elim states (λ s. put_stands s ⇒ leaves_sharers s ⇒ copies s) refl s l) p);
}

pub lapsed-calm : (s : ℕ) → s < states → comes_from putx s ≡ true → put_stands s ≡ false → Calm s
unfolding all each put_stands calm comes_from owns shares waits
lapsed-calm s l p q =
    calm→ s (imp (imp (all-elim states (λ s. comes_from putx s ⇒ not (put_stands s) ⇒ calm s) refl s l) p) (fails q))

-- A cell whose data comes

pub record Filled (s : ℕ) : Type 0 where
  pub code : (e : Edition) → s < states_in e → filled_to s < states_in e
  pub loaded : loads (filled_to s) ≡ true
  pub waits-not : waits (filled_to s) ≡ false
  pub owns-to : owns s ≡ true → owns (filled_to s) ≡ true
  pub owns-from : owns (filled_to s) ≡ true → owns s ≡ true
  pub shares-from : shares (filled_to s) ≡ true → shares s ≡ true
  pub sole-from : sole (filled_to s) ≡ true → sole s ≡ true
  pub stores-from : stores (filled_to s) ≡ true → owns s ≡ true

pub filled : (s : ℕ) → s < states → waits s ≡ true → Filled s
unfolding all waits filled_to owns sole shares stores loads
filled s l p = record {
  code = λ e m. inner-law waits filled_to e (by-edition (λ e. Inner waits filled_to e ≡ true) refl refl e) s m p;
  loaded = imp (all-elim states (λ s. waits s ⇒ loads (filled_to s)) refl s l) p;
  waits-not = imp-not (all-elim states (λ s. waits s ⇒ not (waits (filled_to s))) refl s l) p;
  owns-to = imp (imp (all-elim states (λ s. waits s ⇒ owns s ⇒ owns (filled_to s)) refl s l) p);
  owns-from = imp (imp (all-elim states (λ s. waits s ⇒ owns (filled_to s) ⇒ owns s) refl s l) p);
  shares-from = imp (imp (all-elim states (λ s. waits s ⇒ shares (filled_to s) ⇒ shares s) refl s l) p);
  sole-from = imp (imp (all-elim states (λ s. waits s ⇒ sole (filled_to s) ⇒ sole s) refl s l) p);
  stores-from = imp (imp (all-elim states (λ s. waits s ⇒ stores (filled_to s) ⇒ owns s) refl s l) p);
}

-- A card with a request in the line

-- a bound on the kinds
abbrev pub kinds : ℕ
kinds = 4

pub kind-known : (kind s : ℕ) → comes_from kind s ≡ true → kind < kinds
unfolding comes_from
kind-known kind s h = test (ltb kind kinds) (λ e. ltb-true kind kinds e)
    (λ e. absurd (clash h (ap (λ l. one_of l s) (get_or-eq_default askers [] (ltb-false kind kinds e)))))

-- a fact of every kind and state
asking-law : (g : ℕ → ℕ → Bool) → all kinds (λ kind. all states (λ s. comes_from kind s ⇒ g kind s)) ≡ true
    → (kind s : ℕ) → s < states → comes_from kind s ≡ true → g kind s ≡ true
asking-law g t kind s l h =
    let rows = all-elim kinds (λ kind. all states (λ s. comes_from kind s ⇒ g kind s)) t kind (kind-known kind s h) in
    imp (all-elim states (λ s. comes_from kind s ⇒ g kind s) rows s l) h

pub record Asking (kind s : ℕ) : Type 0 where
  pub kind-is : (eqb kind gets || eqb kind getx || eqb kind putx) ≡ true
  pub there : eqb s I ≡ false
  pub drops-not : drops s ≡ false
  pub waits-not : waits s ≡ false
  pub stores-not : eqb kind putx ≡ false → stores s ≡ false
  pub upgrade-owns : eqb kind putx ≡ false → upgrades s ≡ owns s
  pub put-owns : eqb kind putx ≡ true → put_stands s ≡ owns s
  pub granted-code : eqb kind putx ≡ false → (e : Edition) → s < states_in e → granted_to s < states_in e
  pub granted-waits : eqb kind putx ≡ false → waits (granted_to s) ≡ true
  pub gets-stands : (e : Edition) → comes_from kind (sees_gets e s) ≡ true
  pub getx-stands : comes_from kind (sees_getx s) ≡ true

pub asking : (kind s : ℕ) → s < states → comes_from kind s ≡ true → Asking kind s
unfolding all comes_from drops waits stores owns upgrades put_stands granted_to sees_gets sees_getx
asking kind s l h = record {
  kind-is = asking-law (λ kind s. eqb kind gets || eqb kind getx || eqb kind putx) refl kind s l h;
  there = not-true (eqb s I) (asking-law (λ kind s. not (eqb s I)) refl kind s l h);
  drops-not = not-true (drops s) (asking-law (λ kind s. not (drops s)) refl kind s l h);
  waits-not = not-true (waits s) (asking-law (λ kind s. not (waits s)) refl kind s l h);
  stores-not = λ e. not-true (stores s) (imp (asking-law (λ kind s. not (eqb kind putx) ⇒ not (stores s)) refl kind s l h) (fails e));
  upgrade-owns = λ e. beq-eq (upgrades s) (owns s)
      (imp (asking-law (λ kind s. not (eqb kind putx) ⇒ beq (upgrades s) (owns s)) refl kind s l h) (fails e));
  put-owns = λ e. beq-eq (put_stands s) (owns s)
      (imp (asking-law (λ kind s. eqb kind putx ⇒ beq (put_stands s) (owns s)) refl kind s l h) e);
  granted-code = λ n e m. inner-law (λ s. waits (granted_to s)) granted_to e
      (by-edition (λ e. Inner (λ s. waits (granted_to s)) granted_to e ≡ true) refl refl e) s m
      (imp (asking-law (λ kind s. not (eqb kind putx) ⇒ waits (granted_to s)) refl kind s l h) (fails n));
  granted-waits = λ e. imp (asking-law (λ kind s. not (eqb kind putx) ⇒ waits (granted_to s)) refl kind s l h) (fails e);
  gets-stands = by-edition (λ e. comes_from kind (sees_gets e s) ≡ true)
      (asking-law (λ kind s. comes_from kind (sees_gets Msi s)) refl kind s l h)
      (asking-law (λ kind s. comes_from kind (sees_gets Mosi s)) refl kind s l h);
  getx-stands = asking-law (λ kind s. comes_from kind (sees_getx s)) refl kind s l h;
}

-- A card that asks

asked-law : (g : ℕ → ℕ → ℕ → Bool) → all kinds (λ kind. all states (λ s. not (eqb (asked kind s) none) ⇒ g kind s (asked kind s))) ≡ true
    → (kind s : ℕ) → kind < kinds → s < states → eqb (asked kind s) none ≡ false → g kind s (asked kind s) ≡ true
asked-law g t kind s l m h =
    let rows = all-elim kinds (λ kind. all states (λ s. not (eqb (asked kind s) none) ⇒ g kind s (asked kind s))) t kind l in
    imp (all-elim states (λ s. not (eqb (asked kind s) none) ⇒ g kind s (asked kind s)) rows s m) (fails h)

-- an ask from a state of an edition leads to one of it
abbrev asks-inner : Edition → Bool
asks-inner e = all kinds (λ kind. all states (λ s. not (eqb (asked kind s) none) ⇒ ltb s (states_in e) ⇒ ltb (asked kind s) (states_in e)))

-- no request of any kind waits in state s
unfoldable pub free : ℕ → Bool
free s = all kinds (λ kind. not (comes_from kind s))

pub record Asks (kind s t : ℕ) : Type 0 where
  pub code : (e : Edition) → s < states_in e → t < states_in e
  pub owns-to : owns s ≡ true → owns t ≡ true
  pub owns-from : owns t ≡ true → owns s ≡ true
  pub sole-from : sole t ≡ true → sole s ≡ true
  pub shares-from : shares t ≡ true → shares s ≡ true
  pub copies-from : copies t ≡ true → copies s ≡ true
  pub copies-loads : copies t ≡ true → loads t ≡ true
  pub stores-to : stores s ≡ true → stores t ≡ true
  pub stores-from : stores t ≡ true → stores s ≡ true
  pub stores-loads : stores t ≡ true → loads t ≡ true
  pub waits-not : waits t ≡ false
  pub stands : comes_from kind t ≡ true
  pub none-waiting : (κ : ℕ) → comes_from κ s ≡ true → ⊥

pub asks : (kind s : ℕ) → kind < kinds → s < states → eqb (asked kind s) none ≡ false → Asks kind s (asked kind s)
unfolding all asked owns sole shares copies stores loads waits comes_from free
asks kind s l m h = record {
  code = λ e n. ltb-true (asked kind s) (states_in e)
      (imp (asked-law (λ κ s t. ltb s (states_in e) ⇒ ltb t (states_in e)) (by-edition (λ e. asks-inner e ≡ true) refl refl e) kind s l m h)
      (lt-ltb s (states_in e) n));
  owns-to = imp (asked-law (λ κ s t. owns s ⇒ owns t) refl kind s l m h);
  owns-from = imp (asked-law (λ κ s t. owns t ⇒ owns s) refl kind s l m h);
  sole-from = imp (asked-law (λ κ s t. sole t ⇒ sole s) refl kind s l m h);
  shares-from = imp (asked-law (λ κ s t. shares t ⇒ shares s) refl kind s l m h);
  copies-from = imp (asked-law (λ κ s t. copies t ⇒ copies s) refl kind s l m h);
  copies-loads = imp (asked-law (λ κ s t. copies t ⇒ loads t) refl kind s l m h);
  stores-to = imp (asked-law (λ κ s t. stores s ⇒ stores t) refl kind s l m h);
  stores-from = imp (asked-law (λ κ s t. stores t ⇒ stores s) refl kind s l m h);
  stores-loads = imp (asked-law (λ κ s t. stores t ⇒ loads t) refl kind s l m h);
  waits-not = not-true (waits (asked kind s)) (asked-law (λ κ s t. not (waits t)) refl kind s l m h);
  stands = asked-law (λ κ s t. comes_from κ t) refl kind s l m h;
  none-waiting = λ κ w. clash w (not-true (comes_from κ s)
      (all-elim kinds (λ κ. not (comes_from κ s)) (asked-law (λ κ s t. free s) refl kind s l m h) κ (kind-known κ s w)));
}
