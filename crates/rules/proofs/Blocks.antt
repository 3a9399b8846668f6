-- One block: the invariant is kept by what each event other than Order does to it.
use Prim.Native.Nat.{ℕ, ◌≤◌, ◌<◌}
use native.Mathlib.Omega.{arith}
use mathlib.Core.Bool.{true, false, cond, true≢false}
use mathlib.Core.List.{List, [], ◌∷◌}
use mathlib.Core.Path.{◌≡◌, refl, sym, ◌∙◌}
use mathlib.Core.Logic.{◌≢◌}
use lib.Dec.{eqb}
use borrow.Author.Tests.{eqb-true, eqb-false, eq-eqb, ne_eqb, not-true}
use Rattle.rules.specs.Lists.{keep, All}
use Rattle.rules.specs.Masks.{only, without}
use Rattle.rules.specs.Numbers.{home, I, none}
use Rattle.rules.specs.Table.{stores, drops, waits, asked}
use Rattle.rules.specs.Chassis.{Block, idle, goes, storing, with_cell}
use Rattle.rules.specs.Events.{takes, rejoin_block}
use Rattle.rules.specs.declared.Cell.{Cell}
use Rattle.rules.specs.declared.Message.{Message}
use Rattle.rules.proofs.Tests.{clash, test, false-if}
use Rattle.rules.proofs.Lists.{replace-cases, replace-same, All-map, All-keep}
use Rattle.rules.proofs.Masks.{has-without-other}
use Rattle.rules.proofs.Board.{Write, pick, here, not_by}
use Rattle.rules.proofs.Invariant.{owns, sole, shares, CellOk, BlockOk}
use Rattle.rules.specs.declared.Edition.TheVariants.{Mosi}
use Rattle.rules.proofs.States.{kinds, state, Calm, idle-calm, idle-sole, filled, asks}

-- a calm cell is all right beside anything
pub calm-ok : (cards owner sharers memory current k : ℕ) (x : Cell) → Calm x.state → (eqb x.state I ≡ false → k < cards)
    → CellOk cards owner sharers memory current k x
calm-ok cards owner sharers memory current k x h l =
    let s = state x.state h.code in
    record {
      code = h.code;
      inside = l;
      owned = λ p. absurd (clash p h.owns_not);
      shared = λ p. absurd (clash p h.shares-not);
      copied = λ p. absurd (clash (s.copies-listed p) (rw (h.owns_not, h.shares-not)));
      written = λ p. absurd (clash (s.stores-owns p) h.owns_not);
    }

pub idle-ok : (cards owner sharers memory current k : ℕ) → CellOk cards owner sharers memory current k idle
idle-ok cards owner sharers memory current k =
    calm-ok cards owner sharers memory current k idle idle-calm (λ p. absurd (true≢false p))

module _ {cards : ℕ} {B : Block} {ws : List Write} {d : ℕ} (ok : BlockOk cards B ws d) where
  pub stores-own : (k : ℕ) → stores (B.cell k).state ≡ true → owns (B.cell k).state ≡ true
  stores-own k p = (state (B.cell k).state (ok.cells k).code).stores-owns p

  -- only one card owns
  pub one-owner : (j k : ℕ) → owns (B.cell j).state ≡ true → owns (B.cell k).state ≡ true → j ≡ k
  one-owner j k p q = sym ((ok.cells j).owned p) ∙ (ok.cells k).owned q

  -- so only one card stores
  pub one_storer : (j k : ℕ) → stores (B.cell j).state ≡ true → stores (B.cell k).state ≡ true → j ≡ k
  one_storer j k p q = one-owner j k (stores-own j p) (stores-own k q)

  -- where no card may store, no store waits
  pub no_writes : ((k : ℕ) → stores (B.cell k).state ≡ false) → pick here ws d ≡ d
  unfolding pick
  no_writes h = go ws ok.writes
    where
      go : (vs : List Write) → All (λ w. stores (B.cell w.card).state ≡ true) vs → pick here vs d ≡ d
      go [] a = refl
      go (w ∷ vs) a = absurd (clash a.0 (h w.card))

  -- home's own cell, which no card has, is idle
  pub home-idle : cards ≤ home → sole (B.cell home).state ≡ false
  home-idle few = test (eqb (B.cell home).state I)
      (λ e. rw (eqb-true (B.cell home).state I e) idle-sole)
      (λ e. absurd (let l = (ok.cells home).inside e in omega arith))

  -- one cell anew, and the rest as it was
  pub cell-block : (k : ℕ) (x : Cell) → CellOk cards B.owner B.sharers B.memory (pick here ws d) k x
      → (owns (B.cell k).state ≡ true → owns x.state ≡ true)
      → (sole x.state ≡ true → sole (B.cell k).state ≡ true)
      → (shares x.state ≡ true → shares (B.cell k).state ≡ true)
      → (stores (B.cell k).state ≡ true → stores x.state ≡ true)
      → BlockOk cards (with_cell B k x) ws d
  cell-block k x new o a h s = record {
    cells = λ j. replace-cases (CellOk cards B.owner B.sharers B.memory (pick here ws d) j) B.cell k x j
        (λ e. rw (← e) new) (λ n. ok.cells j);
    owner-ok = λ n. replace-cases (λ y. owns y.state ≡ true) B.cell k x B.owner
        (λ e. o (rw e (ok.owner-ok n))) (λ _. ok.owner-ok n);
    beside = λ j p.
        let shared : shares (B.cell j).state ≡ true
        = replace-cases (λ y. shares y.state ≡ true → shares (B.cell j).state ≡ true) B.cell k x j
        (λ e q. rw (← e) (h q)) (λ _ q. q) p in
        replace-cases (λ y. sole y.state ≡ false) B.cell k x B.owner
        (λ e. false-if (λ q. clash (a q) (rw e (ok.beside j shared)))) (λ _. ok.beside j shared);
    writes = All-map (λ w p. replace-cases (λ y. stores y.state ≡ true) B.cell k x w.card
        (λ e. s (rw e p)) (λ _. p)) ws ok.writes;
    memory-is = ok.memory-is;
  }

  -- a store
  pub store-block : (k v : ℕ) → stores (B.cell k).state ≡ true
      → BlockOk cards (with_cell B k (storing v (B.cell k))) (record { card = k; value = v } ∷ ws) d
  unfolding pick
  store-block k v h =
      let y = storing v (B.cell k) in
      record {
        cells = λ j. replace-cases (CellOk cards B.owner B.sharers B.memory v j) B.cell k y j
            (λ e. let x = ok.cells k in rw (← e) (record {
              code = x.code;
              inside = x.inside;
              owned = x.owned;
              shared = x.shared;
              copied = λ p. absurd (clash p ((state (B.cell k).state x.code).stores-copies h));
              written = λ p. refl;
            }))
            (λ n. let x = ok.cells j in record {
              code = x.code;
              inside = x.inside;
              owned = x.owned;
              shared = x.shared;
              copied = x.copied;
              written = λ p. absurd (n (one_storer k j h p));
            });
        owner-ok = λ n. replace-cases (λ y. owns y.state ≡ true) B.cell k y B.owner
            (λ e. rw e (ok.owner-ok n)) (λ _. ok.owner-ok n);
        beside = λ j p.
            let shared : shares (B.cell j).state ≡ true
            = replace-cases (λ z. shares z.state ≡ true → shares (B.cell j).state ≡ true) B.cell k y j
            (λ e q. rw (← e) q) (λ _ q. q) p in
            replace-cases (λ z. sole z.state ≡ false) B.cell k y B.owner
            (λ e. rw e (ok.beside j shared)) (λ _. ok.beside j shared);
        writes = (
          rw (replace-same B.cell k y) h,
          All-map (λ w p. replace-cases (λ y. stores y.state ≡ true) B.cell k y w.card (λ e. h) (λ _. p)) ws ok.writes,
        );
        memory-is = ok.memory-is;
      }

  -- a drop
  pub drop_block : (k : ℕ) → drops (B.cell k).state ≡ true → BlockOk cards (with_cell B k idle) ws d
  drop_block k h =
      let s = state (B.cell k).state (ok.cells k).code in
      cell-block k idle (idle-ok cards B.owner B.sharers B.memory (pick here ws d) k)
      (λ p. absurd (clash p (s.drops-owns h)))
      (λ p. absurd (clash p idle-sole))
      (λ p. absurd (clash p idle-calm.shares-not))
      (λ p. absurd (clash p (s.drops-stores h)))

  -- an ask
  pub ask-block : (k kind : ℕ) → k < cards → kind < kinds → eqb (asked kind (B.cell k).state) none ≡ false
      → BlockOk cards (with_cell B k (goes (asked kind (B.cell k).state) (B.cell k))) ws d
  ask-block k kind k< kind< h =
      let x = ok.cells k in
      let t = asks kind (B.cell k).state kind< x.code h in
      cell-block k (goes (asked kind (B.cell k).state) (B.cell k))
      (record {
        code = t.code Mosi x.code;
        inside = λ _. k<;
        owned = λ p. x.owned (t.owns-from p);
        shared = λ p. x.shared (t.shares-from p);
        copied = λ p. rw (t.copies-loads p) (x.copied (t.copies-from p));
        written = λ p. rw (t.stores-loads p) (x.written (t.stores-from p));
      })
      t.owns-to t.sole-from t.shares-from t.stores-to

  -- data comes
  pub fill-block : (k : ℕ) (m : Message) → waits (B.cell k).state ≡ true → m.value ≡ B.memory
      → BlockOk cards (with_cell B k (takes m (B.cell k))) ws d
  fill-block k m h e =
      let x = ok.cells k in
      let s = (B.cell k).state in
      let was = state s x.code in
      let t = filled s x.code h in
      cell-block k (takes m (B.cell k))
      (record {
        code = t.code Mosi x.code;
        inside = λ _. x.inside (was.waits_there h);
        owned = λ p. x.owned (t.owns-from p);
        shared = λ p. x.shared (t.shares-from p);
        copied = λ _. e;
        written = λ p. e ∙ ok.memory-is ∙ sym (no_writes (λ j. false-if (λ q.
            clash (rw (one-owner j k (stores-own j q) (t.stores-from p)) at q) (was.waits-stores h))));
      })
      t.owns-to t.sole-from t.shares-from
      (λ p. absurd (clash p (was.waits-stores h)))

  -- a card rejoins
  keep-others : (k : ℕ) (vs : List Write) → All (λ w. w.card ≢ k) vs → keep (not_by k) vs ≡ vs
  unfolding keep not_by
  keep-others k [] a = refl
  keep-others k (w ∷ vs) a = rw (ne_eqb w.card k a.0, keep-others k vs a.1)

  pub rejoin-block : (k : ℕ) → k < cards → cards ≤ home → BlockOk cards (rejoin_block k B) (keep (not_by k) ws) d
  unfolding rejoin_block not_by
  rejoin-block k k< few =
      let owner = cond (eqb B.owner k) home B.owner in
      let sharers = without B.sharers (only k) in
      let current = pick here (keep (not_by k) ws) d in
      record {
        cells = λ j. replace-cases (CellOk cards owner sharers B.memory current j) B.cell k idle j
            (λ _. idle-ok cards owner sharers B.memory current j)
            (λ ne. let x = ok.cells j in record {
              code = x.code;
              inside = x.inside;
              owned = λ p. rw (ne_eqb B.owner k (λ e. ne (sym e ∙ x.owned p))) (x.owned p);
              shared = λ p. has-without-other B.sharers k j ne (x.shared p);
              copied = x.copied;
              written = λ p. rw (keep-others k ws (All-map (λ w q e. ne (sym e ∙ one_storer w.card j q p)) ws ok.writes))
                  (x.written p);
            });
        owner-ok = λ n. test (eqb B.owner k)
            (λ e. absurd (n (rw e)))
            (λ e. rw e (replace-cases (λ y. owns y.state ≡ true) B.cell k idle B.owner
            (λ e'. absurd (eqb-false B.owner k e (sym e'))) (λ _. ok.owner-ok (λ h. n (rw e h)))));
        beside = λ j p.
            let shared : shares (B.cell j).state ≡ true
            = replace-cases (λ y. shares y.state ≡ true → shares (B.cell j).state ≡ true) B.cell k idle j
            (λ _ q. absurd (clash q idle-calm.shares-not)) (λ _ q. q) p in
            test (eqb B.owner k)
            (λ e. rw e (replace-cases (λ y. sole y.state ≡ false) B.cell k idle home (λ _. idle-sole) (λ _. home-idle few)))
            (λ e. rw e (replace-cases (λ y. sole y.state ≡ false) B.cell k idle B.owner (λ _. idle-sole) (λ _. ok.beside j shared)));
        writes = All-map (λ w p. replace-cases (λ y. stores y.state ≡ true) B.cell k idle w.card
            (λ e. absurd (clash (eq-eqb w.card k (sym e)) (not-true (eqb w.card k) p.1))) (λ _. p.0))
            (keep (not_by k) ws) (All-keep (λ w. stores (B.cell w.card).state ≡ true) (not_by k) ws ok.writes);
        memory-is = ok.memory-is;
      }
