-- Order, at the block of the head request: each of the six turns keeps the invariant.
use Prim.Native.Nat.{ℕ, ◌≤◌, ◌<◌}
use mathlib.Core.Bool.{true, false, cond, ◌||◌, true≢false}
use mathlib.Core.List.{List, []}
use mathlib.Core.Path.{◌≡◌, refl, sym, ◌∙◌, ap, subst}
use mathlib.Core.Logic.{◌≢◌}
use lib.Dec.{eqb}
use borrow.Author.Tests.{eqb-true, eqb-false, eq-eqb, ne_eqb}
use Rattle.rules.specs.Lists.{All}
use Rattle.rules.specs.Masks.{has, only, union}
use Rattle.rules.specs.Numbers.{home, gets, getx, putx, granted, too_small, put_taken, put_lapsed, I}
use Rattle.rules.specs.Table.{stores, waits, is_reader, can_give, comes_from, put_stands, leaves_sharers, granted_to, sees_gets, sees_getx}
use Rattle.rules.specs.Chassis.{Block, Chassis, idle, goes}
use Rattle.rules.specs.Mask.{suffices}
use Rattle.rules.specs.Order.{
  turn,
  given,
  keeps,
  upshot_of,
  sees,
  ordered,
}
use Rattle.rules.specs.declared.Edition.{Edition}
use Rattle.rules.specs.declared.Edition.TheVariants.{Mosi}
use Rattle.rules.specs.declared.OrderNo.{OrderNo}
use Rattle.rules.specs.declared.Cell.{Cell}
use Rattle.rules.specs.declared.Turn.{Turn}
use Rattle.rules.specs.declared.Turn.TheVariants.{
  GetsGranted,
  GetxGranted,
  GetsMissed,
  GetxMissed,
  PutTaken,
  PutLapsed,
}
use Rattle.rules.specs.declared.Request.{Request}
use Rattle.rules.proofs.Tests.{clash, test, cond_cases, false-if, or-i, or_l, or_r}
use Rattle.rules.proofs.Lists.{All-map}
use Rattle.rules.proofs.Mask.{sharers-named}
use Rattle.rules.proofs.Masks.{has-union-l, has-union-r, has-none, has-only}
use Rattle.rules.proofs.Board.{Write, pick, here}
use Rattle.rules.proofs.Invariant.{owns, sole, shares, copies, CellOk, BlockOk, RequestOk}
use Rattle.rules.proofs.States.{
  state,
  Calm,
  idle-calm,
  idle-sole,
  getx-calm,
  gets-column,
  getx-column,
  Gave,
  gave,
  granted-gets,
  granted-getx,
  put,
  lapsed-calm,
  asking,
}
use Rattle.rules.proofs.Upshots.{sees-cases}
use Rattle.rules.proofs.Blocks.{calm-ok, stores-own, one-owner, home-idle}
use Rattle.rules.proofs.Holders.{
  there,
  owner-alone,
  not-owner,
  load-current,
  owner-card,
  calm-here,
  given-beside,
  given-copied,
  given-owner,
  given-current,
}

-- a turn in which only the asker moves
others-stay : (P : Cell → Type 0) (t : Turn) (B : Block) (r : Request) (n : OrderNo) (k : ℕ)
    → ((x : Cell) → (upshot_of t).owner_sees x ≡ x) → ((x : Cell) → (upshot_of t).reader_sees x ≡ x)
    → (r.card ≡ k → P ((upshot_of t).asker_sees n (B.cell k))) → (r.card ≢ k → P (B.cell k)) → P (sees t B r n k)
others-stay P t B r n k o e f g = sees-cases P t B r n k f
    (λ h _. subst P (sym (o (B.cell k))) (g h)) (λ h _ _. subst P (sym (e (B.cell k))) (g h)) (λ h _ _. g h)

-- what becomes of cell x of card j, where card q's request is ordered under number n
pub record Seen (cards owner sharers memory current q : ℕ) (n : OrderNo) (j : ℕ) (x y : Cell) : Type 0 where
  pub cell-ok : CellOk cards owner sharers memory current j y
  pub waits-only : waits y.state ≡ true → (q ≡ j) × (y.awaits ≡ n)
  pub stands : (kind : ℕ) → q ≢ j → comes_from kind x.state ≡ true → comes_from kind y.state ≡ true

-- what an Order of request r under number n leaves of block B
pub record Ordered (cards : ℕ) (B B' : Block) (q : ℕ) (n : OrderNo) (ws : List Write) (d : ℕ) : Type 0 where
  pub seen : (j : ℕ) → Seen cards B'.owner B'.sharers B'.memory (pick here ws d) q n j (B.cell j) (B'.cell j)
  pub owner-ok : B'.owner ≢ home → owns (B'.cell B'.owner).state ≡ true
  pub beside : (k : ℕ) → shares (B'.cell k).state ≡ true → sole (B'.cell B'.owner).state ≡ false
  pub writes : All (λ w. stores (B'.cell w.card).state ≡ true) ws
  pub memory-is : B'.memory ≡ d

pub ordered-block : {cards : ℕ} {B B' : Block} {q : ℕ} {n : OrderNo} {ws : List Write} {d : ℕ}
    → Ordered cards B B' q n ws d → BlockOk cards B' ws d
ordered-block or = record {
  cells = λ k. (or.seen k).cell-ok;
  owner-ok = or.owner-ok;
  beside = or.beside;
  writes = or.writes;
  memory-is = or.memory-is;
}

-- a cell that is calm afterwards
calm-seen : (cards owner sharers memory current q : ℕ) (n : OrderNo) (j : ℕ) (x y : Cell) → Calm y.state → (eqb y.state I ≡ false → j < cards)
    → ((kind : ℕ) → q ≢ j → comes_from kind x.state ≡ true → comes_from kind y.state ≡ true)
    → Seen cards owner sharers memory current q n j x y
calm-seen cards owner sharers memory current q n j x y h l st = record {
  cell-ok = calm-ok cards owner sharers memory current j y h l;
  waits-only = λ p. absurd (clash p h.waits-not);
  stands = st;
}

module _ {cards : ℕ} {B : Block} {ws : List Write} {d : ℕ} (ok : BlockOk cards B ws d) (few : cards ≤ home)
    (free : (k : ℕ) → waits (B.cell k).state ≡ false) where
  -- a cell that is not moved, where home's part stays
  same_seen : (q : ℕ) (n : OrderNo) (j : ℕ) → Seen cards B.owner B.sharers B.memory (pick here ws d) q n j (B.cell j) (B.cell j)
  same_seen q n j = record { cell-ok = ok.cells j; waits-only = λ p. absurd (clash p (free j)); stands = λ _ _ p. p }

  -- a calm cell that is not moved, where home's part may not stay
  still-calm : (owner sharers memory current q : ℕ) (n : OrderNo) (j : ℕ) → Calm (B.cell j).state
      → Seen cards owner sharers memory current q n j (B.cell j) (B.cell j)
  still-calm owner sharers memory current q n j h =
      calm-seen cards owner sharers memory current q n j (B.cell j) (B.cell j) h (ok.cells j).inside (λ _ _ p. p)

  -- a reader that moves
  reader-moves : (owner sharers memory current q : ℕ) (n : OrderNo) (j : ℕ) → is_reader (B.cell j).state ≡ true
      → Seen cards owner sharers memory current q n j (B.cell j) (goes (sees_getx (B.cell j).state) (B.cell j))
  reader-moves owner sharers memory current q n j h =
      let s = (B.cell j).state in
      let l = (ok.cells j).code in
      calm-seen cards owner sharers memory current q n j (B.cell j) (goes (sees_getx s) (B.cell j))
      (getx-calm s l (rw h))
      (λ _. (ok.cells j).inside ((state s l).reader-there h))
      (λ kind _ p. (asking kind s l p).getx-stands)

  -- an idle cell that sees a request stays idle, and is all right beside anything
  idle-moves : (owner sharers memory current q : ℕ) (n : OrderNo) (j t : ℕ) → eqb (B.cell j).state I ≡ true → t ≡ I
      → Seen cards owner sharers memory current q n j (B.cell j) (goes t (B.cell j))
  idle-moves owner sharers memory current q n j t i e =
      calm-seen cards owner sharers memory current q n j (B.cell j) (goes t (B.cell j))
      (subst Calm (sym e) idle-calm)
      (λ p. absurd (clash (eq-eqb t I e) p))
      (λ kind _ p. absurd (clash i (asking kind (B.cell j).state (ok.cells j).code p).there))

  module _ (r : Request) (n : OrderNo) where
    -- a granted GETS: the owner keeps the block, or was the sole one
    gets-ordered : (e : Edition) → comes_from gets (B.cell r.card).state ≡ true
        → Ordered cards B (ordered (GetsGranted e) B r n) r.card n [] (pick here ws d)
    unfolding ordered upshot_of keeps pick
    gets-ordered e asks =
        let q = r.card in
        let o = B.owner in
        let owner = cond (keeps e B) o home in
        let kept = cond (eqb o home || keeps e B) B.sharers (only o) in
        let sharers = union kept (only q) in
        let current = pick here ws d in
        let asker = granted-gets (B.cell q).state (ok.cells q).code asks in
        let other : q ≢ o = λ f. not-owner ok few q asker.there asker.owned-not (sym f) in
        let Sees : ℕ → Cell → Type 0 = λ j y. Seen cards owner sharers (given B q) current q n j (B.cell j) y in
        let gives : (j : ℕ) → o ≡ j → eqb (B.cell j).state I ≡ false → Gave (B.cell j).state (sees_gets e (B.cell j).state)
        = λ j f i. gave e (B.cell j).state (ok.cells j).code (owner-card ok few free j f i) in
        let keeps-at : (j : ℕ) → o ≡ j → keeps e B ≡ can_give (sees_gets e (B.cell j).state)
        = λ j f. ap (λ i. can_give (sees_gets e (B.cell i).state)) f in
        let listed : (j : ℕ) → shares (B.cell j).state ≡ true → has kept j ≡ true
        = λ j p. cond_cases (λ m. has m j ≡ true) (eqb o home || keeps e B) B.sharers (only o) (λ _. (ok.cells j).shared p)
        (λ h. let f = eqb-false o home (or_l (eqb o home) (keeps e B) h) in
        let s = (B.cell o).state in
        let i = (state s (ok.cells o).code).owns-there (ok.owner-ok f) in
        absurd (owner-alone ok few o j ((gives o refl i).leaves-sole (or_r (eqb o home) (keeps e B) h)) p)) in
        let rest : (j : ℕ) → o ≢ j → Sees j (B.cell j) = λ j no'.
        let x = ok.cells j in
        let s = state (B.cell j).state x.code in
        let owns_not = false-if (λ g. no' (x.owned g)) in
        record {
          cell-ok = record {
            code = x.code;
            inside = x.inside;
            owned = λ p. absurd (no' (x.owned p));
            shared = λ p. has-union-l kept (only q) j (listed j p);
            copied = λ p. x.copied p ∙ sym (given-beside ok few free q j (s.copies-shares p owns_not));
            written = λ p. absurd (no' (x.owned (stores-own ok j p)));
          };
          waits-only = λ p. absurd (clash p (free j));
          stands = λ _ _ p. p;
        } in
        let none-sole : (j : ℕ) → sole (sees (GetsGranted e) B r n j).state ≡ false = λ j.
        let l = (ok.cells j).code in
        sees-cases (λ y. sole y.state ≡ false) (GetsGranted e) B r n j
        (λ f. let t = granted-gets (B.cell j).state l (subst (λ i. comes_from gets (B.cell i).state ≡ true) f asks) in
        false-if (λ p. clash ((state (granted_to (B.cell j).state) t.code).sole-owns p) t.owns_not))
        (λ _ f. test (eqb (B.cell j).state I)
        (λ i. rw (eqb-true (B.cell j).state I i, (gets-column e).idle) idle-sole) (λ i. (gives j f i).sole-not))
        (λ _ no' _. false-if (λ p. no' ((ok.cells j).owned ((state (B.cell j).state l).sole-owns p))))
        (λ _ no' _. false-if (λ p. no' ((ok.cells j).owned ((state (B.cell j).state l).sole-owns p)))) in
        record {
          seen = λ j.
              let x = B.cell j in
              let s = x.state in
              let l = (ok.cells j).code in
              sees-cases (Sees j) (GetsGranted e) B r n j
              (λ f. let t = granted-gets s l (subst (λ i. comes_from gets (B.cell i).state ≡ true) f asks) in record {
                cell-ok = record {
                  code = t.code;
                  inside = λ _. (ok.cells j).inside t.there;
                  owned = λ p. absurd (clash p t.owns_not);
                  shared = λ _. has-union-r kept (only q) j (subst (λ i. has (only q) i ≡ true) f (has-only q));
                  copied = λ p. absurd (clash p t.copies-not);
                  written = λ p. absurd (clash p t.stores-not);
                };
                waits-only = λ _. (f, refl);
                stands = λ _ ne. absurd (ne f);
              })
              (λ ne f. test (eqb s I)
              (λ i. idle-moves owner sharers (given B q) current q n j (sees_gets e s) i (rw (eqb-true s I i) (gets-column e).idle))
              (λ i. let t = gives j f i in record {
                cell-ok = record {
                  code = t.code;
                  inside = λ _. (ok.cells j).inside i;
                  owned = λ p. rw (keeps-at j f ∙ t.keeps-owns ∙ p) f;
                  shared = λ p. has-union-l kept (only q) j
                      (rw (ne_eqb o home (λ h. there ok few j i (sym f ∙ h)), keeps-at j f, false-if (λ k. clash p (t.keeps-shares k)))
                      (subst (λ i. has (only o) i ≡ true) f (has-only o)));
                  copied = λ p. rw (t.copies-loads p) (sym (given-owner ok few free q j ne f i));
                  written = λ p. absurd (clash p t.stores-not);
                };
                waits-only = λ p. absurd (clash p t.waits-not);
                stands = λ kind _ p. (asking kind s l p).gets-stands e;
              }))
              (λ _ no' _. rest j no') (λ _ no' _. rest j no');
          owner-ok = cond_cases (λ i. i ≢ home → owns (sees (GetsGranted e) B r n i).state ≡ true) (keeps e B) o home
              (λ k f. sees-cases (λ y. owns y.state ≡ true) (GetsGranted e) B r n o
              (λ h. absurd (other h))
              (λ _ _. let i = (state (B.cell o).state (ok.cells o).code).owns-there (ok.owner-ok f) in
              sym (gives o refl i).keeps-owns ∙ k)
              (λ _ no' _. absurd (no' refl)) (λ _ no' _. absurd (no' refl)))
              (λ _ f. absurd (f refl));
          beside = λ k p. none-sole owner;
          writes = tt;
          memory-is = given-current ok few free q ((asking gets (B.cell q).state (ok.cells q).code asks).stores-not refl);
        }

    -- a granted GETX
    getx-ordered : comes_from getx (B.cell r.card).state ≡ true
        → ((k : ℕ) → k < cards → has B.sharers k ≡ true → r.card ≢ k → has r.mask k ≡ true)
        → Ordered cards B (ordered GetxGranted B r n) r.card n [] (pick here ws d)
    unfolding ordered upshot_of pick sees
    getx-ordered asks enough =
        let q = r.card in
        let o = B.owner in
        let current = pick here ws d in
        let asked = granted-getx (B.cell q).state (ok.cells q).code asks in
        let Sees : ℕ → Cell → Type 0 = λ j y. Seen cards q 0 (given B q) current q n j (B.cell j) y in
        let calm : (j : ℕ) → o ≢ j → (shares (B.cell j).state ≡ true → ⊥) → Sees j (B.cell j)
        = λ j no' h. still-calm q 0 (given B q) current q n j (calm-here ok few free j (λ p. no' ((ok.cells j).owned p)) h) in
        let all_seen : (j : ℕ) → Sees j (sees GetxGranted B r n j) = λ j.
        let x = B.cell j in
        let s = x.state in
        let l = (ok.cells j).code in
        let reader : shares s ≡ true → is_reader s ≡ true = λ p. (state s l).shares-reader p (free j) in
        sees-cases (Sees j) GetxGranted B r n j
        (λ e. let t = granted-getx s l (subst (λ i. comes_from getx (B.cell i).state ≡ true) e asks) in record {
          cell-ok = record {
            code = t.code;
            inside = λ _. (ok.cells j).inside t.there;
            owned = λ _. e;
            shared = λ p. absurd (clash p t.shares-not);
            copied = λ p. rw (t.copies-loads p) ((ok.cells j).copied (t.copies-from p)
                ∙ sym (given-copied ok few free q (subst (λ i. copies (B.cell i).state ≡ true) (sym e) (t.copies-from p))));
            written = λ p. absurd (clash p t.stores-not);
          };
          waits-only = λ _. (e, refl);
          stands = λ _ ne. absurd (ne e);
        })
        (λ ne e. test (eqb s I)
        (λ i. idle-moves q 0 (given B q) current q n j (sees_getx s) i (rw (eqb-true s I i) (getx-column Mosi).idle))
        (λ i. calm-seen cards q 0 (given B q) current q n j x (goes (sees_getx s) x)
        (getx-calm s l (or-i {a = is_reader s} (λ _. owner-card ok few free j e i)))
        (λ _. (ok.cells j).inside i)
        (λ kind _ p. (asking kind s l p).getx-stands)))
        (λ ne no' _. cond_cases (Sees j) (is_reader s) (goes (sees_getx s) x) x
        (λ g. reader-moves q 0 (given B q) current q n j g)
        (λ g. calm j no' (λ p. clash (reader p) g)))
        (λ ne no' h. calm j no' (λ p.
        clash (enough j ((ok.cells j).inside ((state s l).reader-there (reader p))) ((ok.cells j).shared p) ne) h)) in
        record {
          seen = all_seen;
          owner-ok = λ _. rw (eq-eqb q q refl) asked.owned;
          beside = λ k p. absurd (clash ((all_seen k).cell-ok.shared p) (has-none k));
          writes = tt;
          memory-is = given-current ok few free q ((asking getx (B.cell q).state (ok.cells q).code asks).stores-not refl);
        }

    -- a missed GETX: its readers move
    missed-cases : (P : ℕ → Cell → Type 0) → ((j : ℕ) → P j (B.cell j))
        → ((j : ℕ) → is_reader (B.cell j).state ≡ true → P j (goes (sees_getx (B.cell j).state) (B.cell j)))
        → (j : ℕ) → P j (sees GetxMissed B r n j)
    unfolding upshot_of
    missed-cases P f g j = sees-cases (P j) GetxMissed B r n j (λ _. f j) (λ _ _. f j)
        (λ _ _ _. cond_cases (P j) (is_reader (B.cell j).state) (goes (sees_getx (B.cell j).state) (B.cell j)) (B.cell j)
        (λ h. g j h) (λ _. f j)) (λ _ _ _. f j)

    not-reader : (j : ℕ) → owns (B.cell j).state ≡ true → is_reader (B.cell j).state ≡ true → ⊥
    not-reader j p h = clash h ((state (B.cell j).state (ok.cells j).code).owns-reader p)

    moved-calm : (j : ℕ) → is_reader (B.cell j).state ≡ true → Calm (sees_getx (B.cell j).state)
    moved-calm j h = getx-calm (B.cell j).state (ok.cells j).code (rw h)

    getx-missed : Ordered cards B (ordered GetxMissed B r n) r.card n ws d
    unfolding ordered upshot_of
    getx-missed = record {
      seen = missed-cases (λ j y. Seen cards B.owner B.sharers B.memory (pick here ws d) r.card n j (B.cell j) y)
          (same_seen r.card n)
          (λ j h. reader-moves B.owner B.sharers B.memory (pick here ws d) r.card n j h);
      owner-ok = λ ne. missed-cases (λ j y. owns (B.cell j).state ≡ true → owns y.state ≡ true)
          (λ j p. p) (λ j h p. absurd (not-reader j p h)) B.owner (ok.owner-ok ne);
      beside = λ k p.
          let shared = missed-cases (λ j y. shares y.state ≡ true → shares (B.cell j).state ≡ true)
          (λ j q. q) (λ j h q. absurd (clash q (moved-calm j h).shares-not)) k p in
          missed-cases (λ j y. sole (B.cell j).state ≡ false → sole y.state ≡ false) (λ j q. q)
          (λ j h _. false-if (λ q. clash ((state (sees_getx (B.cell j).state) (moved-calm j h).code).sole-owns q) (moved-calm j h).owns_not))
          B.owner (ok.beside k shared);
      writes = All-map (λ w p. missed-cases (λ j y. stores (B.cell j).state ≡ true → stores y.state ≡ true)
          (λ j p. p) (λ j h p. absurd (not-reader j (stores-own ok j p) h)) w.card p) ws ok.writes;
      memory-is = ok.memory-is;
    }

    -- a missed GETS: nobody moves
    gets-missed : Ordered cards B (ordered GetsMissed B r n) r.card n ws d
    unfolding ordered upshot_of
    gets-missed =
        let whole : (P : Cell → Type 0) (j : ℕ) → P (B.cell j) → P (sees GetsMissed B r n j)
        = λ P j f. others-stay P GetsMissed B r n j (λ _. refl) (λ _. refl) (λ _. f) (λ _. f) in
        record {
          seen = λ j. whole (Seen cards B.owner B.sharers B.memory (pick here ws d) r.card n j (B.cell j)) j
              (same_seen r.card n j);
          owner-ok = λ ne. whole (λ y. owns y.state ≡ true) B.owner (ok.owner-ok ne);
          beside = λ k p. whole (λ y. sole y.state ≡ false) B.owner
              (ok.beside k (whole (λ y. shares y.state ≡ true → shares (B.cell k).state ≡ true) k (λ h. h) p));
          writes = All-map (λ w p. whole (λ y. stores y.state ≡ true) w.card p) ws ok.writes;
          memory-is = ok.memory-is;
        }

    -- a put: the asker goes, the others stay
    idle-seen : (owner sharers memory current j : ℕ) → r.card ≡ j
        → Seen cards owner sharers memory current r.card n j (B.cell j) idle
    idle-seen owner sharers memory current j e = calm-seen cards owner sharers memory current r.card n j (B.cell j) idle
        idle-calm (λ p. absurd (true≢false p)) (λ _ ne. absurd (ne e))

    put-taken : put_stands (B.cell r.card).state ≡ true → Ordered cards B (ordered PutTaken B r n) r.card n [] (pick here ws d)
    unfolding ordered upshot_of pick
    put-taken h =
        let q = r.card in
        let s = (B.cell q).state in
        let l = (ok.cells q).code in
        let t = put s l h in
        let own = (state s l).gives-owns t.gives in
        let v = (B.cell q).value in
        let sharers = cond (leaves_sharers s) B.sharers 0 in
        let current = pick here ws d in
        let leaves : (j : ℕ) → shares (B.cell j).state ≡ true → leaves_sharers s ≡ true
        = λ j p. test (leaves_sharers s) (λ e. e) (λ e. absurd (owner-alone ok few q j (t.ends-sole e) p)) in
        let stay : (P : Cell → Type 0) (j : ℕ) → (q ≡ j → P idle) → (q ≢ j → P (B.cell j)) → P (sees PutTaken B r n j)
        = λ P j. others-stay P PutTaken B r n j (λ _. refl) (λ _. refl) in
        record {
          seen = λ j. stay (Seen cards home sharers v current q n j (B.cell j)) j
              (idle-seen home sharers v current j)
              (λ ne. let x = ok.cells j in
              let owns_not = false-if (λ p. ne (one-owner ok q j own p)) in
              let sj = state (B.cell j).state x.code in
              record {
                cell-ok = record {
                  code = x.code;
                  inside = x.inside;
                  owned = λ p. absurd (clash p owns_not);
                  shared = λ p. rw (leaves j p) (x.shared p);
                  copied = λ p. x.copied p ∙ sym ((ok.cells q).copied (t.leaves-copy (leaves j (sj.copies-shares p owns_not))));
                  written = λ p. absurd (clash (sj.stores-owns p) owns_not);
                };
                waits-only = λ p. absurd (clash p (free j));
                stands = λ _ _ p. p;
              });
          owner-ok = λ n. absurd (n refl);
          beside = λ k p. stay (λ y. sole y.state ≡ false) home (λ _. idle-sole) (λ _. home-idle ok few);
          writes = tt;
          memory-is = load-current ok few q t.loaded;
        }

    put-lapsed : Calm (B.cell r.card).state → Ordered cards B (ordered PutLapsed B r n) r.card n ws d
    unfolding ordered upshot_of
    put-lapsed h =
        let q = r.card in
        let stay : (P : Cell → Type 0) (j : ℕ) → (q ≡ j → P idle) → (q ≢ j → P (B.cell j)) → P (sees PutLapsed B r n j)
        = λ P j. others-stay P PutLapsed B r n j (λ _. refl) (λ _. refl) in
        let other : (j : ℕ) → owns (B.cell j).state ≡ true → q ≢ j
        = λ j p e. clash p (subst (λ i. owns (B.cell i).state ≡ false) e h.owns_not) in
        record {
          seen = λ j. stay (Seen cards B.owner B.sharers B.memory (pick here ws d) q n j (B.cell j)) j
              (idle-seen B.owner B.sharers B.memory (pick here ws d) j) (λ _. same_seen q n j);
          owner-ok = λ ne. stay (λ y. owns y.state ≡ true) B.owner
              (λ e. absurd (other B.owner (ok.owner-ok ne) e)) (λ _. ok.owner-ok ne);
          beside = λ k p.
              let shared = stay (λ y. shares y.state ≡ true → shares (B.cell k).state ≡ true) k
              (λ _ g. absurd (clash g idle-calm.shares-not)) (λ _ g. g) p in
              stay (λ y. sole y.state ≡ false) B.owner (λ _. idle-sole) (λ _. ok.beside k shared);
          writes = All-map (λ w p. stay (λ y. stores y.state ≡ true) w.card
              (λ e. absurd (other w.card (stores-own ok w.card p) e)) (λ _. p)) ws ok.writes;
          memory-is = ok.memory-is;
        }

-- The head's turn, whichever it is: what it leaves of the block, by its outcome

module _ (c : Chassis) (r : Request) (n : OrderNo) {ws : List Write} {d : ℕ} (ok : BlockOk c.cards (c.block r.block) ws d)
    (few : c.cards ≤ home) (free : (k : ℕ) → waits ((c.block r.block).cell k).state ≡ false) (asks : RequestOk (c.block r.block) r) where
  abbrev Leaves : Turn → List Write → ℕ → Type 0
  Leaves t = Ordered c.cards (c.block r.block) (ordered t (c.block r.block) r n) r.card n

  -- a request that is no GETS and no PUTX is a GETX
  is-getx : eqb r.kind putx ≡ false → eqb r.kind gets ≡ false → r.kind ≡ getx
  is-getx e g =
      let t = (asking r.kind ((c.block r.block).cell r.card).state (ok.cells r.card).code asks).kind-is in
      eqb-true r.kind getx (test (eqb r.kind getx) (λ y. y) (λ y. absurd (clash t (rw (g, y, e)))))

  pub turn-cases : (K : Turn → Type 0)
      → ((t : Turn) → (upshot_of t).outcome ≡ granted → eqb r.kind putx ≡ false → Leaves t [] (pick here ws d) → K t)
      → ((t : Turn) → (upshot_of t).outcome ≡ too_small → Leaves t ws d → K t)
      → ((t : Turn) → (upshot_of t).outcome ≡ put_taken → Leaves t [] (pick here ws d) → K t)
      → ((t : Turn) → (upshot_of t).outcome ≡ put_lapsed → Leaves t ws d → K t)
      → K (turn c r)
  unfolding turn upshot_of
  turn-cases K grants misses takes lapses =
      let B = c.block r.block in
      let s = (B.cell r.card).state in
      let l = (ok.cells r.card).code in
      let from : (kind : ℕ) → r.kind ≡ kind → comes_from kind s ≡ true = λ kind e. subst (λ i. comes_from i s ≡ true) e asks in
      cond_cases K (eqb r.kind putx) _ _
      (λ e. cond_cases K (put_stands s) PutTaken PutLapsed
      (λ f. takes PutTaken refl (put-taken ok few free r n f))
      (λ f. lapses PutLapsed refl (put-lapsed ok few free r n (lapsed-calm s l (from putx (eqb-true r.kind putx e)) f))))
      (λ e. cond_cases K (suffices c.cards B r) _ _
      (λ f. cond_cases K (eqb r.kind gets) (GetsGranted c.edition) GetxGranted
      (λ g. grants (GetsGranted c.edition) refl e (gets-ordered ok few free r n c.edition (from gets (eqb-true r.kind gets g))))
      (λ g. grants GetxGranted refl e (getx-ordered ok few free r n (from getx (is-getx e g)) (sharers-named c.cards B r g f))))
      (λ f. cond_cases K (eqb r.kind gets) GetsMissed GetxMissed
      (λ g. misses GetsMissed refl (gets-missed ok few free r n))
      (λ g. misses GetxMissed refl (getx-missed ok few free r n))))
