-- The stores of a log: the last that counts is the current one, who loaded the unsettled ones, and how the struck ones came to be.
use Prim.Native.Nat.{ℕ}
use mathlib.Core.Bool.{Bool, true, false, cond, not, ◌&&◌, true≢false}
use mathlib.Core.List.{List, [], ◌∷◌, map}
use mathlib.Core.Path.{◌≡◌, refl, sym, ◌∙◌, ap}
use mathlib.Core.Logic.{◌≢◌}
use lib.Dec.{eqb}
use borrow.Author.Tests.{eqb-true, eqb-false, ne_eqb}
use Rattle.rules.specs.Lists.{All}
use Rattle.rules.specs.History.{
  Did,
  loaded,
  stored,
  settles,
  rejoined,
  quiet,
  Fate,
  unsettled,
  settled,
  struck,
  Story,
  with_fate,
  with_loader,
  meets,
  settle,
  strike,
  is_struck,
  counts,
  last_store,
  loaded_by,
  stories,
}
use Rattle.rules.specs.Demand.{LoadsLast, NotSettled, StruckByRejoin}
use Rattle.rules.proofs.Tests.{clash, test, cond_cases, and_l, and_r}
use Rattle.rules.proofs.Lists.{All-map, All-map₂, All-each, all_of, keep_all}
use Rattle.rules.proofs.Board.{not_by, pending, pick, here, base, current, pick-keep}

-- Fates

fate-cases : {A : Type 0} (f : Fate) → (f ≡ unsettled → A) → (f ≡ settled → A) → (f ≡ struck → A) → A
fate-cases {A} f u s k = go f refl
  where
    go : (g : Fate) → f ≡ g → A
    go unsettled e = u e
    go settled e = s e
    go struck e = k e

-- a store of this fate counts, where it is lost if it is unsettled and its card gone
unfoldable passes : Bool → Fate → Bool
passes gone unsettled = not gone
passes gone settled = true
passes gone struck = false

passes-counts : (f : Fate) → passes false f ≡ not (is_struck f)
unfolding passes is_struck
passes-counts unsettled = refl
passes-counts settled = refl
passes-counts struck = refl

passes-settled : (gone : Bool) (f : Fate) → passes gone (meets settled f) ≡ passes false f
unfolding passes meets
passes-settled gone unsettled = refl
passes-settled gone settled = refl
passes-settled gone struck = refl

passes-struck : (gone : Bool) (f : Fate) → passes gone (meets struck f) ≡ passes true f
unfolding passes meets
passes-struck gone unsettled = refl
passes-struck gone settled = refl
passes-struck gone struck = refl

settled≢struck : settled ≢ struck
unfolding is_struck
settled≢struck e = true≢false (sym (ap is_struck e))

unsettled≢struck : unsettled ≢ struck
unfolding is_struck
unsettled≢struck e = true≢false (sym (ap is_struck e))

-- settling leaves nothing unsettled, and strikes nothing
meets-settled : (f : Fate) → meets settled f ≢ unsettled
unfolding meets passes
meets-settled unsettled e = true≢false (ap (passes true) e)
meets-settled settled e = true≢false (ap (passes true) e)
meets-settled struck e = unsettled≢struck (sym e)

settled-struck : (f : Fate) → meets settled f ≡ struck → f ≡ struck
unfolding meets
settled-struck unsettled e = absurd (settled≢struck e)
settled-struck settled e = e
settled-struck struck e = e

-- striking leaves nothing unsettled
meets-struck : (f : Fate) → meets struck f ≢ unsettled
unfolding meets passes
meets-struck unsettled e = unsettled≢struck (sym e)
meets-struck settled e = true≢false (ap (passes true) e)
meets-struck struck e = unsettled≢struck (sym e)

-- The last store that counts

-- the value of the first store that passes
unfoldable first : (Story → Bool) → List Story → ℕ
first f [] = 0
first f (w ∷ ws) = cond (f w) w.value (first f ws)

-- a store to b that counts, but for those that are unsettled and whose card is gone
unfoldable stays : (ℕ → Bool) → ℕ → Story → Bool
stays gone b w = eqb w.block b && passes (gone w.card) w.fate

first-map : (f f' : Story → Bool) (g : Story → Story) → ((w : Story) → f (g w) ≡ f' w) → ((w : Story) → (g w).value ≡ w.value)
    → (ws : List Story) → first f (map g ws) ≡ first f' ws
unfolding first
first-map f f' g p q [] = refl
first-map f f' g p q (w ∷ ws) = rw (p w, q w, first-map f f' g p q ws)

last-first : (b : ℕ) (ws : List Story) → last_store b ws ≡ first (stays here b) ws
unfolding last_store first stays counts
last-first b [] = refl
last-first b (w ∷ ws) = rw (passes-counts w.fate, last-first b ws)

first-loaded : (gone : ℕ → Bool) (b k b' : ℕ) (ws : List Story) → first (stays gone b) (loaded_by k b' ws) ≡ first (stays gone b) ws
unfolding first stays loaded_by
first-loaded gone b k b' [] = refl
first-loaded gone b k b' (w ∷ ws) = cond_cases (λ l. first (stays gone b) l ≡ first (stays gone b) (w ∷ ws)) (counts b' w) _ _
    (λ _. refl) (λ _. rw (first-loaded gone b k b' ws))

settle_value : (b : ℕ) (w : Story) → (settle b w).value ≡ w.value
unfolding settle
settle_value b w = cond_cases (λ (x : Story). x.value ≡ w.value) (eqb w.block b) _ w (λ _. refl) (λ _. refl)

strike-value : (k : ℕ) (w : Story) → (strike k w).value ≡ w.value
unfolding strike
strike-value k w = cond_cases (λ (x : Story). x.value ≡ w.value) (eqb w.card k) _ w (λ _. refl) (λ _. refl)

settle-here : (gone : ℕ → Bool) (b : ℕ) (w : Story) → stays gone b (settle b w) ≡ stays here b w
unfolding settle stays
settle-here gone b w = test (eqb w.block b)
    (λ e. rw (e, e, passes-settled (gone w.card) w.fate))
    (λ e. rw (e, e))

settle_other : (gone : ℕ → Bool) (b b' : ℕ) (w : Story) → eqb b' b ≡ false → stays gone b (settle b' w) ≡ stays gone b w
unfolding settle stays
settle_other gone b b' w h = test (eqb w.block b')
    (λ e. let ne = ne_eqb w.block b (λ e'. eqb-false b' b h (sym (eqb-true w.block b' e) ∙ e')) in rw (e, ne))
    (λ e. rw e)

strike-gone : (gone : ℕ → Bool) (b k : ℕ) (w : Story) → stays gone b (strike k w) ≡ stays (λ j. cond (eqb j k) true (gone j)) b w
unfolding strike stays
strike-gone gone b k w = test (eqb w.card k)
    (λ e. rw (e, passes-struck (gone w.card) w.fate))
    (λ e. rw e)

scan : (b : ℕ) (log : List Did) (gone : ℕ → Bool) → first (stays gone b) (stories log) ≡ pick gone (pending b log) (base b log)
unfolding stories pending base pick first stays passes
scan b [] gone = refl
scan b (loaded k b' v ∷ log) gone = first-loaded gone b k b' (stories log) ∙ scan b log gone
scan b (stored k b' v ∷ log) gone = test (eqb b' b)
    (λ e. rw e (test (gone k) (λ g. rw g (scan b log gone)) (λ g. rw g)))
    (λ e. rw e (scan b log gone))
scan b (settles b' ∷ log) gone = test (eqb b' b)
    (λ e. rw (e, eqb-true b' b e)
    (first-map (stays gone b) (stays here b) (settle b) (settle-here gone b) (settle_value b) (stories log) ∙ scan b log here))
    (λ e. rw e
    (first-map (stays gone b) (stays gone b) (settle b') (λ w. settle_other gone b b' w e) (settle_value b') (stories log) ∙ scan b log gone))
scan b (rejoined k ∷ log) gone =
    let gone' : ℕ → Bool = λ j. cond (eqb j k) true (gone j) in
    first-map (stays gone b) (stays gone' b) (strike k) (strike-gone gone b k) (strike-value k) (stories log)
    ∙ scan b log gone' ∙ sym (pick-keep gone k (pending b log) (base b log))
scan b (quiet ∷ log) gone = scan b log gone

pub last-is-current : (b : ℕ) (log : List Did) → last_store b (stories log) ≡ current b log
unfolding current
last-is-current b log = last-first b (stories log) ∙ scan b log here

-- What an entry of the log makes of a store

settle-cases : (Q : Story → Type 0) (b : ℕ) (w : Story)
    → (w.block ≡ b → Q (with_fate (meets settled w.fate) w)) → (w.block ≢ b → Q w) → Q (settle b w)
unfolding settle
settle-cases Q b w f g = cond_cases Q (eqb w.block b) _ w (λ e. f (eqb-true w.block b e)) (λ e. g (eqb-false w.block b e))

strike-cases : (Q : Story → Type 0) (k : ℕ) (w : Story)
    → (w.card ≡ k → Q (with_fate (meets struck w.fate) w)) → (w.card ≢ k → Q w) → Q (strike k w)
unfolding strike
strike-cases Q k w f g = cond_cases Q (eqb w.card k) _ w (λ e. f (eqb-true w.card k e)) (λ e. g (eqb-false w.card k e))

loaded-all : (P Q : Story → Type 0) (k b : ℕ) → ((w : Story) → P w → Q w)
    → ((w : Story) → counts b w ≡ true → P w → Q (with_loader k w))
    → (ws : List Story) → All P ws → All Q (loaded_by k b ws)
unfolding loaded_by
loaded-all P Q k b f g [] h = tt
loaded-all P Q k b f g (w ∷ ws) h = cond_cases (All Q) (counts b w) _ _
    (λ e. (g w e h.0, All-map f ws h.1)) (λ _. (f w h.0, loaded-all P Q k b f g ws h.1))

counts-block : (b : ℕ) (w : Story) → counts b w ≡ true → w.block ≡ b
unfolding counts
counts-block b w h = eqb-true w.block b (and_l (eqb w.block b) (not (is_struck w.fate)) h)

counts-struck : (b : ℕ) (w : Story) → counts b w ≡ true → w.fate ≢ struck
unfolding counts is_struck
counts-struck b w h e =
    clash (and_r (eqb w.block b) (not (is_struck w.fate)) h) (ap (λ f. not (is_struck f)) e)

-- Unsettled stores

-- P of the store's card, where it is an unsettled store to b
abbrev Unsettled : (ℕ → Type 0) → ℕ → Story → Type 0
Unsettled P b w = w.fate ≡ unsettled → w.block ≡ b → P w.card

-- what holds of each card with a pending store to b holds of each with an unsettled one
unsettled-pending : (P : ℕ → Type 0) (b : ℕ) (log : List Did) → All (λ w. P w.card) (pending b log)
    → All (Unsettled P b) (stories log)
unfolding stories pending not_by
unsettled-pending P b [] h = tt
unsettled-pending P b (loaded k b' v ∷ log) h =
    loaded-all (Unsettled P b) (Unsettled P b) k b' (λ _ p. p) (λ _ _ p. p) (stories log) (unsettled-pending P b log h)
unsettled-pending P b (stored k b' v ∷ log) h = test (eqb b' b)
    (λ e. let h' = rw e at h in ((λ _ _. h'.0), unsettled-pending P b log h'.1))
    (λ e. ((λ _ e'. absurd (eqb-false b' b e e')), unsettled-pending P b log (rw e at h)))
unsettled-pending P b (settles b' ∷ log) h = test (eqb b' b)
    (λ e. All-each (λ _. Unit {0}) (Unsettled P b) (settle b')
    (λ w _. settle-cases (Unsettled P b) b' w
    (λ _ u. absurd (meets-settled w.fate u)) (λ ne _ at. absurd (ne (at ∙ sym (eqb-true b' b e)))))
    (stories log) (all_of (λ _. Unit {0}) (λ _. tt) (stories log)))
    (λ e. All-each (Unsettled P b) (Unsettled P b) (settle b')
    (λ w p. settle-cases (Unsettled P b) b' w (λ _ u. absurd (meets-settled w.fate u)) (λ _. p))
    (stories log) (unsettled-pending P b log (rw e at h)))
unsettled-pending P b (rejoined k ∷ log) h =
    let Q : ℕ → Type 0 = λ j. j ≢ k → P j in
    All-each (Unsettled Q b) (Unsettled P b) (strike k)
    (λ w p. strike-cases (Unsettled P b) k w (λ _ u. absurd (meets-struck w.fate u)) (λ ne u at. p u at ne))
    (stories log)
    (unsettled-pending Q b log (All-map (λ w q ne. q (rw (ne_eqb w.card k ne))) (pending b log)
    (keep_all (λ w. P w.card) (not_by k) (pending b log) h)))
unsettled-pending P b (quiet ∷ log) h = unsettled-pending P b log h

-- no card but its own has loaded a store that is not settled
abbrev Unseen : Story → Type 0
Unseen w = w.fate ≢ settled → All (λ k. k ≡ w.card) w.loaders

-- Stores that home has not settled

unfoldable is_settling : Did → Bool
is_settling (loaded k b v) = false
is_settling (stored k b v) = false
is_settling (settles b) = true
is_settling (rejoined k) = false
is_settling quiet = false

-- the block that an entry settles
unfoldable settled_block : Did → ℕ
settled_block (loaded k b v) = 0
settled_block (stored k b v) = 0
settled_block (settles b) = b
settled_block (rejoined k) = 0
settled_block quiet = 0

no-settling : (d : Did) → is_settling d ≡ false → (b : ℕ) → d ≢ settles b
unfolding is_settling
no-settling d h b e = true≢false (sym (ap is_settling e) ∙ h)

other-settling : (b b' : ℕ) → b ≢ b' → settles b' ≢ settles b
unfolding settled_block
other-settling b b' ne e = ne (sym (ap settled_block e))

abbrev Open : List Did → Story → Type 0
Open log w = w.fate ≡ unsettled → NotSettled log w

-- the same store with other loaders and another fate
same_store : (log : List Did) (w : Story) (ls : List ℕ) (f : Fate) → NotSettled log w
    → NotSettled log (record { serial = w.serial; card = w.card; block = w.block; value = w.value; loaders = ls; fate = f })
same_store log w ls f o = record {
  since = o.since;
  earlier = o.earlier;
  made_then = o.made_then;
  this_store = o.this_store;
  none_settles = o.none_settles;
}

open-grows : (d : Did) (log : List Did) (w : Story) → d ≢ settles w.block → NotSettled log w → NotSettled (d ∷ log) w
open-grows d log w n o = record {
  since = d ∷ o.since;
  earlier = o.earlier;
  made_then = ap (λ l. d ∷ l) o.made_then;
  this_store = o.this_store;
  none_settles = (n, o.none_settles);
}

-- every unsettled store is one that nothing settled since it was made
not_settled : (log : List Did) → All (Open log) (stories log)
unfolding stories is_settling
not_settled [] = tt
not_settled (loaded k b v ∷ log) =
    let d = loaded k b v in
    let grown : (w : Story) → Open log w → Open (d ∷ log) w = λ w q u. open-grows d log w (no-settling d refl w.block) (q u) in
    loaded-all (Open log) (Open (d ∷ log)) k b grown
    (λ w _ q u. same_store (d ∷ log) w (k ∷ w.loaders) w.fate (grown w q u)) (stories log) (not_settled log)
not_settled (stored k b v ∷ log) = (
  (λ _. record { since = []; earlier = log; made_then = refl; this_store = refl; none_settles = tt }),
  All-map (λ w q u. open-grows (stored k b v) log w (no-settling (stored k b v) refl w.block) (q u)) (stories log) (not_settled log),
)
not_settled (settles b ∷ log) = All-each (Open log) (Open (settles b ∷ log)) (settle b)
    (λ w q. settle-cases (Open (settles b ∷ log)) b w
    (λ _ u. absurd (meets-settled w.fate u)) (λ ne u. open-grows (settles b) log w (other-settling w.block b ne) (q u)))
    (stories log) (not_settled log)
not_settled (rejoined k ∷ log) = All-each (Open log) (Open (rejoined k ∷ log)) (strike k)
    (λ w q. strike-cases (Open (rejoined k ∷ log)) k w
    (λ _ u. absurd (meets-struck w.fate u)) (λ _ u. open-grows (rejoined k) log w (no-settling (rejoined k) refl w.block) (q u)))
    (stories log) (not_settled log)
not_settled (quiet ∷ log) =
    All-map (λ w q u. open-grows quiet log w (no-settling quiet refl w.block) (q u)) (stories log) (not_settled log)

-- Struck stores

abbrev Struck : List Did → Story → Type 0
Struck log w = w.fate ≡ struck → StruckByRejoin log w

-- one that was struck before, whatever its fate is called
struck-grows : (d : Did) (log : List Did) (w : Story) (f : Fate) → StruckByRejoin log w → StruckByRejoin (d ∷ log) (with_fate f w)
struck-grows d log w f s = record {
  later = d ∷ s.later;
  earlier = s.earlier;
  at_rejoin = ap (λ l. d ∷ l) s.at_rejoin;
  not_settled = same_store s.earlier w w.loaders f s.not_settled;
}

-- one that its card's rejoin strikes now
struck-now : (log : List Did) (k : ℕ) (w : Story) (f : Fate) → w.card ≡ k → NotSettled log w
    → StruckByRejoin (rejoined k ∷ log) (with_fate f w)
struck-now log k w f e o = record {
  later = [];
  earlier = log;
  at_rejoin = ap (λ j. rejoined j ∷ log) (sym e);
  not_settled = same_store log w w.loaders f o;
}

rejoin-strikes : (log : List Did) (k : ℕ) (w : Story) → Open log w → Struck log w → Struck (rejoined k ∷ log) (strike k w)
unfolding meets
rejoin-strikes log k w o p =
    let before : (f : Fate) → w.fate ≡ struck → StruckByRejoin (rejoined k ∷ log) (with_fate f w)
    = λ f s. struck-grows (rejoined k) log w f (p s) in
    strike-cases (Struck (rejoined k ∷ log)) k w
    (λ e s. fate-cases w.fate
    (λ u. struck-now log k w (meets struck w.fate) e (o u))
    (λ t. absurd (settled≢struck (sym (ap (meets struck) t) ∙ s)))
    (before (meets struck w.fate)))
    (λ _. before w.fate)

-- What is known of a log

-- a load returned the current value, and every store that is pending for its block is its card's own
abbrev pub LoadOk : List Did → Did → Type 0
LoadOk log (loaded k b v) = (v ≡ current b log) × All (λ w. w.card ≡ k) (pending b log)
LoadOk log (stored k b v) = Unit {0}
LoadOk log (settles b) = Unit {0}
LoadOk log (rejoined k) = Unit {0}
LoadOk log quiet = Unit {0}

pub record Past (log : List Did) : Type 0 where
  pub loads_last : LoadsLast log
  pub unseen : All Unseen (stories log)
  pub struck-ok : All (Struck log) (stories log)

pub past-empty : Past []
unfolding stories
past-empty = record { loads_last = tt; unseen = tt; struck-ok = tt }

pub past_more : (log : List Did) (d : Did) → LoadOk log d → Past log → Past (d ∷ log)
unfolding stories meets
past_more log (loaded k b v) h p = record {
  loads_last = (h.0 ∙ sym (last-is-current b log), p.loads_last);
  unseen = loaded-all (λ w. Unseen w × Unsettled (λ j. j ≡ k) b w) Unseen k b (λ _ q. q.0)
      (λ w c q n. (
        fate-cases w.fate
            (λ u. sym (q.1 u (counts-block b w c))) (λ s. absurd (n s)) (λ s. absurd (counts-struck b w c s)),
        q.0 n,
      ))
      (stories log)
      (All-map₂ (λ w q u. (q, u)) (stories log) p.unseen (unsettled-pending (λ j. j ≡ k) b log h.1));
  struck-ok = loaded-all (Struck log) (Struck (loaded k b v ∷ log)) k b
      (λ w q s. struck-grows (loaded k b v) log w w.fate (q s)) (λ w c _ s. absurd (counts-struck b w c s))
      (stories log) p.struck-ok;
}
past_more log (stored k b v) h p = record {
  loads_last = p.loads_last;
  unseen = ((λ _. tt), p.unseen);
  struck-ok = (
    (λ e. absurd (unsettled≢struck e)),
    All-map (λ w q s. struck-grows (stored k b v) log w w.fate (q s)) (stories log) p.struck-ok,
  );
}
past_more log (settles b) h p = record {
  loads_last = p.loads_last;
  unseen = All-each Unseen Unseen (settle b)
      (λ w q. settle-cases Unseen b w (λ _ n. q (λ s. n (ap (meets settled) s))) (λ _. q)) (stories log) p.unseen;
  struck-ok = All-each (Struck log) (Struck (settles b ∷ log)) (settle b)
      (λ w q. settle-cases (Struck (settles b ∷ log)) b w
      (λ _ s. struck-grows (settles b) log w (meets settled w.fate) (q (settled-struck w.fate s)))
      (λ _ s. struck-grows (settles b) log w w.fate (q s))) (stories log) p.struck-ok;
}
past_more log (rejoined k) h p = record {
  loads_last = p.loads_last;
  unseen = All-each Unseen Unseen (strike k)
      (λ w q. strike-cases Unseen k w (λ _ n. q (λ s. n (ap (meets struck) s))) (λ _. q)) (stories log) p.unseen;
  struck-ok = All-each (λ w. Open log w × Struck log w) (Struck (rejoined k ∷ log)) (strike k)
      (λ w q. rejoin-strikes log k w q.0 q.1) (stories log)
      (All-map₂ (λ w o q. (o, q)) (stories log) (not_settled log) p.struck-ok);
}
past_more log quiet h p = record {
  loads_last = p.loads_last;
  unseen = p.unseen;
  struck-ok = All-map (λ w q s. struck-grows quiet log w w.fate (q s)) (stories log) p.struck-ok;
}

pub struck_unseen : (w : Story) → Unseen w → w.fate ≡ struck → All (λ k. k ≡ w.card) w.loaders
struck_unseen w h s = h (λ e. settled≢struck (sym e ∙ s))
