-- Loops over tests and over the words of a row, and the tests of an item as code computes them.
use Prim.Native.Nat.{ℕ, suc, ◌+◌, ◌<◌}
use native.Mathlib.Nat.{add-zero}
use native.Mathlib.Numerals.{add-one}
use native.Mathlib.Omega.{arith}
use mathlib.Core.Bool.{Bool, true, false, not, ◌&&◌, ◌||◌, and-true, and_assoc}
use mathlib.Core.List.{List, [], ◌∷◌, ◌++◌}
use mathlib.Core.Path.{◌≡◌, refl, sym, ap, ap₂, ◌∙◌}
use lib.ListN.{length, get_or, take}
use lib.Seq.{take-suc, length-take-le}
use lib.Dec.{eqb, ltb, leb}
use Rattle.rules.specs.Tests.{◌⇒◌, each}
use Rattle.rules.specs.Masks.{every}
use Rattle.rules.specs.Numbers.{last_retry, gets, putx, states_in}
use Rattle.rules.specs.Table.{loads, waits}
use Rattle.rules.specs.Formed.{home_or_card, ok_cell, ok_request, ok_message}
use Rattle.rules.proofs.Masks.{inside-every}
use Rattle.words.specs.Inner.Tested.{row_is}
use Rattle.rules.specs.declared.OrderNo.{OrderNo}
use Rattle.rules.specs.declared.Cell.{Cell}
use Rattle.rules.specs.declared.Request.{Request}
use Rattle.rules.specs.declared.Message.{Message}
use Rattle.rules.specs.declared.Edition.{Edition}

-- where a holds, b holds
or-imp : (a b : Bool) → (not a || b) ≡ (a ⇒ b)
or-imp true b = refl
or-imp false b = refl

or-imp-not : (a b : Bool) → (a || b) ≡ (not a ⇒ b)
or-imp-not true b = refl
or-imp-not false b = refl

-- The words of a row, tested one after another

row_snoc : (w : List ℕ) (p : ℕ) (xs : List ℕ) (x : ℕ) → row_is w p (xs ++ x ∷ []) ≡ (row_is w p xs && eqb (get_or w (p + length xs) 0) x)
unfolding row_is
row_snoc w p [] x = rw add-zero (and-true (eqb (get_or w p 0) x))
row_snoc w p (y ∷ xs) x =
    let at : suc p + length xs ≡ p + suc (length xs) = omega arith in
    ap (λ t. eqb (get_or w p 0) y && t) (row_snoc w (suc p) xs x ∙ ap (λ q. row_is w (suc p) xs && eqb (get_or w q 0) x) at)
    ∙ sym (and_assoc (eqb (get_or w p 0) y) (row_is w (suc p) xs) _)

module _ (w : List ℕ) (p : ℕ) (row : List ℕ) where
  pub row_first : true ≡ row_is w p (take 0 row)
  unfolding row_is
  row_first = refl

  pub row_more : (i : ℕ) (same : Bool) → i < length row → same ≡ row_is w p (take i row)
      → (same && eqb (get_or w (p + i) 0) (get_or row i 0)) ≡ row_is w p (take (i + 1) row)
  row_more i same l e =
      let size : length (take i row) ≡ i = length-take-le i row (omega arith) in
      ap₂ (λ (t : Bool) (q : ℕ). t && eqb (get_or w (p + q) 0) (get_or row i 0)) e (sym size)
      ∙ sym (row_snoc w p (take i row) (get_or row i 0))
      ∙ ap (row_is w p) (sym (take-suc row i 0 l) ∙ ap (λ q. take q row) (sym (add-one i)))

-- the rules' tests of an item, one after the other
pub cell-tested : (e : Edition) (n : ℕ) (last : OrderNo) (x : Cell) (w l : Bool) → n ≡ states_in e → w ≡ waits x.state → l ≡ loads x.state
    → (ltb x.state n && leb x.awaits.0 last.0 && (not w || not (eqb x.awaits.0 0)) && (w || eqb x.awaits.0 0)
    && (l || eqb x.value 0)) ≡ ok_cell e last x
unfolding ok_cell each
cell-tested e n last x w l hn hw hl =
    rw (hn, hw, hl, or-imp, or-imp-not (waits x.state), or-imp-not (loads x.state)) (simp (and_assoc, and-true))

pub request-tested : (cards blocks : ℕ) (r : Request) (n : ℕ) → n ≡ every cards
    → (ltb r.card cards && ltb r.block blocks && leb gets r.kind && leb r.kind putx && leb r.mask n
    && leb r.retry.0 last_retry.0 && (not (eqb r.retry.0 last_retry.0) || eqb r.mask n)) ≡ ok_request cards blocks r
unfolding ok_request each
request-tested cards blocks r n h = rw (inside-every cards r.mask n h, h, or-imp) (simp (and_assoc, and-true))

pub message-tested : (cards blocks : ℕ) (last : OrderNo) (m : Message) (s : Bool) → s ≡ home_or_card cards m.sender
    → (s && ltb m.receiver cards && ltb m.block blocks && not (eqb m.number.0 0) && leb m.number.0 last.0)
    ≡ ok_message cards blocks last m
unfolding ok_message each
message-tested cards blocks last m s h = rw h (simp (and_assoc, and-true))
