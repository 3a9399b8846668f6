-- "A card's cell": the rows of the card state table, and the states that the rules name.
use Rattle.std.specs.Prelude.{ℕ, Bool, true, false, cond, Option, None, Some, List, [], ◌∷◌, get_or, eqb}
use Rattle.rules.specs.Tests.{one_of}
use Rattle.rules.specs.Numbers.{
  S,
  M,
  IS_AD,
  IM_AD,
  SM_AD,
  IS_D,
  IM_D,
  SM_D,
  MI_A,
  II_A,
  O,
  OM_AD,
  OI_A,
  none,
}
use Rattle.rules.specs.declared.Edition.{Edition}
use Rattle.rules.specs.declared.Edition.TheVariants.{Msi, Mosi}

-- a row: the rights, where an ask of each kind leads, where a seen request leads; GETS leads an owner elsewhere in each edition
pub record Row : Type 0 where
  pub load : Bool
  pub store : Bool
  pub ask_gets : ℕ
  pub ask_getx : ℕ
  pub ask_putx : ℕ
  pub see_gets : Edition → ℕ
  pub see_getx : ℕ

-- an entry of the table in MSI, and in MOSI
abbrev in_edition : ℕ → ℕ → Edition → ℕ
in_edition msi mosi Msi = msi
in_edition msi mosi Mosi = mosi

abbrev row : Bool → Bool → ℕ → ℕ → ℕ → ℕ → ℕ → ℕ → Row
row load store ask_gets ask_getx ask_putx msiGets mosiGets see_getx = record {
  load = load;
  store = store;
  ask_gets = ask_gets;
  ask_getx = ask_getx;
  ask_putx = ask_putx;
  see_gets = in_edition msiGets mosiGets;
  see_getx = see_getx;
}

-- "An empty place means no right, or no move."
abbrev ✓ : Bool
✓ = true

abbrev – : Bool
– = false

abbrev · : ℕ
· = none

-- Load, Store; where GETS, GETX, PUTX lead; sees GETS as owner in MSI, in MOSI; sees another's GETX. R-1: "An M owner that sees GETS goes to a new
-- state O: it keeps the ownership and loads but doesn't store"; "MI_A that sees GETS goes to 13"; "O (state 11) may ask GETX (an upgrade, to
-- 12 ..) and PUTX (to 13). 12 and 13 load too; all three stay on GETS"; "Another's granted GETX takes 11, 12, 13 to 0, 4, 10"
unfoldable pub card_table : List Row
card_table =
    row – – 3 4 · · · · ∷  -- 0 I
    row ✓ – · 5 · · · 0 ∷  -- 1 S
    row ✓ ✓ · · 9 1 11 0 ∷  -- 2 M
    row – – · · · · · · ∷  -- 3 IS_AD
    row – – · · · · · · ∷  -- 4 IM_AD
    row ✓ – · · · · · 4 ∷  -- 5 SM_AD
    row – – · · · · · · ∷  -- 6 IS_D
    row – – · · · · · · ∷  -- 7 IM_D
    row ✓ – · · · · · · ∷  -- 8 SM_D
    row ✓ ✓ · · · 10 13 10 ∷  -- 9 MI_A
    row – – · · · · · · ∷  -- 10 II_A
    row ✓ – · 12 13 · · 0 ∷  -- 11 O
    row ✓ – · · · · · 4 ∷  -- 12 OM_AD
    row ✓ – · · · · · 10 ∷  -- 13 OI_A
    []

-- the row of a state; what is no state has an empty row
unfoldable pub row_of : ℕ → Row
unfolding card_table
row_of s = get_or card_table s (row – – · · · · · ·)

-- where a place of the table leads: nowhere, where it is empty; what the code says of a place
abbrev pub leads : ℕ → Option ℕ
leads t = cond (eqb t none) None (Some t)

-- The columns

-- the right to load; the right to store
unfoldable pub loads : ℕ → Bool
unfolding row_of
loads s = (row_of s).load

unfoldable pub stores : ℕ → Bool
unfolding row_of
stores s = (row_of s).store

-- where an ask of each kind leads, or none
unfoldable pub asks_gets : ℕ → ℕ
unfolding row_of
asks_gets s = (row_of s).ask_gets

unfoldable pub asks_getx : ℕ → ℕ
unfolding row_of
asks_getx s = (row_of s).ask_getx

unfoldable pub asks_putx : ℕ → ℕ
unfolding row_of
asks_putx s = (row_of s).ask_putx

-- where an ask of this kind leads; there is no ask of kind 0 or above 3
unfoldable pub asked : ℕ → ℕ → ℕ
unfolding asks_gets asks_getx asks_putx
asked kind s = get_or (none ∷ asks_gets s ∷ asks_getx s ∷ asks_putx s ∷ []) kind none

-- where state s goes that is to move to t: nowhere, where t is none
unfoldable pub moved : ℕ → ℕ → ℕ
moved s t = cond (eqb t none) s t

-- where a state goes that sees GETS as owner, or another's GETX
unfoldable pub sees_gets : Edition → ℕ → ℕ
unfolding row_of moved
sees_gets e s = moved s ((row_of s).see_gets e)

unfoldable pub sees_getx : ℕ → ℕ
unfolding row_of moved
sees_getx s = moved s (row_of s).see_getx

-- States that the rules name

-- Drop: "S becomes I"
unfoldable pub drops : ℕ → Bool
unfolding one_of
drops s = one_of (S ∷ []) s

-- "in 6, 7 or 8": data is on its way to the card
unfoldable pub waits : ℕ → Bool
unfolding one_of
waits s = one_of (IS_D ∷ IM_D ∷ SM_D ∷ []) s

-- "in states 1 and 5": a reader, which another's GETX moves, granted or not
unfoldable pub is_reader : ℕ → Bool
unfolding one_of
is_reader s = one_of (S ∷ SM_AD ∷ []) s

-- "in 2 or 9", R-1: "the owner may be in 11 to 13": an owner that can give its value away
unfoldable pub can_give : ℕ → Bool
unfolding one_of
can_give s = one_of (M ∷ MI_A ∷ O ∷ OM_AD ∷ OI_A ∷ []) s

-- where a request of each kind comes from: what is "GETS not from 3, GETX not from 4 or 5, PUTX not from 9 or 10" is impossible; R-1: "GETX may
-- come from 12 and PUTX from 13"
abbrev pub askers : List (List ℕ)
askers = [] ∷ (IS_AD ∷ []) ∷ (IM_AD ∷ SM_AD ∷ OM_AD ∷ []) ∷ (MI_A ∷ II_A ∷ OI_A ∷ []) ∷ []

unfoldable pub comes_from : ℕ → ℕ → Bool
unfolding one_of
comes_from kind s = one_of (get_or askers kind []) s

-- R-1: "an upgrade, to 12": a GETX of the owner's own
unfoldable pub upgrades : ℕ → Bool
unfolding one_of
upgrades s = one_of (OM_AD ∷ []) s

-- "PUTX .. From 9", R-1: "A put from 13 (outcome 3)": the put stands; from 10 it has lapsed
unfoldable pub put_stands : ℕ → Bool
unfolding one_of
put_stands s = one_of (MI_A ∷ OI_A ∷ []) s

-- R-1: "A put from 13 .. leaves the sharers listed"
unfoldable pub leaves_sharers : ℕ → Bool
unfolding one_of
leaves_sharers s = one_of (OI_A ∷ []) s

-- a granted GETS: "q goes to 6"; a granted GETX: "q goes from 4 to 7 or from 5 to 8"; R-1: 12 goes "when granted to 8"
abbrev pub granted_states : List ℕ
granted_states = none ∷ none ∷ none ∷ IS_D ∷ IM_D ∷ SM_D ∷ none ∷ none ∷ none ∷ none ∷ none ∷ none ∷ SM_D ∷ []

unfoldable pub granted_to : ℕ → ℕ
granted_to s = get_or granted_states s none

-- data comes to 6, 7 or 8: it "goes to 1, 2 or 2"
abbrev pub filled_states : List ℕ
filled_states = none ∷ none ∷ none ∷ none ∷ none ∷ none ∷ S ∷ M ∷ M ∷ []

unfoldable pub filled_to : ℕ → ℕ
filled_to s = get_or filled_states s none
