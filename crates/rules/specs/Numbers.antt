-- The paper's numbers, by name. The refusals are the cases of `Refusal`, whose numbers are in Answers.
use Rattle.std.specs.Prelude.{Err, Ok, ℕ, suc, ◌-◌, ◌^◌, Bool, cond, Result, eqb, leb}
use Rattle.rules.specs.declared.Edition.{Edition}
use Rattle.rules.specs.declared.Edition.TheVariants.{Msi, Mosi}
use Rattle.rules.specs.declared.NoEdition.{NoEdition}
use Rattle.rules.specs.declared.OrderNo.{OrderNo}
use Rattle.rules.specs.declared.RetryNo.{RetryNo}

-- "1 to 8 cards (0 up), 1 to 32 blocks (0 up)"
abbrev pub most_cards : ℕ
most_cards = 8

abbrev pub most_blocks : ℕ
most_blocks = 32

-- "Bit k of a mask is card k": how many bits a mask has
abbrev pub mask_bits : ℕ
mask_bits = 8

-- "one home, written as 255 where a card number would stand"
abbrev pub home : ℕ
home = 255

-- "one line (room 64)", "a pool (room 64)"
abbrev pub room : ℕ
room = 64

-- "An order number and a retry number are kinds of their own and may not be mixed."

abbrev pub order_no : ℕ → OrderNo
order_no n = record { 0 = n }

abbrev pub retry_no : ℕ → RetryNo
retry_no n = record { 0 = n }

-- "the last order number given: 0 at the start"; it is also what a cell awaits that awaits none
abbrev pub no_number : OrderNo
no_number = order_no 0

-- "64 bits wide": the last that can be given
abbrev pub last_number : OrderNo
last_number = order_no (2 ^ 64 - 1)

-- "the next order number"
abbrev pub next_number : OrderNo → OrderNo
next_number n = order_no (suc n.0)

-- two order numbers are one; the first is not above the second
abbrev pub same_number : OrderNo → OrderNo → Bool
same_number m n = eqb m.0 n.0

abbrev pub up_to_number : OrderNo → OrderNo → Bool
up_to_number m n = leb m.0 n.0

-- "retry (0 to 3)"
abbrev pub first_retry : RetryNo
first_retry = retry_no 0

abbrev pub last_retry : RetryNo
last_retry = retry_no 3

-- "retry one higher"
abbrev pub next_retry : RetryNo → RetryNo
next_retry n = retry_no (suc n.0)

-- two retry numbers are one; the first is not above the second
abbrev pub same_retry : RetryNo → RetryNo → Bool
same_retry m n = eqb m.0 n.0

abbrev pub up_to_retry : RetryNo → RetryNo → Bool
up_to_retry m n = leb m.0 n.0

-- "kind 1 GETS, 2 GETX, 3 PUTX"
abbrev pub gets : ℕ
gets = 1

abbrev pub getx : ℕ
getx = 2

abbrev pub putx : ℕ
putx = 3

-- the states of a cell
abbrev pub I : ℕ
I = 0

abbrev pub S : ℕ
S = 1

abbrev pub M : ℕ
M = 2

abbrev pub IS_AD : ℕ
IS_AD = 3

abbrev pub IM_AD : ℕ
IM_AD = 4

abbrev pub SM_AD : ℕ
SM_AD = 5

abbrev pub IS_D : ℕ
IS_D = 6

abbrev pub IM_D : ℕ
IM_D = 7

abbrev pub SM_D : ℕ
SM_D = 8

abbrev pub MI_A : ℕ
MI_A = 9

abbrev pub II_A : ℕ
II_A = 10

-- R-1: "a new state O", and those of its upgrade and its put
abbrev pub O : ℕ
O = 11

abbrev pub OM_AD : ℕ
OM_AD = 12

abbrev pub OI_A : ℕ
OI_A = 13

-- the editions by number, where a word or a byte stands for one
abbrev pub edition_no : Edition → ℕ
edition_no Msi = 0
edition_no Mosi = 1

-- and back: a number that is no edition's is handed back
abbrev pub edition_by : ℕ → Result Edition NoEdition
edition_by n = cond (eqb n (edition_no Msi)) (Ok Msi) (cond (eqb n (edition_no Mosi)) (Ok Mosi) (Err (record { 0 = n })))

-- how many states there are; R-1: "in MSI states 11 to 13 are ill formed"
abbrev pub states : ℕ
states = 14

abbrev pub states_in : Edition → ℕ
states_in Msi = 11
states_in Mosi = states

-- an empty place of the card state table
abbrev pub none : ℕ
none = 255

-- the outcomes of Order
abbrev pub granted : ℕ
granted = 1

abbrev pub too_small : ℕ
too_small = 2

abbrev pub put_taken : ℕ
put_taken = 3

abbrev pub put_lapsed : ℕ
put_lapsed = 4

-- the outcomes of Deliver
abbrev pub taken : ℕ
taken = 1

abbrev pub stale : ℕ
stale = 2
