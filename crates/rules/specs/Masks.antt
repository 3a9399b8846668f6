-- Masks: "Bit k of a mask is card k."
use Rattle.std.specs.Prelude.{ℕ, ◌/◌, ◌%◌, ◌^◌, ◌-◌, Bool, eqb, ltb}
use Rattle.std.specs.Int.Bits.{bit_and, bit_or, bit_xor}

-- card k is in the mask
unfoldable pub has : ℕ → ℕ → Bool
has mask k = eqb (mask / 2 ^ k % 2) 1

-- the mask of one card
unfoldable pub only : ℕ → ℕ
only k = 2 ^ k

-- the mask of every card
unfoldable pub every : ℕ → ℕ
every cards = 2 ^ cards - 1

-- the cards of one mask and of the other
unfoldable pub union : ℕ → ℕ → ℕ
union a b = bit_or a b

-- the cards of a that are not in b
unfoldable pub without : ℕ → ℕ → ℕ
without a b = bit_xor a (bit_and a b)

-- no card in the mask but those that are there
unfoldable pub inside : ℕ → ℕ → Bool
inside cards mask = ltb mask (2 ^ cards)
