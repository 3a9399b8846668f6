-- An answer as one number.
use Rattle.std.specs.Prelude.{ℕ, ◌+◌, ◌*◌, ◌^◌, ◌≡◌}
use Rattle.rules.specs.Answers.{refusal_of, value_of}
use Rattle.rules.specs.Answers.{Answer}

-- a half of the number
abbrev pub half : ℕ
half = 2 ^ 32

-- "the refusal or 0" in the upper half, "the value" in the lower half
abbrev pub one_number : Answer → ℕ
one_number r = refusal_of r * half + value_of r

-- n is the number of an answer that keeps a promise
pub record Says (Promised : Answer → Type 0) (n : ℕ) : Type 0 where
  pub answer : Answer
  pub kept : Promised answer
  pub told : n ≡ one_number answer
