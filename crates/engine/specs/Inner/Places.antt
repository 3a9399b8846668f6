-- A list of places, the line or the pool: what is the same of both, of an item's row, of where the places begin, of the word that counts them,
-- and of what a chassis has.
use Rattle.std.specs.Prelude.{ℕ, ◌+◌, ◌-◌, ◌≤◌, ◌<◌, Bool, cond, ◌&&◌, List, [], ◌∷◌, ◌++◌, ◌≡◌, get_or, set, ltb}
use Rattle.std.proofs.lemmas.List.Edits.{sets}
use Rattle.std.proofs.Common.{refl, arith}
use Rattle.rules.specs.Lists.{removed}
use Rattle.rules.specs.Numbers.{room}
use Rattle.rules.specs.Formed.{ok_request, ok_message}
use Rattle.rules.specs.Chassis.{Chassis, line_changed, pool_changed, unused_request, unused_message}
use Rattle.rules.specs.declared.Request.{Request}
use Rattle.rules.specs.declared.Message.{Message}
use Rattle.words.specs.Layout.{all_words, place_words, place_from, line_from, pool_from, waiting_at, pooled_at}
use Rattle.words.specs.Words.{words, cards_of, blocks_of, last_of, request_row, message_row, request_at, message_at}
use Rattle.words.specs.Inner.Parts.{closing}
use Rattle.words.specs.Inner.Tested.{row_is, request_test, message_test}
use Rattle.words.proofs.Changes.{push-request, push-message, remove-request, remove-message}

-- how many are used, by the word that counts them
abbrev pub count_of : ℕ → List ℕ → ℕ
count_of header w = get_or w header 0

-- where place i lies, where the places begin at base
abbrev pub place_of : ℕ → ℕ → ℕ
place_of base i = place_from base i

module _ {A : Type 0} where
  abbrev pub put_place : (A → List ℕ) → ℕ → List ℕ → ℕ → A → List ℕ
  put_place row base w i x = sets w (place_of base i) (row x)

  pub record Places (row : A → List ℕ) (base header : ℕ) (clear : A) (read : List ℕ → ℕ → A) (ok : List ℕ → A → Bool)
      (tested : List ℕ → ℕ → Bool) (joined : Chassis → A → Chassis) (left : Chassis → ℕ → Chassis) : Type 0 where
    -- there are words for every place
    pub in_words : place_of base room ≤ all_words
    -- one more, where n are there
    pub joins : (c : Chassis) (w w₁ w₂ : List ℕ) (n : ℕ) (x : A) → w ≡ words c → n ≡ count_of header w → n < room
        → w₁ ≡ put_place row base w n x → w₂ ≡ set w₁ header (n + 1) → w₂ ≡ words (joined c x)
    -- item a leaves, the later ones close up to the last place, z, and that is cleared
    pub leaves : (c : Chassis) (w w₁ w₂ w₃ : List ℕ) (a z : ℕ) → w ≡ words c → z + 1 ≡ count_of header w → a ≤ z → z < room
        → w₁ ≡ closing w (place_of base a) (place_of base z - place_of base a) place_words
        → w₂ ≡ put_place row base w₁ z clear → w₃ ≡ set w₂ header z → w₃ ≡ words (left c a)
    -- a place that is not used is all 0
    pub zeros : row clear ≡ 0 ∷ 0 ∷ 0 ∷ 0 ∷ 0 ∷ []
    -- the test of a place: its words are those of what is read, and that may be there; or they are those of one that is not used
    pub tests : (w : List ℕ) (i : ℕ) → cond (ltb i (count_of header w))
        (row_is w (place_of base i) (row (read w i)) && ok w (read w i)) (row_is w (place_of base i) (row clear)) ≡ tested w i

-- The line

abbrev pub with_request : Chassis → Request → Chassis
with_request c r = line_changed c (c.line ++ r ∷ [])

abbrev pub without_request : Chassis → ℕ → Chassis
without_request c i = line_changed c (removed i c.line)

pub request_places : Places request_row line_from waiting_at unused_request request_at (λ w r. ok_request (cards_of w) (blocks_of w) r)
    request_test with_request without_request
unfolding request_test
request_places = record {
  in_words = omega arith;
  joins = λ c w w₁ w₂ n x e is h e₁ e₂. push-request c w e x n w₁ w₂ is h e₁ e₂;
  leaves = λ c w w₁ w₂ w₃ a z e is h k e₁ e₂ e₃. remove-request c w e a z w₁ w₂ w₃ is h k e₁ e₂ e₃;
  zeros = refl;
  tests = λ w i. refl;
}

-- The pool

abbrev pub with_message : Chassis → Message → Chassis
with_message c m = pool_changed c (c.pool ++ m ∷ [])

abbrev pub without_message : Chassis → ℕ → Chassis
without_message c i = pool_changed c (removed i c.pool)

pub message_places : Places message_row pool_from pooled_at unused_message message_at
    (λ w m. ok_message (cards_of w) (blocks_of w) (last_of w) m) message_test with_message without_message
unfolding message_test
message_places = record {
  in_words = omega arith;
  joins = λ c w w₁ w₂ n x e is h e₁ e₂. push-message c w e x n w₁ w₂ is h e₁ e₂;
  leaves = λ c w w₁ w₂ w₃ a z e is h k e₁ e₂ e₃. remove-message c w e a z w₁ w₂ w₃ is h k e₁ e₂ e₃;
  zeros = refl;
  tests = λ w i. refl;
}
