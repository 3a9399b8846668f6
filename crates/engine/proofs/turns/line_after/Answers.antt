-- `turns::line_after`: the head leaves, and joins the tail again where its mask was too small.
use Prim.Native.Nat.{ℕ, suc, ◌≤◌, ◌<◌}
use native.Mathlib.Omega.{arith}
use lib.ListN.{length}
use mathlib.Core.List.{List, [], ◌∷◌}
use mathlib.Core.Path.{◌≡◌, refl}
use Rattle.rules.specs.Lists.{removed}
use Rattle.rules.specs.Numbers.{room}
use Rattle.rules.specs.Chassis.{Chassis, line_changed}
use Rattle.words.specs.Words.{words, waiting_of}
use Rattle.words.specs.Inner.Parts.{Becomes}
use Rattle.words.proofs.View.{waiting-of}
use Rattle.engine.proofs.turns.line_after.Goals as goal

-- a list whose head leaves is one shorter
head-gone : {A : Type 0} (l : List A) → 0 < length l → suc (length (removed 0 l)) ≡ length l
unfolding removed
head-gone [] h = absurd (omega arith)
head-gone (x ∷ l) h = refl

-- there is room at the tail where the head has left
room-again : (c : Chassis) (w w₁ : List ℕ) → w ≡ words c → 0 < waiting_of w → waiting_of w ≤ room
    → Becomes w w₁ (λ c. line_changed c (removed 0 c.line)) → waiting_of w₁ < room
room-again c w w₁ e h l f =
    let before = waiting-of c w e in
    let after = waiting-of (line_changed c (removed 0 c.line)) w₁ (f c e) in
    let less = head-gone c.line (omega arith) in
    omega arith

pub push-requires : goal.push-requires
push-requires c =
    let p = c.requires in
    room-again p.2.0 _ _ p.2.1 p.0 p.1 c.remove.ensures
