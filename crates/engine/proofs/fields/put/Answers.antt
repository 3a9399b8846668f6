-- `fields::put`: a copy into a part of the words stores the row there word by word.
use Rattle.std.proofs.Common.{◌≡◌, ◌+◌, ◌-◌, List, ◌++◌, ℕ, length, take, drop, refl, sym, ap, ◌∙◌, arith, take_all}
use Rattle.std.proofs.lemmas.Slice.{put_mid-paste}
use Rattle.std.proofs.lemmas.List.Edits.{sets, sets-eq}
use Rattle.engine.proofs.fields.put.Goals as goal

pub returns : goal.returns
returns g c =
    let w = c.args.s.now in
    let at = c.args.at in
    let row = c.row-words.result in
    let n = length row in
    let size : n ≡ g.row.N = omega arith in
    put_mid-paste at (at + g.row.N - at) w _ row n c.copy_from_slice.ensures.after (omega arith) refl
    ∙ ap (λ (l : List ℕ). take at w ++ l ++ drop (at + n) w) (take_all n row (omega arith)) ∙ sym (sets-eq row w at (omega arith))
    ∙ ap (sets w at) c.row-words.ensures
