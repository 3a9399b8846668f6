-- Order: each way that it ends, and what a turn makes of the words, part by part.
use Rattle.std.specs.Prelude.{Err, Ok, Result}
use Prim.Native.Nat.{ℕ, zero, suc, ◌+◌, ◌≤◌, ◌<◌}
use native.Mathlib.Numerals.{add-one}
use native.Mathlib.Omega.{arith}
use mathlib.Core.Bool.{true}
use mathlib.Core.List.{List, [], ◌∷◌, ◌++◌}
use mathlib.Core.Path.{◌≡◌, refl, sym, ◌∙◌, ap, subst, fun_ext}
use mathlib.Core.Logic.{◌≢◌, inl, inr}
use lib.ListN.{length, get_or, set}
use lib.Dec.{ltb}
use borrow.Author.Tests.{leb-false, ltb-true, ltb-false}
use Rattle.rules.specs.Answers.{FirstHolds, NoneHolds}
use Rattle.rules.specs.Lists.{removed}
use Rattle.rules.specs.Numbers.{most_cards, room, order_no, last_number, next_number, up_to_number, granted}
use Rattle.rules.specs.Chassis.{Block, Chassis, idle, cell_of, with_home, changed, blocks_changed, block_changed, line_changed, pool_changed, unused_request}
use Rattle.rules.specs.Order.{held, impossible, no_room_for, order_reasons, turn, upshot_of, sees, ordered, order_head, order}
use Rattle.rules.specs.Events.{reasons, effect}
use Rattle.rules.specs.declared.OrderNo.{OrderNo}
use Rattle.rules.specs.declared.Request.{Request}
use Rattle.rules.specs.declared.Turn.{Turn}
use Rattle.rules.specs.declared.Refusal.{Refusal}
use Rattle.rules.specs.declared.Refusal.TheVariants.{LineEmpty}
use Rattle.rules.specs.declared.Turn.TheVariants.{PutLapsed}
use Rattle.rules.specs.declared.Event.TheVariants.{Order}
use Rattle.rules.proofs.Tests.{test}
use Rattle.rules.proofs.Lists.{replace-same, replace-twice}
use Rattle.rules.proofs.Upshots.{grant-no-put, In, turn_in, cell-sees}
use Rattle.rules.proofs.Formed.{unused-idle}
use Rattle.rules.specs.declared.Home.{Home}
use Rattle.words.specs.Words.{words, view, waiting_of, pooled_of, last_of, request_at, formed}
use Rattle.words.specs.Layout.{last_at}
use Rattle.words.specs.Claims.{CellFits}
use Rattle.words.specs.Inner.Parts.{Does, Becomes, seen_below, put_home}
use Rattle.engine.specs.declared.head.Head.{Head}
use Rattle.engine.specs.Inner.Heads.{block_read, Reads, home_after}
use Rattle.engine.specs.Inner.Ordering.{judged_free, judged}
use Rattle.words.proofs.View.{formed-words, view-block, view-cell, waiting-is, waiting-of, pooled-of}
use Rattle.words.proofs.Changes.{home-words, last-words}
use Rattle.words.proofs.Does.{refused, done}
use Rattle.words.proofs.Keeps.{idle-sees}
use Rattle.engine.proofs.Heads.{owner-is, home_after_is, sent-is, again-is}
use Rattle.engine.proofs.Judging.{head-is, head-wf, head-block, block-wf}
use Rattle.words.proofs.Seeing.{Seen}

-- What was decided, and the rules' reasons

abbrev why : Result Turn Refusal → Refusal
why (Err x) = x
why (Ok t) = LineEmpty

abbrev turned : Result Turn Refusal → Turn
turned (Err x) = PutLapsed
turned (Ok t) = t

abbrev IsNo : Result Turn Refusal → Type 0
IsNo (Err x) = Unit {0}
IsNo (Ok t) = ⊥

no≢yes : (x : Refusal) (t : Turn) → Err x ≢ Ok t
no≢yes x t e = subst IsNo e tt

module _ (c : Chassis) (r : Request) (rest : List Request) where
  judged-no : (x : Refusal) → Err x ≡ judged c r → FirstHolds (order_reasons c (r ∷ rest)) x
  unfolding judged judged_free order_reasons
  judged-no x e = test (up_to_number last_number c.last)
      (λ p. inl (p, ap why (sym (rw p at e))))
      (λ p. inr (
        p,
        test (held c.cards (c.block r.block))
            (λ q. inl (q, ap why (sym (rw (p, q) at e))))
            (λ q. inr (
              q,
              test (impossible (c.block r.block) r)
                  (λ i. inl (i, ap why (sym (rw (p, q, i) at e))))
                  (λ i. inr (
                    i,
                    test (no_room_for c r)
                        (λ f. inl (f, ap why (sym (rw (p, q, i, f) at e))))
                        (λ f. absurd (no≢yes _ _ (rw (p, q, i, f) at e))),
                  )),
            )),
      ))

  judged-yes : (t : Turn) → Ok t ≡ judged c r
      → NoneHolds (order_reasons c (r ∷ rest)) × (t ≡ turn c r)
  unfolding judged judged_free order_reasons
  judged-yes t e = test (up_to_number last_number c.last)
      (λ p. absurd (no≢yes _ _ (sym (rw p at e))))
      (λ p. test (held c.cards (c.block r.block))
      (λ q. absurd (no≢yes _ _ (sym (rw (p, q) at e))))
      (λ q. test (impossible (c.block r.block) r)
      (λ i. absurd (no≢yes _ _ (sym (rw (p, q, i) at e))))
      (λ i. test (no_room_for c r)
      (λ f. absurd (no≢yes _ _ (sym (rw (p, q, i, f) at e))))
      (λ f. ((p, (q, (i, (f, tt)))), ap turned (rw (p, q, i, f) at e))))))

-- a list that is not empty has a head
headed : {A : Type 0} (l : List A) (d : A) → 0 < length l → l ≡ get_or l 0 d ∷ removed 0 l
unfolding removed
headed [] d h = absurd (omega arith)
headed (x ∷ l) d h = refl

nothing : {A : Type 0} (l : List A) → length l ≡ 0 → l ≡ []
nothing [] h = refl
nothing (x ∷ l) h = absurd (omega arith)

-- Refused

pub line-empty : (w : List ℕ) → formed w ≡ true → waiting_of w ≡ 0 → Does w Order (Err LineEmpty) w
unfolding reasons order_reasons
line-empty w f e = refused w f Order LineEmpty
    (subst (λ (l : List Request). FirstHolds (order_reasons (view w) l) LineEmpty) (sym (nothing (view w).line (waiting-is w ∙ e))) (inl (refl, refl)))

-- a number that is read and is not 0
pub some-wait : (k n : ℕ) → n ≡ k → n ≢ 0 → 0 < k
some-wait zero n e h = absurd (h e)
some-wait (suc k) n e h = omega arith

module _ (w : List ℕ) (f : formed w ≡ true) (some : 0 < waiting_of w) (r : Request) (at : r ≡ request_at w 0) where
  rest : List Request
  rest = removed 0 (view w).line

  head-line : (view w).line ≡ r ∷ rest
  unfolding rest
  head-line = headed (view w).line unused_request (let n = waiting-is w in omega arith) ∙ ap (λ x. x ∷ removed 0 (view w).line) (head-is w f some r at)

  pub head-refused : (x : Refusal) → Err x ≡ judged (view w) r → Does w Order (Err x) w
  unfolding reasons
  head-refused x e = refused w f Order x
      (subst (λ (l : List Request). FirstHolds (order_reasons (view w) l) x) (sym head-line) (judged-no (view w) r rest x e))

  -- The turn

  module _ (t : Turn) (et : Ok t ≡ judged (view w) r) where
    decided : NoneHolds (order_reasons (view w) (r ∷ rest)) × (t ≡ turn (view w) r)
    decided = judged-yes (view w) r rest t et

    -- there is a next number
    pub number-left : (last_of w).0 < last_number.0
    unfolding order_reasons view
    number-left = leb-false last_number.0 (last_of w).0 decided.0.0

    -- the cells of the block fit their words, as all that is said by words does
    cells_fit : (k : ℕ) → k < most_cards → CellFits (cell_of (view w) k r.block)
    cells_fit k h = subst CellFits (sym (view-cell w k r.block h (head-block w f some r at))) (record { state = omega arith; value = omega arith })

    idle-beyond : (k : ℕ) → (view w).cards ≤ k → ((view w).block r.block).cell k ≡ idle
    idle-beyond k l = test (ltb k most_cards)
        (λ e. unused-idle _ (((block-wf w f some r at).places k (ltb-true k most_cards e)).unused l))
        (λ e. ap (λ (B : Block). B.cell k) (view-block w r.block (head-block w f some r at)) ∙ rw e)

    -- where no card is, nothing is seen
    seen-cells : (n : OrderNo) → (seen_below (view w).cards t ((view w).block r.block) r n).cell ≡ sees t ((view w).block r.block) r n
    seen-cells n = fun_ext (λ k. test (ltb k (view w).cards) (λ e. rw e) (λ e. rw e
        (let i = idle-beyond k (ltb-false k (view w).cards e) in
        let B = (view w).block r.block in
        let x = B.cell k in
        cell-sees (view w).edition (λ y. x ≡ y) t (subst (In (view w).edition) (sym decided.1) (turn_in (view w) r)) B r n k
        (λ a. absurd (let q = (head-wf w f some r at).card in let l = ltb-false k (view w).cards e in omega arith))
        refl (λ g col. i ∙ sym (idle-sees (view w).edition g col x i)))))

-- The words after a turn, part by part: h is what was read of the request at the head

module _ (w : List ℕ) (f : formed w ≡ true) (some : 0 < waiting_of w) (h : Head) (at : h.request ≡ request_at w 0) (is : Reads (view w) h)
    (t : Turn) (et : Ok t ≡ judged (view w) h.request) (n : OrderNo)
    (w₁ : List ℕ) (e₁ : Seen w t n h.request h.home.owner h.cards w₁)
    (h' : Home) (eh : h' ≡ home_after t (block_read h) h.request.card)
    (w₂ : List ℕ) (e₂ : w₂ ≡ put_home w₁ h.request.block h'.memory h'.owner h'.sharers) where
  abbrev r : Request
  r = h.request

  abbrev B : Block
  B = (view w).block r.block

  -- the block after the cards' parts and home's
  with_block : w₂ ≡ words (block_changed (view w) r.block (ordered t B r n))
  unfolding ordered
  with_block =
      let c = view w in
      let b = r.block in
      let B₁ = seen_below c.cards t B r n in
      let c₁ = block_changed c b B₁ in
      let seen : w₁ ≡ words c₁ = e₁ c (formed-words w f) (cells_fit w f some r at t et) (sym (owner-is h c is))
      ∙ ap (λ m. words (block_changed c b (seen_below m t B r n))) is.cards in
      let now : h' ≡ home_after t B r.card = eh ∙ home_after_is h c is t in
      e₂ ∙ home-words c₁ w₁ seen b _ _ _ (head-block w f some r at)
      ∙ ap (λ (C : Block). words (block_changed c₁ b (with_home C h'.memory h'.owner h'.sharers))) (replace-same c.block b B₁)
      ∙ ap (λ (g : ℕ → Block). words (blocks_changed c g)) (replace-twice c.block b B₁ (with_home B₁ h'.memory h'.owner h'.sharers))
      ∙ ap (λ (x : Home). words (block_changed c b (with_home B₁ x.memory x.owner x.sharers))) now
      ∙ rw (seen-cells w f some r at t et n)

  c₂ : Chassis
  c₂ = block_changed (view w) r.block (ordered t B r n)

  -- a grant finds room in the pool
  pub grant-room : (upshot_of t).outcome ≡ granted → pooled_of w₂ < room
  unfolding c₂ order_reasons no_room_for
  grant-room g =
      let d = decided w f some r at t et in
      let p = pooled-of c₂ w₂ with_block in
      let k = grant-no-put (view w) r (ap (λ t. (upshot_of t).outcome) (sym d.1) ∙ g) in
      let l = leb-false room (length (view w).pool) (rw k at d.0.1.1.1.0) in
      omega arith

  module _ (w₃ : List ℕ) (e₃ : Becomes w₂ w₃ (λ c. pool_changed c (c.pool ++ (upshot_of t).sent (block_read h) r n))) where
    c₃ : Chassis
    unfolding c₂
    c₃ = pool_changed c₂ ((view w).pool ++ (upshot_of t).sent B r n)

    pool-words : w₃ ≡ words c₃
    unfolding c₂ c₃
    pool-words = e₃ c₂ with_block ∙ ap (λ l. words (pool_changed c₂ ((view w).pool ++ l))) (sent-is h (view w) is t n)

    -- the line is as it was
    pub same-waiting : waiting_of w₃ ≡ waiting_of w
    unfolding c₂ c₃
    same-waiting = waiting-of c₃ w₃ pool-words ∙ waiting-is w

    pub said : (c : Chassis) × (w₃ ≡ words c)
    said = (c₃, pool-words)

    module _ (w₄ : List ℕ)
        (e₄ : Becomes w₃ w₄ (λ c. line_changed c (removed 0 c.line ++ (upshot_of t).again h.cards (block_read h) r)))
        (w₅ : List ℕ) (e₅ : w₅ ≡ set w₄ last_at n.0) (en : n ≡ order_no ((last_of w).0 + 1)) where
      left : List Request
      left = rest w f some r at

      c₄ : Chassis
      unfolding c₂ c₃ left rest
      c₄ = line_changed c₃ (left ++ (upshot_of t).again (view w).cards B r)

      line-words : w₄ ≡ words c₄
      unfolding c₂ c₃ c₄ left rest
      line-words = e₄ c₃ pool-words ∙ ap (λ l. words (line_changed c₃ (left ++ l))) (again-is h (view w) is t)

      next : n ≡ next_number (view w).last
      unfolding view
      next = en ∙ ap order_no (add-one (last_of w).0)

      -- the words after turn t under number n
      gone : Turn → OrderNo → List ℕ
      gone t n =
          let c = view w in
          words (changed c r.block (ordered t B r n) (left ++ (upshot_of t).again c.cards B r) (c.pool ++ (upshot_of t).sent B r n) n)

      pub order-done : (v : ℕ) → v ≡ (upshot_of t).outcome → Does w Order (Ok v) w₅
      unfolding c₂ c₃ c₄ left rest gone reasons effect order order_head
      order-done v ev =
          let c = view w in
          let d = decided w f some r at t et in
          let line = head-line w f some r at in
          let after : w₅ ≡ gone t n = e₅ ∙ last-words c₄ w₄ line-words n in
          done w f Order (Ok v) w₅
          (subst (λ (l : List Request). NoneHolds (order_reasons c l)) (sym line) d.0)
          (subst (λ (l : List Request). Ok v ≡ (order c l).answer) (sym line) (ap Ok (ev ∙ ap (λ t. (upshot_of t).outcome) d.1)))
          (subst (λ (l : List Request). w₅ ≡ words (order c l).after) (sym line)
          (after ∙ ap (λ (t : Turn). gone t n) d.1 ∙ ap (gone (turn c r)) next))
