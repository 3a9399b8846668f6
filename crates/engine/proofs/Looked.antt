-- What a look on words shows is what the chassis has that they say.
use Rattle.std.specs.Prelude.{Err, Ok, Result}
use Prim.Native.Nat.{ℕ, ◌≤◌, ◌<◌}
use mathlib.Core.Bool.{true, false}
use mathlib.Core.List.{List}
use mathlib.Core.Path.{◌≡◌, refl, sym, ap, ◌∙◌}
use lib.Dec.{leb}
use borrow.Author.Tests.{leb-false, le-leb, lt-leb}
use native.Mathlib.Omega.{arith}
use Rattle.rules.specs.Events.{no_card, no_block, no_message}
use Rattle.rules.specs.declared.Edition.{Edition}
use Rattle.rules.specs.declared.OrderNo.{OrderNo}
use Rattle.rules.specs.declared.Cell.{Cell}
use Rattle.rules.specs.declared.Request.{Request}
use Rattle.rules.specs.declared.Message.{Message}
use Rattle.rules.specs.Numbers.{most_blocks}
use Rattle.rules.specs.declared.Refusal.{Refusal}
use Rattle.rules.specs.declared.Refusal.TheVariants.{NoSuchBlock, NoSuchMessage, IllFormed}
use Rattle.rules.proofs.Tests.{test}
use Rattle.words.specs.Words.{view, formed, edition_of, cards_of, blocks_of, waiting_of, pooled_of, last_of, request_at, message_at, memory_at, owner_at, sharers_at}
use Rattle.words.proofs.View.{view-block, view-cell, waiting-is, pooled-is, view-request, view-message}
use Rattle.words.proofs.Does.{sizes}
use Rattle.engine.specs.Inner.Sought.{sought}
use Rattle.engine.specs.Looking.{Look, counts, message, request, cell, home, unless, looks}
use Rattle.engine.specs.declared.Seen.{Seen}

module _ (w : List ℕ) where
  pub not-formed : (q : Look) → formed w ≡ false → Err IllFormed ≡ looks w q
  unfolding looks
  not-formed q f = rw f

  module _ (f : formed w ≡ true) where
    edition-is : (view w).edition ≡ edition_of w
    unfolding view
    edition-is = refl

    cards-is : (view w).cards ≡ cards_of w
    unfolding view
    cards-is = refl

    blocks_is : (view w).blocks ≡ blocks_of w
    unfolding view
    blocks_is = refl

    last-is : (view w).last ≡ last_of w
    unfolding view
    last-is = refl

    pub counts-seen : (e : Edition) (cards blocks waiting pooled : ℕ) (last : OrderNo) → e ≡ edition_of w → cards ≡ cards_of w → blocks ≡ blocks_of w → waiting ≡ waiting_of w
        → pooled ≡ pooled_of w → last ≡ last_of w
        → Ok (Seen.Counts (record { edition = e; cards = cards; blocks = blocks; waiting = waiting; pooled = pooled; last = last })) ≡ looks w counts
    unfolding looks unless
    counts-seen e cards blocks waiting pooled last e₀ e₁ e₂ e₃ e₄ e₅ =
        rw (f, e₀, e₁, e₂, e₃, e₄, e₅, edition-is, cards-is, blocks_is, waiting-is w, pooled-is w, last-is)

    module _ (i pooled : ℕ) (e : pooled ≡ pooled_of w) where
      pub no-message : pooled ≤ i → Err NoSuchMessage ≡ looks w (message i)
      unfolding looks unless no_message
      no-message h = rw (f, pooled-is w, ← e, le-leb pooled i h)

      pub message-seen : i < pooled → (m : Message) → m ≡ message_at w i → Ok (Seen.Message m) ≡ looks w (message i)
      unfolding looks unless no_message
      message-seen h m k = rw (f, pooled-is w, ← e, lt-leb pooled i h) (ap (λ n. Ok (Seen.Message n)) (k ∙ sym (view-message w i (rw (← e) h))))

    module _ (i waiting : ℕ) (e : waiting ≡ waiting_of w) where
      pub no-request : waiting ≤ i → Err NoSuchMessage ≡ looks w (request i)
      unfolding looks unless
      no-request h = rw (f, waiting-is w, ← e, le-leb waiting i h)

      pub request-seen : i < waiting → (r : Request) → r ≡ request_at w i → Ok (Seen.Request r) ≡ looks w (request i)
      unfolding looks unless
      request-seen h r k = rw (f, waiting-is w, ← e, lt-leb waiting i h) (ap (λ n. Ok (Seen.Request n)) (k ∙ sym (view-request w i (rw (← e) h))))

    module _ (b blocks : ℕ) (e : blocks ≡ blocks_of w) where
      pub no-home : blocks ≤ b → Err NoSuchBlock ≡ looks w (home b)
      unfolding looks unless no_block
      no-home h = rw (f, blocks_is, ← e, le-leb blocks b h)

      pub in-range : b < blocks → b < most_blocks
      in-range h = let s = (sizes w f).few-blocks in omega (arith, s, e)

      pub home-seen : b < blocks → (m o s : ℕ) → m ≡ memory_at w b → o ≡ owner_at w b → s ≡ sharers_at w b
          → Ok (Seen.Home (record { memory = m; owner = o; sharers = s })) ≡ looks w (home b)
      unfolding looks unless no_block
      home-seen h m o s e₁ e₂ e₃ = rw (f, blocks_is, ← e, lt-leb blocks b h, view-block w b (in-range h), e₁, e₂, e₃)

    pub seen_of : Result Cell Refusal → Result Seen Refusal
    seen_of (Ok x) = Ok (Seen.Cell x)
    seen_of (Err x) = Err x

    pub cell-seen : (k b : ℕ) → seen_of (sought w k b) ≡ looks w (cell k b)
    unfolding seen_of sought looks unless no_card no_block
    cell-seen k b = test (leb (cards_of w) k)
        (λ p. rw (f, cards-is, p))
        (λ p. test (leb (blocks_of w) b)
        (λ q. rw (f, cards-is, blocks_is, p, q))
        (λ q. rw (f, cards-is, blocks_is, p, q) (
        let s = sizes w f in
        let hk = leb-false (cards_of w) k p in
        let hb = leb-false (blocks_of w) b q in
        ap (λ x. Ok (Seen.Cell x)) (sym (view-cell w k b (omega (arith, s.few-cards)) (omega (arith, s.few-blocks)))))))

    pub cell-is : (k b : ℕ) (x : Cell) → Ok x ≡ sought w k b → Ok (Seen.Cell x) ≡ looks w (cell k b)
    unfolding seen_of
    cell-is k b x e = ap seen_of e ∙ cell-seen k b

    pub cell-missing : (k b : ℕ) (x : Refusal) → Err x ≡ sought w k b → Err x ≡ looks w (cell k b)
    unfolding seen_of
    cell-missing k b x e = ap seen_of e ∙ cell-seen k b
