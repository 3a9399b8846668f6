-- `rejoin::leave_line`: the card's requests have left the places from the one reached on.
use Prim.Native.Nat.{◌+◌, ◌-◌}
use native.Mathlib.Omega.{arith}
use mathlib.Core.Path.{◌≡◌, subst}
use Rattle.words.specs.Words.{waiting_of}
use Rattle.words.proofs.Does.{line_room}
use Rattle.words.proofs.Rejoined.{Leaves, leaves_none, leaves-room, leaves-pass, leaves-out, leaves_all}
use Rattle.engine.proofs.rejoin.leave_line.Goals as goal

pub overflow_cast-waiting : goal.overflow_cast-waiting
overflow_cast-waiting c = omega (arith, line_room _ c.requires, c.waiting.ensures)

pub overflow_step-place : goal.overflow_step-place
overflow_step-place c = omega (arith, line_room _ c.requires, c.waiting.ensures, c.min-place.ensures)

pub loop-place-init : goal.loop-place-init
loop-place-init c =
    let all : c.min-place.result ≡ waiting_of c.args.s.now = omega (arith, line_room _ c.requires, c.waiting.ensures, c.min-place.ensures) in
    rw all (leaves_none _ c.requires _)

pub request_at-requires : goal.request_at-requires
request_at-requires c = omega (arith, line_room _ c.requires)

pub take_out-requires : goal.take_out-requires
take_out-requires c =
    let up : c.loop-place.place ≡ c.loop-place.place - 1 + 1 = omega arith in
    leaves-room _ c.requires _ _ _ (subst (Leaves c.args.s.now c.args.card c.loop-place.s) up c.loop-place.invariant) (omega arith)

pub loop-place-preserved : goal.loop-place-preserved
loop-place-preserved c =
    let up : c.loop-place.place ≡ c.loop-place.place - 1 + 1 = omega arith in
    leaves-pass _ c.requires _ _ _ (subst (Leaves c.args.s.now c.args.card c.loop-place.s) up c.loop-place.invariant) (omega arith)
    _ c.request_at.ensures c.if-request_at-card.false

pub loop-place-preserved-then-request_at-card : goal.loop-place-preserved-then-request_at-card
loop-place-preserved-then-request_at-card c =
    let up : c.loop-place.place ≡ c.loop-place.place - 1 + 1 = omega arith in
    leaves-out _ c.requires _ _ _ (subst (Leaves c.args.s.now c.args.card c.loop-place.s) up c.loop-place.invariant) (omega arith)
    _ c.request_at.ensures c.if-request_at-card.true _ c.take_out.ensures

pub returns : goal.returns
returns c =
    let last : c.loop-place.place ≡ 0 = omega arith in
    leaves_all _ c.requires c.args.card _ (subst (Leaves c.args.s.now c.args.card c.loop-place.s) last c.loop-place.invariant)
