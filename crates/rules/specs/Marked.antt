-- "Marked sequences": M1 to M10 of the paper and those of the requests as one table, in the papers' words and numbers. What they show is block 0.
use Rattle.std.specs.Prelude.{ℕ, ◌-◌, Bool, true, ◌&&◌, List, [], ◌∷◌, ◌++◌, length, get_or, replicate, eqb}
use Rattle.rules.specs.Numbers.{
  home,
  order_no,
  same_number,
  retry_no,
  same_retry,
  gets,
  getx,
  putx,
  I,
  S,
  IM_AD,
  IM_D,
  SM_D,
  II_A,
  O,
  OM_AD,
  OI_A,
}
use Rattle.rules.specs.Chassis.{Chassis, state_of, message_of, unused_request}
use Rattle.rules.specs.Answers.{refusal_of, value_of}
use Rattle.rules.specs.Events.{step, start, live}
use Rattle.rules.specs.declared.Edition.{Edition}
use Rattle.rules.specs.declared.Edition.TheVariants.{Msi, Mosi}
use Rattle.rules.specs.declared.Request.{Request}
use Rattle.rules.specs.declared.Event.{Event}
use Rattle.rules.specs.declared.Event.TheVariants.{
  Load,
  Store,
  Ask,
  Order,
  Deliver,
  Copy,
  Rejoin,
}

-- Lines

infix 80 ◌gives◌
infix 80 ◌refused◌
pub data Line : Type 0 where
  -- Start with this edition, these cards and blocks, and its refusal or 0
  starts : Edition → ℕ → ℕ → ℕ → Line
  -- an accepted event and its value; a refused one and its number
  ◌gives◌ ◌refused◌ : Event → ℕ → Line
  -- what the chassis then shows
  shows : (Chassis → Bool) → Line

-- card k is in state s
abbrev pub is_in : ℕ → ℕ → Line
is_in k s = shows (λ c. eqb (state_of c k 0) s)

-- home's memory value; its owner and its sharers
abbrev pub memory_is : ℕ → Line
memory_is v = shows (λ c. eqb (c.block 0).memory v)

abbrev pub home_lists : ℕ → ℕ → Line
home_lists owner sharers = shows (λ c. eqb (c.block 0).owner owner && eqb (c.block 0).sharers sharers)

-- the request at the head
abbrev pub head : Chassis → Request
head c = get_or c.line 0 unused_request

-- the head is from card k; it has this retry and this mask
abbrev pub head_is_from : ℕ → Line
head_is_from k = shows (λ c. eqb (head c).card k)

abbrev pub head_has : ℕ → ℕ → Line
head_has retry mask = shows (λ c. same_retry (head c).retry (retry_no retry) && eqb (head c).mask mask)

-- n is the last number given, and that of the message at the pool's tail
abbrev pub last_number_is : ℕ → Line
last_number_is n = shows (λ c. same_number c.last (order_no n) && same_number (message_of c (length c.pool - 1)).number (order_no n))

-- the message at the pool's tail is from this sender
abbrev pub sender_is : ℕ → Line
sender_is k = shows (λ c. eqb (message_of c (length c.pool - 1)).sender k)

-- the message at position i is one that its receiver awaits
abbrev pub is_live : ℕ → Line
is_live i = shows (λ c. live (c.block 0) (message_of c i))

-- every line comes out so, from c
unfoldable pub plays : Chassis → List Line → Bool
plays c [] = true
plays c (starts e cards blocks n ∷ ls) = let o = start e cards blocks in
    eqb (refusal_of o.answer) n && eqb (value_of o.answer) 0 && plays o.after ls
plays c (e gives v ∷ ls) = let o = step c e in
    eqb (refusal_of o.answer) 0 && eqb (value_of o.answer) v && plays o.after ls
plays c (e refused n ∷ ls) = let o = step c e in
    eqb (refusal_of o.answer) n && eqb (value_of o.answer) 0 && plays o.after ls
plays c (shows f ∷ ls) = f c && plays c ls

-- The sequences

-- "Start with 0 or 9 cards: 14. With 8 and 32: accepted; 33 blocks: 14."
unfoldable pub m1 : List Line
m1 = starts Msi 0 1 14 ∷ starts Msi 9 1 14 ∷ starts Msi 8 32 0 ∷ starts Msi 8 33 14 ∷ []

-- "The journal above."
unfoldable pub m2 : List Line
m2 =
    starts Msi 2 1 0 ∷
    Ask 0 0 getx 0 gives 0 ∷
    Order gives 1 ∷
    Deliver 0 gives 1 ∷
    Store 0 0 7 gives 0 ∷
    Load 1 0 refused 3 ∷
    Load 0 0 gives 7 ∷ []

-- "After M2 card 1 asks GETS, mask 0. Order: 2, now retry 1 and mask 1. Order: 1, order number 3, card 0 in S, memory 7."
unfoldable pub m3 : List Line
unfolding m2
m3 = m2 ++
    Ask 1 0 gets 0 gives 0 ∷
    Order gives 2 ∷ head_has 1 1 ∷
    Order gives 1 ∷ last_number_is 3 ∷ is_in 0 S ∷ memory_is 7 ∷ []

-- "A live message is copied; deliveries of both give 1, then 2."
unfoldable pub m4 : List Line
m4 =
    starts Msi 2 1 0 ∷
    Ask 0 0 getx 0 gives 0 ∷
    Order gives 1 ∷ is_live 0 ∷
    Copy 0 gives 0 ∷
    Deliver 0 gives 1 ∷
    Deliver 0 gives 2 ∷ []

-- "Card 0 in IM_D rejoins and asks GETX again; ordered. Old message 2, new message 1."
unfoldable pub m5 : List Line
m5 =
    starts Msi 2 1 0 ∷
    Ask 0 0 getx 0 gives 0 ∷
    Order gives 1 ∷ last_number_is 1 ∷ is_in 0 IM_D ∷
    Rejoin 0 gives 0 ∷
    Ask 0 0 getx 0 gives 0 ∷
    Order gives 1 ∷ last_number_is 2 ∷
    Deliver 0 gives 2 ∷
    Deliver 0 gives 1 ∷ []

-- "After M2 card 0 rejoins. Card 1 fetches the block and loads 0."
unfoldable pub m6 : List Line
unfolding m2
m6 = m2 ++
    Rejoin 0 gives 0 ∷
    Ask 1 0 gets 0 gives 0 ∷
    Order gives 1 ∷
    Deliver 0 gives 1 ∷
    Load 1 0 gives 0 ∷ []

-- "After M2 card 1 asks GETX, mask 1; card 0 asks PUTX. Order 1; Order refused 9; Deliver 1; Order 4."
unfoldable pub m7 : List Line
unfolding m2
m7 = m2 ++
    Ask 1 0 getx 1 gives 0 ∷
    Ask 0 0 putx 0 gives 0 ∷
    Order gives 1 ∷
    Order refused 9 ∷
    Deliver 0 gives 1 ∷
    Order gives 4 ∷ []

-- cards 0 and 1 of a chassis of so many in S
unfoldable pub two_readers : ℕ → List Line
two_readers cards =
    starts Msi cards 1 0 ∷
    Ask 0 0 gets 0 gives 0 ∷
    Order gives 1 ∷
    Deliver 0 gives 1 ∷ is_in 0 S ∷
    Ask 1 0 gets 0 gives 0 ∷
    Order gives 1 ∷
    Deliver 0 gives 1 ∷ is_in 1 S ∷ []

-- "Cards 0 and 1 in S, card 2 asks GETX, mask 1. Order 2: card 0 in I, card 1 still loads. Mask is 3; the next Order gives 1."
unfoldable pub m8 : List Line
unfolding two_readers
m8 = two_readers 3 ++
    Ask 2 0 getx 1 gives 0 ∷
    Order gives 2 ∷ is_in 0 I ∷
    Load 1 0 gives 0 ∷ head_has 1 3 ∷
    Order gives 1 ∷ []

-- "Cards 0 and 1 in S, each asks GETX naming the other. Order 1 for card 0; card 1 is in IM_AD, its load refused 3."
unfoldable pub m9 : List Line
unfolding two_readers
m9 = two_readers 2 ++
    Ask 0 0 getx 2 gives 0 ∷
    Ask 1 0 getx 1 gives 0 ∷ head_is_from 0 ∷
    Order gives 1 ∷ is_in 1 IM_AD ∷
    Load 1 0 refused 3 ∷ []

-- "One message copied 63 times: the next Copy is 10; Deliver 64 is 11, Deliver 63 is taken."
unfoldable pub m10 : List Line
m10 =
    starts Msi 2 1 0 ∷
    Ask 0 0 getx 0 gives 0 ∷
    Order gives 1 ∷ replicate 63 (Copy 0 gives 0) ++
    Copy 0 refused 10 ∷
    Deliver 64 refused 11 ∷
    Deliver 63 gives 1 ∷ []

-- R-1: owned copies

-- card 0 of a chassis of so many has stored 7, and card 1 has asked for a copy, naming it
unfoldable pub copy_asked : ℕ → List Line
copy_asked cards =
    starts Mosi cards 1 0 ∷
    Ask 0 0 getx 0 gives 0 ∷
    Order gives 1 ∷
    Deliver 0 gives 1 ∷
    Store 0 0 7 gives 0 ∷
    Ask 1 0 gets 1 gives 0 ∷ []

-- "An M owner that sees GETS goes to a new state O: it keeps the ownership and loads but doesn't store; memory still gets the value, the asker
-- joins the sharers."
unfoldable pub m11 : List Line
unfolding copy_asked
m11 = copy_asked 3 ++
    Order gives 1 ∷ is_in 0 O ∷ memory_is 7 ∷ home_lists 0 2 ∷ sender_is 0 ∷
    Deliver 0 gives 1 ∷
    Load 0 0 gives 7 ∷
    Load 1 0 gives 7 ∷
    Store 0 0 8 refused 3 ∷
    Ask 0 0 gets 0 refused 4 ∷ []

-- "O (state 11) may ask GETX (an upgrade, to 12 and when granted to 8; data from memory, sender home)": its mask has to name the two sharers
unfoldable pub m12 : List Line
unfolding m11
m12 = m11 ++
    Ask 2 0 gets 1 gives 0 ∷
    Order gives 1 ∷ is_in 0 O ∷ home_lists 0 6 ∷
    Deliver 0 gives 1 ∷
    Ask 0 0 getx 6 gives 0 ∷ is_in 0 OM_AD ∷
    Load 0 0 gives 7 ∷
    Store 0 0 8 refused 3 ∷
    Order gives 1 ∷ is_in 0 SM_D ∷ is_in 1 I ∷ is_in 2 I ∷ home_lists 0 0 ∷ sender_is home ∷
    Deliver 0 gives 1 ∷
    Load 0 0 gives 7 ∷
    Store 0 0 8 gives 0 ∷
    Load 0 0 gives 8 ∷ []

-- "Another's granted GETX takes" 12 to 4: an upgrade that loses ends with the other's value
unfoldable pub m13 : List Line
unfolding m11
m13 = m11 ++
    Ask 1 0 getx 1 gives 0 ∷
    Ask 0 0 getx 2 gives 0 ∷ is_in 0 OM_AD ∷ head_is_from 1 ∷
    Order gives 1 ∷ is_in 0 IM_AD ∷
    Load 0 0 refused 3 ∷
    Deliver 0 gives 1 ∷
    Store 1 0 9 gives 0 ∷
    Order gives 1 ∷ sender_is 1 ∷
    Deliver 0 gives 1 ∷
    Load 0 0 gives 9 ∷ []

-- "A put from 13 (outcome 3) leaves the sharers listed": a later GETX has to name the sharer
unfoldable pub m14 : List Line
unfolding m11
m14 = m11 ++
    Ask 0 0 putx 0 gives 0 ∷ is_in 0 OI_A ∷
    Load 0 0 gives 7 ∷
    Store 0 0 8 refused 3 ∷
    Order gives 3 ∷ is_in 0 I ∷ memory_is 7 ∷ home_lists home 2 ∷
    Ask 2 0 getx 0 gives 0 ∷
    Order gives 2 ∷ head_has 1 2 ∷
    Load 1 0 gives 7 ∷
    Order gives 1 ∷ is_in 1 I ∷ []

-- "On Rejoin of an O owner home takes the block and the other sharers stay."
unfoldable pub m15 : List Line
unfolding m11
m15 = m11 ++
    Rejoin 0 gives 0 ∷ home_lists home 2 ∷
    Load 1 0 gives 7 ∷
    Ask 0 0 gets 0 gives 0 ∷
    Order gives 1 ∷
    Deliver 0 gives 1 ∷
    Load 0 0 gives 7 ∷ []

-- "MI_A that sees GETS goes to 13": its put is taken, and has not lapsed
unfoldable pub m16 : List Line
unfolding copy_asked
m16 = copy_asked 2 ++
    Ask 0 0 putx 0 gives 0 ∷
    Order gives 1 ∷ is_in 0 OI_A ∷ home_lists 0 2 ∷
    Deliver 0 gives 1 ∷
    Order gives 3 ∷ home_lists home 2 ∷
    Load 1 0 gives 7 ∷ []

-- M1 to M16
unfoldable pub marked_table : List (List Line)
unfolding m1 m2 m3 m4 m5 m6 m7 m8 m9 m10 m11 m12 m13 m14 m15 m16
marked_table =
    m1 ∷ m2 ∷ m3 ∷ m4 ∷ m5 ∷ m6 ∷ m7 ∷ m8 ∷ m9 ∷ m10 ∷
    m11 ∷ m12 ∷ m13 ∷ m14 ∷ m15 ∷ m16 ∷ []

-- Slips of the trade that no marked sequence shows

-- "Testing 13 before 9: the owner of a held block may be in IM_D, so another card's GETS at the head would be called impossible"
unfoldable pub held_comes_first : List Line
held_comes_first =
    starts Msi 2 1 0 ∷
    Ask 0 0 getx 0 gives 0 ∷
    Ask 1 0 gets 0 gives 0 ∷
    Order gives 1 ∷ is_in 0 IM_D ∷
    Order refused 9 ∷ []

-- the old owner is listed after a granted GETS: after M3 card 1's GETX has to name card 0
unfoldable pub old_owner_is_listed : List Line
unfolding m3
old_owner_is_listed = m3 ++
    Deliver 0 gives 1 ∷
    Ask 1 0 getx 0 gives 0 ∷
    Order gives 2 ∷ head_has 1 3 ∷ is_in 0 S ∷ []

-- an upgrade whose mask leaves a sharer out is not granted, and moves nobody but the readers that it names
unfoldable pub upgrade_is_missed : List Line
unfolding m11
upgrade_is_missed = m11 ++
    Ask 2 0 gets 1 gives 0 ∷
    Order gives 1 ∷
    Deliver 0 gives 1 ∷
    Ask 0 0 getx 2 gives 0 ∷
    Order gives 2 ∷ head_has 1 7 ∷ is_in 0 OM_AD ∷ is_in 1 I ∷
    Load 2 0 gives 7 ∷ []

-- "all three stay on GETS": an owner whose upgrade, or whose put, waits behind another's GETS
unfoldable pub owners_outlast_gets : ℕ → ℕ → List Line
unfolding m11
owners_outlast_gets kind state = m11 ++
    Ask 2 0 gets 1 gives 0 ∷
    Ask 0 0 kind 6 gives 0 ∷
    Order gives 1 ∷ is_in 0 state ∷ home_lists 0 6 ∷ []

-- "Another's granted GETX takes 11, 12, 13 to 0, 4, 10": an owner in O, and one whose put waits and then has lapsed
unfoldable pub owners_lose : List Line
unfolding m11
owners_lose = m11 ++
    Ask 2 0 getx 3 gives 0 ∷
    Order gives 1 ∷ is_in 0 I ∷ sender_is 0 ∷ []

unfoldable pub puts_lose : List Line
unfolding m11
puts_lose = m11 ++
    Ask 2 0 getx 3 gives 0 ∷
    Ask 0 0 putx 0 gives 0 ∷
    Order gives 1 ∷ is_in 0 II_A ∷
    Deliver 0 gives 1 ∷
    Order gives 4 ∷ is_in 0 I ∷ home_lists 2 0 ∷ []

-- another's GETX that is not granted leaves an owner in O
unfoldable pub owner_outlasts_missed : List Line
unfolding m11
owner_outlasts_missed = m11 ++
    Ask 2 0 getx 1 gives 0 ∷
    Order gives 2 ∷ head_has 1 3 ∷ is_in 0 O ∷
    Load 0 0 gives 7 ∷ []

unfoldable pub slips : List (List Line)
unfolding held_comes_first old_owner_is_listed upgrade_is_missed owners_outlast_gets owners_lose puts_lose owner_outlasts_missed
slips =
    held_comes_first ∷ old_owner_is_listed ∷ upgrade_is_missed ∷ owners_outlast_gets getx OM_AD ∷ owners_outlast_gets putx OI_A ∷
    owners_lose ∷ puts_lose ∷ owner_outlasts_missed ∷ []
