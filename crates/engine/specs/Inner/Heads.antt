-- What is read for the turn of the request at the head, and what it is read of.
use Rattle.std.specs.Prelude.{ℕ, cond, eqb, ◌≡◌}
use Rattle.rules.specs.Chassis.{Block, Chassis, a_block, cell_of}
use Rattle.rules.specs.Order.{upshot_of}
use Rattle.rules.specs.declared.Home.{Home}
use Rattle.rules.specs.declared.Turn.{Turn}
use Rattle.engine.specs.declared.head.Head.{Head}
use Rattle.engine.specs.Looking.{home_of}

-- the block as far as it is read: home's part and the asker's cell; the owner's stands for all others
abbrev pub block_read : Head → Block
block_read h = a_block h.home.memory h.home.owner h.home.sharers (λ k. cond (eqb k h.request.card) h.asker h.owner)

-- it is read of chassis c
pub record Reads (c : Chassis) (h : Head) : Type 0 where
  pub cards : h.cards ≡ c.cards
  pub home : h.home ≡ home_of (c.block h.request.block)
  pub asker : h.asker ≡ cell_of c h.request.card h.request.block
  pub owner : h.owner ≡ cell_of c h.home.owner h.request.block

-- home's part of block B after turn t of card q
abbrev pub home_after : Turn → Block → ℕ → Home
home_after t B q = let u = upshot_of t in record { memory = u.memory B q; owner = u.owner B q; sharers = u.sharers B q }
