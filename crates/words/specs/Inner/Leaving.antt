-- A card that rejoins leaves home's parts, the cells and the line: what each of these makes of a chassis.
use Rattle.std.specs.Prelude.{ℕ, ◌<◌, Bool, cond, not, List, ◌≡◌, eqb, ltb}
use Rattle.rules.specs.Lists.{keep}
use Rattle.rules.specs.Masks.{only, without}
use Rattle.rules.specs.Numbers.{home, most_blocks}
use Rattle.rules.specs.Chassis.{Chassis, blocks_changed, block_changed, line_changed}
use Rattle.rules.specs.Events.{rejoin_block}
use Rattle.rules.specs.declared.Home.{Home}
use Rattle.rules.specs.declared.Request.{Request}
use Rattle.words.specs.Words.{words}
use Rattle.words.specs.Claims.{BlockFits}

-- as `Becomes`, for a chassis with P
abbrev pub BecomesIf : (Chassis → Type 0) → List ℕ → List ℕ → (Chassis → Chassis) → Type 0
BecomesIf P w w' f = (c : Chassis) → P c → w ≡ words c → w' ≡ words (f c)

-- Home's part of a block

-- "it leaves all sharer sets, blocks it owns go to home"
abbrev pub home_left : Home → ℕ → Home
home_left h k = record {
  memory = h.memory;
  owner = cond (eqb h.owner k) home h.owner;
  sharers = without h.sharers (only k);
}

-- The blocks

-- each block that there is room for fits its words, so that it is read as it is
abbrev pub BlocksFit : Chassis → Type 0
BlocksFit c = (b : ℕ) → b < most_blocks → BlockFits (c.block b)

-- block b without card k
abbrev pub block_left : Chassis → ℕ → ℕ → Chassis
block_left c k b = block_changed c b (rejoin_block k (c.block b))

-- the blocks below n without card k
unfoldable pub blocks_left : Chassis → ℕ → ℕ → Chassis
blocks_left c k n = blocks_changed c (λ b. cond (ltb b n) (rejoin_block k (c.block b)) (c.block b))

-- The line

-- a request that is not card k's
abbrev pub stays : ℕ → Request → Bool
stays k r = not (eqb r.card k)

-- the line without card k's requests
abbrev pub line_left : Chassis → ℕ → Chassis
line_left c k = line_changed c (keep (stays k) c.line)
