-- A record as seven numbers: tag, card, block, kind, mask, value, position. What a record has not is 0; an opening's cards, blocks and
-- edition stand in the places of a card, a block and a kind.
use Rattle.std.specs.Prelude.{Result, Err, Ok, ℕ, cond, List, [], ◌∷◌, eqb}
use Rattle.rules.specs.Numbers.{edition_no}
use Rattle.rules.specs.declared.Event.TheVariants.{Load, Store, Drop, Ask, Order, Deliver, Copy, Rejoin}
use Rattle.journal.specs.Records.{opening_tag, load_tag, store_tag, ask_tag, drop_tag, order_tag, deliver_tag, copy_tag, rejoin_tag}
use Rattle.journal.specs.declared.Record.{Record}
use Rattle.journal.specs.declared.Record.TheVariants.{Opening, Happens}
use Rattle.journal.specs.declared.Damage.{Damage}
use Rattle.journal.specs.declared.Damage.TheVariants.{UnknownTag, WrongOpening}
use Rattle.firmware.specs.Editions.{by_edition}
use Rattle.firmware.specs.declared.fields.Fields.{Fields}

abbrev pub fields : Record → List ℕ
fields (Opening e cards blocks) = opening_tag ∷ cards ∷ blocks ∷ edition_no e ∷ 0 ∷ 0 ∷ 0 ∷ []
fields (Happens (Load k b)) = load_tag ∷ k ∷ b ∷ 0 ∷ 0 ∷ 0 ∷ 0 ∷ []
fields (Happens (Store k b v)) = store_tag ∷ k ∷ b ∷ 0 ∷ 0 ∷ v ∷ 0 ∷ []
fields (Happens (Ask k b kind mask)) = ask_tag ∷ k ∷ b ∷ kind ∷ mask ∷ 0 ∷ 0 ∷ []
fields (Happens (Drop k b)) = drop_tag ∷ k ∷ b ∷ 0 ∷ 0 ∷ 0 ∷ 0 ∷ []
fields (Happens Order) = order_tag ∷ 0 ∷ 0 ∷ 0 ∷ 0 ∷ 0 ∷ 0 ∷ []
fields (Happens (Deliver i)) = deliver_tag ∷ 0 ∷ 0 ∷ 0 ∷ 0 ∷ 0 ∷ i ∷ []
fields (Happens (Copy i)) = copy_tag ∷ 0 ∷ 0 ∷ 0 ∷ 0 ∷ 0 ∷ i ∷ []
fields (Happens (Rejoin k)) = rejoin_tag ∷ k ∷ 0 ∷ 0 ∷ 0 ∷ 0 ∷ 0 ∷ []

-- the seven numbers by name, where there is a tag with a card and a block alone; and in order
abbrev pub of_cell : ℕ → ℕ → ℕ → Fields
of_cell tag card block = record { tag = tag; card = card; block = block; kind = 0; mask = 0; value = 0; position = 0 }

abbrev pub in_order : Fields → List ℕ
in_order f = f.tag ∷ f.card ∷ f.block ∷ f.kind ∷ f.mask ∷ f.value ∷ f.position ∷ []

-- an opening of an edition's number; 23 where it is none's
abbrev pub opening_by : ℕ → ℕ → ℕ → Result Record Damage
opening_by e cards blocks = by_edition e (λ i. Ok (Opening i cards blocks)) (Err WrongOpening)

-- the record of a tag and the fields that it has, whatever the others are; 21, where no record has the tag, and 23 for an opening of no
-- edition
unfoldable pub named : ℕ → ℕ → ℕ → ℕ → ℕ → ℕ → ℕ → Result Record Damage
named tag card block kind mask value position =
    cond (eqb tag opening_tag) (opening_by kind card block)
    (cond (eqb tag load_tag) (Ok (Happens (Load card block)))
    (cond (eqb tag store_tag) (Ok (Happens (Store card block value)))
    (cond (eqb tag ask_tag) (Ok (Happens (Ask card block kind mask)))
    (cond (eqb tag drop_tag) (Ok (Happens (Drop card block)))
    (cond (eqb tag order_tag) (Ok (Happens Order))
    (cond (eqb tag deliver_tag) (Ok (Happens (Deliver position)))
    (cond (eqb tag copy_tag) (Ok (Happens (Copy position)))
    (cond (eqb tag rejoin_tag) (Ok (Happens (Rejoin card)))
    (Err UnknownTag)))))))))

-- the record of a tag, and of fields by name
abbrev pub named_by : ℕ → Fields → Result Record Damage
named_by tag f = named tag f.card f.block f.kind f.mask f.value f.position
