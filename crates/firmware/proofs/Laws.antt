-- The exports' promises, from those of the functions that they call.
use Rattle.std.specs.Prelude.{Result, Err, Ok}
use Prim.Native.Nat.{ℕ}
use mathlib.Core.Path.{◌≡◌, refl, sym, ap, ◌∙◌}
use mathlib.Core.List.{List}
use mathlib.Core.Logic.{◌≢◌}
use borrow.Author.Tests.{ne_eqb}
use lib.Dec.{eqb}
use Rattle.rules.specs.Tests.{each}
use Rattle.rules.proofs.Tests.{test}
use Rattle.rules.specs.Numbers.{edition_no, edition_by}
use Rattle.rules.specs.Chassis.{no_chassis}
use Rattle.rules.specs.Answers.{Step, result, refused_by}
use Rattle.rules.specs.Formed.{sizes}
use Rattle.rules.specs.Events.{start}
use Rattle.rules.specs.declared.Edition.{Edition}
use Rattle.rules.specs.declared.NoEdition.{NoEdition}
use Rattle.rules.specs.Answers.{Answer}
use Rattle.rules.specs.declared.Refusal.TheVariants.{NoSuchSize}
use Rattle.rules.specs.declared.Event.TheVariants.{Load, Store, Drop, Ask, Order, Deliver, Copy, Rejoin}
use Rattle.journal.specs.Records.{opening_tag, load_tag, store_tag, ask_tag, drop_tag, order_tag, deliver_tag, copy_tag, rejoin_tag}
use Rattle.journal.specs.Tags.{byte_of}
use Rattle.journal.specs.declared.tags.Tag.{Tag}
use Rattle.journal.specs.declared.Damage.TheVariants.{UnknownTag, WrongOpening}
use Rattle.journal.specs.declared.Record.TheVariants.{Opening, Happens}
use Rattle.words.specs.Words.{words}
use Rattle.engine.specs.Promise.{Starts}
use Rattle.firmware.specs.Halves.{one_number, Says}
use Rattle.rules.specs.declared.Edition.TheVariants.{Msi, Mosi}
use Rattle.firmware.specs.Editions.{by_edition, start_byte, StartsByte}
use Rattle.firmware.specs.Fields.{named, opening_by, named_by}
use Rattle.firmware.specs.declared.fields.Fields.{Fields}
use Rattle.firmware.specs.Claims.{FieldsName}

-- What a byte stands for

-- by an edition's number, or by what it names
decided : {A : Type 0} → (Edition → A) → A → Result Edition NoEdition → A
decided of other (Ok i) = of i
decided of other (Err x) = other

module _ {A : Type 0} (of : Edition → A) (other : A) (e : ℕ) where
  by_edition_is : by_edition e of other ≡ decided of other (edition_by e)
  unfolding by_edition decided
  by_edition_is = test (eqb e (edition_no Msi)) (λ h. rw h) (λ h. test (eqb e (edition_no Mosi)) (λ k. rw (h, k)) (λ k. rw (h, k)))

  edition_named : (i : Edition) → Ok i ≡ edition_by e → by_edition e of other ≡ of i
  unfolding decided
  edition_named i h = by_edition_is ∙ ap (decided of other) (sym h)

  none_named : (x : NoEdition) → Err x ≡ edition_by e → by_edition e of other ≡ other
  unfolding decided
  none_named x h = by_edition_is ∙ ap (decided of other) (sym h)

-- an opening, once it is known what its byte stands for

pub opening_named : (e cards blocks : ℕ) (i : Edition) → Ok i ≡ edition_by e → opening_by e cards blocks ≡ Ok (Opening i cards blocks)
opening_named e cards blocks i h = edition_named _ _ e i h

pub no_opening : (e cards blocks : ℕ) (x : NoEdition) → Err x ≡ edition_by e → opening_by e cards blocks ≡ Err WrongOpening
no_opening e cards blocks x h = none_named _ _ e x h

-- Start, once it is known what its byte stands for

pub at-edition : (i : Edition) (cards blocks : ℕ) → start_byte (edition_no i) cards blocks ≡ start i cards blocks
unfolding start_byte by_edition
at-edition Msi cards blocks = refl
at-edition Mosi cards blocks = refl

pub at_none : (e cards blocks : ℕ) → e ≢ edition_no Msi → e ≢ edition_no Mosi → start_byte e cards blocks ≡ result (Err NoSuchSize) no_chassis
unfolding start_byte by_edition
at_none e cards blocks n m = rw (ne_eqb e (edition_no Msi) n, ne_eqb e (edition_no Mosi) m)

-- no cards are no size
none-started : start Msi 0 0 ≡ result (Err NoSuchSize) no_chassis
unfolding start refused_by sizes each
none-started = refl

starts-as : (e cards blocks n : ℕ) (r : Answer) (w' : List ℕ) (o : Step) → start_byte e cards blocks ≡ o → r ≡ o.answer → w' ≡ words o.after
    → n ≡ one_number r → Says (λ r. StartsByte e cards blocks r w') n
starts-as e cards blocks n r w' o is a w t = record {
  answer = r;
  kept = record { answer = a ∙ ap (λ (o : Step). o.answer) (sym is); after = w ∙ ap (λ (o : Step). words o.after) (sym is) };
  told = t;
}

pub starts_named : (e cards blocks n : ℕ) (i : Edition) (w' : List ℕ) → Ok i ≡ edition_by e → Says (λ r. Starts i cards blocks r w') n
    → Says (λ r. StartsByte e cards blocks r w') n
unfolding start_byte
starts_named e cards blocks n i w' k s =
    starts-as e cards blocks n s.answer w' (start i cards blocks) (edition_named (λ j. start j cards blocks) _ e i k) s.kept.answer s.kept.after s.told

pub starts_none : (e cards blocks n : ℕ) (x : NoEdition) (w' : List ℕ) → Err x ≡ edition_by e → Says (λ r. Starts Msi 0 0 r w') n
    → Says (λ r. StartsByte e cards blocks r w') n
unfolding start_byte
starts_none e cards blocks n x w' k s =
    starts-as e cards blocks n s.answer w' (start Msi 0 0) (none_named (λ j. start j cards blocks) _ e x k ∙ sym none-started) s.kept.answer s.kept.after s.told

-- the numbers of a record name it
pub fields_name : FieldsName
unfolding named by_edition
fields_name (Opening Msi cards blocks) = refl
fields_name (Opening Mosi cards blocks) = refl
fields_name (Happens (Load k b)) = refl
fields_name (Happens (Store k b v)) = refl
fields_name (Happens (Drop k b)) = refl
fields_name (Happens (Ask k b kind mask)) = refl
fields_name (Happens Order) = refl
fields_name (Happens (Deliver i)) = refl
fields_name (Happens (Copy i)) = refl
fields_name (Happens (Rejoin k)) = refl

-- no record has a tag that is none of the nine
no_record : (t card block kind mask value position : ℕ) → t ≢ opening_tag → t ≢ load_tag → t ≢ store_tag → t ≢ ask_tag → t ≢ drop_tag → t ≢ order_tag
    → t ≢ deliver_tag → t ≢ copy_tag → t ≢ rejoin_tag → named t card block kind mask value position ≡ Err UnknownTag
unfolding named
no_record t card block kind mask value position a b c d e f g h i =
    rw (ne_eqb t opening_tag a, ne_eqb t load_tag b, ne_eqb t store_tag c, ne_eqb t ask_tag d, ne_eqb t drop_tag e, ne_eqb t order_tag f, ne_eqb t deliver_tag g, ne_eqb t copy_tag h, ne_eqb t rejoin_tag i)

pub no_tag : (t : ℕ) (f : Fields) → ((g : Tag) → byte_of g ≢ t) → named_by t f ≡ Err UnknownTag
no_tag t f n = no_record t _ _ _ _ _ _ (λ e. n Tag.Opening (sym e)) (λ e. n Tag.Load (sym e)) (λ e. n Tag.Store (sym e)) (λ e. n Tag.Ask (sym e))
    (λ e. n Tag.Drop (sym e)) (λ e. n Tag.Order (sym e)) (λ e. n Tag.Deliver (sym e)) (λ e. n Tag.Copy (sym e)) (λ e. n Tag.Rejoin (sym e))
