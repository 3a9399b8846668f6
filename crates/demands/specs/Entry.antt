-- What it means that a public function keeps a promise.
use seplogic.Ra.Ura.{Ura}
use mathlib.Core.List.{[], ◌∷◌}
use mir.Syntax.{Dict, Args as Given, a_type, dcons, dnil}
use prog.Model.{Model}
use prog.Routine.{Callee}
use prog.Wired.{Code, Wired}
use types.Logic.{Logic}
use contract.Lifetimes.{Lfts}
use contract.Notation.{connectives}
use contract.Running.{Running}
use denote.Param.{bounded}
use denote.Param.Laws.{Laws}
use denote.RattleType.{RattleType}
use denote.Triple.Clauses.{Ended, Clauses, AtExit, closing}
use denote.Triple.Entry.{Args, Res}
use denote.Triple.Spec.{Meets}
use Rattle.std.specs.contracts.io.traits.Read.TheBound as reads
use Rattle.std.specs.contracts.io.traits.Write.TheBound as writes
use Rattle.std.specs.declared.io.traits.Read as read
use Rattle.std.specs.declared.io.traits.Write as write

-- what is said of the arguments, the result, and what is lent at the end, by a function's signature
abbrev pub Promise : Ended → Type 1
Promise T = (κs : Lfts T.signature.lifetimes) → Args T.signature κs → Res T.signature κs → AtExit T κs → Type 0

-- whatever it is given, the function of that name ends, and then the promise holds: nothing is asked before. It runs wherever each name that
-- its code calls means the code that has that name (Wired), as in every program that is built of it
abbrev pub Keeps : (T : Ended) → Callee → Code → Promise T → Type 2
Keeps T name code P = (M : Type 1) (𝓤 : Ura M) (𝓛 : Logic 𝓤) (𝓜 : Model 𝓤 𝓛.H) (𝓡 : Running 𝓤 𝓛.H 𝓜)
    → Wired 𝓡.env code
    → Meets 𝓛 T.signature (𝓡.run (𝓡.env name))
    (closing 𝓛 T (λ κs a. record {
      ghost = Unit {0};
      requires = λ g. (connectives 𝓤).⊤ₛ;
      ensures = λ g r end. (connectives 𝓤).⌜◌⌝ (P κs a r end);
    }))

-- A function over a reader and a writer: types of the two, what stands for them in the contracts of Read and Write (as the bytes that are
-- left), and their methods
pub record Streams : Type 1 where
  pub Reader : RattleType
  pub reader : read.Ghosts Reader.Denot
  pub read_by : Dict
  pub Writer : RattleType
  pub writer : write.Ghosts Writer.Denot
  pub written_by : Dict

-- what the compiler sees to at each call: that what a type borrows is lent for longer
abbrev pub Lends : Ended → Type 1
Lends T = Lfts T.signature.lifetimes → Type 0

-- the contract with a promise, and no more asked than that
abbrev pub promised : {M : Type 1} (𝓤 : Ura M) (T : Ended) → Lends T → Promise T → Clauses 𝓤 T
promised 𝓤 T L P κs a = record {
  ghost = Unit {0};
  requires = λ g. (connectives 𝓤).⌜◌⌝ (L κs);
  ensures = λ g r end. (connectives 𝓤).⌜◌⌝ (P κs a r end);
}

-- the same as Keeps, of whatever types whose methods keep the contracts of Read and Write
abbrev pub KeepsOver : (T : Streams → Ended) → (Given → Callee) → Code → ((s : Streams) → Lends (T s)) → ((s : Streams) → Promise (T s)) → Type 2
KeepsOver T name code L P = (M : Type 1) (𝓤 : Ura M) (𝓛 : Logic 𝓤) (𝓜 : Model 𝓤 𝓛.H) (𝓡 : Running 𝓤 𝓛.H 𝓜)
    → Wired 𝓡.env code
    → (s : Streams) → Laws s.Reader → Laws s.Writer
    → reads.Met 𝓛 𝓜 𝓡 𝓡.env s.Reader s.reader s.read_by
    → writes.Met 𝓛 𝓜 𝓡 𝓡.env s.Writer s.writer s.written_by
    → Meets 𝓛 (T s).signature
    (𝓡.run (𝓡.env (name (bounded (a_type ∷ a_type ∷ []) (s.Reader, (s.Writer, tt)) (dcons s.read_by (dcons s.written_by dnil))))))
    (closing 𝓛 (T s) (promised 𝓤 (T s) (L s) (P s)))
