-- What `fill` promises, of its arguments and its parameters at exit, said apart from what the prover writes of it; `as_stated` says
-- that it is the source's own clause. Assumes nothing.
use mathlib.Core.Path.{◌≡◌, refl}
use mathlib.Core.List.{List}
use Prim.Native.Nat.{ℕ}
use seplogic.Ra.Ura.{Ura}
use base.Logic.{SProp}
use prog.Memory.{Memory}
use prog.Routine.{Routine}
use types.Logic.{Logic}
use contract.Lifetimes.{Lfts}
use contract.Monad.{Fun, fact}
use denote.MutBor.{MutBor}
use Rattle.front.specs.Front.{over}
use Rattle.mend.specs.declared.Change.{Change}
use Rattle.mend.specs.declared.Plan.{Plan}
use Rattle.mend.specs.Promise.{planned}
use Rattle.mend.specs.contracts.fill as source

-- the list, how many changes, the plan
abbrev pub Args : Type 0
Args = MutBor (List Change) × (ℕ × (Plan × Unit {0}))

abbrev pub Post : Lfts 1 → Args → Unit {0} → Args → Type 0
Post κs a r s = s.0.now ≡ over (planned a.1.1.0) a.1.0 a.0.now

pub as_stated : {M : Type 1} {𝓤 : Ura M} (𝓛 : Logic 𝓤) (mem : Memory → SProp 𝓤) (run : Routine → Fun 𝓤) (κs : Lfts 1) (a : Args) (r : Unit {0}) (s : Args)
    → (source.clauses 𝓛 mem run κs a).ensures tt r s ≡ fact 𝓤 (Post κs a r s)
as_stated 𝓛 mem run κs a r s = refl
