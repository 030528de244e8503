-- What `kaihveto_mend` promises, of its arguments, its answer and its parameters at exit, said apart from what the
-- prover writes of it; `as_stated` says that it is the source's own clause. Assumes nothing.
use mathlib.Core.Path.{◌≡◌, refl}
use mathlib.Core.List.{List}
use seplogic.Ra.Ura.{Ura}
use base.Logic.{SProp}
use prog.Memory.{Memory}
use prog.Routine.{Routine}
use types.Logic.{Logic}
use contract.Lifetimes.{Lfts}
use contract.Monad.{Fun, fact}
use denote.Bor.{Bor}
use denote.MutBor.{MutBor}
use lib.IntN.{ℤ}
use lib.ListN.{length}
use Prim.Native.Nat.{ℕ}
use Rattle.holes.specs.Hole.{mended}
use Rattle.mend.specs.declared.Change.{Change}
use Rattle.mend.specs.declared.Mended.{Mended}
use Rattle.mend.specs.Changes.{changes}
use Rattle.mend.specs.Order.{mend}
use Rattle.mend.specs.Promise.{Mends}
use Rattle.kaihveto.specs.contracts.kaihveto_mend as source

-- minutes, ordinates, slopes, curvatures, changes
abbrev pub Lists : Type 0
Lists = Bor (List ℕ) × (MutBor (List ℤ) × (MutBor (List ℤ) × (MutBor (List ℤ) × (MutBor (List Change) × Unit {0}))))

abbrev pub Post : Lfts 1 → Lists → Mended → Lists → Type 0
Post κs a r s =
    Mends (mend a.0.now a.1.0.now (length a.1.1.0.now) (length a.1.1.1.0.now) (length a.1.1.1.1.0.now)) (changes a.1.0.now (mended a.0.now a.1.0.now))
    a.1.0.now a.1.1.0.now a.1.1.1.0.now a.1.1.1.1.0.now s.1.0.now s.1.1.0.now s.1.1.1.0.now s.1.1.1.1.0.now r

pub as_stated : {M : Type 1} {𝓤 : Ura M} (𝓛 : Logic 𝓤) (mem : Memory → SProp 𝓤) (run : Routine → Fun 𝓤) (κs : Lfts 1) (a : Lists) (r : Mended) (s : Lists)
    → (source.clauses 𝓛 mem run κs a).ensures tt r s ≡ fact 𝓤 (Post κs a r s)
as_stated 𝓛 mem run κs a r s = refl
