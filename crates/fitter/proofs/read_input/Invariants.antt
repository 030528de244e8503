-- `fitter::read_input` meets its contract: the records taken are those of the input that they are put together to. Assumes nothing.
use Rattle.std.proofs.Common.{◌≡◌, ◌-◌, length}
use Rattle.gather.specs.Gathered.{most}
use Rattle.sheet.specs.Step.{Near}
use Rattle.sheet.proofs.Gluing.{Reads}
use Rattle.fitter.proofs.read_input.Given as goal

abbrev pub invariant-loop-taken : goal.invariant-loop-taken
invariant-loop-taken l = record { near : Near l.intake; room : length l.space ≡ 65536; reads : Reads l.intake (most - l._taken) }
