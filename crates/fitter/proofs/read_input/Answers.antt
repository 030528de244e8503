-- `fitter::read_input` meets its contract: the records taken are those of the input that they are put together to. Assumes nothing.
use mathlib.Core.Logic.{⊎_elim}
use Rattle.std.proofs.Common.{ℕ, ◌≡◌, ◌+◌, ◌-◌, ◌<◌, arith, sym, ◌∙◌}
use Rattle.std.specs.declared.ops.ControlFlow.TheVariants.{Continue, Break}
use Rattle.gather.specs.Gathered.{most}
use Rattle.sheet.specs.declared.Intake.{Intake}
use Rattle.sheet.proofs.Gluing.{Reads, reads_starts, reads_go_on, reads_stop, reads_close}
use Rattle.fitter.specs.Turned.{Turned}
use Rattle.fitter.proofs.read_input.Goals as goal

module _ {r : Intake} {left : ℕ} (h : Reads r left) (room : 0 < left) where
  goes_on : (next : Intake) → Turned r (Continue next) → Reads next (left - 1)
  goes_on next t = ⊎_elim (λ e. cc e) (λ e. rw e.is (reads_go_on h room e.head e.body e.taken)) t.by_one

  stops : (last : Intake) → Turned r (Break last) → Reads last 0
  stops last t =
      ⊎_elim (λ e. let same : last ≡ r = cc e in rw same (reads_stop h)) (λ e. rw e.is (reads_stop (reads_go_on h room e.head e.body e.taken))) t.by_one

pub loop-taken-init : goal.loop-taken-init
loop-taken-init c = rw c.new-intake.ensures (record { near = omega arith; room = sym c.large_buffer-space.ensures; reads = reads_starts })

pub returns-in-Break : goal.returns-in-Break
returns-in-Break c = rw c.close.ensures (reads_close (stops c.loop-taken.invariant.reads (omega arith) _ c.in-Break.ensures))

pub loop-taken-preserved : goal.loop-taken-preserved
loop-taken-preserved c =
    let i = c.loop-taken.invariant in
    let one_less : (most - c.loop-taken._taken) - 1 ≡ most - (c.loop-taken._taken + 1) = omega arith in
    record {
      near = c.in-Continue.ensures.near;
      room = c.take_record.auto.space ∙ i.room;
      reads = rw (← one_less) (goes_on i.reads (omega arith) _ c.in-Continue.ensures);
    }

pub returns : goal.returns
returns c = rw c.close-2.ensures (reads_close c.loop-taken.invariant.reads)
