-- What one turn of the loop over standard input makes of an intake, whatever was read: nothing, at the end, or what a step makes of it with one piece more.
-- Assumes nothing.
use Rattle.std.specs.Prelude.{ℕ, ◌≡◌, ◌⊎◌, List}
use Rattle.std.specs.declared.ops.ControlFlow.{ControlFlow}
use Rattle.std.specs.declared.ops.ControlFlow.TheVariants.{Continue, Break}
use Rattle.sheet.specs.declared.Intake.{Intake}
use Rattle.sheet.specs.Pieces.{piece, Taken}
use Rattle.sheet.specs.Step.{after, Near}

-- what the turn ends with, whether another record is looked at or not
abbrev pub intake_of : ControlFlow Intake Intake → Intake
intake_of (Continue next) = next
intake_of (Break last) = last

pub record Stepped (r : Intake) (t : ControlFlow Intake Intake) : Type 0 where
  pub head : List ℕ
  pub body : List ℕ
  pub taken : Taken (piece head body)
  pub is : intake_of t ≡ after r (piece head body)

pub record Turned (r : Intake) (t : ControlFlow Intake Intake) : Type 0 where
  pub near : Near (intake_of t)
  pub by_one : (t ≡ Break r) ⊎ Stepped r t
