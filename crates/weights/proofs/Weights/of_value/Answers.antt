-- `Weights::of_value` meets its contract where the sheet has the gap. Assumes nothing.
use Rattle.std.proofs.Common.{rules, ◌∙◌}
use Rattle.weights.proofs.OffSheet.{off_sheet}
use Rattle.weights.proofs.Weights.of_value.Goals as goal

pub returns-in-Some : goal.returns-in-Some
returns-in-Some c = c.from.ensures ∙ search (rules, off_sheet)
