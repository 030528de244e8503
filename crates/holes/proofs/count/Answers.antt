-- `holes::count` meets its contract.
-- Assumes nothing.
use Rattle.std.proofs.Common.{◌≡◌, ◌∙◌, rules}
use Rattle.std.specs.List.{count_by}
use Rattle.holes.specs.Hole.{is_hole}
use Rattle.holes.proofs.Marks.{holes_counted}
use Rattle.holes.proofs.count.Goals as goal

pub returns : goal.returns
returns c = let e : c.count.result ≡ count_by is_hole c.args.ys.now = search rules in e ∙ holes_counted _
