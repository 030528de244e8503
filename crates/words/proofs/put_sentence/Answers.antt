-- `words::put_sentence` meets its contract: each of its tables is a text, by computation. Assumes nothing.
use Rattle.decimal.specs.Decimal.{spelled}
use Rattle.words.specs.declared.Table.TheVariants.{Refusals, Places, Remedies, Wrongs}
use Rattle.words.proofs.Rows.{line_fits, line_put}
use Rattle.words.proofs.put_sentence.Goals as goal

pub put_row-requires : goal.put_row-requires
unfolding spelled
put_row-requires c = line_fits Refusals _ _ c.requires

pub put_row-requires-in-Places : goal.put_row-requires-in-Places
unfolding spelled
put_row-requires-in-Places c = line_fits Places _ _ c.requires

pub put_row-requires-in-Remedies : goal.put_row-requires-in-Remedies
unfolding spelled
put_row-requires-in-Remedies c = line_fits Remedies _ _ c.requires

pub put_row-requires-in-Wrongs : goal.put_row-requires-in-Wrongs
unfolding spelled
put_row-requires-in-Wrongs c = line_fits Wrongs _ _ c.requires

pub returns-in-Refusals : goal.returns-in-Refusals
unfolding spelled
returns-in-Refusals c = rw c.in-Refusals.is (line_put Refusals _ c.put_row.ensures)

pub returns-in-Places : goal.returns-in-Places
unfolding spelled
returns-in-Places c = rw c.in-Places.is (line_put Places _ c.put_row-in-Places.ensures)

pub returns-in-Remedies : goal.returns-in-Remedies
unfolding spelled
returns-in-Remedies c = rw c.in-Remedies.is (line_put Remedies _ c.put_row-in-Remedies.ensures)

pub returns-in-Wrongs : goal.returns-in-Wrongs
unfolding spelled
returns-in-Wrongs c = rw c.in-Wrongs.is (line_put Wrongs _ c.put_row-in-Wrongs.ensures)
