-- `table::table` meets its contract: refused, it writes nothing; accepted, the opened card gives its readings.
-- Assumes nothing.
use mathlib.Core.Path.{◌≡◌, sym, ◌∙◌}
use mathlib.Core.List.{List}
use Prim.Native.Nat.{ℕ}
use Rattle.answer.specs.Judge.{verdict_of}
use Rattle.answer.proofs.Chain.{step_refused, step_accepts}
use Rattle.decode.specs.Decoded.{Holds}
use Rattle.opened.proofs.Opening.{accepted_holds, accepted_readable}
use Rattle.table.specs.Promise.{Columns, columns, table_verdict}
use Rattle.table.proofs.Tables.{table_verdict_is, Taken, took, tables_refused, tables_given}
use Rattle.table.proofs.table.Goals as goal
use Rattle.table.proofs.table.Goals.{After-judged, In-Ok}

abbrev bytes : After-judged → List ℕ
bytes c = c.args.card.now

abbrev lent : After-judged → Columns
lent c = let a = c.args in columns a.values a.slopes a.curvatures

verdict_is : (c : After-judged) → verdict_of c.judged.result ≡ table_verdict (lent c) (bytes c) c.args.from
verdict_is c = c.judged.ensures ∙ table_verdict_is (lent c) (bytes c) _ c.by_head-opened.ensures

pub judged-requires : goal.judged-requires
judged-requires c e =
    let o = c.by_head-opened.ensures in
    accepted_readable o (sym o.judged ∙ e)

accepts : (c : In-Ok) → (let j = (goal.at.In-Ok c).After-judged in Taken (lent j) (bytes j) j.args.from)
accepts c = let j = (goal.at.In-Ok c).After-judged in took (lent j) (bytes j) _ (step_accepts (verdict_is j) c.in-Ok.is)

holds : (c : In-Ok) → (let j = (goal.at.In-Ok c).After-judged in Holds j.by_head-opened.result.card (bytes j))
holds c = accepted_holds c.by_head-opened.ensures (accepts c).own

pub give-count-requires : goal.give-count-requires
give-count-requires c =
    let e = (goal.at.give-count-requires c).In-Ok in
    let t = accepts e in record { readable = accepted_readable e.by_head-opened.ensures t.own; from_value = rw (holds e).is t.inside; slopes_len = (t.slopes, t.curvatures) }

pub returns-in-Err : goal.returns-in-Err
returns-in-Err c = let j = (goal.at.returns-in-Err c).After-judged in tables_refused (lent j) (bytes j) _ (step_refused (verdict_is j) c.in-Err.is) (c.from.ensures _)

pub returns-in-Ok : goal.returns-in-Ok
returns-in-Ok c =
    let e = (goal.at.returns-in-Ok c).In-Ok in
    let j = (goal.at.In-Ok e).After-judged in
    let g = c.give-count.ensures in
    tables_given (lent j) (bytes j) _ (step_accepts (verdict_is j) e.in-Ok.is) (holds e) g.value.0 g.given
