-- `step_at` meets its contract, by what the cursor finds and by the limits. Assumes nothing.
use mathlib.Core.Path.{◌≡◌, refl, sym}
use mathlib.Core.Bool.{false}
use native.Mathlib.Omega.{arith}
use Rattle.std.specs.Prelude.{Ok, Err}
use Rattle.little_endian.specs.Numbers.{num_at}
use Rattle.record.proofs.Records.{cut, missing, Present, present, standing}
use Rattle.book.specs.Book.{closes}
use Rattle.book.proofs.Standing.{none_holds, too_short, too_far, whole_holds, step_close, step_wrong, step_room}
use Rattle.book.proofs.step_at.Goals as goal
use Rattle.book.proofs.step_at.Goals.{Else-closes, In-Ok, then-book-at-via-then-book-at, then-book-at-via-else-book-at+then-book-at-lt2, then-length-lt2-via-then-length-lt2, then-length-lt2-via-else-length-lt2+then-body-gt-MOST}

pub returns-then-closes : goal.returns-then-closes
returns-then-closes c = step_close _ _ (sym c.if-closes.ensures)

-- no closing record stands there
goes_on : (c : Else-closes) → (let a = c.args in closes a.book.now a.at ≡ false)
goes_on c = sym c.if-closes.ensures

-- a record of kind 5 does, of the length that it says
stands : (c : In-Ok) → (let a = c.args in Present a.book.now a.at 5 (num_at 2 a.book.now a.at) c.in-Ok.body)
stands c = present _ _ _ _ {r = Ok c.in-Ok.body} (rw (c.new.ensures, c.read_u16-length.ensures) at c.in-Ok.ensures) refl

pub returns-then-book-at : goal.returns-then-book-at
returns-then-book-at c =
    step_wrong _ _ (goes_on (goal.at.returns-then-book-at c).Else-closes)
    (none_holds _ _
    (cut _ _ 5 _
    (elim c.then-book-at.branch [ then-book-at-via-then-book-at w ↦ omega arith | then-book-at-via-else-book-at+then-book-at-lt2 w ↦ omega arith ])))

pub returns-in_default : goal.returns-in_default
returns-in_default c =
    let m = missing _ _ _ _ {r = Err c.in_default.field-0} (rw (c.new.ensures, c.read_u16-length.ensures) at c.in_default.ensures) refl in
    step_wrong _ _ (goes_on (goal.at.returns-in_default c).Else-closes) (none_holds _ _ (sym m.is_not))

pub returns-then-length-lt2 : goal.returns-then-length-lt2
returns-then-length-lt2 c =
    let k = (goal.at.returns-then-length-lt2 c).In-Ok in
    let m = stands k in
    step_wrong _ _ (goes_on (goal.at.In-Ok k).Else-closes)
    (elim c.then-length-lt2.branch [
      | then-length-lt2-via-then-length-lt2 w ↦ too_short _ _ m.is (rw k.read_u16-length.ensures at w.if-length-lt2.true)
      | then-length-lt2-via-else-length-lt2+then-body-gt-MOST w ↦
          too_far _ _ m.is (rw k.read_u16-length.ensures at w.if-length-lt2.false) (rw m.behind at w.if-body-gt-MOST.true)
    ])

pub read_u16-requires : goal.read_u16-requires
read_u16-requires c =
    let k = (goal.at.read_u16-requires c).In-Ok in
    let m = stands k in
    let w = (standing _ _ _ _ m.is).whole in
    let t = rw k.read_u16-length.ensures at c.if-length-lt2.false in
    omega (arith, m.start)

pub returns : goal.returns
returns c =
    let k = (goal.at.returns c).In-Ok in
    let m = stands k in
    let h = whole_holds _ _ m.is (rw k.read_u16-length.ensures at c.if-length-lt2.false) (rw m.behind at c.if-body-gt-MOST.false) in
    cc (step_room _ _ (goes_on (goal.at.In-Ok k).Else-closes) h, m.behind, m.start, c.read_u16.ensures)
