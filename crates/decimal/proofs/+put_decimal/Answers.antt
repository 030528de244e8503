-- `decimal::put_decimal` meets its contract: the digits of a tenth, and one more behind them. Assumes nothing.
use Prim.Native.Nat.{◌/◌}
use mathlib.Core.Path.{ap}
use native.Mathlib.Omega.{arith}
use lib.ListN.{length}
use Rattle.decimal.specs.Decimal.{decimal}
use Rattle.decimal.proofs.Puts.{put_then, room_before, room_behind}
use Rattle.decimal.proofs.Digits.{decimal_one, decimal_more}
use Rattle.decimal.proofs.+put_decimal.Goals as goal

pub put_byte-requires : goal.put_byte-requires
put_byte-requires t c = omega (arith, c.requires, ap length (decimal_one c.args.number c.if-number-lt10.true))

pub returns-then-number-lt10 : goal.returns-then-number-lt10
returns-then-number-lt10 t c = rw (decimal_one c.args.number c.if-number-lt10.true) c.put_byte.ensures

pub put_decimal-next-requires : goal.put_decimal-next-requires
put_decimal-next-requires t c =
    let n = c.args.number in
    let m = decimal_more n c.if-number-lt10.false (omega (arith, c.ranges.number)) in
    (omega (arith, c.decreases), room_before (decimal (n / 10)) _ _ (rw m at c.requires))

pub put_byte-requires-2 : goal.put_byte-requires-2
put_byte-requires-2 t c =
    let m = decimal_more c.args.number c.if-number-lt10.false (omega (arith, c.ranges.number)) in
    omega (arith, room_behind c.put_decimal-next.ensures _ (rw m at c.requires))

pub returns : goal.returns
returns t c =
    let m = decimal_more c.args.number c.if-number-lt10.false (omega (arith, c.ranges.number)) in
    rw m (put_then c.put_decimal-next.ensures c.put_byte-2.ensures)
