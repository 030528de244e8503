-- `decimal::put_worded` meets its contract: the words, and the number behind them. Assumes nothing.
use Rattle.decimal.specs.Decimal.{decimal}
use Rattle.decimal.proofs.Puts.{put_then, room_before, room_behind}
use Rattle.decimal.proofs.put_worded.Goals as goal
use Rattle.decimal.proofs.put_worded.Goals.{Start}

pub put_words-next-requires : goal.put_words-next-requires
put_words-next-requires c =
    let a = (goal.at.put_words-next-requires c).Start in
    room_before a.args.words.now (decimal a.args.number) _ a.requires

pub put_decimal-requires : goal.put_decimal-requires
put_decimal-requires c =
    let a = (goal.at.put_decimal-requires c).Start in
    room_behind c.put_words-next.ensures (decimal a.args.number) a.requires

pub returns : goal.returns
returns c = put_then c.put_words-next.ensures c.put_decimal.ensures
