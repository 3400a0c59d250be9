use Rattle.sheet.proofs.Entered.{entered_is}
use Rattle.sheet.proofs.entries.read_entries.Goals as goal

pub returns : goal.returns
returns c =
    entered_is c.args.sheet.now c.args.n _ c.column.ensures.whole c.column-2.ensures.whole c.column-3.ensures.whole c.column-4.ensures.whole
    c.column-5.ensures.whole c.column-6.ensures.whole c.column-7.ensures.whole
