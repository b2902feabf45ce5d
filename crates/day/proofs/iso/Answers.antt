use Rattle.day.proofs.Laws.{iso-digits}
use Rattle.day.proofs.iso.Goals as goal

pub returns : goal.returns
returns c = iso-digits c.args.date c.digit.ensures c.digit-2.ensures c.digit-3.ensures c.digit-4.ensures c.digit-5.ensures c.digit-6.ensures c.digit-7.ensures c.digit-8.ensures
