use mathlib.Core.Path.{sym}
use Rattle.text.proofs.Decimals.{decimal-one, decimal-more}
use Rattle.text.proofs.Writers.{wrote-then, wrote-as}
use Rattle.text.proofs.writer.Writer.+put_decimal.Goals as goal

pub returns-then-n-lt10 : goal.returns-then-n-lt10
returns-then-n-lt10 t c = wrote-as (sym (decimal-one c.args.n c.if-n-lt10.true)) c.put_sign.ensures

pub returns : goal.returns
returns t c = wrote-as (sym (decimal-more c.args.n c.if-n-lt10.false)) (wrote-then c.put_decimal.ensures c.put_sign-2.ensures)
