-- `init_writing::ciphers_fit` meets its contract: the list's length, then its ciphers.
use Rattle.std.proofs.Common.{rules}
use Rattle.init_writing.proofs.Fitting.{list_decides, list_other}
use Rattle.init_writing.proofs.ciphers_fit.Goals as goal

pub returns-then-ciphers-le-MOST : goal.returns-then-ciphers-le-MOST
returns-then-ciphers-le-MOST c = let h = c.if-ciphers-le-MOST.true in list_decides _ h.0 h.1 _ c.is_in.ensures

pub returns-else-ciphers-le-MOST : goal.returns-else-ciphers-le-MOST
returns-else-ciphers-le-MOST c = let f = list_other c.args.ciphers.now c.if-ciphers-le-MOST.either in search (rules, f)
