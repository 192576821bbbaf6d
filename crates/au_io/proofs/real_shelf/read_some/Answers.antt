use Rattle.au_io.proofs.Reading.{read_ends}
use Rattle.au_io.proofs.real_shelf.read_some.Goals as goal

pub returns-in-Some-clause-end : goal.returns-in-Some-clause-end
returns-in-Some-clause-end g c = rw c.in-Some.is (read_ends _ _ c.read.result c.read.new.buf c.read.ensures.bound c.read.ensures.bytes)
