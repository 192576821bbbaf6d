-- Each source has kinds.
use Rattle.au_exec.proofs.SourceKinds.{some_kinds}
use Rattle.au_exec.proofs.coded_sources.coded_sources.Goals as goal

pub coded-requires : goal.coded-requires
coded-requires c = record { kinds = some_kinds c.requires.kinds.0 c.args.sources.now c.loop-source.source-index c.source-item.result c.requires.kinds.1 (search) c.source-item.is }
