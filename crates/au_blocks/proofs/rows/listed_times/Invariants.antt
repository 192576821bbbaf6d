use Rattle.std.proofs.Common.{◌≡◌, ◌++◌, drop, map}
use Rattle.au_blocks.specs.Entries.{copies_in}
use Rattle.au_blocks.proofs.rows.listed_times.Given as goal

-- the numbers so far stand before those of the records that are left
abbrev pub invariant-loop-record : goal.invariant-loop-record
invariant-loop-record l = l.times.items ++ map (λ r. copies_in l.format r.now) (drop l.record-index l.records) ≡ map (λ r. copies_in l.format r.now) l.records
