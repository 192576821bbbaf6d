-- The places of a joined row.
use Rattle.au_rwgroup.specs.declared.joined_row.JoinedRow.{JoinedRow}
use Rattle.au_rwgroup.specs.GroupPlan.{Places, places}

abbrev pub places_of : JoinedRow → Places
places_of r = places r.keys r.fold r.tests
