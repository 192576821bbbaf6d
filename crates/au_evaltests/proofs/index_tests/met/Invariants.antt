-- The steps are counted under the blank's name.
use Rattle.au_evaltests.proofs.index_tests.met.Given as goal

abbrev pub ghosts-places_met : goal.ghosts-places_met
ghosts-places_met a = record { name = a.blank.name; parts = a.blank.parts }
