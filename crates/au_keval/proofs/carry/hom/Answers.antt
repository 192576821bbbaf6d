-- The laws, from those of the map, of the weights and of the annotations.
use Rattle.au_keval.specs.Reading.{annotations}
use Rattle.au_keval.proofs.ImageTables.{stays_positive}
use Rattle.au_keval.proofs.Images.{commutes}
use Rattle.au_keval.proofs.carry.hom.Goals as goal

pub returns-clause-commutes : goal.returns-clause-commutes
returns-clause-commutes g c =
    let d = g.D.Domain in
    let e = g.E.Domain in
    let k = g.K.Annot in
    let l = g.L.Annot in
    let m = g.C.Carry in
    let keeps = g.met.C.Carry in
    let weighs = g.met.K.Weigh in
    let from = g.met.K.Annot in
    let to = g.met.L.Annot in
    commutes d.is_kind d.is_valid k.IsValid d.operators e.operators d.truth_of e.truth_of k.zero k.one k.plus k.times k.at_most g.K.Weigh.weight l.zero l.one l.plus l.times l.at_most g.L.Weigh.weight m.cell m.truth m.annot
    keeps.keeps_cells keeps.keeps_truth keeps.keeps_weight keeps.keeps_zero keeps.keeps_times weighs.times_valid weighs.weight_valid from.order from.zero_least to.order to.semiring to.zero_least

pub returns-clause-evaluates : goal.returns-clause-evaluates
returns-clause-evaluates g c =
    let d = g.D.Domain in
    let e = g.E.Domain in
    let l = g.L.Annot in
    let m = g.C.Carry in
    let keeps = g.met.C.Carry in
    stays_positive d.is_kind g.K.Annot.IsValid e.is_kind l.IsValid e.operators (annotations l.zero l.one l.plus l.times l.at_most g.L.Weigh.weight e.truth_of) m.cell m.annot keeps.keeps_kinds keeps.keeps_valid
