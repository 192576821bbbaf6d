-- No rows, no results.
use Rattle.std.proofs.Common.{[], ap, sym, ◌∙◌}
use Rattle.std.specs.List.{flat_map}
use Rattle.std.proofs.lemmas.List.Elements.{All-nil}
use Rattle.au_par.proofs.Halves.{empty_of}
use Rattle.au_par.proofs.listing.ListedPartialVecVec.empty.Goals as goal

pub returns : goal.returns
returns g c =
    let laws = g.met.W.Piece in
    let work = c.args.self.now.work.now in
    let takes = g.W.Piece.takes work in
    let none = empty_of (g.W.Piece.results work []) (laws.results_join work [] [] (All-nil takes) (All-nil takes)) in
    (ap (flat_map (λ list. list.items)) c.new.ensures.items ∙ sym none, laws.empty_fits work)
