-- What is said of the bytes left when the file was started is said of the file's bytes.
use Rattle.std.proofs.Common.{◌≡◌, ℕ, List, Option, Some, None, subst}
use Rattle.std.specs.Prelude.{IfSome, IsSomeAnd}
use Rattle.au_io.specs.Files.{File, Opens, bytes_at}
use Rattle.au_cli.proofs.reading.read_file.Goals as goal

of_file : (Holds : List ℕ → Type 0) (files : Option (List File)) (path : List ℕ) (left : Option (List ℕ)) → Opens files path left → IfSome left Holds
    → IfSome files (λ fs. IsSomeAnd (bytes_at fs path) Holds)
of_file Holds None path left opened holds = tt
of_file Holds (Some fs) path None opened holds = absurd (cc opened.1)
of_file Holds (Some fs) path (Some left) opened holds = subst (λ o. IsSomeAnd o Holds) opened.0 holds

pub returns-clause-too_large : goal.returns-clause-too_large
returns-clause-too_large g c is = of_file _ (g.S.Shelf.files c.args.shelf.now) c.args.path.now _ c.in_ok-start_file.ensures.opened (c.read_started.ensures.too_large is)

pub returns-clause-taken : goal.returns-clause-taken
returns-clause-taken g c is = of_file _ (g.S.Shelf.files c.args.shelf.now) c.args.path.now _ c.in_ok-start_file.ensures.opened (c.read_started.ensures.taken is)
