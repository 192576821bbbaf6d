-- Texts told apart by their bytes, and the distinct ones of a list, one more.
use Rattle.std.proofs.Common.{◌≡◌, true, List, [], ◌∷◌, ◌++◌}
use Rattle.std.specs.Prelude.{bytes_eq}
use Rattle.std.specs.Cmp.Lexicographic.{nat_list_eq_equiv}
use Rattle.std.proofs.lemmas.Slice.Eq.{bytes_eq-Decides}
use Rattle.indexmap.specs.IndexSet.{insert_key}
use Rattle.au_value.specs.Lists.{distinct}
use Rattle.au_value.specs.Texts.{Text}
use Rattle.au_value.proofs.FirstSeen.{distinct-last}

-- a text is equal to itself, and the other way round
pub itself : (x : Text) → bytes_eq x x ≡ true
itself x = nat_list_eq_equiv.refl x

pub turned : (x y : Text) → bytes_eq x y ≡ bytes_eq y x
turned x y = nat_list_eq_equiv.symm x y

pub same : (x y : Text) → bytes_eq x y ≡ true → x ≡ y
same x y is = (bytes_eq-Decides x y).0 is

-- a text more
pub distinct-push : (xs : List Text) (y : Text) → distinct bytes_eq (xs ++ y ∷ []) ≡ insert_key bytes_eq (distinct bytes_eq xs) y
distinct-push xs y = distinct-last bytes_eq bytes_eq-Decides xs y
