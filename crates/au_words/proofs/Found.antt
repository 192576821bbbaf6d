-- Words of a command's form are taken, and what is found in them.
use Rattle.std.proofs.Common.{◌≡◌, ◌∙◌, Bool, true, false, refl, sym, ap, subst, List, [], ◌∷◌, Option, Some, None, codes, drop}
use Rattle.std.specs.Prelude.{find, is_some, option_and_then, option_map, slice_get, unwrap_or}
use Rattle.std.specs.Str.{bytes_eq}
use Rattle.clap.specs.Walk.{Row, Text, all_of, first_of}
use Rattle.clap.specs.Simple.{subcommand_of}
use Rattle.clap.specs.Takes.{takes}
use Rattle.clap.specs.Values.{bool_text}
use Rattle.au_words.specs.CommandLine.{HasForm, HasWords, IsFlag, audb}
use Rattle.au_words.specs.declared.words.form.Verb.{Verb}
use Rattle.au_words.proofs.Takes.{form_found, form_takes, named}

-- the rows below are these
rows_are : (sub : Option (Text × List Row)) (name : Text) (found rows : List Row) → sub ≡ Some (name, found) → option_map (λ p. p.1) sub ≡ Some rows → found ≡ rows
rows_are sub name found rows e f = ap (λ o. unwrap_or o found) (sym (ap (option_map (λ p. p.1)) e) ∙ f)

pub words_taken : (v : Verb) (words : List Text) → HasForm v words → takes audb words ≡ true
words_taken v [] h = absurd h
words_taken v (word ∷ rest) h = subst (λ w. takes audb (w ∷ rest) ≡ true) (sym (named word v h.0)) (form_takes v rest h.1)

pub words_below : (v : Verb) (words : List Text) (sub : Option (Text × List Row)) → HasForm v words → sub ≡ subcommand_of audb words → is_some sub ≡ true
words_below v [] sub h e = absurd h
words_below v (word ∷ rest) sub h e =
    ap is_some (e ∙ ap (λ w. subcommand_of audb (w ∷ rest)) (named word v h.0) ∙ (form_found v rest h.1).1)

pub words_have : (v : Verb) (words : List Text) (sub : Option (Text × List Row)) (rows : List Row) → HasForm v words → sub ≡ subcommand_of audb words
    → option_map (λ p. p.1) sub ≡ Some rows → HasWords (drop 1 words) rows
words_have v [] sub rows h e f = absurd h
words_have v (word ∷ rest) sub rows h e f =
    let found = form_found v rest h.1 in
    subst (HasWords rest) (rows_are sub _ found.0 rows (e ∙ ap (λ w. subcommand_of audb (w ∷ rest)) (named word v h.0) ∙ found.1) f) found.2

-- the first of an id's texts
pub first_of_all : (id : Text) (rows : List Row) → first_of id rows ≡ option_and_then (λ (vs : List Text). slice_get vs 0) (all_of id rows)
first_of_all id rows = by_case (find (λ (r : Row). bytes_eq r.id id) rows)
  where
    by_case : (o : Option Row) → option_and_then (λ (r : Row). slice_get r.values 0) o ≡ option_and_then (λ (vs : List Text). slice_get vs 0) (option_map (λ (r : Row). r.values) o)
    by_case None = refl
    by_case (Some r) = refl

-- ---- a flag

flag_text : (given : Bool) (text : Option Text) (r : Bool) → (text ≡ Some (codes "true") → r ≡ true) → (text ≡ Some (codes "false") → r ≡ false) → text ≡ Some (bool_text given) → r ≡ given
flag_text true text r yes_is no_is e = yes_is e
flag_text false text r yes_is no_is e = no_is e

-- what a getter of flags answers
pub flag_is : (given : Bool) (text : Option Text) (r : Bool) → (text ≡ Some (codes "true") → r ≡ true) → (text ≡ Some (codes "false") → r ≡ false)
    → IsFlag text given → r ≡ given
flag_is given text r yes_is no_is is = flag_text given text r yes_is no_is is
