-- The rows of the relation are combined, which keeps the distribution and the counted guesses.
use Rattle.std.proofs.Common.{◌≡◌, ◌∙◌, refl, subst, sym}
use Rattle.au_algebra.specs.Bounded.{combine}
use Rattle.au_algebra.specs.Distribution.{Bounds}
use Rattle.au_algebra.specs.Fits.{triples_fit}
use Rattle.au_algebra.specs.Laws.{Guesses, IsRelation}
use Rattle.au_algebra.proofs.DifferenceRelation.{combine_relation}
use Rattle.au_algebra.proofs.Forms.{combine_keeps_both}
use Rattle.au_kfull.specs.Gives.{GivesOrOverflows}
use Rattle.au_kfull.specs.Keys.{HasKinds}
use Rattle.au_kfull.proofs.DifferenceRows.{relation_kinds}
use Rattle.au_kfull.proofs.GivesMore.{gives_ok, gives_fits, gives_overflow}
use Rattle.au_kfull.proofs.combination.combine.Goals as goal

pub combined-requires : goal.combined-requires
combined-requires c =
    let ks = c.requires.0 in
    (ks, subst (HasKinds ks) (sym (c.deref.ensures.value ∙ c.in_ok-lent.ensures ∙ c.rows.ensures)) (relation_kinds ks c.args.rel.now c.requires.1))

given : (c : goal.After-drop-lent) → GivesOrOverflows c.combined.result (λ r. r ≡ combine c.args.rel.now) (triples_fit (combine c.args.rel.now))
given c = subst (λ rows. GivesOrOverflows c.combined.result (λ r. r ≡ combine rows) (triples_fit (combine rows))) (c.deref.ensures.value ∙ c.in_ok-lent.ensures ∙ c.rows.ensures) c.combined.ensures

pub returns-clause-rows : goal.returns-clause-rows
returns-clause-rows c = gives_ok c.combined.result (λ r. r ≡ combine c.args.rel.now) (triples_fit (combine c.args.rel.now)) (given c) _ (λ r e. e)

pub returns-clause-relation : goal.returns-clause-relation
returns-clause-relation c =
    gives_ok c.combined.result (λ r. r ≡ combine c.args.rel.now) (triples_fit (combine c.args.rel.now)) (given c) _
    (λ r e ks ok. subst (IsRelation ks) (sym e) (combine_relation ks c.args.rel.now ok))

pub returns-clause-bounds : goal.returns-clause-bounds
returns-clause-bounds c =
    gives_ok c.combined.result (λ r. r ≡ combine c.args.rel.now) (triples_fit (combine c.args.rel.now)) (given c) _
    (λ r e w b. subst (λ rows. Bounds rows w) (sym e) (combine_keeps_both.bounds c.requires.0 c.args.rel.now w c.requires.1 b))

pub returns-clause-guesses : goal.returns-clause-guesses
returns-clause-guesses c =
    gives_ok c.combined.result (λ r. r ≡ combine c.args.rel.now) (triples_fit (combine c.args.rel.now)) (given c) _
    (λ r e w g. subst (λ rows. Guesses rows w) (sym e) (combine_keeps_both.guesses c.requires.0 c.args.rel.now w c.requires.1 g))

pub returns-clause-fits : goal.returns-clause-fits
returns-clause-fits c = gives_fits c.combined.result (λ r. r ≡ combine c.args.rel.now) (triples_fit (combine c.args.rel.now)) (given c) _ refl

pub returns-clause-overflow : goal.returns-clause-overflow
returns-clause-overflow c = gives_overflow c.combined.result (λ r. r ≡ combine c.args.rel.now) (triples_fit (combine c.args.rel.now)) (given c) _ refl
