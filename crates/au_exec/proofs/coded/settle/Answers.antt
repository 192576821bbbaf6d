-- The normal form over the codes is that of the relation.
use Rattle.std.specs.Prelude.{Err}
use Rattle.std.proofs.Common.{ap, map, subst, sym, ◌∙◌}
use Rattle.au_codes.specs.Decoding.{decoded_row}
use Rattle.au_encode.specs.Encode.{AreEncoded, decode}
use Rattle.au_settled.specs.Coded.{IsCoded}
use Rattle.au_exec.proofs.coded.settle.Goals as goal

pub settled-requires : goal.settled-requires
settled-requires c = (c.settled_is_normal.ensures c.args.columns c.args.told.book c.args.told.kinds.items c.args.batch.now c.requires.coded c.requires.encoded).have_counts

pub of-requires : goal.of-requires
of-requires c =
    let s = c.settled_is_normal.ensures c.args.columns c.args.told.book c.args.told.kinds.items c.args.batch.now c.requires.coded c.requires.encoded in
    subst (IsCoded c.args.told.book c.args.told.kinds.items) (sym c.in-Ok.ensures.rows) s.coded

pub returns-in-Ok-clause-encoded : goal.returns-in-Ok-clause-encoded
returns-in-Ok-clause-encoded c =
    let read = map (decoded_row c.args.told.book c.args.told.kinds.items) in
    let s = c.settled_is_normal.ensures c.args.columns c.args.told.book c.args.told.kinds.items c.args.batch.now c.requires.coded c.requires.encoded in
    subst (AreEncoded c.args.columns) (sym (c.of.ensures ∙ ap read c.in-Ok.ensures.rows)) s.encoded

pub returns-in-Ok-clause-form : goal.returns-in-Ok-clause-form
returns-in-Ok-clause-form c =
    let read = map (decoded_row c.args.told.book c.args.told.kinds.items) in
    let s = c.settled_is_normal.ensures c.args.columns c.args.told.book c.args.told.kinds.items c.args.batch.now c.requires.coded c.requires.encoded in
    ap (decode c.args.columns) (c.of.ensures ∙ ap read c.in-Ok.ensures.rows) ∙ s.form

pub returns-in-Err-clause-overflow : goal.returns-in-Err-clause-overflow
returns-in-Err-clause-overflow c e =
    let s = c.settled_is_normal.ensures c.args.columns c.args.told.book c.args.told.kinds.items c.args.batch.now c.requires.coded c.requires.encoded in
    sym s.fit ∙ c.in-Err.ensures.overflow (ap Err e)
