-- What the outcome says, from how the answer ended.
use Rattle.std.proofs.Common.{subst}
use Rattle.au_words.specs.Words.{asked_of}
use Rattle.au_cli.specs.Causes.{Ends, fault_counts}
use Rattle.au_cli.proofs.Endings.{early_comes, is_complete, no_file_rose, not_positive_cause, read_fault_rose, refusal_comes, usage_comes_first}
use Rattle.au_cli.proofs.FileNumbers.{ends_below}
use Rattle.au_cli.proofs.top.run.Goals as goal

pub returns-clause-usage : goal.returns-clause-usage
returns-clause-usage g c fault first =
    usage_comes_first (asked_of c.args.words.now) _ (fault_counts _ _ _ _ _ _) _ _ c.answer-outcome.result fault c.answer-outcome.ensures.ends first

pub returns-clause-query : goal.returns-clause-query
returns-clause-query g c refusal first =
    early_comes (asked_of c.args.words.now) _ (fault_counts _ _ _ _ _ _) _ _ refusal c.answer-outcome.result c.answer-outcome.ensures.ends first

pub returns-clause-not_positive : goal.returns-clause-not_positive
returns-clause-not_positive g c at is =
    not_positive_cause (asked_of c.args.words.now) _ (fault_counts _ _ _ _ _ _) _ _ c.answer-outcome.result at c.answer-outcome.ensures.ends is

pub returns-clause-file : goal.returns-clause-file
returns-clause-file g c = ends_below (asked_of c.args.words.now) _ (fault_counts _ _ _ _ _ _) _ _ c.answer-outcome.result c.answer-outcome.ensures.ends

pub returns-clause-no_file : goal.returns-clause-no_file
returns-clause-no_file g c i is =
    no_file_rose (asked_of c.args.words.now) _ (fault_counts _ _ _ _ _ _) _ _ c.answer-outcome.result i c.answer-outcome.ensures.ends is

pub returns-clause-read_fault : goal.returns-clause-read_fault
returns-clause-read_fault g c i is =
    read_fault_rose (asked_of c.args.words.now) _ (fault_counts _ _ _ _ _ _) _ _ c.answer-outcome.result i c.answer-outcome.ensures.ends is

pub returns-clause-refusal : goal.returns-clause-refusal
returns-clause-refusal g c files refusal told calm first =
    let now = c.answer-outcome.new in
    let ends = subst (λ fs. Ends (asked_of c.args.words.now) fs (fault_counts (g.S.Shelf.faults c.args.shelf.now) (g.S.Shelf.faults now.shelf) (g.S.Shelf.absences c.args.shelf.now) (g.S.Shelf.absences now.shelf) (g.O.Sink.faults c.args.out.now) (g.O.Sink.faults now.out)) (g.O.Sink.written c.args.out.now) (g.O.Sink.written now.out) c.answer-outcome.result) told c.answer-outcome.ensures.ends in
    refusal_comes (asked_of c.args.words.now) files (fault_counts _ _ _ _ _ _) _ _ refusal c.answer-outcome.result ends calm first

pub returns-clause-complete : goal.returns-clause-complete
returns-clause-complete g c files told calm still can =
    let now = c.answer-outcome.new in
    let ends = subst (λ fs. Ends (asked_of c.args.words.now) fs (fault_counts (g.S.Shelf.faults c.args.shelf.now) (g.S.Shelf.faults now.shelf) (g.S.Shelf.absences c.args.shelf.now) (g.S.Shelf.absences now.shelf) (g.O.Sink.faults c.args.out.now) (g.O.Sink.faults now.out)) (g.O.Sink.written c.args.out.now) (g.O.Sink.written now.out) c.answer-outcome.result) told c.answer-outcome.ensures.ends in
    is_complete (asked_of c.args.words.now) files (fault_counts _ _ _ _ _ _) _ _ c.answer-outcome.result ends calm still can
