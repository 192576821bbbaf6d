-- By which rules an answer is asked for.
use Rattle.au_program.specs.declared.rules.Rules.{Rules}
use Rattle.au_engine.specs.declared.options.Options.{Options}

abbrev pub rules_of : Options → Rules
rules_of options = record { compress = options.compress; points = options.points }
