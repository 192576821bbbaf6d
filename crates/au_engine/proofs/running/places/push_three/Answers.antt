-- Each place is the next one.
use Rattle.au_engine.proofs.ReadPlaces.{three_more}
use Rattle.au_engine.proofs.running.places.push_three.Goals as goal

pub returns : goal.returns
returns c = λ n is.
    three_more n c.args.places.now.items c.push_next.new.places.items c.push_next-2.new.places.items c.push_next-3.new.places.items
    c.in_ok-push_next.ensures c.in_ok-push_next-2.ensures c.in_ok-push_next-3.ensures is
