use Rattle.au_blocks.proofs.GuessWorlds as laws
use Rattle.au_blocks.proofs.worlds.guess_world_is_world.Goals as goal

pub returns : goal.returns
returns c = laws.guess_world_is_world
