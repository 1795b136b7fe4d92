use Rattle.sdf_graph.proofs.Shapes.{sound_of}
use Rattle.sdf_graph.proofs.laws.graphs_are_sound.Goals as goal

pub returns : goal.returns
returns c = sound_of
