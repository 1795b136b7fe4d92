-- The shape that an actor is drawn as.
use Rattle.sdf_actor.specs.declared.node.Node.{Node}
use Rattle.sdf_actor.specs.declared.node.Node.TheVariants as nodes
use Rattle.sdf_kit.specs.declared.kit.Kit.{Kit}
use Rattle.sdf_kit.specs.declared.kit.Kit.TheVariants as kits
use Rattle.sdf_draw.specs.declared.ports.Shape.{Shape}
use Rattle.sdf_draw.specs.declared.ports.Shape.TheVariants.{Source, Sink, Filter, Plain}

abbrev pub kit_shape : Kit → Shape
kit_shape (kits.Fir filter) = Filter
kit_shape kit = Plain

abbrev pub shape_of : Node Kit → Shape
shape_of (nodes.Source channel block) = Source
shape_of (nodes.Sink channel block) = Sink
shape_of (nodes.Inner kit) = kit_shape kit
