-- The channels of a document's links.
use Rattle.std.proofs.Common.{◌≡◌, ℕ, ◌+◌, ◌<◌, ◌≤◌, ℤ, List, [], ◌∷◌, ◌++◌, map, take, get_or, length, refl, ap, sym}
use Rattle.std.proofs.Common.{◌∙◌, arith}
use Rattle.std.proofs.lemmas.List.{map_push, take_more, get_or-map, get_or_past, length-map}
use Rattle.std.specs.List.{range_with_len}
use Rattle.sdf_graph.specs.Rates.{ChannelValue}
use Rattle.sdf_actor.specs.declared.node.Node.{Node}
use Rattle.sdf_actor.specs.declared.node.Node.TheVariants.{Sink}
use Rattle.sdf_actor.specs.declared.sides.Side.TheVariants.{Input, Output}
use Rattle.sdf_actor.specs.Nets.{Wire}
use Rattle.sdf_actor.specs.Graphs.{channel_of, rate_of, rates_at}
use Rattle.sdf_kit.specs.declared.kit.Kit.{Kit}
use Rattle.sdf_kit.specs.declared.ports.Ports.{Ports}
use Rattle.sdf_kit.specs.Ports.{moved}
use Rattle.sdf_kit.specs.Kit.{kit_steps}
use Rattle.sdf_document.specs.declared.entry.ActorEntry.{ActorEntry}
use Rattle.sdf_document.specs.declared.entry.LinkEntry.{LinkEntry}
use Rattle.sdf_document.specs.Actors.{ActorValue, actor_view}
use Rattle.sdf_document.specs.Links.{link_view}
use Rattle.sdf_file.specs.Designs.{node_of, wire_of}
use Rattle.sdf_why.specs.Channels.{ArePortsOf, nodes_of}

map_same : {X Y : Type 0} (f g : X → Y) → ((x : X) → f x ≡ g x) → (xs : List X) → map f xs ≡ map g xs
map_same f g same [] = refl
map_same f g same (x ∷ xs) = ap (λ y. y ∷ map f xs) (same x) ∙ ap (λ ys. g x ∷ ys) (map_same f g same xs)

puts_are : (ports : Ports) (node : Node Kit) (p : ℕ) → ArePortsOf ports node →
    map (moved ports.outputs p) (range_with_len 0 ports.cycle) ≡ rates_at kit_steps Output node p
puts_are ports node p are =
    map_same (moved ports.outputs p) (rate_of kit_steps Output node p) (are.outputs p) (range_with_len 0 ports.cycle)
    ∙ ap (λ n. map (rate_of kit_steps Output node p) (range_with_len 0 n)) are.cycle

takes_are : (ports : Ports) (node : Node Kit) (p : ℕ) → ArePortsOf ports node →
    map (moved ports.inputs p) (range_with_len 0 ports.cycle) ≡ rates_at kit_steps Input node p
takes_are ports node p are =
    map_same (moved ports.inputs p) (rate_of kit_steps Input node p) (are.inputs p) (range_with_len 0 ports.cycle)
    ∙ ap (λ n. map (rate_of kit_steps Input node p) (range_with_len 0 n)) are.cycle

-- a channel by the ports of the actors at its ends
pub channel_is : (nodes : List (Node Kit)) (w : Wire ℤ) (from to : Ports) (put take : List ℕ) (n : ℕ) →
    ArePortsOf from (get_or nodes w.from.0 (Sink 0 0)) → ArePortsOf to (get_or nodes w.to.0 (Sink 0 0)) →
    put ≡ map (moved from.outputs w.from.1) (range_with_len 0 from.cycle) →
    take ≡ map (moved to.inputs w.to.1) (range_with_len 0 to.cycle) → n ≡ length w.initial →
    (let e : ChannelValue = record { from = w.from.0; put = put; to = w.to.0; take = take; initial = n } in
    e ≡ channel_of kit_steps nodes w)
channel_is nodes w from to put take n source target puts takes many =
    rw (
      puts,
      takes,
      many,
      puts_are from (get_or nodes w.from.0 (Sink 0 0)) w.from.1 source,
      takes_are to (get_or nodes w.to.0 (Sink 0 0)) w.to.1 target,
    ) refl

-- the channel of one more link
pub channels_more : (f : Wire ℤ → ChannelValue) (links : List LinkEntry) (i : ℕ) (x : LinkEntry) → i < length links →
    x ≡ get_or links i x →
    map f (map wire_of (map link_view (take (i + 1) links))) ≡
    map f (map wire_of (map link_view (take i links))) ++ f (wire_of (link_view x)) ∷ []
channels_more f links i x l is =
    ap (λ (ls : List LinkEntry). map f (map wire_of (map link_view ls)))
    (take_more links i x l ∙ ap (λ y. take i links ++ y ∷ []) (sym is))
    ∙ (ap (λ ws. map f (map wire_of ws)) (map_push link_view (take i links) x)
    ∙ (ap (map f) (map_push wire_of (map link_view (take i links)) (link_view x))
    ∙ map_push f (map wire_of (map link_view (take i links))) (wire_of (link_view x))))

-- ---- actors

-- the node of an actor that is read
pub node_at : (actors : List ActorEntry) (i : ℕ) (x : ActorEntry) → i < length actors →
    node_of (get_or actors i x).kind ≡ get_or (nodes_of (map actor_view actors)) i (Sink 0 0)
node_at actors i x l = sym (
    get_or-map (λ (a : ActorValue). node_of a.kind) (map actor_view actors) i (actor_view x) (Sink 0 0)
    (omega (arith, length-map actors actor_view))
    ∙ ap (λ (a : ActorValue). node_of a.kind) (get_or-map actor_view actors i x (actor_view x) l))

-- and the one where there is none
pub node_past : (actors : List ActorEntry) (i : ℕ) → length actors ≤ i →
    Sink 0 0 ≡ get_or (nodes_of (map actor_view actors)) i (Sink 0 0)
node_past actors i l = sym (get_or_past (nodes_of (map actor_view actors)) i (Sink 0 0) (omega (
  arith,
  length-map actors actor_view,
  length-map (map actor_view actors) (λ (a : ActorValue). node_of a.kind),
)))
