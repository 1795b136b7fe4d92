use Rattle.std.proofs.Common.{ℕ, ◌*◌, ◌≤◌, ◌<◌, arith}
use Rattle.std.proofs.Math.Nat.{mul-le-mul}
use Rattle.sdf_actor.specs.Nets.{node, cycle_of}
use Rattle.sdf_one.specs.Many.{firings_in, takes_next, puts_next, takes_cycle, puts_cycle}
use Rattle.sdf_one.proofs.Sweeping.{swept_node, goes_at, actor_at, can_fire_at_once, swept_at_once, moved_at_once}
use Rattle.sdf_one.proofs.Sweeping.{can_fire_in_parts, swept_in_parts, moved_in_parts, next_in, one_part, one_fits}
use Rattle.sdf_one.proofs.Sweeping.{cycles_part, its_blocks_at, further}
use Rattle.sdf_one.proofs.run.Run.fire_some.Goals as goal

-- some cycles are some firings
some_firings : (times cycle : ℕ) → 0 < times → 0 < cycle → 0 < times * cycle
some_firings times cycle t c =
    let all : 1 * 1 ≤ times * cycle =
    mul-le-mul (let v : 1 ≤ times = omega arith in v) (let v : 1 ≤ cycle = omega arith in v) in
    omega arith

pub fire_batch-requires-after_bounds : goal.fire_batch-requires-after_bounds
fire_batch-requires-after_bounds g c κs inside =
    let s = g.A.Actor.steps in
    let r = c.args.self.now in
    let sw = c.requires.swept in
    let may = c.requires.may in
    can_fire_at_once (swept_node s r sw c.args.a may.0) c.times-times.result c.times-times.ensures.left
    (goes_at s r c.args.a (omega (arith, sw.stands.nodes, may.0)) c.index.result.now c.channels_in-ins.result.now
    c.channels_out-outs.result.now c.index.ensures c.channels_in-ins.ensures c.channels_out-outs.ensures
    (c.can_batch.ensures.goes c.if-can_batch.true))
    c.times-times.ensures.held

pub fire_cycles-requires-after_bounds : goal.fire_cycles-requires-after_bounds
fire_cycles-requires-after_bounds g c κs inside =
    let s = g.A.Actor.steps in
    let r = c.args.self.now in
    let sw = c.requires.swept in
    let node = swept_node s r sw c.args.a c.requires.may.0 in
    let many = c.cycles_in_blocks-cycles.result in
    let go = c.cycles_in_blocks-cycles.ensures.go (omega (arith, c.if-cycles-eq0.false)) in
    can_fire_in_parts node many (firings_in s r c.args.a many) c.cycles_in_blocks-cycles.ensures.left (takes_cycle r)
    (puts_cycle r) (cycles_part node many go) go.fit (λ d. its_blocks_at node d)

pub fire-requires-after_bounds : goal.fire-requires-after_bounds
fire-requires-after_bounds g c κs inside =
    let r = c.args.self.now in
    let sw = c.requires.swept in
    let may = c.requires.may in
    let node = swept_node g.A.Actor.steps r sw c.args.a may.0 in
    let actor = actor_at r.works.items c.args.a (omega (arith, sw.stands.nodes, may.0)) c.index.result.now
    c.index.ensures (c.can_batch.ensures.others c.if-can_batch.false) in
    can_fire_in_parts node 1 1 (next_in node may actor) (takes_next r) (puts_next r) (one_part node may actor)
    (one_fits node may actor) (one_fits node may actor)

pub returns-then-can_batch : goal.returns-then-can_batch
returns-then-can_batch g c =
    let s = g.A.Actor.steps in
    let r = c.args.self.now in
    let sw = c.requires.swept in
    let may = c.requires.may in
    let node = swept_node s r sw c.args.a may.0 in
    let times = c.times-times.ensures in
    let goes = goes_at s r c.args.a (omega (arith, sw.stands.nodes, may.0)) c.index.result.now
    c.channels_in-ins.result.now c.channels_out-outs.result.now c.index.ensures c.channels_in-ins.ensures
    c.channels_out-outs.ensures (c.can_batch.ensures.goes c.if-can_batch.true) in
    let r' = c.fire_batch.new.self in
    let fired = c.fire_batch.ensures in
    record {
      swept = swept_at_once node c.times-times.result times.left goes times.held
          c.history_grows_by_firing.ensures r' fired;
      moved = moved_at_once node c.times-times.result times.left goes times.held
          c.history_grows_by_firing.ensures r' fired times.some;
      further = further s r r' c.args.a c.times-times.result sw may.0 fired.alone times.some;
    }

pub returns-then-cycles-eq0 : goal.returns-then-cycles-eq0
returns-then-cycles-eq0 g c =
    let s = g.A.Actor.steps in
    let r = c.args.self.now in
    let sw = c.requires.swept in
    let may = c.requires.may in
    let node = swept_node s r sw c.args.a may.0 in
    let actor = actor_at r.works.items c.args.a (omega (arith, sw.stands.nodes, may.0)) c.index.result.now
    c.index.ensures (c.can_batch.ensures.others c.if-can_batch.false) in
    let grows = c.history_grows_by_firing.ensures in
    let r' = c.fire.new.self in
    record {
      swept = swept_in_parts node 1 1 (next_in node may actor) (takes_next r) (puts_next r)
          (one_part node may actor) grows r' c.fire.ensures;
      moved = moved_in_parts node 1 1 (next_in node may actor) (takes_next r) (puts_next r)
          (one_part node may actor) grows r' c.fire.ensures (omega arith);
      further = further s r r' c.args.a 1 sw may.0 c.fire.ensures.alone (omega arith);
    }

pub returns-else-cycles-eq0 : goal.returns-else-cycles-eq0
returns-else-cycles-eq0 g c =
    let s = g.A.Actor.steps in
    let r = c.args.self.now in
    let sw = c.requires.swept in
    let known = c.requires.may.0 in
    let node_at = swept_node s r sw c.args.a known in
    let many = c.cycles_in_blocks-cycles.result in
    let left = c.cycles_in_blocks-cycles.ensures.left in
    let positive : 0 < many = omega (arith, c.if-cycles-eq0.false) in
    let go = c.cycles_in_blocks-cycles.ensures.go positive in
    let some : 0 < firings_in s r c.args.a many =
    some_firings many (cycle_of s (node r.net.now c.args.a)) positive (sw.sizes.some c.args.a known) in
    let grows = c.history_grows_by_firing.ensures in
    let r' = c.fire_cycles.new.self in
    let fired = c.fire_cycles.ensures in
    record {
      swept = swept_in_parts node_at many (firings_in s r c.args.a many) left (takes_cycle r) (puts_cycle r)
          (cycles_part node_at many go) grows r' fired;
      moved = moved_in_parts node_at many (firings_in s r c.args.a many) left (takes_cycle r) (puts_cycle r)
          (cycles_part node_at many go) grows r' fired some;
      further = further s r r' c.args.a (firings_in s r c.args.a many) sw known fired.alone some;
    }
