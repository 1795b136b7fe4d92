use Rattle.std.proofs.Common.{◌≡◌, ◌<◌, ◌∙◌, rules, sym, ap, subst, ℕ, string_bytes, All, length}
use Rattle.std.proofs.lemmas.Option.{MatchOption-at_none}
use Rattle.sdf_actor.specs.Graphs.{graph_of}
use Rattle.sdf_kit.specs.Kit.{kit_steps}
use Rattle.sdf_why.specs.Loops.{IsLoop, loop, none, loop_line}
use Rattle.sdf_why.proofs.Rounds.{loop_known}
use Rattle.sdf_why.proofs.loops.loop_text.Goals as goal

pub returns-in_default : goal.returns-in_default
returns-in_default c =
    let graph : c.graph.result.now ≡ graph_of kit_steps c.args.design.now.net =
    c.graph.ensures.value ∙ ap (λ n. graph_of kit_steps n) c.net.ensures.value in
    none (λ cs round. MatchOption-at_none _ _ c.in_default.is c.in_ok-numbers.ensures cs
    (subst (λ g. IsLoop g cs) (sym graph) round)) c.new-text.ensures.bytes

pub push_line-requires : goal.push_line-requires
push_line-requires c =
    let graph : c.graph.result.now ≡ graph_of kit_steps c.args.design.now.net =
    c.graph.ensures.value ∙ ap (λ n. graph_of kit_steps n) c.net.ensures.value in
    let found : IsLoop c.graph.result.now c.in-Some.numbers.items = search rules in
    let round : IsLoop (graph_of kit_steps c.args.design.now.net) c.in-Some.numbers.items =
    subst (λ g. IsLoop g c.in-Some.numbers.items) graph found in
    subst (All (λ (n : ℕ). n < length (graph_of kit_steps c.args.design.now.net).channels))
    (sym (c.deref.ensures.value ∙ c.reverse.ensures.items))
    (loop_known (graph_of kit_steps c.args.design.now.net) c.in-Some.numbers.items round)

pub returns : goal.returns
returns c =
    let graph : c.graph.result.now ≡ graph_of kit_steps c.args.design.now.net =
    c.graph.ensures.value ∙ ap (λ n. graph_of kit_steps n) c.net.ensures.value in
    let found : IsLoop c.graph.result.now c.in-Some.numbers.items = search rules in
    let round : IsLoop (graph_of kit_steps c.args.design.now.net) c.in-Some.numbers.items =
    subst (λ g. IsLoop g c.in-Some.numbers.items) graph found in
    let told : string_bytes c.push_line.new.text
    ≡ loop_line c.args.design.now.names (graph_of kit_steps c.args.design.now.net) c.deref.result.now =
    search rules in
    loop c.in-Some.numbers.items round (told
    ∙ ap (loop_line c.args.design.now.names (graph_of kit_steps c.args.design.now.net))
    (c.deref.ensures.value ∙ c.reverse.ensures.items))
