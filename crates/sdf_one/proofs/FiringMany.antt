-- What firings of an actor in parts do, of what its two blocks do.
use Rattle.std.proofs.Common.{◌≡◌, ℕ, ◌+◌, ◌%◌, ◌*◌, ◌<◌, List, ◌++◌, length, get_or, drop, refl, sym, ap, ◌∙◌, subst}
use Rattle.std.proofs.Common.{vec_capacity}
use Rattle.std.specs.List.{sum_by}
use Rattle.std.specs.Borrow.{Bor}
use Rattle.std.specs.Global.{Global}
use Rattle.std.specs.declared.vec.Vec.{Vec}
use Rattle.sdf_actor.specs.Steps.{Steps, state_at, puts_to}
use Rattle.sdf_node.specs.Many.{joined}
use Rattle.sdf_one.specs.declared.work.Work.{Work}
use Rattle.sdf_one.specs.declared.work.Work.TheVariants.{Inner}
use Rattle.sdf_queues.specs.QueueValue.{QueueValue}
use Rattle.sdf_queues.specs.Blocks.{samples, room, at_ports, front_at, dealt}
use Rattle.sdf_one.specs.Many.{AreFiredInParts}

-- their blocks are taken, and then their blocks are put
pub fired_inner : {A S T : Type 0} (s : Steps A S T) (times firings : ℕ) (ins outs takes puts : List ℕ)
    (qs qs' : List (QueueValue T)) (w : Work A T S) (actor : Bor A) (phase phase' : ℕ) (state state' : S)
    (taken put taken' put' : Vec T Global) (mid : List (QueueValue T)) (b p : List T) (more : ℕ) →
    w ≡ Inner actor phase state taken put → b ≡ joined (front_at takes ins qs) times →
    phase' ≡ (phase + firings) % s.cycle actor.now →
    state' ≡ state_at s actor.now phase state b firings → p ≡ puts_to s actor.now phase state b firings →
    more ≡ sum_by (λ d. get_or puts d 0) outs → vec_capacity taken' ≡ vec_capacity taken →
    length put'.items ≡ length put.items →
    ((c : ℕ) → c < length qs → samples mid c ≡ drop (at_ports ins (times * get_or takes c 0) c) (samples qs c)) →
    ((c : ℕ) → c < length qs → samples qs' c ≡ samples mid c ++ dealt puts outs more p c times) →
    ((c : ℕ) → c < length qs → room mid c ≡ room qs c) → ((c : ℕ) → c < length qs → room qs' c ≡ room mid c) →
    AreFiredInParts s times firings ins outs takes puts w (Inner actor phase' state' taken' put') qs qs'
fired_inner s times firings ins outs takes puts qs qs' w actor phase phase' state state' taken put taken' put' mid b p
    more is front turn next made more_is cap len moved deals rooms rooms' =
    subst (λ w. AreFiredInParts s times firings ins outs takes puts w (Inner actor phase' state' taken' put') qs qs')
    (sym is)
    (record {
      work = (refl, turn, next ∙ ap (λ x. state_at s actor.now phase state x firings) front, cap, len);
      queues = λ c l. deals c l ∙ (λ k. moved c l k ++ dealt puts outs (more_is k)
          ((made ∙ ap (λ x. puts_to s actor.now phase state x firings) front) k) c times);
      rooms = λ c l. rooms' c l ∙ rooms c l;
    })
