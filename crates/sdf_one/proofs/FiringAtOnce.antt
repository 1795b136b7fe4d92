-- What a batch of firings of a node does, of what its queues do.
use Rattle.std.proofs.Common.{◌≡◌, ℕ, ◌+◌, ◌-◌, ◌*◌, ◌≤◌, ◌<◌, List, [], ◌++◌, length, get_or, set, take, drop, cond}
use Rattle.std.proofs.Common.{eqb, refl, sym, ap, ◌∙◌, subst, arith, vec_capacity}
use Rattle.std.specs.List.{between, flat_map}
use Rattle.std.proofs.lemmas.List.{append-nil, take_all, get_or_default}
use Rattle.std.proofs.lemmas.List.Edits.{length-between}
use Rattle.std.specs.Borrow.{Bor}
use Rattle.std.specs.Global.{Global}
use Rattle.std.specs.declared.vec.Vec.{Vec}
use Rattle.sdf_actor.specs.Steps.{Steps, state_at, puts_to}
use Rattle.sdf_actor.specs.Histories.{spread}
use Rattle.sdf_one.specs.declared.work.Work.{Work}
use Rattle.sdf_one.specs.declared.work.Work.TheVariants.{Source, Sink, Inner}
use Rattle.sdf_queues.specs.QueueValue.{QueueValue}
use Rattle.sdf_queues.specs.Blocks.{nothing, samples, room, at_ports, ArePorts}
use Rattle.sdf_queues.specs.Lists.{list}
use Rattle.sdf_one.specs.AtOnce.{fronts, CanFireBatch, AreFired}
use Rattle.sdf_one.proofs.Firing.{list_set, capacity_set}
use Rattle.sdf_one.proofs.Parts.{one_of}
use Rattle.sdf_one.proofs.Passing.{put_one, take_one, room_one, passed}

-- at one port
fronts_one : {T : Type 0} (times : ℕ) (takes ins : List ℕ) (qs : List (QueueValue T)) (x : QueueValue T) →
    length ins ≡ 1 →
    get_or ins 0 0 < length qs →
    fronts times takes ins qs ≡ take (times * get_or takes (get_or ins 0 0) 0) (get_or qs (get_or ins 0 0) x).samples
fronts_one times takes ins qs x one known =
    ap (flat_map (λ c. take (times * get_or takes c 0) (samples qs c))) (one_of ins one) ∙
    (append-nil (take (times * get_or takes (get_or ins 0 0) 0) (samples qs (get_or ins 0 0))) ∙
    ap (λ q. take (times * get_or takes (get_or ins 0 0) 0) q.samples)
    (get_or_default qs (get_or ins 0 0) nothing x known))

dealt_one : {T : Type 0} (times : ℕ) (puts outs : List ℕ) (block : List T) (c : ℕ) → length outs ≡ 1 →
    length block ≤ times * get_or puts (get_or outs 0 0) 0 →
    spread (λ d. times * get_or puts d 0) outs block c ≡ cond (eqb (get_or outs 0 0) c) block []
dealt_one times puts outs block c one long =
    ap (λ ds. spread (λ d. times * get_or puts d 0) ds block c) (one_of outs one) ∙
    ap (λ ys. cond (eqb (get_or outs 0 0) c) ys []) (take_all (times * get_or puts (get_or outs 0 0) 0) block long)

-- from one queue into another
pub through : {T : Type 0} (qs : List (QueueValue T)) (times : ℕ) (ins outs takes puts : List ℕ)
    (q y e xf xt : QueueValue T)
    (block : List T) → ArePorts ins takes (length qs) → ArePorts outs puts (length qs) →
    length ins ≡ 1 → length outs ≡ 1 → (get_or ins 0 0 ≡ get_or outs 0 0 → ⊥) →
    q.samples ≡ drop (times * get_or takes (get_or ins 0 0) 0) (get_or qs (get_or ins 0 0) xf).samples →
    y.samples ≡ (get_or qs (get_or outs 0 0) xt).samples ++ block →
    length block ≡ times * get_or puts (get_or outs 0 0) 0 →
    (c : ℕ) → samples (set (set (set qs (get_or outs 0 0) e) (get_or ins 0 0) q) (get_or outs 0 0) y) c ≡
    drop (at_ports ins (times * get_or takes c 0) c) (samples qs c)
    ++ spread (λ d. times * get_or puts d 0) outs block c
through qs times ins outs takes puts q y e xf xt block ins_are outs_are one_in one_out apart is put long c =
    passed qs (get_or ins 0 0) (get_or outs 0 0) q y e (ins_are.known 0 (omega (arith, one_in)))
    (outs_are.known 0 (omega (arith, one_out))) apart xf xt (λ b. times * get_or takes b 0) block is put c ∙
    (λ i. drop (sym (ap (λ ds. at_ports ds (times * get_or takes c 0) c) (one_of ins one_in)) i) (samples qs c)
    ++ sym (dealt_one times puts outs block c one_out (omega (arith, long))) i)

pub taken_through : {T : Type 0} (qs : List (QueueValue T)) (times : ℕ) (ins takes : List ℕ) (x : QueueValue T) →
    ArePorts ins takes (length qs) → length ins ≡ 1 →
    take (times * get_or takes (get_or ins 0 0) 0) (get_or qs (get_or ins 0 0) x).samples ≡ fronts times takes ins qs
taken_through qs times ins takes x ins_are one_in =
    sym (fronts_one times takes ins qs x one_in (ins_are.known 0 (omega (arith, one_in))))

module _ {A S T Z : Type 0} (s : Steps A S T) (inputs : List (List T)) (times : ℕ) (ins outs takes puts : List ℕ)
    (qs : List (QueueValue T)) (outputs : List (Vec T Z)) where
  -- a source's
  pub fired_source : (w : Work A T S) (ext next block : ℕ) (q x : QueueValue T) → w ≡ Source ext next block →
      CanFireBatch s inputs times ins outs takes puts w qs outputs →
      q.samples ≡ (get_or qs (get_or outs 0 0) x).samples
      ++ between next (next + block * times) (get_or inputs ext []) →
      q.room ≡ (get_or qs (get_or outs 0 0) x).room →
      AreFired s inputs times ins outs takes puts w (Source ext (next + block * times) block) qs
      (set qs (get_or outs 0 0) q) outputs outputs
  fired_source w ext next block q x is can put keeps =
      subst (λ w. CanFireBatch s inputs times ins outs takes puts w qs outputs →
      AreFired s inputs times ins outs takes puts w (Source ext (next + block * times) block) qs
      (set qs (get_or outs 0 0) q) outputs outputs) (sym is)
      (λ can.
      let known : get_or outs 0 0 < length qs = can.outs_are.known 0 (omega (arith, can.work.1)) in
      let made : List T = between next (next + block * times) (get_or inputs ext []) in
      let long : length made ≡ next + block * times - next =
      length-between (get_or inputs ext []) next (next + block * times) can.work.4 in
      record {
        work = refl;
        queues = λ c l. put_one qs (get_or outs 0 0) q x known made put c ∙
            (λ i. drop (sym (ap (λ ds. at_ports ds (times * get_or takes c 0) c) can.work.0) i) (samples qs c)
            ++ sym (dealt_one times puts outs made c can.work.1 (omega (arith, long, can.work.2))) i);
        rooms = λ c l. room_one qs (get_or outs 0 0) q x known keeps c;
        lists = λ e l. sym (append-nil (list outputs e));
        capacities = λ e l. refl;
      }) can

  -- a sink's
  pub fired_sink : (w : Work A T S) (ext : ℕ) (v d : Vec T Z) (q x : QueueValue T) → w ≡ Sink ext →
      CanFireBatch s inputs times ins outs takes puts w qs outputs →
      v.items ≡ (get_or outputs ext d).items ++ take (times * get_or takes (get_or ins 0 0) 0)
      (get_or qs (get_or ins 0 0) x).samples → vec_capacity v ≡ vec_capacity (get_or outputs ext d) →
      q.samples ≡ drop (times * get_or takes (get_or ins 0 0) 0) (get_or qs (get_or ins 0 0) x).samples →
      q.room ≡ (get_or qs (get_or ins 0 0) x).room →
      AreFired s inputs times ins outs takes puts w (Sink ext) qs (set qs (get_or ins 0 0) q) outputs
      (set outputs ext v)
  fired_sink w ext v d q x is can items cap taken keeps =
      subst (λ w. CanFireBatch s inputs times ins outs takes puts w qs outputs →
      AreFired s inputs times ins outs takes puts w (Sink ext) qs (set qs (get_or ins 0 0) q) outputs
      (set outputs ext v)) (sym is)
      (λ can.
      let known : get_or ins 0 0 < length qs = can.ins_are.known 0 (omega (arith, can.work.1)) in
      record {
        work = refl;
        queues = λ c l. take_one qs (get_or ins 0 0) q x known (λ b. times * get_or takes b 0) taken c ∙
            (ap (λ j. drop j (samples qs c)) (sym (ap (λ ds. at_ports ds (times * get_or takes c 0) c)
            (one_of ins can.work.1))) ∙
            (sym (append-nil (drop (at_ports ins (times * get_or takes c 0) c) (samples qs c))) ∙
            ap (λ ds. drop (at_ports ins (times * get_or takes c 0) c) (samples qs c)
            ++ spread (λ d. times * get_or puts d 0) ds [] c) (sym can.work.0)));
        rooms = λ c l. room_one qs (get_or ins 0 0) q x known keeps c;
        lists = list_set outputs ext v d (fronts times takes ins qs) can.work.2
            (items ∙ ap (λ ys. (get_or outputs ext d).items ++ ys)
            (taken_through qs times ins takes x can.ins_are can.work.1));
        capacities = capacity_set outputs ext v d can.work.2 cap;
      }) can

  -- an actor's
  pub fired_actor : (w : Work A T S) (actor : Bor A) (phase : ℕ) (state state' : S) (taken put : Vec T Global)
      (qs' : List (QueueValue T)) → w ≡ Inner actor phase state taken put →
      state' ≡ state_at s actor.now phase state (fronts times takes ins qs) times →
      ((c : ℕ) → c < length qs → samples qs' c ≡ drop (at_ports ins (times * get_or takes c 0) c) (samples qs c)
      ++ spread (λ d. times * get_or puts d 0) outs
      (puts_to s actor.now phase state (fronts times takes ins qs) times) c) →
      ((c : ℕ) → c < length qs → room qs' c ≡ room qs c) →
      AreFired s inputs times ins outs takes puts w (Inner actor phase state' taken put) qs qs' outputs outputs
  fired_actor w actor phase state state' taken put qs' is next moved rooms =
      subst (λ w. AreFired s inputs times ins outs takes puts w (Inner actor phase state' taken put) qs qs'
      outputs outputs) (sym is)
      (record {
        work = ap (λ x. Inner actor phase x taken put) next;
        queues = moved;
        rooms = rooms;
        lists = λ e l. sym (append-nil (list outputs e));
        capacities = λ e l. refl;
      })
