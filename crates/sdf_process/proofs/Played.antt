-- A run that is played some periods at a time: its pieces, joined, are one run.
use Rattle.std.proofs.Common.{◌≡◌, inl, inr, Result, Ok, Err, ℕ, zero, suc, ◌+◌, ◌*◌, ◌≤◌, ◌<◌, ℤ, pos, List, [], ◌∷◌}
use Rattle.std.proofs.Common.{◌++◌, length, map, get_or, refl, sym, ap, ◌∙◌, subst, arith, ◌⊎◌}
use Rattle.std.specs.Int.{w16, saturate_signed}
use Rattle.std.specs.Prelude.{IfErr, IsErrAnd}
use Rattle.std.specs.List.{range_with_len}
use Rattle.std.proofs.lemmas.Bool.{cases_lt}
use Rattle.std.proofs.lemmas.List.{get_or_past, get_or_append_left, get_or-append-add, length-take-le}
use Rattle.std.proofs.lemmas.List.Concat.{flat_map-cons}
use Rattle.std.proofs.lemmas.List.FromFn.{length-map-range_with_len, get_or-map-range_with_len}
use Rattle.sdf_actor.specs.declared.node.Node.TheVariants.{Sink}
use Rattle.sdf_actor.specs.declared.sides.Lists.TheVariants.{Outputs}
use Rattle.sdf_actor.specs.Nets.{Netlist, node, wire, wiring, consumed_at, inputs_of, to_port}
use Rattle.sdf_actor.specs.NetStates.{AreJoined}
use Rattle.sdf_actor.specs.Sides.{period_samples}
use Rattle.sdf_actor.specs.Steps.{Steps}
use Rattle.sdf_queues.specs.RunResults.{AreOutputs, HasInputs, IsRunFault, periods_of as firings}
use Rattle.sdf_queues.specs.declared.fault.RunFault.{RunFault}
use Rattle.sdf_queues.specs.declared.fault.RunFault.TheVariants.{OutOfMemory}
use Rattle.sdf_queues.specs.Feeds.{AreFull}
use Rattle.sdf_queues.specs.Periods.{HasPeriod}
use Rattle.sdf_kit.specs.declared.kit.Kit.{Kit}
use Rattle.sdf_sched.specs.Period.{Schedule}
use Rattle.sdf_parallel.specs.Cuts.{join}
use Rattle.sdf_actor.proofs.Theorems.{ports_have_channels}
use Rattle.sdf_queues.proofs.Theorems.{nets_can_run}
use Rattle.sdf_wav.specs.Sound.{Sound}
use Rattle.sdf_process.specs.declared.io_rates.IoRates.{IoRates}
use Rattle.sdf_process.specs.Output.{io_rates_of, sample, channel_samples, channel_samples_from, frame, interleaved}
use Rattle.sdf_process.specs.Output.{interleaved_from, lists_to, lists_from}
use Rattle.sdf_process.proofs.Outputs.{sink_of}
use Rattle.sdf_process.proofs.Pieces.{frames_joined}
use Rattle.sdf_process.proofs.Rendering.{list_length, run_fault_by}

-- ---- what a piece is given

map_joined : {X : Type 0} (f : ℕ → X) (a n m : ℕ) →
    map f (range_with_len a n) ++ map f (range_with_len (a + n) m) ≡ map f (range_with_len a (n + m))
map_joined f a zero m =
    let here : a + zero ≡ a = omega arith in
    let all : m ≡ zero + m = omega arith in
    ap (λ (k : ℕ). map f (range_with_len k m)) here ∙ ap (λ (k : ℕ). map f (range_with_len a k)) all
map_joined {X} f a (suc n) m =
    let past : a + suc n ≡ a + 1 + n = omega arith in
    let all : suc (n + m) ≡ suc n + m = omega arith in
    ap (λ (k : ℕ). map f (range_with_len a (suc n)) ++ map f (range_with_len k m)) past
    ∙ (ap (λ (l : List X). f a ∷ l) (map_joined f (a + 1) n m) ∙ ap (λ (k : ℕ). map f (range_with_len a k)) all)

-- the lists of some periods and of those behind are those of all
pub lists_joined : (few more : ℕ) (x : IoRates) (s : Sound) →
    AreJoined (lists_to few x s) (lists_from few more x s) (lists_to (few + more) x s)
lists_joined few more x s e = go (cases_lt e x.inputs)
  where
    split : few * x.taken + more * x.taken ≡ (few + more) * x.taken
    split = omega arith

    none : (f : ℕ → List ℤ) → x.inputs ≤ e → get_or (map f (range_with_len 0 x.inputs)) e [] ≡ []
    none f past = get_or_past (map f (range_with_len 0 x.inputs)) e []
        (omega (arith, past, length-map-range_with_len f 0 x.inputs))

    at : (f : ℕ → List ℤ) → e < x.inputs → get_or (map f (range_with_len 0 x.inputs)) e [] ≡ f e
    at f here = get_or-map-range_with_len f 0 x.inputs e e [] here (omega arith)

    go : (e < x.inputs) ⊎ (x.inputs ≤ e) → get_or (lists_to (few + more) x s) e [] ≡
        get_or (lists_to few x s) e [] ++ get_or (lists_from few more x s) e []
    go (inl here) =
        at (channel_samples s ((few + more) * x.taken)) here
        ∙ (ap (λ (k : ℕ). map (sample s e) (range_with_len 0 k)) (sym split)
        ∙ (sym (map_joined (sample s e) 0 (few * x.taken) (more * x.taken))
        ∙ (ap (λ (k : ℕ). channel_samples s (few * x.taken) e ++ map (sample s e) (range_with_len k (more * x.taken)))
        (let z : 0 + few * x.taken ≡ few * x.taken = omega arith in z)
        ∙ (ap (λ (l : List ℤ). l ++ channel_samples_from s (few * x.taken) (more * x.taken) e)
        (sym (at (channel_samples s (few * x.taken)) here))
        ∙ ap (λ (l : List ℤ). get_or (lists_to few x s) e [] ++ l)
        (sym (at (channel_samples_from s (few * x.taken) (more * x.taken)) here))))))
    go (inr past) =
        none (channel_samples s ((few + more) * x.taken)) past
        ∙ sym (ap (λ (l : List ℤ). l ++ get_or (lists_from few more x s) e [])
        (none (channel_samples s (few * x.taken)) past)
        ∙ none (channel_samples_from s (few * x.taken) (more * x.taken)) past)

pub lists_long : (few more : ℕ) (x : IoRates) (s : Sound) →
    length (lists_to (few + more) x s) ≡ length (lists_to few x s)
lists_long few more x s = length-map-range_with_len (channel_samples s ((few + more) * x.taken)) 0 x.inputs
    ∙ sym (length-map-range_with_len (channel_samples s (few * x.taken)) 0 x.inputs)

-- each is as long as its periods
pub lists_full : (n : Netlist Kit ℤ) (q : List ℕ) (periods : ℕ) (s : Sound) →
    AreFull n q periods (lists_to periods (io_rates_of n q) s)
lists_full n q periods s e l = list_length periods (io_rates_of n q) s e l

module _ (few more : ℕ) (x : IoRates) (s : Sound) where
  pub from_at : (e : ℕ) → e < length (lists_from few more x s) →
      length (get_or (lists_from few more x s) e []) ≡ more * x.taken
  from_at e l =
      let count : length (lists_from few more x s) ≡ x.inputs =
      length-map-range_with_len (channel_samples_from s (few * x.taken) (more * x.taken)) 0 x.inputs in
      ap length (get_or-map-range_with_len (channel_samples_from s (few * x.taken) (more * x.taken)) 0 x.inputs e e []
      (omega (arith, l, count)) (omega arith))
      ∙ length-map-range_with_len (sample s e) (few * x.taken) (more * x.taken)

-- so are those of a piece
pub piece_given : (n : Netlist Kit ℤ) (q : List ℕ) (s : Sound) (few more : ℕ) →
    HasInputs n q more (lists_from few more (io_rates_of n q) s)
piece_given n q s few more = record {
  count = length-map-range_with_len (channel_samples_from s (few * (io_rates_of n q).taken)
      (more * (io_rates_of n q).taken)) 0 (io_rates_of n q).inputs;
  even = λ e l. from_at few more (io_rates_of n q) s e l
      ∙ sym (from_at few more (io_rates_of n q) s 0 (omega (arith, l)));
  enough = λ e l. omega (arith, from_at few more (io_rates_of n q) s e l);
}

pub piece_full : (n : Netlist Kit ℤ) (q : List ℕ) (s : Sound) (few more : ℕ) →
    AreFull n q more (lists_from few more (io_rates_of n q) s)
piece_full n q s few more e l = from_at few more (io_rates_of n q) s e l

-- so a piece fails by memory alone
pub piece_refused : {X : Type 0} (n : Netlist Kit ℤ) (q : List ℕ) (s : Sound) (x : IoRates) → x ≡ io_rates_of n q →
    (at many : ℕ) (inputs : List (List ℤ)) → inputs ≡ lists_from at many x s →
    (e : RunFault) (r : Result X RunFault) → IsRunFault n q many inputs e → IsErrAnd r (λ f. f ≡ e) →
    IfErr r (λ f. f ≡ OutOfMemory)
piece_refused n q s x is at many inputs given e (Err f) why from =
    from ∙ run_fault_by n q many inputs e (subst (HasInputs n q many)
    (sym (given ∙ ap (λ y. lists_from at many y s) is)) (piece_given n q s at many)) why
piece_refused n q s x is at many inputs given e (Ok v) why from = absurd from

-- ---- what it makes

-- lists of so many samples each
abbrev pub AllLong : ℕ → List (List ℤ) → Type 0
AllLong k xs = (e : ℕ) → e < length xs → length (get_or xs e []) ≡ k

-- the frames of joined lists are those of the first and then those of the others
frame_first : (k i : ℕ) (xs ys : List (List ℤ)) → i < k → AllLong k xs → length xs ≡ length ys →
    frame (join xs ys) i ≡ frame xs i
frame_first k i [] ys less long same = refl
frame_first k i (x ∷ xs) [] less long same = absurd (omega arith)
frame_first k i (x ∷ xs) (y ∷ ys) less long same =
    let here : length x ≡ k = long 0 (omega arith) in
    ap (λ (v : ℤ). saturate_signed w16 v ∷ frame (join xs ys) i)
    (get_or_append_left x y (pos 0) i (omega (arith, here)))
    ∙ ap (λ (l : List ℤ). saturate_signed w16 (get_or x i (pos 0)) ∷ l)
    (frame_first k i xs ys less (λ e l. long (suc e) (omega arith)) (omega arith))

frame_later : (k i : ℕ) (xs ys : List (List ℤ)) → AllLong k xs → length xs ≡ length ys →
    frame (join xs ys) (k + i) ≡ frame ys i
frame_later k i [] [] long same = refl
frame_later k i [] (y ∷ ys) long same = absurd (omega arith)
frame_later k i (x ∷ xs) [] long same = absurd (omega arith)
frame_later k i (x ∷ xs) (y ∷ ys) long same =
    let here : length x ≡ k = long 0 (omega arith) in
    let place : get_or (x ++ y) (k + i) (pos 0) ≡ get_or y i (pos 0) =
    ap (λ (m : ℕ). get_or (x ++ y) (m + i) (pos 0)) (sym here) ∙ get_or-append-add x y i (pos 0) in
    ap (λ (v : ℤ). saturate_signed w16 v ∷ frame (join xs ys) (k + i)) place
    ∙ ap (λ (l : List ℤ). saturate_signed w16 (get_or y i (pos 0)) ∷ l)
    (frame_later k i xs ys (λ e l. long (suc e) (omega arith)) (omega arith))

frames_first : (k a n : ℕ) (xs ys : List (List ℤ)) → a + n ≤ k → AllLong k xs → length xs ≡ length ys →
    interleaved_from a n (join xs ys) ≡ interleaved_from a n xs
frames_first k a zero xs ys less long same = refl
frames_first k a (suc n) xs ys less long same =
    flat_map-cons (frame (join xs ys)) a (range_with_len (a + 1) n)
    ∙ (ap (λ (l : List ℤ). l ++ interleaved_from (a + 1) n (join xs ys)) (frame_first k a xs ys (omega arith) long same)
    ∙ (ap (λ (l : List ℤ). frame xs a ++ l) (frames_first k (a + 1) n xs ys (omega arith) long same)
    ∙ sym (flat_map-cons (frame xs) a (range_with_len (a + 1) n))))

frames_later : (k a n : ℕ) (xs ys : List (List ℤ)) → AllLong k xs → length xs ≡ length ys →
    interleaved_from (k + a) n (join xs ys) ≡ interleaved_from a n ys
frames_later k a zero xs ys long same = refl
frames_later k a (suc n) xs ys long same =
    let next : k + a + 1 ≡ k + (a + 1) = omega arith in
    flat_map-cons (frame (join xs ys)) (k + a) (range_with_len (k + a + 1) n)
    ∙ (ap (λ (l : List ℤ). l ++ interleaved_from (k + a + 1) n (join xs ys)) (frame_later k a xs ys long same)
    ∙ (ap (λ (i : ℕ). frame ys a ++ interleaved_from i n (join xs ys)) next
    ∙ (ap (λ (l : List ℤ). frame ys a ++ l) (frames_later k (a + 1) n xs ys long same)
    ∙ sym (flat_map-cons (frame ys) a (range_with_len (a + 1) n)))))

pub frames_on_join : (k n : ℕ) (xs ys : List (List ℤ)) → AllLong k xs → length xs ≡ length ys →
    interleaved (k + n) (join xs ys) ≡ interleaved k xs ++ interleaved n ys
frames_on_join k n xs ys long same =
    sym (frames_joined (join xs ys) 0 k n)
    ∙ (ap (λ (l : List ℤ). l ++ interleaved_from (0 + k) n (join xs ys))
    (frames_first k 0 k xs ys (omega arith) long same)
    ∙ (ap (λ (i : ℕ). interleaved k xs ++ interleaved_from i n (join xs ys)) (let z : 0 + k ≡ k + 0 = omega arith in z)
    ∙ ap (λ (l : List ℤ). interleaved k xs ++ l) (frames_later k 0 n xs ys long same)))

-- each output list has the samples of its periods
module _ {S : Type 0} (s : Steps Kit S ℤ) (n : Netlist Kit ℤ) (p : Schedule) (has : HasPeriod s n p)
    (periods : ℕ) (inputs made : List (List ℤ)) (given : HasInputs n p.repetitions periods inputs)
    (is : AreOutputs s n inputs (firings p.repetitions periods) made) where
  module _ (a e block : ℕ) (l : a < length n.nodes) (sink : node n a ≡ Sink e block) where
    abbrev c : ℕ
    c = to_port n a 0

    port : 0 < inputs_of s (node n a)
    port = subst (λ x. 0 < inputs_of s x) (sym sink) (omega arith)

    known : c < length n.wires
    known = has.net.to_all a 0 l port

    to : (wiring s n).rates.target c ≡ a
    to = ((ports_have_channels s n a 0 has.net l).0 port).0

    takes : (wiring s n).rates.consumed c (firings p.repetitions periods a) ≡ block * firings p.repetitions periods a
    takes = ap (λ b. consumed_at s (node n b) (wire n c).to.1 (firings p.repetitions periods a)) to
        ∙ ap (λ x. consumed_at s x (wire n c).to.1 (firings p.repetitions periods a)) sink

    whole : (wiring s n).rates.consumed c (firings p.repetitions periods a) ≡
        periods * period_samples n.nodes Outputs p.repetitions
    whole = takes ∙ (nets_can_run s n p periods inputs has given).makes a e block l sink

    enough : (wiring s n).rates.consumed c (firings p.repetitions periods a) ≤ length (is.history c)
    enough =
        let at : (wiring s n).rates.consumed c (firings p.repetitions periods ((wiring s n).rates.target c)) ≡
        (wiring s n).rates.consumed c (firings p.repetitions periods a) =
        ap (λ b. (wiring s n).rates.consumed c (firings p.repetitions periods b)) to in
        omega (arith, at, is.is.enough c known, is.is.lengths c known)

    sink_long : length (get_or made e []) ≡ periods * period_samples n.nodes Outputs p.repetitions
    sink_long = ap length (is.each a e block l sink)
        ∙ (length-take-le ((wiring s n).rates.consumed c (firings p.repetitions periods a)) (is.history c)
        enough ∙ whole)

  pub made_long : AllLong (periods * period_samples n.nodes Outputs p.repetitions) made
  made_long e l =
      let found = has.accepted.1.lists.outputs e (omega (arith, l, is.count)) in
      let sink = sink_of (node n found.0) e found.2 in
      sink_long found.0 e sink.0 found.1 sink.1
