-- A port more, taken from or put on.
use Rattle.std.proofs.Common.{◌≡◌, ℕ, suc, ◌+◌, ◌≤◌, ◌<◌, List, [], ◌∷◌, ◌++◌, length, get_or, set, take, drop, cond}
use Rattle.std.proofs.Common.{slice_index, eqb, Bool, true, false, refl, sym, ap, ◌∙◌, subst, inl, inr, ◌⊎◌, arith}
use Rattle.std.proofs.Common.{add-one}
use Rattle.std.proofs.lemmas.List.{get_or-set_same, get_or-set_other, get_or_default, get_or-take, length-take-le}
use Rattle.std.proofs.lemmas.List.{take_more, flat_map_more, append-nil, get_or-drop, length-drop}
use Rattle.std.proofs.Math.Seq.{drop-cons}
use Rattle.std.specs.List.{flat_map}
use Rattle.std.proofs.lemmas.Bool.{cases_eq, eq-eqb, ne_eqb}
use Rattle.sdf_actor.specs.Histories.{spread}
use Rattle.sdf_queues.specs.QueueValue.{QueueValue}
use Rattle.sdf_queues.specs.Blocks.{nothing, samples, room, at_ports, ArePorts}

pub at_none : (ds : List ℕ) (many c : ℕ) → ((n : ℕ) → n < length ds → get_or ds n 0 ≡ c → ⊥) → at_ports ds many c ≡ 0
at_none [] many c none = refl
at_none (d ∷ ds) many c none =
    let apart : eqb d c ≡ false = ne_eqb d c (none 0 (omega arith)) in
    ap (λ t. cond t many (at_ports ds many c)) apart ∙ at_none ds many c (λ n l. none (suc n) (omega arith))

push_same : (ds : List ℕ) (many c : ℕ) → at_ports (ds ++ c ∷ []) many c ≡ many
push_same [] many c = ap (λ t. cond t many 0) (eq-eqb c c refl)
push_same (d ∷ ds) many c = go (eqb d c) (push_same ds many c)
  where
    go : (t : Bool) → at_ports (ds ++ c ∷ []) many c ≡ many → cond t many (at_ports (ds ++ c ∷ []) many c) ≡ many
    go true ih = refl
    go false ih = ih

push_other : (ds : List ℕ) (many d c : ℕ) → (d ≡ c → ⊥) → at_ports (ds ++ d ∷ []) many c ≡ at_ports ds many c
push_other [] many d c ne = ap (λ t. cond t many 0) (ne_eqb d c ne)
push_other (e ∷ ds) many d c ne = ap (λ n. cond (eqb e c) many n) (push_other ds many d c ne)

pub spread_none : {T : Type 0} (size : ℕ → ℕ) (ds : List ℕ) (b : List T) (c : ℕ) →
    ((n : ℕ) → n < length ds → get_or ds n 0 ≡ c → ⊥) → spread size ds b c ≡ []
spread_none size [] b c none = refl
spread_none size (d ∷ ds) b c none =
    ap (λ t. cond t (take (size d) b) (spread size ds (drop (size d) b) c)) (ne_eqb d c (none 0 (omega arith))) ∙
    spread_none size ds (drop (size d) b) c (λ n l. none (suc n) (omega arith))

pub same_x : {T : Type 0} (qs : List (QueueValue T)) (d : ℕ) (x : QueueValue T) → d < length qs →
    samples qs d ≡ (get_or qs d x).samples
same_x {T} qs d x l = ap (λ (y : QueueValue T). y.samples) (get_or_default qs d nothing x l)

-- a loop over a node's ports when it comes to port i: the channels of the ports, the sizes of all channels, the queues
-- before the loop and now
pub record Turn (T : Type 0) : Type 0 where
  pub ports : List ℕ
  pub sizes : List ℕ
  pub was : List (QueueValue T)
  pub are : ArePorts ports sizes (length was)
  pub now : List (QueueValue T)
  pub long : length now ≡ length was
  pub i : ℕ
  pub known : i < length ports

-- the turn of port i, from what a loop's goals know of it
abbrev pub turn_at : {T : Type 0} {ports sizes : List ℕ} (was now : List (QueueValue T)) (i : ℕ) →
    ArePorts ports sizes (length was) → length now ≡ length was → i < length ports → Turn T
turn_at {T} {ports} {sizes} was now i are long known = record {
  ports = ports;
  sizes = sizes;
  was = was;
  are = are;
  now = now;
  long = long;
  i = i;
  known = known;
}

module _ {T : Type 0} (t : Turn T) where
  open t use {ports, was, now, are, i}

  -- the port's channel
  abbrev d : ℕ
  d = get_or ports i 0

  -- the queues after the turn
  abbrev after : QueueValue T → List (QueueValue T)
  after q = set now d q

  -- the ports before one are other channels
  earlier : (n : ℕ) → n < i → get_or ports n 0 ≡ d → ⊥
  earlier n h e = let same : n ≡ i = are.once n i (omega (arith, t.known)) t.known e in omega arith

  -- a port's channel is whole until its turn
  fresh : (many : ℕ) → at_ports (take i ports) many d ≡ 0
  fresh many =
      at_none (take i ports) many d
      (λ n h e. let short : length (take i ports) ≡ i = length-take-le i ports (omega (arith, t.known)) in
      earlier n (omega arith) (sym (get_or-take i ports n 0 (omega arith)) ∙ e))

  in_range : d < length now
  in_range = omega (arith, are.known i t.known, t.long)

  set_here : (q : QueueValue T) → get_or (after q) d nothing ≡ q
  set_here q = get_or-set_same now d q nothing in_range

  set_other : (q : QueueValue T) (c : ℕ) → (d ≡ c → ⊥) → get_or (after q) c nothing ≡ get_or now c nothing
  set_other q c ne = get_or-set_other now d c q nothing (λ e. ne (sym e))

  cons : drop i ports ≡ d ∷ drop (i + 1) ports
  cons = drop-cons ports i 0 t.known ∙ ap (λ j. d ∷ drop j ports) (sym (add-one i))

  -- the room of each queue stays
  pub rooms_more : (x q : QueueValue T) → q.room ≡ (get_or now d x).room →
      ((c : ℕ) → c < length was → room now c ≡ room was c) → (c : ℕ) → c < length was →
      room (after q) c ≡ room was c
  rooms_more x q stays before c k = go (cases_eq d c)
    where
      go : (d ≡ c) ⊎ (d ≡ c → ⊥) → room (after q) c ≡ room was c
      go (inl e) =
          subst (λ c. room (after q) c ≡ room was c) e
          (ap (λ (y : QueueValue T). y.room) (set_here q) ∙ (stays
          ∙ (ap (λ (y : QueueValue T). y.room) (sym (get_or_default now d nothing x in_range))
          ∙ before d (are.known i t.known))))
      go (inr ne) = ap (λ (y : QueueValue T). y.room) (set_other q c ne) ∙ before c k

  module _ (taken : ℕ → ℕ) where
    -- the ports before this one have had their turns
    abbrev Before : Type 0
    Before = (c : ℕ) → c < length was → samples now c ≡ drop (at_ports (take i ports) (taken c) c) (samples was c)

    -- a port's queue is whole until its turn
    pub whole : (x : QueueValue T) → Before → (get_or now d x).samples ≡ samples was d
    whole x before =
        sym (same_x now d x in_range) ∙ (before d (are.known i t.known)
        ∙ ap (λ n. drop n (samples was d)) (fresh (taken d)))

    -- and so holds what is taken from it
    pub holds : (x : QueueValue T) → ((n : ℕ) → n < length ports → taken (get_or ports n 0) ≤
        length (samples was (get_or ports n 0))) → Before → taken d ≤ length (get_or now d x).samples
    holds x held before = omega (arith, held i t.known, ap length (whole x before))

    -- taking from one port more
    pub taken_more : (x q : QueueValue T) → q.samples ≡ drop (taken d) (get_or now d x).samples → Before →
        (c : ℕ) → c < length was →
        samples (after q) c ≡ drop (at_ports (take (i + 1) ports) (taken c) c) (samples was c)
    taken_more x q moved before c k =
        go (cases_eq d c) ∙ ap (λ ds. drop (at_ports ds (taken c) c) (samples was c))
        (sym (take_more ports i 0 t.known))
      where
        go : (d ≡ c) ⊎ (d ≡ c → ⊥) →
            samples (after q) c ≡ drop (at_ports (take i ports ++ d ∷ []) (taken c) c) (samples was c)
        go (inl e) =
            subst (λ c. samples (after q) c ≡ drop (at_ports (take i ports ++ d ∷ []) (taken c) c) (samples was c)) e
            (ap (λ (y : QueueValue T). y.samples) (set_here q) ∙ (moved
            ∙ (ap (drop (taken d)) (whole x before) ∙ ap (λ n. drop n (samples was d))
            (sym (push_same (take i ports) (taken d) d)))))
        go (inr ne) =
            ap (λ (y : QueueValue T). y.samples) (set_other q c ne) ∙
            (before c k ∙ ap (λ n. drop n (samples was c)) (sym (push_other (take i ports) (taken c) d c ne)))

  -- putting on one port more
  pub untouched_more : (q : QueueValue T) → ((c : ℕ) → c < length was → ((n : ℕ) → n < i → get_or ports n 0 ≡ c → ⊥) →
      samples now c ≡ samples was c) →
      (c : ℕ) → c < length was → ((n : ℕ) → n < i + 1 → get_or ports n 0 ≡ c → ⊥) →
      samples (after q) c ≡ samples was c
  untouched_more q before c k none =
      ap (λ (y : QueueValue T). y.samples) (set_other q c (none i (omega arith)))
      ∙ before c k (λ n h. none n (omega arith))

  -- a part is put: of what was still to come on a channel nothing is left there, and elsewhere all of it
  pub put_part : (x q : QueueValue T) (part : List T) → q.samples ≡ (get_or now d x).samples ++ part →
      (rest later : List T) (c : ℕ) → (d ≡ c → (rest ≡ part) × (later ≡ [])) → ((d ≡ c → ⊥) → rest ≡ later) →
      samples (after q) c ++ later ≡ samples now c ++ rest
  put_part x q part moved rest later c here other = go (cases_eq d c)
    where
      go : (d ≡ c) ⊎ (d ≡ c → ⊥) → samples (after q) c ++ later ≡ samples now c ++ rest
      go (inl e) =
          let mine : samples (after q) c ≡ q.samples =
          subst (λ c. samples (after q) c ≡ q.samples) e (ap (λ (y : QueueValue T). y.samples) (set_here q)) in
          let old : samples now c ≡ (get_or now d x).samples =
          subst (λ c. samples now c ≡ (get_or now d x).samples) e (same_x now d x in_range) in
          ap (λ ys. samples (after q) c ++ ys) (here e).1 ∙ (append-nil (samples (after q) c) ∙
          (mine ∙ (moved ∙ (ap (λ ys. ys ++ part) (sym old) ∙ ap (λ ys. samples now c ++ ys) (sym (here e).0)))))
      go (inr ne) =
          ap (λ ys. ys ++ later) (ap (λ (y : QueueValue T). y.samples) (set_other q c ne))
          ∙ ap (λ ys. samples now c ++ ys) (sym (other ne))

  abbrev size : ℕ → ℕ
  size = slice_index t.sizes

  -- the ports behind are other channels
  pub later_none : (c : ℕ) → d ≡ c → (b : List T) → spread size (drop (i + 1) ports) b c ≡ []
  later_none c e b =
      spread_none size (drop (i + 1) ports) b c
      (λ n h f. let at : get_or (drop (i + 1) ports) n 0 ≡ get_or ports (i + 1 + n) 0 =
      get_or-drop (i + 1) ports n 0 in
      let short : i + 1 + n < length ports = omega (arith, length-drop (i + 1) ports) in
      let same : i ≡ i + 1 + n = are.once i (i + 1 + n) t.known short (e ∙ (sym f ∙ at)) in
      omega arith)

  -- what is spread over the ports from this one on
  pub spread_here : (c : ℕ) → d ≡ c → (b : List T) → spread size (drop i ports) b c ≡ take (size d) b
  spread_here c e b =
      ap (λ es. spread size es b c) cons ∙ ap (λ u. cond u (take (size d) b)
      (spread size (drop (i + 1) ports) (drop (size d) b) c)) (eq-eqb d c e)

  pub spread_on : (c : ℕ) → (d ≡ c → ⊥) → (b : List T) →
      spread size (drop i ports) b c ≡ spread size (drop (i + 1) ports) (drop (size d) b) c
  spread_on c ne b =
      ap (λ es. spread size es b c) cons ∙ ap (λ u. cond u (take (size d) b)
      (spread size (drop (i + 1) ports) (drop (size d) b) c)) (ne_eqb d c ne)

  pub put_more : (x q : QueueValue T) (all rest : List T) → q.samples ≡ (get_or now d x).samples ++ take (size d) rest →
      ((c : ℕ) → c < length was →
      samples now c ++ spread size (drop i ports) rest c ≡ samples was c ++ spread size ports all c) →
      (c : ℕ) → c < length was → samples (after q) c ++ spread size (drop (i + 1) ports) (drop (size d) rest) c ≡
      samples was c ++ spread size ports all c
  put_more x q all rest moved before c k =
      put_part x q (take (size d) rest) moved (spread size (drop i ports) rest c)
      (spread size (drop (i + 1) ports) (drop (size d) rest) c) c
      (λ e. (spread_here c e rest, later_none c e (drop (size d) rest)))
      (λ ne. spread_on c ne rest) ∙ before c k

-- a block with a port more
pub block_more : {T : Type 0} (f : ℕ → List T) (ports : List ℕ) (i : ℕ) (was block : List T) → i < length ports →
    block ≡ (was ++ flat_map f (take i ports)) ++ f (get_or ports i 0) →
    block ≡ was ++ flat_map f (take (i + 1) ports)
block_more f ports i was block l is = is ∙ (flat_map_more f was (take i ports) (get_or ports i 0)
    ∙ ap (λ ds. was ++ flat_map f ds) (sym (take_more ports i 0 l)))
