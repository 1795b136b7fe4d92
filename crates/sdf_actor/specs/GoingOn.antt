-- The laws of a history that goes on in another net: a resumed net, which begins with what it left.
use Rattle.std.specs.Prelude.{◌≡◌, ℕ, ◌+◌, ◌*◌, ◌<◌, List, ◌++◌, length, drop, slice_index}
use Rattle.sdf_graph.specs.Rates.{rates, IsShape, IsAlike}
use Rattle.sdf_actor.specs.declared.node.Node.TheVariants.{Sink}
use Rattle.sdf_actor.specs.declared.net_state.NetState.{NetState}
use Rattle.sdf_actor.specs.Graphs.{graph_of}
use Rattle.sdf_actor.specs.NetFaults.{IsAccepted}
use Rattle.sdf_actor.specs.Nets.{Netlist, node, wiring, arrived, IsNet, IsHistoryOf}
use Rattle.sdf_actor.specs.NetStates.{AreWhole, Leaves, IsResumedNet, AllRead, AreJoined}
use Rattle.sdf_actor.specs.Steps.{Steps}

-- V is the history of net n on the lists `first`, after k a firings of each node a. The counts k are whole periods, and
-- these firings read all of `first`. Net m begins with what V leaves. U is the history of m on the lists `later`, after
-- i a firings of each node a
pub record GoesOn {A B S T : Type 0} (s : Steps A S T) (r : Steps B S T) (n : Netlist A T) (m : Netlist B T)
    (first later : List (List T)) (k i : ℕ → ℕ) (V U : ℕ → List T) (rest : NetState T S) : Type 0 where
  pub net : IsNet s n
  pub whole : AreWhole s n k
  pub before : IsHistoryOf s n first k V
  pub read : AllRead n first k
  pub left : Leaves s n k V rest
  pub begins : IsResumedNet s r n rest m
  pub on : IsHistoryOf r m later i U

-- the whole history of a channel: V, then U without the samples that V left
abbrev pub in_all : {A S T : Type 0} → Steps A S T → Netlist A T → (ℕ → List T) → (ℕ → List T) → ℕ → List T
in_all s n V U c = V c ++ drop ((wiring s n).rates.initial c) (U c)

-- in_all is the history of net n on the joined lists
abbrev pub HistoriesGoOn : {A B S T : Type 0} → Steps A S T → Steps B S T → Type 0
HistoriesGoOn {A} {B} {S} {T} s r =
    (n : Netlist A T) (m : Netlist B T) (first later all : List (List T)) (k i : ℕ → ℕ) (V U : ℕ → List T)
    (rest : NetState T S) →
    GoesOn s r n m first later k i V U rest → AreJoined first later all →
    IsHistoryOf s n all (λ a. k a + i a) (in_all s n V U)

-- in_all leaves what U leaves
abbrev pub StatesGoOn : {A B S T : Type 0} → Steps A S T → Steps B S T → Type 0
StatesGoOn {A} {B} {S} {T} s r =
    (n : Netlist A T) (m : Netlist B T) (first later : List (List T)) (k i : ℕ → ℕ) (V U : ℕ → List T)
    (rest last : NetState T S) →
    GoesOn s r n m first later k i V U rest → Leaves r m i U last → Leaves s n (λ a. k a + i a) (in_all s n V U) last

-- at each sink arrives what arrived there by V and then by U
abbrev pub ArrivalsGoOn : {A B S T : Type 0} → Steps A S T → Steps B S T → Type 0
ArrivalsGoOn {A} {B} {S} {T} s r =
    (n : Netlist A T) (m : Netlist B T) (first later : List (List T)) (k i : ℕ → ℕ) (V U : ℕ → List T)
    (rest : NetState T S) →
    GoesOn s r n m first later k i V U rest → (a e block : ℕ) → a < length n.nodes → node n a ≡ Sink e block →
    arrived s n (λ b. k b + i b) (in_all s n V U) a ≡ arrived s n k V a ++ arrived r m i U a

-- the counts of b periods are whole
abbrev pub PeriodsAreWhole : {A S T : Type 0} → Steps A S T → Type 0
PeriodsAreWhole {A} {S} {T} s =
    (n : Netlist A T) (q : List ℕ) (b : ℕ) → IsNet s n → IsShape (graph_of s n) →
    IsAlike (rates (graph_of s n)) (wiring s n).rates → IsAccepted s n q →
    AreWhole s n (λ a. b * slice_index q a)
