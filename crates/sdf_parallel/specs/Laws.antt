-- The laws of lists with others behind them.
use Rattle.std.specs.Prelude.{◌≡◌, ◌≤◌, List, length}
use Rattle.sdf_actor.specs.NetStates.{AreJoined}
use Rattle.sdf_parallel.specs.Cuts.{join}

-- each list of `join` is a list followed by the list of the same number
abbrev pub ListsJoin : Type 0 → Type 0
ListsJoin T = (xs ys : List (List T)) → length ys ≤ length xs → AreJoined xs ys (join xs ys)

-- joining keeps the number of lists
abbrev pub JoinedAreAsMany : Type 0 → Type 0
JoinedAreAsMany T = (xs ys : List (List T)) → length (join xs ys) ≡ length xs
