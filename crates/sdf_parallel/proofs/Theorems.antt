-- What proofs of other crates cite of this one: the laws of lists with others behind them, by their lemmas.
use Rattle.sdf_parallel.specs.Laws.{ListsJoin, JoinedAreAsMany}
use Rattle.sdf_parallel.proofs.Joined.{joined_is as each_is, joined_long as as_many}

pub joined_is : {T : Type 0} → ListsJoin T
joined_is = each_is

pub joined_long : {T : Type 0} → JoinedAreAsMany T
joined_long = as_many
