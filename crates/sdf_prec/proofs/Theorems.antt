-- What proofs of other crates cite of this one: each statement of the laws, by its lemma.
use Rattle.sdf_prec.specs.Counts.{TablesCount}
use Rattle.sdf_prec.specs.Stays.{LoopsStay, FedStay}
use Rattle.sdf_prec.specs.Laws.{OrdersAreAdmissible, OrdersFit, NextMayFire, SomeIsNext, TestsSuffice}
use Rattle.sdf_prec.specs.Laws.{NeedsExist, FaultsExclude, ReadyIsNext, RowsMayFire, TablesRepeat}
use Rattle.sdf_prec.proofs.Orders.{orders_are_admissible as are_admissible, orders_fit as all_fit}
use Rattle.sdf_prec.proofs.Next.{some_is_next as one_is_next, next_may_fire as may_fire}
use Rattle.sdf_prec.proofs.Sufficing.{tests_suffice as all_suffice}
use Rattle.sdf_prec.proofs.Needs.{needs_exist as need_exists}
use Rattle.sdf_prec.proofs.Excluding.{faults_exclude as is_excluded}
use Rattle.sdf_prec.proofs.Ready.{ready_is_next as is_next, next_is_ready}
use Rattle.sdf_prec.proofs.RowFirings.{rows_may_fire as row_may_fire}
use Rattle.sdf_prec.proofs.Repeats.{tables_repeat as blocks_repeat}
use Rattle.sdf_prec.proofs.TableCounts.{tables_count as blocks_count}
use Rattle.sdf_prec.proofs.Stays.{loops_stay as loop_stays, fed_stay as is_fed}

pub orders_are_admissible : OrdersAreAdmissible
orders_are_admissible = are_admissible

pub orders_fit : OrdersFit
orders_fit = all_fit

pub some_is_next : SomeIsNext
some_is_next = one_is_next

pub next_may_fire : NextMayFire
next_may_fire = may_fire

pub tests_suffice : TestsSuffice
tests_suffice r n width rows s need pass = all_suffice r n width rows s pass.cells pass.in_time pass.all need

pub needs_exist : NeedsExist
needs_exist = need_exists

pub faults_exclude : FaultsExclude
faults_exclude = is_excluded

pub ready_is_next : ReadyIsNext
ready_is_next r n k rows i s are = (is_next r n k rows i s are, next_is_ready r n k rows i s are)

pub rows_may_fire : RowsMayFire
rows_may_fire = row_may_fire

pub tables_repeat : TablesRepeat
tables_repeat = blocks_repeat

pub tables_count : TablesCount
tables_count = blocks_count

pub loops_stay : LoopsStay
loops_stay = loop_stays

pub fed_stay : FedStay
fed_stay = is_fed
