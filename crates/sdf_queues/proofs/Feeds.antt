-- A run that is fed in pieces.
use Rattle.std.proofs.Common.{◌≡◌, ℕ, ◌+◌, ◌*◌, ◌<◌, ◌++◌, get_or, None, sym, ◌∙◌, subst, arith}
use Rattle.sdf_actor.specs.GoingOn.{GoesOn, in_all}
use Rattle.sdf_actor.specs.Nets.{node}
use Rattle.sdf_actor.specs.NetStates.{IsResumedNode}
use Rattle.sdf_actor.specs.Steps.{Steps}
use Rattle.sdf_actor.proofs.Theorems.{arrivals_go_on, histories_go_on, states_go_on}
use Rattle.sdf_queues.specs.RunResults.{periods_of}
use Rattle.sdf_queues.specs.Feeds.{FeedsGoOn, HasRun}
use Rattle.sdf_queues.proofs.Wholes.{asks, may_leave, reads}

-- the names on the left are those of FeedsGoOn, which gives their types
pub run_in_all : {A B S T : Type 0} (s : Steps A S T) (r : Steps B S T) → FeedsGoOn s r
run_in_all s r n m p few more first later all made on joined rest last has given full before begins after all_are
    joined_are as_many = subst (λ j. HasRun s n all j joined last) counts run_at
  where
    k : ℕ → ℕ
    k = periods_of p.repetitions few

    i : ℕ → ℕ
    i = periods_of p.repetitions more

    counts : (λ a. k a + i a) ≡ periods_of p.repetitions (few + more)
    counts = λ κ a. (let e : few * get_or p.repetitions a 0 + more * get_or p.repetitions a 0 ≡
        (few + more) * get_or p.repetitions a 0 = omega arith in e) κ

    goes_on : GoesOn s r n m first later k i before.history after.history rest
    goes_on = record {
      net = has.net;
      whole = may_leave s n p few has;
      before = before.is;
      read = λ a ext block l is.
          full ext (reads has few first given a ext block l is).0 ∙ sym (asks has few a ext block l is);
      left = before.left;
      begins = begins;
      on = after.is;
    }

    run_at : HasRun s n all (λ a. k a + i a) joined last
    run_at = record {
      history = in_all s n before.history after.history;
      is = histories_go_on s r n m first later all k i before.history after.history rest goes_on all_are;
      count = as_many ∙ before.count;
      -- an output of the one net is one of the other
      each = λ a e block l is.
          let one = before.each a e block l is in
          let other = after.each a e block (subst (λ j. a < j) (sym begins.nodes) l)
          (subst (λ x. IsResumedNode s r (get_or rest.states.items a None) x (node m a)) is (begins.each a l)) in
          joined_are e ∙ ((λ κ. one κ ++ other κ) ∙ sym (arrivals_go_on s r n m first later k i before.history
          after.history rest goes_on a e block l is));
      left = states_go_on s r n m first later k i before.history after.history rest last goes_on after.left;
    }
