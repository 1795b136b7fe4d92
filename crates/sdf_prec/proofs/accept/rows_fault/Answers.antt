use Rattle.std.proofs.Common.{◌≡◌, ℕ, ◌<◌, List, length, map, Option, MatchOption, sym, ◌∙◌, subst, arith}
use Rattle.std.proofs.lemmas.List.{length-map}
use Rattle.sdf_graph.specs.Rates.{rates}
use Rattle.sdf_prec.specs.declared.firing.Firing.{Firing}
use Rattle.sdf_prec.specs.declared.fault.PrecFault.TheVariants.{TooEarly}
use Rattle.sdf_prec.specs.Tables.{row, firings, Stands}
use Rattle.sdf_prec.specs.Refusals.{IsInTime}
use Rattle.sdf_prec.specs.Seen.{AreMarked, IsCellsFault, IsMarkedBy, IsLateAt}
use Rattle.sdf_prec.proofs.Refusing.{cells_fault, missing_fault, known_in, late_or_pass}
use Rattle.sdf_prec.proofs.accept.rows_fault.Goals as goal

pub returns-in-Some : goal.returns-in-Some
returns-in-Some c =
    let rs : List (List (Option Firing)) = map (λ r. r.items) c.args.rows.now in
    let s = c.mark_rows.new.marks in
    let fs = c.mark_rows.new.order.items in
    let fault = subst (λ o. MatchOption o (AreMarked c.args.width rs (length c.args.rows.now) s fs)
    (IsCellsFault c.in_ok-marks.marks.firings c.args.width rs)) c.in-Some.is c.in_ok-fault.ensures.marked in
    cells_fault (rates c.args.graph.now) c.args.firings.items c.requires.each c.args.width rs c.in-Some.fault
    (subst (λ n. IsCellsFault n c.args.width rs c.in-Some.fault) c.in_ok-marks.ensures.0 fault)

pub returns-in-Some-first_missing : goal.returns-in-Some-first_missing
returns-in-Some-first_missing c =
    let rs : List (List (Option Firing)) = map (λ r. r.items) c.args.rows.now in
    let s = c.mark_rows.new.marks in
    let fs = c.mark_rows.new.order.items in
    let e = c.in-Some-first_missing.ensures in
    let marked = subst (λ o. MatchOption o (AreMarked c.args.width rs (length c.args.rows.now) s fs)
    (IsCellsFault c.in_ok-marks.marks.firings c.args.width rs)) c.in_default.is c.in_ok-fault.ensures.marked in
    missing_fault (rates c.args.graph.now) c.args.firings.items c.requires.each c.args.width rs s
    (c.in_ok-fault.ensures.same ∙ c.in_ok-marks.ensures.0) fs
    (subst (λ n. AreMarked c.args.width rs n s fs) (sym (length-map c.args.rows.now (λ r. r.items))) marked)
    c.in-Some-first_missing.firing e.0 e.1 e.2

pub first_late_in-requires-clause-known : goal.first_late_in-requires-clause-known
first_late_in-requires-clause-known c =
    let rs : List (List (Option Firing)) = map (λ r. r.items) c.args.rows.now in
    let s = c.mark_rows.new.marks in
    let fs = c.mark_rows.new.order.items in
    let marked = subst (λ o. MatchOption o (AreMarked c.args.width rs (length c.args.rows.now) s fs)
    (IsCellsFault c.in_ok-marks.marks.firings c.args.width rs)) c.in_default.is c.in_ok-fault.ensures.marked in
    λ i f l st. known_in (rates c.args.graph.now) c.args.firings.items c.requires.each c.args.width rs s
    (c.in_ok-fault.ensures.same ∙ c.in_ok-marks.ensures.0) fs
    (subst (λ n. AreMarked c.args.width rs n s fs) (sym (length-map c.args.rows.now (λ r. r.items))) marked)
    i f (omega (arith, l, length-map c.args.rows.now (λ r. r.items))) st

pub returns : goal.returns
returns c =
    let rs : List (List (Option Firing)) = map (λ r. r.items) c.args.rows.now in
    let r = rates c.args.graph.now in
    let s = c.mark_rows.new.marks in
    let fs = c.mark_rows.new.order.items in
    let marked = subst (λ o. MatchOption o (AreMarked c.args.width rs (length c.args.rows.now) s fs)
    (IsCellsFault c.in_ok-marks.marks.firings c.args.width rs)) c.in_default.is c.in_ok-fault.ensures.marked in
    late_or_pass r c.args.firings.items c.requires.each c.args.width rs s
    (c.in_ok-fault.ensures.same ∙ c.in_ok-marks.ensures.0) fs
    (subst (λ n. AreMarked c.args.width rs n s fs) (sym (length-map c.args.rows.now (λ r. r.items))) marked)
    c.in_default-first_missing.ensures c.first_late_in.result
    (subst (λ n. MatchOption c.first_late_in.result
    ((i : ℕ) (f : Firing) → i < n → Stands (firings (row rs i)) f → IsInTime r (IsMarkedBy s i) f)
    (λ e. (i : ℕ) × (f : Firing) × (g : Firing) × (e ≡ TooEarly i f g) × (i < n) × IsLateAt r s rs i f g))
    (sym (length-map c.args.rows.now (λ r. r.items))) c.first_late_in.ensures)
