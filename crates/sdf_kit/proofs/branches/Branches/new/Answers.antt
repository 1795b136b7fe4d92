use Rattle.std.proofs.Common.{◌≡◌, ◌+◌, ◌-◌, ◌*◌, ◌/◌, ◌≤◌, ◌∙◌, length, take, sym, ap, subst, ℕ}
use Rattle.std.proofs.lemmas.List.{length-take-le}
use Rattle.std.proofs.lemmas.List.FromFn.{length-map-range_with_len}
use Rattle.sdf_kit.proofs.Branching.{place_tap, width_fits, sixteens_fit, branches_are}
use Rattle.sdf_kit.proofs.Walks.{wide_begins}
use Rattle.sdf_kit.proofs.branches.Branches.new.Goals as goal

pub stretches_of-stretches-requires-clause-room : goal.stretches_of-stretches-requires-clause-room
stretches_of-stretches-requires-clause-room c =
    let width : ℕ = ((length c.args.taps.now - 1) / c.args.up + 16) / 16 * 16 in
    let fits = width_fits (length c.args.taps.now) c.args.up c.requires.some c.requires.taps.few c.requires.up
    c.requires.few in
    let long : length c.table_of-table.result ≡ 2048 =
    ap length c.table_of-table.ensures ∙ length-map-range_with_len
    (place_tap c.args.taps.now c.args.up width) 0 2048 in
    subst (λ n. c.args.up * width ≤ n) (sym long) fits.room

pub stretches_of-stretches-requires-clause-places : goal.stretches_of-stretches-requires-clause-places
stretches_of-stretches-requires-clause-places c =
    (width_fits (length c.args.taps.now) c.args.up c.requires.some c.requires.taps.few c.requires.up
    c.requires.few).room

pub gain-requires-clause-room : goal.gain-requires-clause-room
gain-requires-clause-room c =
    let width : ℕ = ((length c.args.taps.now - 1) / c.args.up + 16) / 16 * 16 in
    let fits = width_fits (length c.args.taps.now) c.args.up c.requires.some c.requires.taps.few c.requires.up
    c.requires.few in
    let long : length c.table_of-table.result ≡ 2048 =
    ap length c.table_of-table.ensures ∙ length-map-range_with_len
    (place_tap c.args.taps.now c.args.up width) 0 2048 in
    subst (λ n. c.args.up * width ≤ n) (sym long) fits.room

pub slice_bounds-stretches-end : goal.slice_bounds-stretches-end
slice_bounds-stretches-end c =
    let width : ℕ = ((length c.args.taps.now - 1) / c.args.up + 16) / 16 * 16 in
    let fits = width_fits (length c.args.taps.now) c.args.up c.requires.some c.requires.taps.few c.requires.up
    c.requires.few in
    subst (λ n. c.args.up * (width / 16) ≤ n) (sym c.stretches_of-stretches.ensures.len)
    (sixteens_fit c.args.up width fits.lanes fits.room)

pub slice_bounds-is_wide-end : goal.slice_bounds-is_wide-end
slice_bounds-is_wide-end c =
    let width : ℕ = ((length c.args.taps.now - 1) / c.args.up + 16) / 16 * 16 in
    let fits = width_fits (length c.args.taps.now) c.args.up c.requires.some c.requires.taps.few c.requires.up
    c.requires.few in
    sym (length-take-le (c.args.up * (width / 16)) c.stretches_of-stretches.result
    (subst (λ n. c.args.up * (width / 16) ≤ n) (sym c.stretches_of-stretches.ensures.len)
    (sixteens_fit c.args.up width fits.lanes fits.room)))

pub returns : goal.returns
returns c =
    let width : ℕ = ((length c.args.taps.now - 1) / c.args.up + 16) / 16 * 16 in
    let fits = width_fits (length c.args.taps.now) c.args.up c.requires.some c.requires.taps.few c.requires.up
    c.requires.few in
    branches_are c.args.taps.now c.table_of-table.result c.stretches_of-stretches.result c.args.up width
    c.peak_of-peak.result c.gain.result c.is_wide.result c.requires.taps fits c.table_of-table.ensures
    c.stretches_of-stretches.ensures.len c.stretches_of-stretches.ensures.each
    (wide_begins (take (c.args.up * (width / 16)) c.stretches_of-stretches.result) c.args.up c.peak_of-peak.result
    c.is_wide.result c.is_wide.ensures)
    c.gain.ensures.greatest c.peak_of-peak.ensures.quiet c.peak_of-peak.ensures.small
