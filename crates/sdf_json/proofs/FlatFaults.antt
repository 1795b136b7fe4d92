-- The value of any fault does not nest deep.
use Rattle.std.proofs.Common.{◌≡◌, ◌≤◌, ℕ, List, [], ◌∷◌, map, subst, sym, arith}
use Rattle.std.specs.Prelude.{codes, string_bytes}
use Rattle.serde_json.specs.Data.{Data, no_members, depth, string}
use Rattle.serde_json.specs.Read.{max_depth}
use Rattle.sdf_options.specs.declared.fault.WordFault.{WordFault}
use Rattle.sdf_options.specs.declared.fault.WordFault.TheVariants as words
use Rattle.sdf_faults.specs.declared.fault.Progress.{Progress}
use Rattle.sdf_faults.specs.declared.fault.Fault.{Fault}
use Rattle.sdf_faults.specs.declared.fault.Fault.TheVariants as fault
use Rattle.sdf_json.specs.Values.{natural, or_null, list_of}
use Rattle.sdf_json.specs.FaultMembers.{plain_fault}
use Rattle.sdf_json.specs.Faults.{progress_value, stalled_value, usage_value, IsWordsValue, IsFaultValue}
use Rattle.sdf_json.proofs.Depths.{IsFlat, with_flat, map_flat, perhaps_flat}
use Rattle.sdf_json.specs.declared.details.Details.{Details}
use Rattle.sdf_json.specs.Details.{detailed}
use Rattle.sdf_json.proofs.FlatDetails.{detailed_flat}
use Rattle.sdf_json.proofs.FlatLayers.{told_flat, plain_flat, file_flat, prec_flat, format_flat}

progress_flat : (p : Progress) → IsFlat 1 (progress_value p)
progress_flat p =
    let inner = with_flat 0 no_members ((codes "name", string (string_bytes p.name)) ∷ (codes "done", natural p.done)
    ∷ (codes "of", natural p.of) ∷ (codes "short", or_null p.short) ∷ []) (omega arith)
    (omega arith, (omega arith, (omega arith, (perhaps_flat 0 p.short, tt)))) in
    omega (arith, inner)

stalled_flat : (actors : List Progress) → IsFlat 3 (stalled_value actors)
stalled_flat actors =
    let each = map_flat 1 progress_value actors progress_flat in
    told_flat 10 (codes "Deadlock") ((codes "actors", list_of (map progress_value actors)) ∷ [])
    (omega (arith, each), tt)

same : (d e : Data) → d ≡ e → IsFlat 3 e → IsFlat 3 d
same d e is flat = subst (IsFlat 3) (sym is) flat

is_plain : {number : ℕ} {name : List ℕ} {d : Data} → d ≡ plain_fault number name → IsFlat 3 d
is_plain {number} {name} {d} is = same d (plain_fault number name) is (plain_flat number name)

words_flat : (f : WordFault) (d : Data) → IsWordsValue f d → IsFlat 3 d
words_flat words.OutOfMemory d is = is_plain is
words_flat (words.Usage e) d is =
    same d (usage_value is.0) is.1 (told_flat 0 (codes "Usage")
    ((codes "text", string is.0) ∷ []) (omega arith, tt))

value_flat : (f : Fault) (d : Data) → IsFaultValue f d → IsFlat 3 d
value_flat fault.OutOfMemory d is = is_plain is
value_flat (fault.Words f) d is = words_flat f d is
value_flat (fault.File f) d is = same d _ is (file_flat f)
value_flat (fault.Deadlock s) d is = same d (stalled_value s.actors.items) is (stalled_flat s.actors.items)
value_flat fault.BlockingFactor d is = is_plain is
value_flat fault.WorkerCount d is = is_plain is
value_flat (fault.Table f) d is = same d _ is (prec_flat f)
value_flat fault.InputLength d is = is_plain is
value_flat fault.NotHomed d is = is_plain is
value_flat fault.Patience d is = is_plain is
value_flat fault.NoWorker d is = is_plain is
value_flat fault.SessionFailed d is = is_plain is
value_flat (fault.Wav f) d is = same d _ is (format_flat f)
value_flat fault.Read d is = is_plain is
value_flat fault.Write d is = is_plain is
value_flat fault.ChannelsMissing d is = is_plain is
value_flat fault.RateNotWhole d is = is_plain is

pub fault_flat : (f : Fault) (x : Details) (d : Data) → IsFaultValue f d → depth (detailed x d) ≤ max_depth
fault_flat f x d is = let flat = detailed_flat x d (value_flat f d is) in omega (arith, flat)
