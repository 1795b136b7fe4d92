-- Values within the limits of a row's forms make a kind that is within its limits, where they are in order.
use Rattle.std.proofs.Common.{Bool, List, IsTrue}
use Rattle.sdf_kinds.specs.declared.row.Kind.{Kind}
use Rattle.sdf_kinds.specs.declared.row.Kind.TheVariants as kind
use Rattle.sdf_document.specs.declared.key.KeyValue.{KeyValue}
use Rattle.sdf_kinds.specs.Rows.{row_of}
use Rattle.sdf_document.specs.Kinds.{entry_of, is_ordered, HaveForms, IsWithin}

pub entry_within : (looked : Bool) (w : Kind) (vs : List KeyValue) → HaveForms looked (row_of w).keys vs →
    IsTrue (is_ordered (entry_of w vs)) → IsWithin looked (entry_of w vs)
entry_within looked kind.Input vs h ordered = (h, ordered)
entry_within looked kind.Output vs h ordered = (h, ordered)
entry_within looked kind.Fir vs h ordered = (h, ordered)
entry_within looked kind.Decimate vs h ordered = (h, ordered)
entry_within looked kind.Interpolate vs h ordered = (h, ordered)
entry_within looked kind.Add vs h ordered = (h, ordered)
entry_within looked kind.Fork vs h ordered = (h, ordered)
entry_within looked kind.Gain vs h ordered = (h, ordered)
entry_within looked kind.Delay vs h ordered = (h, ordered)
entry_within looked kind.Table vs h ordered = (h, ordered)
entry_within looked kind.Deal vs h ordered = (h, ordered)
entry_within looked kind.Gather vs h ordered = (h, ordered)
entry_within looked kind.Clip vs h ordered = (h, ordered)
entry_within looked kind.Offset vs h ordered = (h, ordered)
