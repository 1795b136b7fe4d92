-- The names of the keys of rows.
use Rattle.std.specs.Prelude.{ℕ, List, codes}
use Rattle.sdf_kinds.specs.declared.key.Key.{Key}
use Rattle.sdf_kinds.specs.declared.key.Key.TheVariants as keys

abbrev pub key_name : Key → List ℕ
key_name keys.Channel = codes "channel"
key_name keys.Block = codes "block"
key_name keys.Up = codes "up"
key_name keys.Down = codes "down"
key_name keys.Shift = codes "shift"
key_name keys.Taps = codes "taps"
key_name keys.Factor = codes "factor"
key_name keys.Ways = codes "ways"
key_name keys.Gain = codes "gain"
key_name keys.Length = codes "length"
key_name keys.Offset = codes "offset"
key_name keys.Values = codes "values"
key_name keys.Run = codes "run"
key_name keys.Least = codes "least"
key_name keys.Greatest = codes "greatest"
key_name keys.Value = codes "value"
key_name keys.Processor = codes "processor"
key_name keys.Cost = codes "cost"
