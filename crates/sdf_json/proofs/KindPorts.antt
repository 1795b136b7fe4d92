-- A kind has the ports of its row.
use Rattle.std.proofs.Common.{◌≡◌, ◌<◌, ℕ, refl, arith}
use Rattle.sdf_kinds.specs.declared.row.Kind.TheVariants as kind
use Rattle.sdf_json.specs.Ports.{KindsHaveTheirPorts}

-- no port is below 0
none_below : (p m n : ℕ) → p < 0 → m ≡ n
none_below p m n less = omega (arith, less)

pub have_ports : KindsHaveTheirPorts
have_ports kind.Input vs = record {
  inputs = refl;
  outputs = refl;
  cycle = refl;
  takes = λ p j less. none_below p _ _ less;
  puts = λ p j less. refl;
}
have_ports kind.Output vs = record {
  inputs = refl;
  outputs = refl;
  cycle = refl;
  takes = λ p j less. refl;
  puts = λ p j less. none_below p _ _ less;
}
have_ports kind.Fir vs = record {
  inputs = refl;
  outputs = refl;
  cycle = refl;
  takes = λ p j less. refl;
  puts = λ p j less. refl;
}
have_ports kind.Decimate vs = record {
  inputs = refl;
  outputs = refl;
  cycle = refl;
  takes = λ p j less. refl;
  puts = λ p j less. refl;
}
have_ports kind.Interpolate vs = record {
  inputs = refl;
  outputs = refl;
  cycle = refl;
  takes = λ p j less. refl;
  puts = λ p j less. refl;
}
have_ports kind.Add vs = record {
  inputs = refl;
  outputs = refl;
  cycle = refl;
  takes = λ p j less. refl;
  puts = λ p j less. refl;
}
have_ports kind.Fork vs = record {
  inputs = refl;
  outputs = refl;
  cycle = refl;
  takes = λ p j less. refl;
  puts = λ p j less. refl;
}
have_ports kind.Gain vs = record {
  inputs = refl;
  outputs = refl;
  cycle = refl;
  takes = λ p j less. refl;
  puts = λ p j less. refl;
}
have_ports kind.Delay vs = record {
  inputs = refl;
  outputs = refl;
  cycle = refl;
  takes = λ p j less. refl;
  puts = λ p j less. refl;
}
have_ports kind.Table vs = record {
  inputs = refl;
  outputs = refl;
  cycle = refl;
  takes = λ p j less. refl;
  puts = λ p j less. refl;
}
have_ports kind.Deal vs = record {
  inputs = refl;
  outputs = refl;
  cycle = refl;
  takes = λ p j less. refl;
  puts = λ p j less. refl;
}
have_ports kind.Gather vs = record {
  inputs = refl;
  outputs = refl;
  cycle = refl;
  takes = λ p j less. refl;
  puts = λ p j less. refl;
}
have_ports kind.Clip vs = record {
  inputs = refl;
  outputs = refl;
  cycle = refl;
  takes = λ p j less. refl;
  puts = λ p j less. refl;
}
have_ports kind.Offset vs = record {
  inputs = refl;
  outputs = refl;
  cycle = refl;
  takes = λ p j less. refl;
  puts = λ p j less. refl;
}
