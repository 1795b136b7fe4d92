-- What an adapter is over, and how many of its calls failed.
use Rattle.std.specs.Prelude.{ℕ}
use Rattle.sdf_wav.specs.declared.from_read.FromRead.{FromRead}
use Rattle.sdf_wav.specs.declared.to_write.ToWrite.{ToWrite}

abbrev pub read_inner : {R : Type 0} → FromRead R → R
read_inner r = r.inner

abbrev pub read_failures : {R : Type 0} → FromRead R → ℕ
read_failures r = r.failed

abbrev pub write_inner : {W : Type 0} → ToWrite W → W
write_inner w = w.inner

abbrev pub write_failures : {W : Type 0} → ToWrite W → ℕ
write_failures w = w.failed
