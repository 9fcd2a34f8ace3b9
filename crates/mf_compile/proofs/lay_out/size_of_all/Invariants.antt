use Rattle.std.proofs.Common.{◌≡◌, ◌+◌, drop}
use Rattle.mf_layout.specs.SubFiles.{bytes_in}
use Rattle.mf_compile.proofs.lay_out.size_of_all.Given as goal

abbrev pub invariant-loop-size : goal.invariant-loop-size
invariant-loop-size l = l.bytes + bytes_in (drop l.size-index l.sizes) ≡ bytes_in l.sizes
