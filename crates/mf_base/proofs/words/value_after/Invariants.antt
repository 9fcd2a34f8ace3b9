use Rattle.std.proofs.Common.{◌-◌, length, map, string_bytes}
use Rattle.mf_base.proofs.WordReading.{HasPassed}
use Rattle.mf_base.proofs.words.value_after.Given as goal

abbrev pub invariant-loop-given : goal.invariant-loop-given
invariant-loop-given l = HasPassed (map string_bytes l.words) l.name l.from l.at

abbrev pub decreases-loop-given : goal.decreases-loop-given
decreases-loop-given l = length l.words - l.at
