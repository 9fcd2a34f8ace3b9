use Rattle.std.proofs.Common.{◌≡◌, ◌+◌, ◌*◌, ◌^◌, ◌≤◌, ◌++◌, map, take, drop, length}
use Rattle.map_model.specs.Header.{sub_files}
use Rattle.map_header.specs.Shown.{sub_file_of}
use Rattle.mf_layout.specs.declared.sub_files.SubFileSize.{SubFileSize as Size}
use Rattle.mf_layout.proofs.head_out.placed.Given as goal

abbrev pub invariant-loop-i : goal.invariant-loop-i
invariant-loop-i l = record {
  placed : map sub_file_of (take l.i l.subs) ++ sub_files l.start (map (λ (s : Size). s.bytes) (drop l.i l.sizes))
      ≡ sub_files l.head (map (λ (s : Size). s.bytes) l.sizes);
  room : length l.subs ≡ 8;
  within : l.start ≤ 4210000 + 2 ^ 39 * l.i;
}
