use Rattle.std.proofs.Common.{length}
use Rattle.mf_layout.proofs.sub_files_out.+put_sub_files.Given as goal

abbrev pub decreases-put_sub_files : goal.decreases-put_sub_files
decreases-put_sub_files g l = length l.sizes.now
