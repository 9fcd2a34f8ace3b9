-- Opens the definitions of specs/, so that they compute on literals.
use Rattle.std.specs.Prelude.{⊤}
use Rattle.mf_base.specs.Spelling.{big_endian}
use Rattle.mf_rows.specs.Fields.{row_bytes}

unfoldable pub compute : ⊤
unfolding big_endian row_bytes
compute = tt
