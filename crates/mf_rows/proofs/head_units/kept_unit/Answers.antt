use Rattle.std.proofs.Common.{◌∙◌, replicate, refl}
use Rattle.mf_rows.specs.Fields.{fields_bytes}
use Rattle.mf_rows.specs.Heads.{kept_fields}
use Rattle.mf_rows.proofs.HeadUnits.{two-kept}
use Rattle.mf_rows.proofs.head_units.kept_unit.Goals as goal

pub returns : goal.returns
returns c =
    two-kept (fields_bytes (kept_fields c.tag_at-2.result)) (fields_bytes (kept_fields c.tag_at.result))
    (replicate 16 0) c.put_kept.new.out c.put_kept-2.new.out refl c.put_kept.ensures c.put_kept-2.ensures
    ∙ rw (c.tag_at.ensures, c.tag_at-2.ensures) refl
