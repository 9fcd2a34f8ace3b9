-- What candidates weigh that give no fault, and the fault of a job by those of its stages.
use Rattle.std.proofs.Common.{◌≡◌, ℕ, List, Option, Some, None, refl}
use Rattle.std.specs.Option.{option_or}
use Rattle.mf_base.specs.declared.place.Rect.{Rect}
use Rattle.osm_model.specs.Entities.{Entity}
use Rattle.feature_model.specs.Mapping.{Mapping}
use Rattle.feature_model.specs.Features.{Feature, features}
use Rattle.feature_model.specs.Limits.{candidate_fault}
use Rattle.feature_model.specs.declared.fault.LimitFault.{LimitFault}
use Rattle.map_model.specs.Header.{HeadSettings}
use Rattle.mf_shape.specs.declared.fault.ShapeFault.{ShapeFault}
use Rattle.mf_shape.specs.declared.fault.ShapeFault.TheVariants as shape_fault
use Rattle.mf_layout.specs.declared.fault.LayoutFault.{LayoutFault}
use Rattle.mf_layout.specs.declared.fault.LayoutFault.TheVariants as laying_fault
use Rattle.mf_compile.specs.declared.fault.Fault.TheVariants as fault
use Rattle.mf_compile.specs.Faults.{shape_told, layout_told}
use Rattle.map_model.specs.MapFile.{limit_fault, layout_fault, tile_limit_fault}

pub limit-of_candidate : (limit : ℕ) (set : HeadSettings) (mapping : Mapping) (box : Rect) (entities : List Entity)
    (f : LimitFault) → candidate_fault limit mapping entities ≡ Some f
    → limit_fault limit set mapping box entities ≡ Some f
unfolding limit_fault
limit-of_candidate limit set mapping box entities f e = rw e refl

pub limit-of_layout : (limit : ℕ) (set : HeadSettings) (mapping : Mapping) (box : Rect) (entities : List Entity)
    (found : Option LimitFault) → candidate_fault limit mapping entities ≡ None
    → layout_fault limit set box (features mapping entities) ≡ found
    → limit_fault limit set mapping box entities ≡ found
unfolding limit_fault
limit-of_layout limit set mapping box entities found none e = rw (none, e) refl

no-first : (a b : Option LimitFault) → option_or a b ≡ None → a ≡ None
no-first None b e = refl
no-first (Some f) b e = e

-- where a layout has no fault no tile has one
pub no-tile : (limit : ℕ) (set : HeadSettings) (box : Rect) (list : List Feature)
    → layout_fault limit set box list ≡ None → tile_limit_fault limit set box list ≡ None
unfolding layout_fault
no-tile limit set box list e = no-first _ _ e

-- a limit that is told is that of the pass
pub shape-limit : (why : ShapeFault) (f : LimitFault) → fault.Limit f ≡ shape_told why → why ≡ shape_fault.Limit f
shape-limit (shape_fault.Limit g) f same = cc
shape-limit shape_fault.Spill f same = cc

pub laying-limit : (why : LayoutFault) (f : LimitFault) → fault.Limit f ≡ layout_told why → why ≡ laying_fault.Limit f
laying-limit (laying_fault.Limit g) f same = cc
laying-limit laying_fault.Spill f same = cc
