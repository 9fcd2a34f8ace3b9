-- The faults of passes as those of a compilation. This project's own.
use Rattle.mf_ingest.specs.declared.ingest.IngestFault.{IngestFault}
use Rattle.mf_ingest.specs.declared.ingest.IngestFault.TheVariants as ingest_fault
use Rattle.mf_shape.specs.declared.fault.ShapeFault.{ShapeFault}
use Rattle.mf_shape.specs.declared.fault.ShapeFault.TheVariants as shape_fault
use Rattle.mf_layout.specs.declared.fault.LayoutFault.{LayoutFault}
use Rattle.mf_layout.specs.declared.fault.LayoutFault.TheVariants as layout_fault
use Rattle.mf_layout.specs.declared.emit.EmitFault.{EmitFault}
use Rattle.mf_layout.specs.declared.emit.EmitFault.TheVariants as emit_fault
use Rattle.mf_compile.specs.declared.fault.Fault.{Fault}
use Rattle.mf_compile.specs.declared.fault.Fault.TheVariants as fault

-- the fault of an ingest
abbrev pub ingest_told : IngestFault → Fault
ingest_told (ingest_fault.Input why) = fault.Input why
ingest_told ingest_fault.Read = fault.Read
ingest_told ingest_fault.Spill = fault.Spill

-- that of the shaping
abbrev pub shape_told : ShapeFault → Fault
shape_told (shape_fault.Limit why) = fault.Limit why
shape_told shape_fault.Spill = fault.Spill

-- that of the layout
abbrev pub layout_told : LayoutFault → Fault
layout_told (layout_fault.Limit why) = fault.Limit why
layout_told layout_fault.Spill = fault.Spill

-- that of the writing
abbrev pub emit_told : EmitFault → Fault
emit_told emit_fault.Write = fault.Write
emit_told emit_fault.Spill = fault.Spill
