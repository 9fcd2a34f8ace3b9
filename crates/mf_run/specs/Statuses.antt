-- The statuses that a run ends with, and what is said under each. This project's own.
use Rattle.std.specs.Prelude.{ℕ, List, codes, Result, Ok, Err}
use Rattle.map_model.specs.MapFile.{report_line}
use Rattle.map_model.specs.declared.report.Report.{Report}
use Rattle.job_words.specs.declared.refusal.Refusal.{Refusal}
use Rattle.job_words.specs.declared.refusal.Refusal.TheVariants as refusal
use Rattle.run_texts.specs.Texts.{line_of, input_text, limit_text}
use Rattle.mf_compile.specs.declared.fault.Fault.{Fault}
use Rattle.mf_compile.specs.declared.fault.Fault.TheVariants as fault
use Rattle.mf_run.specs.declared.status.TheConstants.{WRITTEN, USAGE, MAPPING, INPUT, LIMIT, READ, WRITE, SPILL}
use Rattle.mf_run.specs.declared.status.TheConstants.{MEMORY, NO_BOX}

-- the status of a fault
abbrev pub fault_status : Fault → ℕ
fault_status (fault.Input why) = INPUT
fault_status (fault.Limit why) = LIMIT
fault_status fault.NoBox = NO_BOX
fault_status fault.Read = READ
fault_status fault.Write = WRITE
fault_status fault.Spill = SPILL

-- what is said of it, without the program's name and the line feed
abbrev pub fault_text : Fault → List ℕ
fault_text (fault.Input why) = input_text why
fault_text (fault.Limit why) = limit_text why
fault_text fault.NoBox = codes "no box"
fault_text fault.Read = codes "read"
fault_text fault.Write = codes "write"
fault_text fault.Spill = codes "spill"

-- the status of what a compilation answered
abbrev pub status_of : Result Report Fault → ℕ
status_of (Ok report) = WRITTEN
status_of (Err why) = fault_status why

-- the line that is said of it: the report, or the fault
abbrev pub line_for : Result Report Fault → List ℕ
line_for (Ok report) = report_line report
line_for (Err why) = line_of (fault_text why)

-- the status of a refusal
abbrev pub refusal_status : Refusal → ℕ
refusal_status (refusal.Usage _) = USAGE
refusal_status (refusal.Mapping _) = MAPPING
refusal_status refusal.MappingLong = MAPPING
refusal_status refusal.Read = READ
refusal_status refusal.Memory = MEMORY
