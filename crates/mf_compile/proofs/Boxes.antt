-- The box of a job.
use Rattle.std.proofs.Common.{◌≡◌, ◌∙◌, List, ℕ, Option, Some, None, Result, Ok, Err, refl, sym, ap, subst}
use Rattle.std.specs.Prelude.{option_map, ok_or, IfSome, IsTrue}
use Rattle.std.specs.Option.{option_or}
use Rattle.mf_base.specs.declared.place.Rect.{Rect}
use Rattle.mf_base.specs.Ranges.{is_rect}
use Rattle.mf_base.specs.Steps.{◌>>=◌, refuse}
use Rattle.osm_model.specs.declared.faults.InputFault.{InputFault}
use Rattle.osm_model.specs.Input.{input_fault, input_box, known_box}
use Rattle.job_words.specs.Settings.{JobSettings}
use Rattle.mf_compile.specs.declared.fault.Fault.{Fault}
use Rattle.mf_compile.specs.declared.fault.Fault.TheVariants as fault
use Rattle.mf_compile.specs.Outcomes.{job_box}

-- by the fault and the box of an input
abbrev pub box_by : Option InputFault → Option Rect → Result Rect Fault
box_by why box = refuse (option_map fault.Input why) >>= λ _. ok_or box fault.NoBox

pub box-is : (job : JobSettings) (bytes : List ℕ) (why : Option InputFault) (box : Option Rect) → input_fault bytes ≡ why
    → known_box job.bounds bytes ≡ box → job_box job bytes ≡ box_by why box
unfolding job_box
box-is job bytes why box a b = ap (λ w. box_by w (known_box job.bounds bytes)) a ∙ ap (box_by why) b

-- an input that is refused has no box, whatever the words say
pub box-refused : (job : JobSettings) (bytes : List ℕ) (why : InputFault) → input_fault bytes ≡ Some why
    → job_box job bytes ≡ Err (fault.Input why)
box-refused job bytes why e = box-is job bytes (Some why) (known_box job.bounds bytes) e refl

pub box-known : (job : JobSettings) (bytes : List ℕ) (told : Option Rect) (box : Rect) → input_fault bytes ≡ None
    → told ≡ input_box bytes → option_or job.bounds told ≡ Some box → job_box job bytes ≡ Ok box
box-known job bytes told box sound boxed is =
    box-is job bytes None (Some box) sound (ap (option_or job.bounds) (sym boxed) ∙ is)

pub box-unknown : (job : JobSettings) (bytes : List ℕ) (told : Option Rect) → input_fault bytes ≡ None
    → told ≡ input_box bytes → option_or job.bounds told ≡ None → job_box job bytes ≡ Err fault.NoBox
box-unknown job bytes told sound boxed is =
    box-is job bytes None None sound (ap (option_or job.bounds) (sym boxed) ∙ is)

-- the box of the words, or else that of the input, is on the earth
pub box-rect : (words told : Option Rect) (box : Rect) → IfSome words (λ b. IsTrue (is_rect b))
    → IfSome told (λ b. IsTrue (is_rect b)) → option_or words told ≡ Some box → IsTrue (is_rect box)
box-rect (Some w) told box in_words in_input e = subst (λ o. IfSome o (λ b. IsTrue (is_rect b))) e in_words
box-rect None told box in_words in_input e = subst (λ o. IfSome o (λ b. IsTrue (is_rect b))) e in_input
