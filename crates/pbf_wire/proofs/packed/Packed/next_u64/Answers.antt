use Rattle.std.proofs.Common.{◌≡◌, ◌∙◌, [], sym, ap, drop}
use Rattle.std.specs.Prelude.{slice_get}
use Rattle.mf_base.specs.Packed.{are_varints, packed_numbers}
use Rattle.std.proofs.lemmas.List.{take_rest}
use Rattle.pbf_wire.proofs.PackedReads.{numbers-first, numbers-end, whole-first}
use Rattle.pbf_wire.proofs.packed.Packed.next_u64.Goals as goal

pub invariant_of-self : goal.invariant_of-self
invariant_of-self c =
    let bytes = c.self.inside.rest.now in
    ap are_varints (take_rest bytes c.in-Ok.size) ∙ sym (whole-first bytes _ _ (sym c.in-Ok.ensures.exact))
    ∙ c.self.invariant

pub returns-in-Ok-clause-first : goal.returns-in-Ok-clause-first
returns-in-Ok-clause-first c =
    let bytes = c.self.inside.rest.now in
    ap (λ l. slice_get l 0) (sym (numbers-first bytes _ _ (sym c.in-Ok.ensures.exact)) ∙ c.self.view_is)

pub returns-in-Ok-clause-rest : goal.returns-in-Ok-clause-rest
returns-in-Ok-clause-rest c =
    let bytes = c.self.inside.rest.now in
    ap packed_numbers (take_rest bytes c.in-Ok.size)
    ∙ ap (drop 1) (sym (numbers-first bytes _ _ (sym c.in-Ok.ensures.exact)) ∙ c.self.view_is)

pub returns-in-Err-clause-first : goal.returns-in-Err-clause-first
returns-in-Err-clause-first c =
    ap (λ l. slice_get l 0) (sym (numbers-end c.self.inside.rest.now _ c.self.invariant c.in-Err.ensures.exact)
    ∙ c.self.view_is)

pub returns-in-Err-clause-rest : goal.returns-in-Err-clause-rest
returns-in-Err-clause-rest c =
    let none : c.args.self.now ≡ [] = sym c.self.view_is
    ∙ numbers-end c.self.inside.rest.now _ c.self.invariant c.in-Err.ensures.exact in
    none ∙ sym (ap (drop 1) none)
