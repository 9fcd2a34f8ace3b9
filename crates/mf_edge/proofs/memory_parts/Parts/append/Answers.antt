use Rattle.std.proofs.Common.{rules, ◌≡◌, ◌∙◌, ap, Some, ◌++◌, [], Option, List, ℕ}
use Rattle.std.specs.Prelude.{option_map, unwrap_or}
use Rattle.mf_edge.specs.MemoryStore.{held}
use Rattle.mf_edge.proofs.MemoryParts.{part_of, set_of, unwrapped}
use Rattle.mf_edge.proofs.memory_parts.Parts.append.Goals as goal

pub returns-clause-put : goal.returns-clause-put
returns-clause-put c = λ put.
    let was : option_map (λ v. v.items) c.index_mut.result.now ≡ held c.args.self.now c.args.part =
    part_of c.args.self.now c.self.inside.list.items (search rules) c.args.part c.index_mut.result.now
    (search rules) c.requires in
    let now = c.append_to.ensures.put put ∙ ap (λ (p : Option (List ℕ)). Some (unwrap_or p [] ++ c.args.bytes.now)) was
    in
    set_of c.args.self.now c.self.inside.list.items (search rules) c.args.part c.append_to.new.part
    (unwrap_or (held c.args.self.now c.args.part) [] ++ c.args.bytes.now) now c.requires

pub returns-clause-none : goal.returns-clause-none
returns-clause-none c = λ none.
    let was : option_map (λ v. v.items) c.index_mut.result.now ≡ held c.args.self.now c.args.part =
    part_of c.args.self.now c.self.inside.list.items (search rules) c.args.part c.index_mut.result.now
    (search rules) c.requires in
    let now = c.append_to.ensures.none none ∙ was ∙ unwrapped (held c.args.self.now c.args.part) c.requires in
    set_of c.args.self.now c.self.inside.list.items (search rules) c.args.part c.append_to.new.part
    (unwrap_or (held c.args.self.now c.args.part) []) now c.requires
