use Rattle.std.proofs.Common.{◌≡◌, rules, Some, map, List, ap, sym, ◌∙◌}
use Rattle.toml.specs.View.{view}
use Rattle.toml.specs.Data.{Data}
use Rattle.toml.specs.declared.value.Value.{Value}
use Rattle.tag_mapping.proofs.Lists.{data-items}
use Rattle.tag_mapping.proofs.file.items_in.Goals as goal

pub returns-in-Some : goal.returns-in-Some
returns-in-Some c =
    let same : c.as_slice.result.now ≡ c.in-Some.items.now.items = search rules in
    rw (← c.in-Some.ensures) (ap (λ (vs : List Value). Some (map view vs)) same
    ∙ ap (λ (ds : List Data). Some ds) (sym (data-items (map view c.in-Some.items.now.items))))
