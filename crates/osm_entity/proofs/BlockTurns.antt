-- Turns over the groups of a block.
use Rattle.std.proofs.Common.{◌≡◌, ◌∙◌, ◌∷◌, ◌++◌, List, [], Option, None, Result, Ok, Err, ap, refl, sym}
use Rattle.std.proofs.Common.{subst}
use Rattle.osm_model.specs.declared.faults.EntityFault.{EntityFault}
use Rattle.osm_model.specs.Entities as entities
use Rattle.osm_model.specs.Objects.{Object}
use Rattle.osm_entity.specs.EntityViews.{GivesObject}
use Rattle.osm_entity.specs.Groups.{TurnsGroup}
use Rattle.osm_entity.specs.declared.group.Turn.{Turn}
use Rattle.osm_entity.specs.declared.entity.Entity.{Entity}

abbrev Objects : Type 0
Objects = List (Result Object EntityFault)

-- nothing was left of the group
pub record NoneLeft (left rest : Objects) : Type 0 where
  pub none : left ≡ []
  pub same : rest ≡ left

pub none_left : (before : List entities.Entity) (left rest : Objects) (o : Option Entity) → o ≡ None
    → GivesObject before left (Ok o) rest → NoneLeft left rest
none_left before left rest o e told =
    let t = subst (λ o. GivesObject before left (Ok o) rest) e told in record { none = t.0; same = t.1 }

pub group-faults : (before : List entities.Entity) (left others more rest : Objects) (fault : EntityFault)
    (r : Result Turn EntityFault) → left ≡ [] → others ≡ Err fault ∷ more → r ≡ Err fault
    → TurnsGroup before (left ++ others) r rest
group-faults before left others more rest fault r none e is =
    subst (λ r. TurnsGroup before (left ++ others) r rest) (sym is)
    (Err fault, more, ap (λ xs. xs ++ others) none ∙ e, refl)

pub both-none : (left others : Objects) → left ≡ [] → others ≡ [] → left ++ others ≡ []
both-none left others none e = ap (λ xs. xs ++ others) none ∙ e

pub next-all : (left others group more : Objects) → left ≡ [] → others ≡ group ++ more → group ++ more ≡ left ++ others
next-all left others group more none e = sym e ∙ sym (ap (λ xs. xs ++ others) none)
