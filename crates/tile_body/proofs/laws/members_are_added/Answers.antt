use Rattle.tile_body.proofs.Added.{holds-none, holds-more, holds-less}
use Rattle.tile_body.proofs.laws.members_are_added.Goals as goal

pub returns-clause-none : goal.returns-clause-none
returns-clause-none c = holds-none

pub returns-clause-one : goal.returns-clause-one
returns-clause-one c = holds-more

pub returns-clause-only : goal.returns-clause-only
returns-clause-only c = holds-less
