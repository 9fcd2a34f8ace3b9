use Rattle.osm_model.proofs.LastLaws.{last-with, later-with}
use Rattle.osm_model.proofs.laws.one_more_object.Goals as goal

pub returns-clause-last : goal.returns-clause-last
returns-clause-last c = last-with

pub returns-clause-later : goal.returns-clause-later
returns-clause-later c = later-with
