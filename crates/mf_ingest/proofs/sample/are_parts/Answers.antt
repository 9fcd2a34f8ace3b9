use Rattle.mf_ingest.proofs.sample.are_parts.Goals as goal

pub are_rows-requires-2-clause-held : goal.are_rows-requires-2-clause-held
are_rows-requires-2-clause-held g c = c.in_ok-are_places.ensures.there _ c.requires.there.1.0

pub are_rows-requires-3-clause-held : goal.are_rows-requires-3-clause-held
are_rows-requires-3-clause-held g c =
    c.in_ok-are_refs.ensures.there _ (c.in_ok-are_places.ensures.there _ c.requires.there.1.1.0)

pub are_units-requires-clause-held : goal.are_units-requires-clause-held
are_units-requires-clause-held g c =
    c.in_ok-are_members.ensures.there _ (c.in_ok-are_refs.ensures.there _
    (c.in_ok-are_places.ensures.there _ c.requires.there.1.1.1.0))

pub are_units-requires-2-clause-held : goal.are_units-requires-2-clause-held
are_units-requires-2-clause-held g c =
    c.in_ok-is_node.ensures.there _ (c.in_ok-are_members.ensures.there _ (c.in_ok-are_refs.ensures.there _
    (c.in_ok-are_places.ensures.there _ c.requires.there.1.1.1.1.0)))

pub are_units-requires-3-clause-held : goal.are_units-requires-3-clause-held
are_units-requires-3-clause-held g c =
    c.in_ok-is_way.ensures.there _ (c.in_ok-is_node.ensures.there _ (c.in_ok-are_members.ensures.there _
    (c.in_ok-are_refs.ensures.there _ (c.in_ok-are_places.ensures.there _ c.requires.there.1.1.1.1.1.0))))
