-- `refusal_place::body` meets its contract. Assumes nothing.
use Rattle.refusal_place.specs.Walk.{body_from}
use Rattle.refusal_place.proofs.body.Goals as goal

pub returns : goal.returns
unfolding body_from
returns c =
    let l = c in (
      rw (
        c.ends.ensures.0,
        c.of_component.ensures,
        c.edges-all.ensures.0,
        l.locations-located.ensures.0,
        l.byte_at-count.ensures,
        l.byte_at-places.ensures,
      ),
      rw c.ends.ensures.1 c.edges-all.ensures.1,
    )
