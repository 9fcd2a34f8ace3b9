-- The premises of the laws are met: by a bench and a path of four nodes.
use Rattle.std.proofs.Common.{◌≡◌, ◌<◌, [], ◌∷◌, refl, arith, true}
use Rattle.std.specs.Prelude.{codes}
use Rattle.std.specs.List.{All, AllByRecursion}
use Rattle.std.specs.Str.{is_utf8}
use Rattle.std.proofs.lemmas.List.Elements.{All-from_recursion}
use Rattle.mf_base.specs.Tags.{Tag}
use Rattle.mf_base.proofs.Pairs.{all_pairs}
use Rattle.osm_model.specs.Entities.{Node, Way, nodes_of, ways_of, id_of}
use Rattle.osm_model.specs.Order.{kind_and_id, Precedes, IsRising}
use Rattle.osm_model.specs.Accepted.{IsAccepted}
use Rattle.feature_model.specs.Samples.{bench_with, three_of_four}
use Rattle.feature_model.proofs.Compute.{compute}

pub bench-rises : IsRising (bench_with [])
bench-rises = (
  All-from_recursion (λ e. 0 < id_of e) (bench_with []) (omega arith, tt),
  all_pairs (λ a b. Precedes (kind_and_id a) (kind_and_id b)) (bench_with []) (tt, tt),
)

pub bench-accepted : All IsAccepted (bench_with [])
unfolding compute
bench-accepted =
    All-from_recursion IsAccepted (bench_with []) (
      record {
        least = omega arith;
        most = omega arith;
        parts = (
          refl,
          All-from_recursion (λ (t : Tag). (is_utf8 t.0 ≡ true) × (is_utf8 t.1 ≡ true))
              ((codes "amenity", codes "bench") ∷ []) ((refl, refl), tt),
        );
      },
      tt,
    )

pub other-nodes : AllByRecursion (λ (n : Node). n.id ≡ 3 → ⊥) (nodes_of three_of_four)
other-nodes = (
  λ e. absurd (omega (arith, e)),
  (λ e. absurd (omega (arith, e)), (λ e. absurd (omega (arith, e)), tt)),
)

pub other-ways : AllByRecursion (λ (w : Way). w.id ≡ 3 → ⊥) (ways_of three_of_four)
other-ways = (λ e. absurd (omega (arith, e)), tt)
