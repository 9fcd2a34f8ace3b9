-- The loop over candidates: how it begins and how it ends.
use Rattle.std.proofs.Common.{◌≡◌, ℕ, false, List, [], ◌++◌, Option, Some, None}
use Rattle.std.proofs.Common.{refl, sym, ap, subst, ◌∙◌}
use Rattle.std.specs.Prelude.{flat_map, is_some}
use Rattle.std.specs.List.{AllByRecursion}
use Rattle.std.proofs.lemmas.List.{append-nil}
use Rattle.mf_edge.specs.Spill.{SpillState, SameParts, TouchesOnly}
use Rattle.mf_rows.specs.Records.{Record}
use Rattle.mf_rows.specs.declared.kinds.FeatureRow.{FeatureRow}
use Rattle.mf_rows.specs.declared.kinds.ShapeRow.{ShapeRow}
use Rattle.spill_parts.specs.Handed.{record_rows}
use Rattle.spill_parts.specs.Join.{rest_of}
use Rattle.mf_shape.specs.declared.nodes.Counts.{Counts}
use Rattle.mf_shape.specs.Numbered.{IsSpelled, AreNumbered, AreCounted, AreSoFar}
use Rattle.mf_shape.proofs.Turns.{all-behind, no-rows}

-- a store that was read was not touched
pub touches-read : (part : ℕ) (a b : SpillState) → SameParts a b → TouchesOnly part a b
touches-read part a b same = subst (TouchesOnly part a) (sym same) (record {
  same = record { name = refl; started = refl; tells = refl };
  count = refl;
  others = record { size = λ q apart. refl; bytes = λ q apart. refl };
})

-- before the first candidate
pub so-far-none : (limit : ℕ) (all : List Record) (rest : List FeatureRow) (rows : List ShapeRow)
    → rest ≡ flat_map record_rows all → rows ≡ []
    → AreSoFar limit all rest rows (record { features = 0; skipped = 0; largest = 0 })
so-far-none limit all rest rows is none = record {
  done = [];
  left = all;
  whole = refl;
  rest_is = is;
  numbered_are = record { spelled = []; told = refl; counted = tt; rows_are = none; light = tt };
  counted_are = record { features = refl; skipped = refl; largest = refl };
}

-- behind the last candidate
pub so-far-all : (limit : ℕ) (all : List Record) (held : Option FeatureRow) (left : List FeatureRow)
    (rows : List ShapeRow) (c : Counts) → is_some held ≡ false → AllByRecursion IsSpelled all
    → AreSoFar limit all (rest_of held left) rows c → AreNumbered limit all rows × AreCounted all c
so-far-all limit all None left rows c none each was =
    let last : was.left ≡ [] = no-rows was.left
    (all-behind IsSpelled was.done was.left (subst (AllByRecursion IsSpelled) (sym was.whole) each)) (sym was.rest_is) in
    let done : was.done ≡ all = sym (append-nil was.done) ∙ ap (λ rs. was.done ++ rs) (sym last) ∙ was.whole in
    (subst (λ rs. AreNumbered limit rs rows) done was.numbered_are, subst (λ rs. AreCounted rs c) done was.counted_are)
so-far-all limit all (Some row) left rows c none each was = absurd (cc none)
