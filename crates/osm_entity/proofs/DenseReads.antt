-- Dense nodes, one after another.
use Rattle.std.proofs.Common.{◌≡◌, ◌∙◌, ◌∷◌, ◌+ℤ◌, ℕ, ℤ, zero, suc, List, [], Bool, true, false, cond, Option}
use Rattle.std.proofs.Common.{Some, None, Result, Ok, Err, ap, refl, sym, FitsSigned, to_z, of_z, w64}
use Rattle.std.proofs.lemmas.Int.{to_z-of_z}
use Rattle.std.proofs.lemmas.Option.{none-some, same_Some}
use Rattle.mf_base.specs.Steps.{◌>>=◌, require}
use Rattle.mf_base.specs.Ranges.{is_signed_64}
use Rattle.mf_base.specs.Packed.{packed_numbers}
use Rattle.mf_base.proofs.StepLaws.{ok_is, err_is_no_ok}
use Rattle.osm_model.specs.declared.faults.EntityFault.{EntityFault}
use Rattle.osm_model.specs.declared.faults.EntityFault.TheVariants as faults
use Rattle.osm_model.specs.Blocks.{PrimitiveBlock}
use Rattle.osm_model.specs.Entities.{Entity}
use Rattle.osm_model.specs.Objects.{Object, TagRun, before_run, tag_runs, runs_of, next_run, other_runs, left_over}
use Rattle.osm_model.specs.Objects.{run_tags}
use Rattle.osm_model.specs.Objects.{dense_node, dense_from}
use Rattle.osm_model.specs.Order.{entity_behind}
use Rattle.osm_model.proofs.DenseLaws.{from-end, from-next}
use Rattle.osm_entity.specs.Answers.{placed}
use Rattle.osm_entity.specs.Node.{node_at}
use Rattle.osm_entity.specs.DenseColumns.{sums_of, are_signed_64, checked_sums}
use Rattle.osm_entity.specs.TagRun.{runs_of_list}
use Rattle.osm_entity.proofs.NodeReads.{as_fault}

-- ---- sums

pub sum_some : (b : Bool) (x p : ℤ) (r : Option ℤ) → r ≡ cond b (Some x) None → r ≡ Some p → (b ≡ true) × (p ≡ x)
sum_some true x p r e is = (refl, same_Some p x (sym is ∙ e))
sum_some false x p r e is = absurd (none-some p (sym e ∙ is))

pub sum_none : (b : Bool) (x : ℤ) (r : Option ℤ) → r ≡ cond b (Some x) None → r ≡ None → b ≡ false
sum_none true x r e is = absurd (none-some x (sym is ∙ e))
sum_none false x r e is = refl

-- a checked sum of numbers as they are passed
abbrev pub sum_in : ℤ → ℤ → Option ℤ
sum_in x y = cond (is_signed_64 (x +ℤ y)) (Some (x +ℤ y)) None

pub plus-is : (n d : ℤ × ℤ × ℤ) (p q r : Option ℤ) (x y z : ℤ) → p ≡ sum_in n.0 d.0 → q ≡ sum_in n.1 d.1
    → r ≡ sum_in n.2 d.2 → p ≡ Some x → q ≡ Some y → r ≡ Some z → Ok (x, y, z) ≡ checked_sums n d
plus-is n d p q r x y z e f g is_x is_y is_z =
    let (a, xs) = sum_some (is_signed_64 (n.0 +ℤ d.0)) (n.0 +ℤ d.0) x p e is_x in
    let (b, ys) = sum_some (is_signed_64 (n.1 +ℤ d.1)) (n.1 +ℤ d.1) y q f is_y in
    let (c, zs) = sum_some (is_signed_64 (n.2 +ℤ d.2)) (n.2 +ℤ d.2) z r g is_z in
    rw (xs, ys, zs, a, b, c) refl

pub plus-no_id : (n d : ℤ × ℤ × ℤ) (p : Option ℤ) → p ≡ sum_in n.0 d.0 → p ≡ None → Err faults.Range ≡ checked_sums n d
plus-no_id n d p e none = rw (sum_none (is_signed_64 (n.0 +ℤ d.0)) (n.0 +ℤ d.0) p e none) refl

pub plus-no_lat : (n d : ℤ × ℤ × ℤ) (p q : Option ℤ) (x : ℤ) → p ≡ sum_in n.0 d.0 → q ≡ sum_in n.1 d.1 → p ≡ Some x
    → q ≡ None → Err faults.Range ≡ checked_sums n d
plus-no_lat n d p q x e f is none =
    let (a, xs) = sum_some (is_signed_64 (n.0 +ℤ d.0)) (n.0 +ℤ d.0) x p e is in
    rw (a, sum_none (is_signed_64 (n.1 +ℤ d.1)) (n.1 +ℤ d.1) q f none) refl

pub plus-no_lon : (n d : ℤ × ℤ × ℤ) (p q r : Option ℤ) (x y : ℤ) → p ≡ sum_in n.0 d.0 → q ≡ sum_in n.1 d.1
    → r ≡ sum_in n.2 d.2 → p ≡ Some x → q ≡ Some y → r ≡ None → Err faults.Range ≡ checked_sums n d
plus-no_lon n d p q r x y e f g is_x is_y none =
    let (a, xs) = sum_some (is_signed_64 (n.0 +ℤ d.0)) (n.0 +ℤ d.0) x p e is_x in
    let (b, ys) = sum_some (is_signed_64 (n.1 +ℤ d.1)) (n.1 +ℤ d.1) y q f is_y in
    rw (a, b, sum_none (is_signed_64 (n.2 +ℤ d.2)) (n.2 +ℤ d.2) r g none) refl

abbrev pub read : ℤ → ℤ
read z = to_z w64 (of_z w64 z)

pub plus-read : (a b c x y z : ℤ) → FitsSigned w64 a → FitsSigned w64 b → FitsSigned w64 c → FitsSigned w64 x
    → FitsSigned w64 y → FitsSigned w64 z
    → checked_sums (read a, read b, read c) (read x, read y, read z) ≡ checked_sums (a, b, c) (x, y, z)
plus-read a b c x y z e f g h i j =
    rw (
      to_z-of_z w64 a e,
      to_z-of_z w64 b f,
      to_z-of_z w64 c g,
      to_z-of_z w64 x h,
      to_z-of_z w64 y i,
      to_z-of_z w64 z j,
    )
    refl

-- ---- one node

abbrev ranged : Bool → ℤ × ℤ × ℤ → Result (ℤ × ℤ × ℤ) EntityFault
ranged c s = require c faults.Range >>= λ u. Ok s

-- the object of a node, by its sums and whether they are in range
abbrev ranged_node : PrimitiveBlock → Bool → ℤ × ℤ × ℤ → TagRun → Result Object EntityFault
ranged_node b c s run = require c faults.Range >>= λ u. Ok (node_at b s.0 s.1 s.2 (run_tags b.strings run))

pub dense-range : (before : List Entity) (b : PrimitiveBlock) (n d : ℤ × ℤ × ℤ) (run : TagRun) (fault : EntityFault)
    → checked_sums n d ≡ Err fault → Err fault ≡ placed before (dense_node b (sums_of n d) run)
dense-range before b n d run fault e = go (are_signed_64 (sums_of n d)) e
  where
    go : (c : Bool) → ranged c (sums_of n d) ≡ Err fault
        → Err fault ≡ placed before (ranged_node b c (sums_of n d) run)
    go true e = absurd (err_is_no_ok _ _ (sym e))
    go false e = sym (as_fault faults.Range fault e)

pub dense-in_range : (before : List Entity) (b : PrimitiveBlock) (n d s : ℤ × ℤ × ℤ) (run : TagRun)
    → checked_sums n d ≡ Ok s
    → placed before (dense_node b (sums_of n d) run)
    ≡ entity_behind before (node_at b s.0 s.1 s.2 (run_tags b.strings run))
dense-in_range before b n d s run e = go (are_signed_64 (sums_of n d)) e
  where
    go : (c : Bool) → ranged c (sums_of n d) ≡ Ok s
        → placed before (ranged_node b c (sums_of n d) run)
        ≡ entity_behind before (node_at b s.0 s.1 s.2 (run_tags b.strings run))
    go true e =
        ap (λ (t : ℤ × ℤ × ℤ). entity_behind before (node_at b t.0 t.1 t.2 (run_tags b.strings run)))
        (ok_is (sums_of n d) s e)
    go false e = absurd (err_is_no_ok _ _ e)

pub sums-are : (n d s : ℤ × ℤ × ℤ) → checked_sums n d ≡ Ok s → s ≡ sums_of n d
sums-are n d s e = go (are_signed_64 (sums_of n d)) e
  where
    go : (c : Bool) → ranged c (sums_of n d) ≡ Ok s → s ≡ sums_of n d
    go true e = sym (ok_is (sums_of n d) s e)
    go false e = absurd (err_is_no_ok _ _ e)

-- ---- all nodes

pub dense-end : (b : PrimitiveBlock) (n : ℤ × ℤ × ℤ) (ids lats lons : List ℤ) (runs : Option (List TagRun))
    → ids ≡ [] → lats ≡ [] → lons ≡ [] → dense_from b n ids lats lons runs ≡ dense_from b n [] [] [] runs
dense-end b n ids lats lons runs e f g =
    ap (λ is. dense_from b n is lats lons runs) e ∙ ap (λ is. dense_from b n [] is lons runs) f
    ∙ ap (λ is. dense_from b n [] [] is runs) g

pub dense-next : (b : PrimitiveBlock) (n d : ℤ × ℤ × ℤ) (ids lats lons is js ks : List ℤ)
    (runs : Option (List TagRun)) → ids ≡ d.0 ∷ is → lats ≡ d.1 ∷ js → lons ≡ d.2 ∷ ks
    → dense_from b n ids lats lons runs
    ≡ dense_node b (sums_of n d) (next_run runs) ∷ dense_from b (sums_of n d) is js ks (other_runs runs)
dense-next b n d ids lats lons is js ks runs e f g =
    ap (λ is. dense_from b n is lats lons runs) e ∙ ap (λ xs. dense_from b n (d.0 ∷ is) xs lons runs) f
    ∙ ap (λ xs. dense_from b n (d.0 ∷ is) (d.1 ∷ js) xs runs) g ∙ from-next b n d is js ks runs

-- ---- what is left over

some_run : (n : ℕ) (rest : List ℕ) → left_over (Some (tag_runs (n ∷ rest))) ≡ Err faults.Columns ∷ []
unfolding tag_runs
some_run zero rest = refl
some_run (suc k) [] = refl
some_run (suc k) (v ∷ rest) = behind (tag_runs rest)
  where
    behind : (runs : List TagRun)
        → left_over (Some (before_run (suc k, v) runs)) ≡ Err faults.Columns ∷ []
    behind [] = refl
    behind (run ∷ runs) = refl

no_run : left_over (Some (tag_runs [])) ≡ []
unfolding tag_runs
no_run = refl

pub end-none : (b : PrimitiveBlock) (n : ℤ × ℤ × ℤ) (list : Option (List ℕ)) → list ≡ None
    → dense_from b n [] [] [] (runs_of_list list) ≡ []
end-none b n list e = from-end b n (runs_of_list list) ∙ ap (λ l. left_over (runs_of_list l)) e

pub end-empty : (b : PrimitiveBlock) (n : ℤ × ℤ × ℤ) (list : Option (List ℕ)) (bytes : List ℕ) → list ≡ Some bytes
    → packed_numbers bytes ≡ [] → dense_from b n [] [] [] (runs_of_list list) ≡ []
end-empty b n list bytes e none =
    from-end b n (runs_of_list list) ∙ ap (λ l. left_over (runs_of_list l)) e
    ∙ ap (λ ns. left_over (Some (tag_runs ns))) none ∙ no_run

pub end-more : (b : PrimitiveBlock) (n : ℤ × ℤ × ℤ) (list : Option (List ℕ)) (bytes rest : List ℕ) (k : ℕ)
    → list ≡ Some bytes → packed_numbers bytes ≡ k ∷ rest
    → dense_from b n [] [] [] (runs_of_list list) ≡ Err faults.Columns ∷ []
end-more b n list bytes rest k e some =
    from-end b n (runs_of_list list) ∙ ap (λ l. left_over (runs_of_list l)) e
    ∙ ap (λ ns. left_over (Some (tag_runs ns))) some ∙ some_run k rest

pub runs-none : (ns : List ℕ) → ns ≡ [] → None ≡ runs_of ns
runs-none ns e = sym (ap runs_of e)

pub runs-some : (ns rest : List ℕ) (k : ℕ) → ns ≡ k ∷ rest → Some (tag_runs ns) ≡ runs_of ns
runs-some ns rest k e = ap (λ x. Some (tag_runs x)) e ∙ sym (ap runs_of e)
