-- The laws of the nine kinds: each tells the forms of its fields, and how a row is made of fields.
use Rattle.std.specs.Prelude.{◌≡◌, ◌≤◌, ℕ, List, [], ◌∷◌, ◌++◌, map}
use Rattle.std.proofs.Common.{refl, sym, ap, ◌∙◌, subst, lit≤}
use Rattle.mf_rows.specs.Fields.{IsRow, Field, fields_of, fields_bytes, row_bytes, AreFields}
use Rattle.mf_rows.specs.RowKinds.{Kind, HasLaws}
use Rattle.mf_rows.specs.Spelled.{Form, numbers, coordinates, units, form_of, forms_width, fields_at, number_in}
use Rattle.mf_rows.specs.Spelled.{coordinate_in, unit_in, AreKeys, fields-read_back, fields-spelled, fields-small}
use Rattle.mf_rows.specs.Spelled.{length-fields, rows-order}
use Rattle.mf_rows.specs.Kinds.{node_kind, ref_kind, point_kind, member_kind, rel_kind, feature_kind, shape_kind}
use Rattle.mf_rows.specs.Kinds.{tile_kind, index_kind}

-- A kind by the forms of its fields, those of its key first: its rows have fields of these forms, and are made of such
-- fields.
record IsTable {K : Type 0} (kind : Kind K) (keys forms : List Form) (made : List Field → K) : Type 0 where
  some : 1 ≤ kind.key
  within : kind.key ≤ kind.width
  most : kind.width ≤ 39
  key_width : forms_width keys ≡ kind.key
  row_width : forms_width forms ≡ kind.width
  key_forms : (r : K) → map form_of (kind.row r).key ≡ keys
  row_forms : (r : K) → map form_of (fields_of (kind.row r)) ≡ forms
  numbers_alone : (a b : K) → AreKeys (kind.row a).key (kind.row b).key
  again : (r : K) → made (fields_of (kind.row r)) ≡ r
  read : (b : List ℕ) → kind.row_of b ≡ made (fields_at 0 forms b)
  found : (b : List ℕ) → fields_of (kind.row (kind.row_of b)) ≡ fields_at 0 forms b

all-front : (xs ys : List Field) → AreFields (xs ++ ys) → AreFields xs
all-front [] ys all = tt
all-front (x ∷ xs) ys all = (all.0, all-front xs ys all.1)

module _ {K : Type 0} {kind : Kind K} {keys forms : List Form} {made : List Field → K} where
  table_laws : IsTable kind keys forms made → HasLaws kind
  unfolding row_bytes
  table_laws is = record {
    some = is.some;
    within = is.within;
    most = is.most;
    long = λ r. length-fields (fields_of (kind.row r)) ∙ whole r;
    spelled = λ r known. subst (λ n. IsRow n (fields_bytes (fields_of (kind.row r)))) (whole r)
        (fields-small (fields_of (kind.row r)) known);
    reads_back = λ r known. let bytes = fields_bytes (fields_of (kind.row r)) in is.read bytes
        ∙ ap made (ap (λ fs. fields_at 0 fs bytes) (sym (is.row_forms r))
        ∙ fields-read_back (fields_of (kind.row r)) known) ∙ is.again r;
    puts_back = λ b small. ap fields_bytes (is.found b)
        ∙ fields-spelled forms b (subst (λ n. IsRow n b) (sym is.row_width) small);
    orders = λ a b known_a known_b. rows-order (kind.row a) (kind.row b) kind.key (front a) (front b)
        (key_known a known_a) (key_known b known_b) (is.numbers_alone a b);
  }
    where
      whole : (r : K) → forms_width (map form_of (fields_of (kind.row r))) ≡ kind.width
      whole r = ap forms_width (is.row_forms r) ∙ is.row_width

      front : (r : K) → forms_width (map form_of (kind.row r).key) ≡ kind.key
      front r = ap forms_width (is.key_forms r) ∙ is.key_width

      key_known : (r : K) → AreFields (fields_of (kind.row r)) → AreFields (kind.row r).key
      key_known r known = all-front (kind.row r).key (kind.row r).rest known

pub node-laws : HasLaws node_kind
node-laws = table_laws {keys = numbers 8 ∷ []} {forms = numbers 8 ∷ coordinates ∷ coordinates ∷ []} {made =
    λ fs. record { node = number_in 0 fs; lat = coordinate_in 1 fs; lon = coordinate_in 2 fs }} (record {
      some = lit≤ tt;
      within = lit≤ tt;
      most = lit≤ tt;
      key_width = refl;
      row_width = refl;
      key_forms = λ r. refl;
      row_forms = λ r. refl;
      numbers_alone = λ a b. (refl, tt);
      again = λ r. refl;
      read = λ b. refl;
      found = λ b. refl;
    })

pub ref-laws : HasLaws ref_kind
ref-laws = table_laws {keys = numbers 8 ∷ numbers 8 ∷ numbers 4 ∷ []} {forms =
    numbers 8 ∷ numbers 8 ∷ numbers 4 ∷ []} {made =
    λ fs. record { node = number_in 0 fs; way = number_in 1 fs; place = number_in 2 fs }} (record {
      some = lit≤ tt;
      within = lit≤ tt;
      most = lit≤ tt;
      key_width = refl;
      row_width = refl;
      key_forms = λ r. refl;
      row_forms = λ r. refl;
      numbers_alone = λ a b. (refl, (refl, (refl, tt)));
      again = λ r. refl;
      read = λ b. refl;
      found = λ b. refl;
    })

pub point-laws : HasLaws point_kind
point-laws = table_laws {keys = numbers 8 ∷ numbers 4 ∷ []} {forms =
    numbers 8 ∷ numbers 4 ∷ numbers 8 ∷ coordinates ∷ coordinates ∷ []} {made =
    λ fs. record {
      way = number_in 0 fs;
      place = number_in 1 fs;
      node = number_in 2 fs;
      lat =
          coordinate_in 3 fs;
      lon = coordinate_in 4 fs;
    }} (record {
      some = lit≤ tt;
      within = lit≤ tt;
      most = lit≤ tt;
      key_width = refl;
      row_width = refl;
      key_forms = λ r. refl;
      row_forms = λ r. refl;
      numbers_alone = λ a b. (refl, (refl, tt));
      again = λ r. refl;
      read = λ b. refl;
      found = λ b. refl;
    })

pub member-laws : HasLaws member_kind
member-laws =
    table_laws {keys = numbers 8 ∷ numbers 8 ∷ numbers 4 ∷ []} {forms =
    numbers 8 ∷ numbers 8 ∷ numbers 4 ∷ numbers 1 ∷ []} {made =
    λ fs. record { way = number_in 0 fs; relation = number_in 1 fs; member = number_in 2 fs; role = number_in 3 fs }}
    (record {
      some = lit≤ tt;
      within = lit≤ tt;
      most = lit≤ tt;
      key_width = refl;
      row_width = refl;
      key_forms = λ r. refl;
      row_forms = λ r. refl;
      numbers_alone = λ a b. (refl, (refl, (refl, tt)));
      again = λ r. refl;
      read = λ b. refl;
      found = λ b. refl;
    })

pub rel-laws : HasLaws rel_kind
rel-laws = table_laws {keys = numbers 8 ∷ numbers 4 ∷ numbers 4 ∷ []} {forms =
    numbers 8 ∷ numbers 4 ∷ numbers 4 ∷ numbers 1 ∷ numbers 8 ∷ coordinates ∷ coordinates ∷ []} {made =
    λ fs. record {
      relation = number_in 0 fs;
      member = number_in 1 fs;
      place = number_in 2 fs;
      role =
          number_in 3 fs;
      node = number_in 4 fs;
      lat = coordinate_in 5 fs;
      lon = coordinate_in 6 fs;
    }} (record {
      some = lit≤ tt;
      within = lit≤ tt;
      most = lit≤ tt;
      key_width = refl;
      row_width = refl;
      key_forms = λ r. refl;
      row_forms = λ r. refl;
      numbers_alone = λ a b. (refl, (refl, (refl, tt)));
      again = λ r. refl;
      read = λ b. refl;
      found = λ b. refl;
    })

pub feature-laws : HasLaws feature_kind
feature-laws =
    table_laws {keys = numbers 1 ∷ numbers 8 ∷ numbers 4 ∷ []} {forms =
    numbers 1 ∷ numbers 8 ∷ numbers 4 ∷ units ∷ []} {made =
    λ fs. record { kind = number_in 0 fs; id = number_in 1 fs; place = number_in 2 fs; unit = unit_in 3 fs }} (record {
      some = lit≤ tt;
      within = lit≤ tt;
      most = lit≤ tt;
      key_width = refl;
      row_width = refl;
      key_forms = λ r. refl;
      row_forms = λ r. refl;
      numbers_alone = λ a b. (refl, (refl, (refl, tt)));
      again = λ r. refl;
      read = λ b. refl;
      found = λ b. refl;
    })

pub shape-laws : HasLaws shape_kind
shape-laws = table_laws {keys = numbers 8 ∷ numbers 4 ∷ []} {forms = numbers 8 ∷ numbers 4 ∷ units ∷ []} {made =
    λ fs. record { number = number_in 0 fs; place = number_in 1 fs; unit = unit_in 2 fs }} (record {
      some = lit≤ tt;
      within = lit≤ tt;
      most = lit≤ tt;
      key_width = refl;
      row_width = refl;
      key_forms = λ r. refl;
      row_forms = λ r. refl;
      numbers_alone = λ a b. (refl, (refl, tt));
      again = λ r. refl;
      read = λ b. refl;
      found = λ b. refl;
    })

pub tile-laws : HasLaws tile_kind
tile-laws = table_laws {keys =
    numbers 1 ∷ numbers 4 ∷ numbers 4 ∷ numbers 1 ∷ numbers 1 ∷ numbers 8 ∷ numbers 4 ∷ []} {forms =
    numbers 1 ∷ numbers 4 ∷ numbers 4 ∷ numbers 1 ∷ numbers 1 ∷ numbers 8 ∷ numbers 4 ∷ units ∷ []} {made =
    λ fs. record {
      interval = number_in 0 fs;
      y = number_in 1 fs;
      x = number_in 2 fs;
      class = number_in 3 fs;
      zoom =
          number_in 4 fs;
      number = number_in 5 fs;
      place = number_in 6 fs;
      unit = unit_in 7 fs;
    }} (record {
      some = lit≤ tt;
      within = lit≤ tt;
      most = lit≤ tt;
      key_width = refl;
      row_width = refl;
      key_forms = λ r. refl;
      row_forms = λ r. refl;
      numbers_alone = λ a b. (refl, (refl, (refl, (refl, (refl, (refl, (refl, tt)))))));
      again = λ r. refl;
      read = λ b. refl;
      found = λ b. refl;
    })

pub index-laws : HasLaws index_kind
index-laws = table_laws {keys = numbers 1 ∷ numbers 4 ∷ numbers 4 ∷ []} {forms =
    numbers 1 ∷ numbers 4 ∷ numbers 4 ∷ numbers 1 ∷ numbers 8 ∷ []} {made =
    λ fs. record {
      interval = number_in 0 fs;
      y = number_in 1 fs;
      x = number_in 2 fs;
      water = number_in 3 fs;
      size =
          number_in 4 fs;
    }} (record {
      some = lit≤ tt;
      within = lit≤ tt;
      most = lit≤ tt;
      key_width = refl;
      row_width = refl;
      key_forms = λ r. refl;
      row_forms = λ r. refl;
      numbers_alone = λ a b. (refl, (refl, (refl, tt)));
      again = λ r. refl;
      read = λ b. refl;
      found = λ b. refl;
    })
