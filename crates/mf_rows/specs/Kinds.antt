-- The nine kinds of rows: this project's profile, on row kinds. Each has the fields of its key, and the rest.
use Rattle.std.specs.Prelude.{[], ◌∷◌}
use Rattle.mf_rows.specs.Fields.{number, coordinate, unit, Row}
use Rattle.mf_rows.specs.Places.{number_at, coordinate_at, unit_at}
use Rattle.mf_rows.specs.RowKinds.{Kind}
use Rattle.mf_rows.specs.declared.kinds.NodeRow.{NodeRow}
use Rattle.mf_rows.specs.declared.kinds.RefRow.{RefRow}
use Rattle.mf_rows.specs.declared.kinds.PointRow.{PointRow}
use Rattle.mf_rows.specs.declared.kinds.MemberRow.{MemberRow}
use Rattle.mf_rows.specs.declared.kinds.RelRow.{RelRow}
use Rattle.mf_rows.specs.declared.kinds.FeatureRow.{FeatureRow}
use Rattle.mf_rows.specs.declared.kinds.ShapeRow.{ShapeRow}
use Rattle.mf_rows.specs.declared.kinds.TileRow.{TileRow}
use Rattle.mf_rows.specs.declared.kinds.IndexRow.{IndexRow}

-- ---- the fields of each kind

-- a node of the input
abbrev pub node_row : NodeRow → Row
node_row r = record { key = number 8 r.node ∷ []; rest = coordinate r.lat ∷ coordinate r.lon ∷ [] }

-- a ref of a way
abbrev pub ref_row : RefRow → Row
ref_row r = record { key = number 8 r.node ∷ number 8 r.way ∷ number 4 r.place ∷ []; rest = [] }

-- a point of a way
abbrev pub point_row : PointRow → Row
point_row r =
    record {
      key = number 8 r.way ∷ number 4 r.place ∷ [];
      rest =
          number 8 r.node ∷ coordinate r.lat ∷ coordinate r.lon ∷ [];
    }

-- a member of a relation
abbrev pub member_row : MemberRow → Row
member_row r =
    record { key = number 8 r.way ∷ number 8 r.relation ∷ number 4 r.member ∷ []; rest = number 1 r.role ∷ [] }

-- a point of a member of a relation
abbrev pub rel_row : RelRow → Row
rel_row r = record {
  key = number 8 r.relation ∷ number 4 r.member ∷ number 4 r.place ∷ [];
  rest =
      number 1 r.role ∷ number 8 r.node ∷ coordinate r.lat ∷ coordinate r.lon ∷ [];
}

-- a unit of a candidate
abbrev pub feature_row : FeatureRow → Row
feature_row r = record { key = number 1 r.kind ∷ number 8 r.id ∷ number 4 r.place ∷ []; rest = unit r.unit ∷ [] }

-- a unit of a feature
abbrev pub shape_row : ShapeRow → Row
shape_row r = record { key = number 8 r.number ∷ number 4 r.place ∷ []; rest = unit r.unit ∷ [] }

-- a unit of a member of a tile
abbrev pub tile_row : TileRow → Row
tile_row r = record {
  key = number 1 r.interval ∷ number 4 r.y ∷ number 4 r.x ∷ number 1 r.class ∷ number 1 r.zoom ∷ number 8 r.number
      ∷ number 4 r.place ∷ [];
  rest = unit r.unit ∷ [];
}

-- a tile of a sub-file
abbrev pub index_row : IndexRow → Row
index_row r =
    record {
      key = number 1 r.interval ∷ number 4 r.y ∷ number 4 r.x ∷ [];
      rest =
          number 1 r.water ∷ number 8 r.size ∷ [];
    }

-- ---- both ways between a row of each kind and its bytes

-- the kind of a node of the input
abbrev pub node_kind : Kind NodeRow
node_kind = record {
  width = 16;
  key = 8;
  row = node_row;
  row_of =
      λ b. record { node = number_at 0 8 b; lat = coordinate_at 8 b; lon = coordinate_at 12 b };
}

-- the kind of a ref of a way
abbrev pub ref_kind : Kind RefRow
ref_kind = record {
  width = 20;
  key = 20;
  row = ref_row;
  row_of =
      λ b. record { node = number_at 0 8 b; way = number_at 8 8 b; place = number_at 16 4 b };
}

-- the kind of a point of a way
abbrev pub point_kind : Kind PointRow
point_kind = record {
  width = 28;
  key = 12;
  row = point_row;
  row_of =
      λ b. record {
        way = number_at 0 8 b;
        place = number_at 8 4 b;
        node = number_at 12 8 b;
        lat =
            coordinate_at 20 b;
        lon = coordinate_at 24 b;
      };
}

-- the kind of a member of a relation
abbrev pub member_kind : Kind MemberRow
member_kind =
    record {
      width = 21;
      key = 20;
      row = member_row;
      row_of =
          λ b. record {
            way = number_at 0 8 b;
            relation = number_at 8 8 b;
            member = number_at 16 4 b;
            role =
                number_at 20 1 b;
          };
    }

-- the kind of a point of a member of a relation
abbrev pub rel_kind : Kind RelRow
rel_kind = record {
  width = 33;
  key = 16;
  row = rel_row;
  row_of = λ b. record {
    relation = number_at 0 8 b;
    member = number_at 8 4 b;
    place = number_at 12 4 b;
    role = number_at 16 1 b;
    node = number_at 17 8 b;
    lat = coordinate_at 25 b;
    lon = coordinate_at 29 b;
  };
}

-- the kind of a unit of a candidate
abbrev pub feature_kind : Kind FeatureRow
feature_kind =
    record {
      width = 29;
      key = 13;
      row = feature_row;
      row_of =
          λ b. record { kind = number_at 0 1 b; id = number_at 1 8 b; place = number_at 9 4 b; unit = unit_at 13 b };
    }

-- the kind of a unit of a feature
abbrev pub shape_kind : Kind ShapeRow
shape_kind = record {
  width = 28;
  key = 12;
  row = shape_row;
  row_of =
      λ b. record { number = number_at 0 8 b; place = number_at 8 4 b; unit = unit_at 12 b };
}

-- the kind of a unit of a member of a tile
abbrev pub tile_kind : Kind TileRow
tile_kind = record {
  width = 39;
  key = 23;
  row = tile_row;
  row_of = λ b. record {
    interval = number_at 0 1 b;
    y = number_at 1 4 b;
    x = number_at 5 4 b;
    class = number_at 9 1 b;
    zoom = number_at 10 1 b;
    number = number_at 11 8 b;
    place = number_at 19 4 b;
    unit = unit_at 23 b;
  };
}

-- the kind of a tile of a sub-file
abbrev pub index_kind : Kind IndexRow
index_kind = record {
  width = 18;
  key = 9;
  row = index_row;
  row_of =
      λ b. record {
        interval = number_at 0 1 b;
        y = number_at 1 4 b;
        x = number_at 5 4 b;
        water =
            number_at 9 1 b;
        size = number_at 10 8 b;
      };
}
