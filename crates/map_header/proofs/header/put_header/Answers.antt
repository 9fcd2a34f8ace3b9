use Rattle.std.proofs.Common.{◌∙◌, List, length, map, ap, arith}
use Rattle.std.specs.Prelude.{flat_map, zip}
use Rattle.std.proofs.lemmas.List.{length-map}
use Rattle.mf_base.specs.Buffer.{Buffer}
use Rattle.mf_base.specs.declared.tile.Interval.{Interval}
use Rattle.map_model.specs.Header.{interval_bytes}
use Rattle.map_header.specs.Shown.{settings_of, sub_file_of}
use Rattle.map_header.proofs.Putting.{appends-same}
use Rattle.map_header.proofs.HeaderBytes.{header_size-is, some_interval, puts-header}
use Rattle.map_header.proofs.header.put_header.Goals as goal

pub overflow_sub-size : goal.overflow_sub-size
overflow_sub-size g c =
    omega (
      arith,
      c.header_size-size.ensures.size,
      header_size-is (settings_of c.args.set.now) (g.T.TagSource.names c.args.tags.now),
    )

pub put_front-requires-clause-room : goal.put_front-requires-clause-room
put_front-requires-clause-room g c =
    omega (arith, c.requires.room, header_size-is (settings_of c.args.set.now) (g.T.TagSource.names c.args.tags.now))

pub put_box-requires : goal.put_box-requires
put_box-requires g c =
    let all = header_size-is (settings_of c.args.set.now) (g.T.TagSource.names c.args.tags.now) in
    let front = ap (λ (b : Buffer). b.capacity) c.put_front.ensures.appends in
    record { room = omega (arith, c.requires.room, all, front, c.put_front.ensures.most) }

pub put_middle-requires : goal.put_middle-requires
put_middle-requires g c =
    let all = header_size-is (settings_of c.args.set.now) (g.T.TagSource.names c.args.tags.now) in
    let front = ap (λ (b : Buffer). b.capacity) c.put_front.ensures.appends in
    let box = ap (λ (b : Buffer). b.capacity) c.put_box.ensures.appends in
    let some = some_interval c.args.set.now.intervals.items c.requires.intervals in
    record {
      room =
          omega (arith, c.requires.room, all, front, box, some, c.put_front.ensures.most, c.put_box.ensures.most);
    }

pub put_intervals-requires-clause-room : goal.put_intervals-requires-clause-room
put_intervals-requires-clause-room g c =
    let all = header_size-is (settings_of c.args.set.now) (g.T.TagSource.names c.args.tags.now) in
    let front = ap (λ (b : Buffer). b.capacity) c.put_front.ensures.appends in
    let box = ap (λ (b : Buffer). b.capacity) c.put_box.ensures.appends in
    let middle = ap (λ (b : Buffer). b.capacity) c.put_middle.ensures.appends in
    let intervals = ap length c.deref.ensures.0 in
    omega (
      arith,
      c.requires.room,
      all,
      front,
      box,
      middle,
      intervals,
      c.put_front.ensures.most,
      c.put_box.ensures.most,
      c.put_middle.ensures.most,
    )

pub returns : goal.returns
returns g c =
    puts-header c.args.out.now c.put_front.new.out c.put_box.new.out c.put_middle.new.out c.put_intervals.new.out
    (settings_of c.args.set.now) c.args.bounds.now (g.T.TagSource.names c.args.tags.now)
    (map sub_file_of c.args.subs.now)
    c.header_size-size.result c.sizes_of.result (length-map c.args.subs.now sub_file_of
    ∙ c.requires.same) c.header_size-size.ensures.size
    c.sizes_of.ensures c.put_front.ensures.appends c.put_box.ensures.appends c.put_middle.ensures.appends
    (appends-same c.put_middle.new.out c.put_intervals.new.out _ _
    (ap (λ (is : List Interval). flat_map interval_bytes (zip is (map sub_file_of c.args.subs.now)))
    c.deref.ensures.0) c.put_intervals.ensures)
