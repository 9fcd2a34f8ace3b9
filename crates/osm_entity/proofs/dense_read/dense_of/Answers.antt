use Rattle.std.proofs.Common.{◌≡◌, ◌∙◌, sym, ap, length}
use Rattle.mf_base.specs.Packed.{packed_numbers}
use Rattle.osm_entity.proofs.DenseNext.{lats-differ, lons-differ, columns-same}
use Rattle.osm_entity.proofs.dense_read.dense_of.Goals as goal

pub returns-then-count : goal.returns-then-count
returns-then-count c b =
    let ids : c.count-count.result ≡ length (packed_numbers c.args.ids.now) = c.count-count.ensures
    ∙ ap length c.new.ensures in
    let lats : c.count.result ≡ length (packed_numbers c.args.lats.now) = c.count.ensures
    ∙ ap length c.new-2.ensures in
    lats-differ b (packed_numbers c.args.ids.now) (packed_numbers c.args.lats.now) (packed_numbers c.args.lons.now)
    (packed_numbers c.args.keys_vals.now) (λ e. c.if-count.true (lats ∙ e ∙ sym ids))

pub returns-then-count-2 : goal.returns-then-count-2
returns-then-count-2 c b =
    let ids : c.count-count.result ≡ length (packed_numbers c.args.ids.now) = c.count-count.ensures
    ∙ ap length c.new.ensures in
    let lons : c.count-2.result ≡ length (packed_numbers c.args.lons.now) = c.count-2.ensures
    ∙ ap length c.new-3.ensures in
    lons-differ b (packed_numbers c.args.ids.now) (packed_numbers c.args.lats.now) (packed_numbers c.args.lons.now)
    (packed_numbers c.args.keys_vals.now) (λ e. c.if-count-2.true (lons ∙ e ∙ sym ids))

pub returns : goal.returns
returns c b =
    let ids : c.count-count.result ≡ length (packed_numbers c.args.ids.now) = c.count-count.ensures
    ∙ ap length c.new.ensures in
    let lats : c.count.result ≡ length (packed_numbers c.args.lats.now) = c.count.ensures
    ∙ ap length c.new-2.ensures in
    let lons : c.count-2.result ≡ length (packed_numbers c.args.lons.now) = c.count-2.ensures
    ∙ ap length c.new-3.ensures in
    columns-same b (packed_numbers c.args.ids.now) (packed_numbers c.args.lats.now) (packed_numbers c.args.lons.now)
    (packed_numbers c.args.keys_vals.now) (sym lats ∙ c.if-count.false ∙ ids) (sym lons ∙ c.if-count-2.false ∙ ids)
    ∙ sym (c.new-4.ensures b)
