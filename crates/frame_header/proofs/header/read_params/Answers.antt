-- The parameters from all parts of a header, or the first field that fails.
use Rattle.std.proofs.Common.{◌≡◌, ◌≤◌, length, map, pos, subst, sym, arith, lit<}
use Rattle.dst_spec.specs.Header.{Params, bit_of, IsParams}
use Rattle.dst_spec.specs.Fields.{number}
use Rattle.dst_spec.specs.Table.{filter_kind, prob_kind}
use Rattle.dst_spec.specs.Offends.{times, both_segments, both_maps, table_fields, header_fields}
use Rattle.dst_num.specs.Map.{params_of}
use Rattle.bit_io.specs.Reading.{left, HasRead, IsAtFault}
use Rattle.frame_header.proofs.Stepping.{handed_on, shorter, there_unless}
use Rattle.frame_header.proofs.Whole.{segments_fail, maps_fail, half_fails, filters_fail, probs_fail, header_gave, params_found}
use Rattle.frame_header.proofs.header.read_params.Goals as goal

pub returns-in_err-read_both_segments-clause-fault : goal.returns-in_err-read_both_segments-clause-fault
returns-in_err-read_both_segments-clause-fault c =
    handed_on _ _ _ c.from_residual.ensures.1 (segments_fail _ _ _ c.in_err-read_both_segments.ensures.fault)

pub returns-in_err-filter_map-clause-fault : goal.returns-in_err-filter_map-clause-fault
returns-in_err-filter_map-clause-fault c =
    handed_on _ _ _ c.from_residual-in_err-filter_map.ensures.1
    (maps_fail _ _ _ _ c.in_ok-read_both_segments.ensures.read c.in_err-filter_map.ensures.fault)

pub returns-in_err-half_prob-clause-fault : goal.returns-in_err-half_prob-clause-fault
returns-in_err-half_prob-clause-fault c =
    handed_on _ _ _ c.from_residual-in_err-half_prob.ensures.1
    (half_fails _ _ _ _ _ _ c.in_ok-read_both_segments.ensures.read c.in_ok-filter_map.ensures.read c.in_err-half_prob.ensures.fault)

-- the bits behind the half bits are no more than there were
few_left : (c : goal.After-count) → length (left c.read_half_bits.new.reader) ≤ 2000000
few_left c =
    let a = c.args.reader.now in
    let b = c.read_both_segments.new.reader in
    let d = c.read_both_maps.new.reader in
    let e = c.read_half_bits.new.reader in
    let m = c.in_ok-filter_map in
    let s = c.in_ok-read_both_segments.ensures.read in
    let first = shorter (both_segments c.args.channels) (left a) a.place (s.0, left b, b.place) s.1 in
    let second = shorter (both_maps c.args.channels) (left b) b.place ((m.filter_map, m.prob_map), left d, d.place) m.ensures.read in
    let bits = map bit_of c.in_ok-half_prob.half_prob.items in
    let third = shorter (times c.args.channels (number 1)) (left d) d.place (bits, left e, e.place) c.in_ok-half_prob.ensures.read in
    omega (arith, first, second, third, c.requires.few)

pub read_tables-requires : goal.read_tables-requires
read_tables-requires c =
    let count : c.count.result ≤ 6 = omega (arith, c.count.ensures.most, c.count.ensures.map.1) in
    (lit< tt, (count, few_left c))

pub returns-in_err-filters-clause-fault : goal.returns-in_err-filters-clause-fault
returns-in_err-filters-clause-fault c =
    let failed = subst (λ n. IsAtFault (times n (table_fields filter_kind)) c.read_half_bits.new.reader c.in_err-filters.field-0.0)
    c.count.ensures.count c.in_err-filters.ensures.fault in
    handed_on _ _ _ c.from_residual-in_err-filters.ensures.1
    (filters_fail _ _ _ _ _ _ _ _ c.in_ok-read_both_segments.ensures.read c.in_ok-filter_map.ensures.read c.in_ok-half_prob.ensures.read failed)

-- the point in front of the filters, seen from that in front of the probabilities
abbrev at_count : goal.After-count-2 → goal.After-count
at_count c = c.before.before.before.before.before.before

pub read_tables-requires-2 : goal.read_tables-requires-2
read_tables-requires-2 c =
    let e = c.read_half_bits.new.reader in
    let f = c.read_tables.new.reader in
    let filters = map (λ t. t) c.in_ok-filters.filters.items in
    let fourth = shorter (times c.count.result (table_fields filter_kind)) (left e) e.place (filters, left f, f.place) c.in_ok-filters.ensures.read in
    let few : length (left f) ≤ 2000000 = omega (arith, fourth, few_left (at_count c)) in
    let count : c.count-2.result ≤ 6 = omega (arith, c.count-2.ensures.most, c.count-2.ensures.map.1) in
    (lit< tt, (count, few))

pub returns-in_err-probs-clause-fault : goal.returns-in_err-probs-clause-fault
returns-in_err-probs-clause-fault c =
    let f = c.read_tables.new.reader in
    let gave = subst (λ n. HasRead (times n (table_fields filter_kind)) c.read_half_bits.new.reader (map (λ t. t) c.in_ok-filters.filters.items) f)
    c.count.ensures.count c.in_ok-filters.ensures.read in
    let failed = subst (λ n. IsAtFault (times n (table_fields prob_kind)) f c.in_err-probs.field-0.0) c.count-2.ensures.count c.in_err-probs.ensures.fault in
    handed_on _ _ _ c.from_residual-in_err-probs.ensures.1
    (probs_fail _ _ _ _ _ _ _ _ _ _ c.in_ok-read_both_segments.ensures.read c.in_ok-filter_map.ensures.read c.in_ok-half_prob.ensures.read gave failed)

-- the parameters of the parts that were read, and that the fields give them
abbrev made : goal.After-new → Params
made c =
    params_of c.in_ok-filter_map.filter_map c.in_ok-filter_map.prob_map c.in_ok-half_prob.half_prob.items c.in_ok-filters.filters.items
    c.in_ok-probs.probs.items

all_read : (c : goal.After-new) → HasRead (header_fields c.args.channels) c.args.reader.now (made c) c.read_tables-2.new.reader
all_read c =
    let e = c.read_half_bits.new.reader in
    let f = c.read_tables.new.reader in
    let h = c.read_tables-2.new.reader in
    let m = c.in_ok-filter_map in
    let filters = c.in_ok-filters.filters.items in
    let probs = c.in_ok-probs.probs.items in
    let gave_filters = subst (λ n. HasRead (times n (table_fields filter_kind)) e (map (λ t. t) filters) f) c.count.ensures.count
    c.in_ok-filters.ensures.read in
    let gave_probs = subst (λ n. HasRead (times n (table_fields prob_kind)) f (map (λ t. map pos t) probs) h) c.count-2.ensures.count
    c.in_ok-probs.ensures.read in
    header_gave c.args.channels c.args.reader.now c.read_both_segments.new.reader c.read_both_maps.new.reader e f h m.filter_map m.prob_map
    c.in_ok-half_prob.half_prob.items filters probs
    c.in_ok-read_both_segments.ensures.read m.ensures.read c.in_ok-half_prob.ensures.read gave_filters gave_probs

pub unwrap-requires : goal.unwrap-requires
unwrap-requires c =
    let is = params_found c.args.channels c.args.reader.now c.read_tables-2.new.reader (made c) c.requires.least (all_read c) in
    there_unless c.new.result (IsParams (length c.in_ok-half_prob.half_prob.items) (made c)) c.new.ensures.none
    (subst (λ n. IsParams n (made c)) (sym is.half_prob) is)

pub returns-clause-read : goal.returns-clause-read
returns-clause-read c =
    let same : c.unwrap.result ≡ made c.before = rw c.unwrap.ensures at c.new.ensures.params in
    subst (λ Q. HasRead (header_fields c.args.channels) c.args.reader.now Q c.read_tables-2.new.reader) (sym same) (all_read c.before)
