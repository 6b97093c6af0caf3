-- A lane that is refilled decodes the same, so one channel more gets its sample, and no other row changes.
use Rattle.std.proofs.Common.{◌≡◌, ℕ, ◌+◌, ◌*◌, ◌<◌, ◌≤◌, ◌^◌, ◌&&◌, nat_lt, false, length, get_or, ap, sym, subst, ◌∙◌, arith}
use Rattle.std.proofs.lemmas.List.{get_or_default}
use Rattle.dst_spec.specs.Guess.{filter_of, probs_of}
use Rattle.arith_lanes.specs.Lanes.{decoding_at, used_at, ahead_at}
use Rattle.dst_frames.specs.Tables.{IsBuilt}
use Rattle.dst_frames.specs.Eight.{no_tables, table_at, state_in, states_at, tables_at}
use Rattle.dst_frames.specs.Batch.{HasEnough, LaneSteps, code_at}
use Rattle.dst_frames.specs.declared.tables.ChannelTables.{ChannelTables}
use Rattle.dst_frames.specs.declared.eight.EightStates.{EightStates}
use Rattle.dst_frames.proofs.History.{Predicts}
use Rattle.dst_frames.proofs.Rows.{IsRow, row_begins, row_ends}
use Rattle.dst_frames.proofs.LaneRows.{row_on}
use Rattle.dst_frames.proofs.Running.{lane_still, lane_on, used_still, chances_on}
use Rattle.dst_frames.proofs.OneOfEight.{no_row, no_numbers, length-states, get_or-states, states-set, get_or-tables}
use Rattle.dst_frames.proofs.octets.decode_place.Goals as goal

pub loop-c-init : goal.loop-c-init
loop-c-init c = record {
  lanes = λ n h. lane_still c.args.lanes.now n (code_at c.args.frames.now n) (c.requires.lanes.lane n h);
  chances = c.requires.chances;
  rows = λ n f P reserved samples h count built u.
      row_begins f P reserved (8 * c.args.byte + c.args.place) c.args.place samples (decoding_at c.args.lanes.now n (code_at c.args.frames.now n))
      (states_at c.args.rows.now n) u;
}

pub decode_next-requires-clause-from : goal.decode_next-requires-clause-from
decode_next-requires-clause-from c = λ n h. c.requires.eight.inside n c.loop-c.c no_numbers h (omega arith)

pub loop-c-preserved : goal.loop-c-preserved
loop-c-preserved c =
    let law : Predicts = record {
      frame = c.samples_before.ensures.frame;
      next = c.samples_before.ensures.next;
      predicts = c.samples_before.ensures.predicts;
    } in
    let i = c.loop-c.c in
    let inv = c.loop-c.invariant in
    let byte = c.args.byte in
    let place = c.args.place in
    let count = c.args.count in
    let rows = c.loop-c.rows in
    let tables = c.args.tables.now in
    let numbers = c.args.numbers.now in
    let lt : i < length rows = omega arith in
    let lt_eight : i < length c.args.rows.now = omega arith in
    let s = c.loop-c.lanes in
    let r = c.refill_where_short.new.lanes in
    let t = c.decode_next.new.lanes in
    let row = c.decode_next.new.row in
    let was = get_or rows i no_row in
    let one = no_numbers in
    let lt_tables : i < length numbers = omega (arith, c.requires.eight.count) in
    let enough : (n : ℕ) → n < 8 → HasEnough s r n (code_at c.args.frames.now n) = c.refill_where_short.ensures in
    let ahead : (n : ℕ) → n < 8 → 8 ≤ ahead_at r n = λ n h. omega (arith, (enough n h).ahead) in
    let used : (n : ℕ) → n < 8 → used_at r n ≤ 2 ^ 40 = λ n h.
    omega (arith, used_still s r n (code_at c.args.frames.now n) (enough n h).same, (inv.lanes n h).used, c.requires.lanes.used n h) in
    let table : ℕ → ChannelTables = table_at tables (get_or numbers i one).of in
    let step : (n : ℕ) → n < count → LaneSteps place (c.args.start && nat_lt (8 * byte + place) (table n).early) (table n) (state_in was n) (state_in row n)
    (decoding_at r n (code_at c.args.frames.now n)) (decoding_at t n (code_at c.args.frames.now n)) (get_or row.chances n 0) = λ n h.
    let within : n < 8 = omega (arith, c.requires.count) in
    c.decode_next.ensures.steps n (code_at c.args.frames.now n) h (enough n within).lane (ahead n within) (used n within)
    (inv.chances.next n i no_row h lt) in
    record {
      lanes = λ n h.
          let w = inv.chances.some n i no_row h lt in
          lane_on c.args.lanes.now s r t n (code_at c.args.frames.now n) (8 * i) 8 (8 * (i + 1)) (inv.lanes n h) (enough n h)
          (c.decode_next.ensures.further n w.0 (code_at c.args.frames.now n) h (enough n h).lane (ahead n h) (used n h) w.1) (omega arith);
      chances = chances_on i count rows row c.requires.count lt inv.chances (λ n h. (step n h).next_chance)
          (λ n other h. c.decode_next.ensures.others n h ∙ ap (λ (q : EightStates). get_or q.chances n 0) (get_or_default rows i no_row other lt));
      rows = λ n f P reserved samples h channels built u.
          let within : n < 8 = omega (arith, c.requires.count) in
          let in_f : i < f.channels = omega arith in
          let place_is : get_or (tables_at tables numbers n) i no_tables ≡ table n = get_or-tables tables numbers n i no_tables one lt_tables in
          let own : IsBuilt (filter_of P i) (probs_of P i) (get_or P.half_prob i false) (table n) =
          subst (IsBuilt (filter_of P i) (probs_of P i) (get_or P.half_prob i false)) place_is (built i no_tables in_f) in
          subst (IsRow f P reserved (8 * byte + place) place samples (i + 1) (decoding_at t n (code_at c.args.frames.now n))) (sym (states-set rows n i row))
          (row_on law f P reserved byte place i c.args.start samples (decoding_at s n (code_at c.args.frames.now n))
          (decoding_at r n (code_at c.args.frames.now n)) (decoding_at t n (code_at c.args.frames.now n)) (table n) (states_at rows n) (state_in was n)
          (state_in row n) (get_or row.chances n 0) own (step n h) (enough n within).same (λ other. get_or-states rows n i other no_row lt)
          (inv.rows n f P reserved samples h channels built u) in_f (omega (arith, length-states rows n)) c.requires.start);
    }

pub returns-clause-rows : goal.returns-clause-rows
returns-clause-rows c = λ n f P reserved h channels built samples u.
    let e = row_ends f P reserved (8 * c.args.byte + c.args.place) c.args.place samples c.loop-c.c (decoding_at c.loop-c.lanes n (code_at c.args.frames.now n))
    (states_at c.loop-c.rows n) (omega arith) (c.loop-c.invariant.rows n f P reserved samples h channels built u) in
    e
