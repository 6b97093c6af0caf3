-- Place by place each channel gets a sample, and the eight of them are then given out as a byte.
use Rattle.std.proofs.Common.{◌≡◌, ℕ, ◌+◌, ◌*◌, ◌^◌, ◌<◌, length, drop, get_or, refl, ap, sym, ◌∙◌, subst, arith}
use Rattle.arith_lanes.specs.Lanes.{decoding_at}
use Rattle.dst_frames.specs.Underway.{earlier, IsUnderway}
use Rattle.dst_frames.specs.Eight.{states_at}
use Rattle.dst_frames.specs.Batch.{IsLaneFurther, code_at}
use Rattle.dst_frames.specs.Running.{AreEight}
use Rattle.dst_frames.proofs.Bytes.{one_more_dropped}
use Rattle.dst_frames.proofs.OneOfEight.{length-tables}
use Rattle.dst_frames.proofs.Running.{lane_still, lane_more, lanes_on, chances_same}
use Rattle.dst_frames.proofs.octets.decode_octet.Goals as goal

pub loop-place-init : goal.loop-place-init
loop-place-init c = record {
  lanes = λ n h. lane_still c.args.lanes.now n (code_at c.args.frames.now n) (c.requires.lanes.lane n h);
  chances = c.requires.chances;
  samples = λ n f P reserved samples h channels built u.
      let none : 8 * c.args.byte ≡ 8 * c.args.byte + 0 = omega arith in (
        samples,
        λ j h. refl,
        subst (λ t. IsUnderway f P reserved t 0 samples (decoding_at c.args.lanes.now n (code_at c.args.frames.now n)) (states_at c.args.rows.now n)) none u,
      );
}

pub decode_place-requires-clause-eight : goal.decode_place-requires-clause-eight
decode_place-requires-clause-eight c = subst (AreEight c.args.tables.now c.args.numbers.now) (omega arith) c.requires.eight

pub decode_place-requires-clause-lanes : goal.decode_place-requires-clause-lanes
decode_place-requires-clause-lanes c =
    lanes_on c.args.lanes.now c.loop-place.lanes (code_at c.args.frames.now) (2 ^ 38) (48 * c.loop-place.place) (2 ^ 39) c.requires.lanes
    c.loop-place.invariant.lanes (omega arith)

pub loop-place-preserved : goal.loop-place-preserved
loop-place-preserved c =
    let place = c.loop-place.place in
    let inv = c.loop-place.invariant in
    let old = c.args.lanes.now in
    let s = c.loop-place.lanes in
    let t = c.decode_place.new.lanes in
    record {
      lanes = λ n h. lane_more old s t n (code_at c.args.frames.now n) (48 * place) (8 * length c.loop-place.rows) (48 * (place + 1)) (inv.lanes n h)
          (c.decode_place.ensures.lanes n h) (omega (arith, c.requires.channels));
      chances = c.decode_place.ensures.chances;
      samples = λ n f P reserved samples h channels built u.
          let at = inv.samples n f P reserved samples h channels built u in
          let e = c.decode_place.ensures.rows n f P reserved h (omega arith) built at.0 at.2 in
          let more : 8 * c.args.byte + place + 1 ≡ 8 * c.args.byte + (place + 1) = omega arith in (
            e.0,
            λ j h. one_more_dropped place (e.0 j) (at.0 j) (samples j) (e.1 j h) (at.1 j h),
            subst (λ m. IsUnderway f P reserved m (place + 1) e.0 (decoding_at t n (code_at c.args.frames.now n))
                (states_at c.decode_place.new.rows n)) more e.2,
          );
    }

pub finish_all-requires-clause-eight : goal.finish_all-requires-clause-eight
finish_all-requires-clause-eight c = subst (AreEight c.args.tables.now c.args.numbers.now) (omega arith) c.requires.eight

pub finish_all-requires-clause-inside : goal.finish_all-requires-clause-inside
finish_all-requires-clause-inside c = λ n other h.
    let same : length c.loop-place.rows ≡ length c.args.rows.now = omega arith in
    rw same (c.requires.inside n other h)

pub returns-clause-lanes : goal.returns-clause-lanes
returns-clause-lanes c n h =
    let all : c.loop-place.place ≡ 8 = omega arith in
    subst (λ k. IsLaneFurther c.args.lanes.now c.loop-place.lanes n (code_at c.args.frames.now n) (48 * k)) all (c.loop-place.invariant.lanes n h)

pub returns-clause-chances : goal.returns-clause-chances
returns-clause-chances c =
    chances_same c.args.count c.loop-place.rows c.finish_all.new.rows c.loop-place.invariant.chances (omega arith) c.finish_all.ensures.chances

pub returns-clause-long : goal.returns-clause-long
returns-clause-long c n frame h = (c.finish_all.ensures.finishes n frame (omega (arith, c.requires.same))).long

pub returns-clause-sound : goal.returns-clause-sound
returns-clause-sound c n frame h = λ f P reserved count built start.
    let m = c.args.byte in
    let sound = (get_or c.args.heard.now n frame).sound.items in
    let long = length-tables c.args.tables.now c.args.numbers.now n in
    let channels : f.channels ≡ length c.args.rows.now = count ∙ long ∙ c.requires.eight.count in
    let s = c.loop-place.invariant.samples n f P reserved (λ j. earlier f sound j (8 * m)) h channels built start in
    let all : c.loop-place.place ≡ 8 = omega arith in
    let u = subst (λ k. IsUnderway f P reserved (8 * m + k) k s.0 (decoding_at c.loop-place.lanes n (code_at c.args.frames.now n))
    (states_at c.loop-place.rows n)) all s.2 in
    let behind : (j : ℕ) → j < f.channels → drop 8 (s.0 j) ≡ earlier f sound j (8 * m) = λ j k. ap (λ i. drop i (s.0 j)) (sym all) ∙ s.1 j k in
    (c.finish_all.ensures.finishes n frame h).decoded f P reserved s.0 (decoding_at c.loop-place.lanes n (code_at c.args.frames.now n))
    (omega arith) built u behind
