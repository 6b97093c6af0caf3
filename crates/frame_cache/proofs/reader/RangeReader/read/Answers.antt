-- Frame by frame the buffer is filled; a frame that can't be had leaves what was wanted before it.
use Rattle.std.proofs.Common.{◌≡◌, ◌+◌, ◌-◌, ◌*◌, ◌/◌, ◌<◌, ◌++◌, length, take, Err, refl, ap, sym, subst}
use Rattle.std.proofs.Common.{◌∙◌, arith}
use Rattle.std.specs.Prelude.{min, max}
use Rattle.std.specs.List.{range_with_len}
use Rattle.dst_spec.specs.Sample.{sound_bytes}
use Rattle.dst_spec.proofs.Lists.{same_err}
use Rattle.dsdiff_spec.specs.Bytes.{bytes_at, between}
use Rattle.frame_cache.specs.declared.reader.RangeFault.TheVariants.{Frame}
use Rattle.frame_cache.specs.Reader.{Reader, wanted, order}
use Rattle.frame_cache.specs.Reads.{IsRefusedAt}
use Rattle.frame_cache.proofs.Ending.{frame_below, size_is_small, decoded_below, one_decoded, front_is, one_more_wanted, front_part, part_way}
use Rattle.frame_cache.proofs.Ending.{refused_at, all_read, some_bytes, all_bytes, is_among, nothing_read, nothing_wanted, wants_are}
use Rattle.frame_cache.proofs.Filling.{part_more}
use Rattle.frame_cache.proofs.reader.RangeReader.read.Given.{Over}
use Rattle.frame_cache.proofs.reader.RangeReader.read.Goals as goal

pub loop-frame-init : goal.loop-frame-init
loop-frame-init g c = record {
  bytes = refl;
  known = refl;
  later = omega arith;
  quiet = refl;
  long = refl;
  wanted = nothing_wanted c.args.self.now (c.args.from / c.sound_bytes-bytes.result) (g.S.Source.bytes c.args.source.now) (g.S.Source.given c.args.source.now);
  sound = λ file form sound told holds_sounds of whole.
      nothing_read sound c.args.out.now c.args.from (length c.args.out.now) c.sound_bytes-bytes.result;
}

pub overflow_add-decoded : goal.overflow_add-decoded
overflow_add-decoded g c =
    let r = c.args.self.now in
    let at = c.end_of_touched-end.ensures.each c.loop-frame.frame c.loop-frame.auto.frame c.loop-frame-test.true in
    let below = frame_below r c.sound_bytes-bytes.result c.loop-frame.frame (c.args.from + length c.args.out.now) c.sound_bytes-bytes.ensures.together
    c.sound_bytes-bytes.ensures.bytes c.requires.within at.0 in
    let before = decoded_below r c.loop-frame.self _ _ _ _ _ _ c.loop-frame.invariant.wanted in
    let here = one_decoded c.loop-frame.self c.bring.new.self c.loop-frame.frame _ _ _ _ c.in-Ok.ensures.wanted in
    omega (arith, below, before, here, c.sound_bytes-bytes.ensures.together.few)

-- the frames of the part stand in a row
wants : (g : Over) (c : goal.In-Err g) →
    wanted c.args.self.now c.args.from (length c.args.out.now)
    ≡ range_with_len (c.args.from / c.sound_bytes-bytes.result) (c.end_of_touched-end.result - c.args.from / c.sound_bytes-bytes.result)
wants g c =
    wants_are c.args.self.now c.sound_bytes-bytes.result c.args.from (length c.args.out.now) c.end_of_touched-end.result c.sound_bytes-bytes.ensures.bytes
    c.end_of_touched-end.ensures.touched

pub returns-in-Err-clause-frame : goal.returns-in-Err-clause-frame
returns-in-Err-clause-frame g c k fault e =
    let r = c.args.self.now in
    let it = c.in-Err.ensures.fault k fault (ap Err (same_err c.in-Err.fault (Frame k fault) e)) in
    subst (λ j. IsRefusedAt r (wanted r c.args.from (length c.args.out.now)) (order c.bring.new.self) (g.S.Source.bytes c.args.source.now) j fault) (sym it.0)
    (refused_at r c.loop-frame.self c.bring.new.self _ (c.args.from / c.sound_bytes-bytes.result) _ c.loop-frame.frame _ _ _ _ _ fault (wants g c)
    c.loop-frame.auto.frame (is_among _ _ _ c.loop-frame.auto.frame c.loop-frame-test.true)
    c.loop-frame.invariant.wanted c.in-Err.ensures.unchanged c.in-Err.ensures.not_held c.loop-frame.invariant.bytes it.1)

pub returns-in-Err-clause-part_way : goal.returns-in-Err-clause-part_way
returns-in-Err-clause-part_way g c =
    part_way c.args.self.now c.loop-frame.self c.bring.new.self _ (c.args.from / c.sound_bytes-bytes.result) _ c.loop-frame.frame _ _ _ _ (wants g c)
    c.loop-frame.auto.frame (is_among _ _ _ c.loop-frame.auto.frame c.loop-frame-test.true) c.loop-frame.invariant.wanted c.in-Err.ensures.unchanged

pub front-requires : goal.front-requires
front-requires g c =
    let h = front_is c.args.self.now c.loop-frame.self c.bring.new.self c.loop-frame.frame _ _ _ _ _ _ _ _ _ c.sound_bytes-bytes.ensures.together.some
    c.loop-frame.invariant.wanted c.in-Ok.ensures.wanted in
    record { some = (h.first, h.rest, h.parts) }

pub overflow_mul-frame : goal.overflow_mul-frame
overflow_mul-frame g c =
    let at = c.end_of_touched-end.ensures.each c.loop-frame.frame c.loop-frame.auto.frame c.loop-frame-test.true in
    let small = size_is_small _ _ c.sound_bytes-bytes.ensures.together c.sound_bytes-bytes.ensures.bytes c.sound_bytes-bytes.ensures.most in
    omega (arith, at.0, small, c.requires.within)

pub copy_part-requires-clause-fits : goal.copy_part-requires-clause-fits
copy_part-requires-clause-fits g c =
    let small = size_is_small _ _ c.sound_bytes-bytes.ensures.together c.sound_bytes-bytes.ensures.bytes c.sound_bytes-bytes.ensures.most in
    omega (arith, small, c.requires.within, c.loop-frame.invariant.long)

pub copy_part-requires-clause-sound_fits : goal.copy_part-requires-clause-sound_fits
copy_part-requires-clause-sound_fits g c =
    let at = c.end_of_touched-end.ensures.each c.loop-frame.frame c.loop-frame.auto.frame c.loop-frame-test.true in
    let small = size_is_small _ _ c.sound_bytes-bytes.ensures.together c.sound_bytes-bytes.ensures.bytes c.sound_bytes-bytes.ensures.most in
    let same = ap (λ (x : Reader). sound_bytes x.shape) (c.in-Ok.ensures.wanted.same ∙ ap (λ (x : Reader). record x { held = c.bring.new.self.held })
    c.loop-frame.invariant.wanted.same) in
    omega (arith, at.0, small, c.requires.within, c.front.ensures.long, same, c.sound_bytes-bytes.ensures.bytes, c.sound_bytes-bytes.ensures.most)

pub loop-frame-preserved : goal.loop-frame-preserved
loop-frame-preserved g c =
    let r = c.args.self.now in
    let inv = c.loop-frame.invariant in
    let k = c.loop-frame.frame in
    let n = c.sound_bytes-bytes.result in
    let len = length c.args.out.now in
    let end = c.args.from + len in
    let at = c.end_of_touched-end.ensures.each k c.loop-frame.auto.frame c.loop-frame-test.true in
    let together = c.sound_bytes-bytes.ensures.together in
    let below = frame_below r n k end together c.sound_bytes-bytes.ensures.bytes c.requires.within at.0 in
    let all = one_more_wanted r c.loop-frame.self c.bring.new.self (c.args.from / n) k _ _ _ _ _ _ _ c.loop-frame.auto.frame inv.bytes inv.wanted
    c.in-Ok.ensures.wanted in
    let h = front_is r c.loop-frame.self c.bring.new.self k _ _ _ _ _ _ _ _ _ together.some inv.wanted c.in-Ok.ensures.wanted in
    let shape = ap (λ (x : Reader). sound_bytes x.shape) all.same in
    record {
      bytes = c.in-Ok.ensures.bytes ∙ inv.bytes;
      known = c.in-Ok.ensures.size_stays ∙ inv.known;
      later = omega (arith, c.in-Ok.ensures.later, inv.later);
      quiet = c.in-Ok.ensures.quiet ∙ inv.quiet;
      long = c.copy_part.auto.out ∙ inv.long;
      wanted = all;
      sound = λ file form sound told holds_sounds of whole.
          let next : k * n + n ≡ (k + 1) * n = omega arith in
          let s = c.front.result.now in
          let s_is = c.front.ensures.sound h.first h.rest h.parts in
          let long : length s ≡ n = c.front.ensures.long ∙ shape ∙ sym c.sound_bytes-bytes.ensures.bytes in
          let copied = subst (λ w. take (min (c.args.from + w) (k * n + length s) - c.args.from) c.copy_part.new.out
          ≡ take (max c.args.from (k * n) - c.args.from) c.loop-frame.out ++ between s (max c.args.from (k * n) - k * n)
          (min (c.args.from + w) (k * n + length s) - k * n)) inv.long c.copy_part.ensures in
          let some : c.args.from < end = some_bytes c.args.from len _ _ k c.end_of_touched-end.ensures.whole c.loop-frame.auto.frame c.loop-frame-test.true in
          subst (λ q. take (min end q - c.args.from) c.copy_part.new.out ≡ bytes_at sound c.args.from (min end q - c.args.from)) next
          (part_more sound c.loop-frame.out c.copy_part.new.out s n c.args.from end (k * n) some at.0 at.1 long
          (inv.sound file form sound told holds_sounds of whole) copied
          (front_part file form sound s r c.bring.new.self k n end of c.sound_bytes-bytes.ensures.shape whole all.same
          (all.holds_sounds file told holds_sounds) h s_is below
          c.sound_bytes-bytes.ensures.bytes c.requires.within));
    }

pub returns-clause-sound : goal.returns-clause-sound
returns-clause-sound g c file form sound told holds_sounds of whole =
    let last : c.loop-frame.frame ≡ c.end_of_touched-end.result =
    omega (arith, c.loop-frame-test.false, c.loop-frame.auto.frame-end, c.end_of_touched-end.ensures.least) in
    let done = all_bytes c.args.from (length c.args.out.now) c.end_of_touched-end.result c.sound_bytes-bytes.result c.loop-frame.frame
    c.end_of_touched-end.ensures.reached last in
    all_read sound c.loop-frame.out c.args.from (length c.args.out.now) _ c.loop-frame.invariant.long done
    (c.loop-frame.invariant.sound file form sound told holds_sounds of whole)
