-- The loop keeps that a front of `out` is read.
use Rattle.std.proofs.Common.{rules, ◌≡◌, ◌+◌, ◌-◌, ◌<◌, ◌≤◌, length, drop, ◌∙◌, arith}
use Rattle.std.proofs.lemmas.List.{length-drop}
use Rattle.dsdiff_chunks.proofs.Pieces.{front_more}
use Rattle.dst_streams.proofs.Told.{HoldsFrom-later}
use Rattle.dsdiff_chunks.proofs.read.read_range.Given.{Over}
use Rattle.dsdiff_chunks.proofs.read.read_range.Goals as goal

pub overflow_add-from : goal.overflow_add-from
overflow_add-from g c = omega (arith, c.requires.fits, c.loop-place.auto.out)

-- what was read is some bytes, and fits into what is left of out
read_some : (g : Over) (c : goal.In_ok-count g) → (0 < c.in_ok-count.count) × (c.loop-place.place + c.in_ok-count.count ≤ length c.loop-place.out)
read_some g c =
    let count = c.in_ok-count.ensures.count c.requires.inside.0 (c.loop-place.invariant.known ∙ c.requires.inside.1) in
    let out = c.loop-place.auto.out in
    (count.below (omega (arith, c.requires.inside.2)), omega (arith, count.within, length-drop c.loop-place.place c.loop-place.out))

pub overflow_add-place : goal.overflow_add-place
overflow_add-place g c =
    omega (arith, read_some g c)

pub loop-place-smaller : goal.loop-place-smaller
loop-place-smaller g c =
    omega (arith, read_some g c)

pub loop-place-preserved : goal.loop-place-preserved
loop-place-preserved g c =
    let some = read_some g c in
    record {
      within = omega arith;
      bytes = search rules;
      known = search rules;
      loan = search rules;
      read = λ xs told.
          let place : c.args.from ≤ c.args.from + c.loop-place.place = omega arith in
          let more = HoldsFrom-later _ xs _ c.args.from (c.args.from + c.loop-place.place) c.in_ok-count.count place
          (c.loop-place.invariant.bytes ∙ told) c.in_ok-count.ensures.read in
          let behind : c.args.from + c.loop-place.place - c.args.from ≡ c.loop-place.place = omega arith in
          front_more c.loop-place.out c.read_at.new.out (drop c.args.from xs) c.loop-place.place c.in_ok-count.count
          (length c.loop-place.out - c.loop-place.place)
          (omega arith)
          (omega (arith, c.read_at.auto.out))
          (c.loop-place.invariant.read xs told)
          (rw behind at more);
      given = omega (arith, c.in_ok-count.ensures.given);
      given_whole = λ small. let before = c.loop-place.invariant.given_whole small in omega (arith, before, c.in_ok-count.ensures.given);
      faults = c.in_ok-count.ensures.quiet ∙ c.loop-place.invariant.faults;
    }
