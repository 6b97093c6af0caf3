-- One pair more is written, or it stops in it.
use Rattle.std.proofs.Common.{◌≡◌, ℕ, ◌+◌, ◌*◌, ◌<◌, ◌≤◌, length, get_or, take, refl, ap, ap₂, ◌∙◌, arith}
use Rattle.std.proofs.lemmas.List.{take_all}
use Rattle.dst_spec.specs.Sample.{sound_bytes}
use Rattle.dst_spec.proofs.Lists.{get_all}
use Rattle.frame_cache.proofs.Bringing.{length-written}
use Rattle.dst_ranges.specs.Asked.{groups_asked}
use Rattle.dst_ranges.specs.Parts.{parts_of}
use Rattle.dst_ranges.proofs.Asking.{asked_more, none_asked}
use Rattle.dst_ranges.proofs.Underway.{one_pair_more, parts_at, pair_parts, stopped_in_pair, stopped_as, wrote_as}
use Rattle.dst_ranges.proofs.pairs.write_pairs.Goals as goal

pub returns-in-Err-clause-no_call : goal.returns-in-Err-clause-no_call
returns-in-Err-clause-no_call g c none =
    let l = c.loop-first in
    absurd (none_asked c.args.pairs.now l.first-index (0, 0) _ _ _ (omega (arith, c.loop-first-test.true, l.auto.first-index-end)) none
    c.from-in-loop-first.ensures c.in-Err.ensures.no_fault)

pub returns-in-Err-clause-no_write : goal.returns-in-Err-clause-no_write
returns-in-Err-clause-no_write g c none e =
    let l = c.loop-first in
    none_asked c.args.pairs.now l.first-index (0, 0) _ _ _ (omega (arith, c.loop-first-test.true, l.auto.first-index-end)) none
    c.from-in-loop-first.ensures c.in-Err.ensures.no_fault

pub returns-in-Err-clause-stops : goal.returns-in-Err-clause-stops
returns-in-Err-clause-stops g c =
    let l = c.loop-first in
    let r = c.args.opened.now.reader in
    let n = sound_bytes r.shape in
    let pairs = c.args.pairs.now in
    let i = l.first-index in
    let below : i < length pairs = omega (arith, c.loop-first-test.true, l.auto.first-index-end) in
    let long : length c.deref_mut.result.now ≡ n = ap length c.deref_mut.ensures.value ∙ l.invariant.buffer ∙ c.requires.ready.buffer_is in
    let same = pair_parts n c.args.opened.now.channels.channels pairs i (0, 0) _ _ _ _ long c.from.ensures
    c.from-in-loop-first.ensures c.count-group.ensures.count in
    stopped_in_pair c.in-Err.fault r l.opened.reader n _ i pairs (0, 0) _ _ _ _ _ _ _ _ below l.invariant.wrote
    (stopped_as c.in-Err.fault l.opened.reader _ (parts_at n c.args.opened.now.channels.channels pairs i (0, 0)) _ _ _ _ _ same l.invariant.bytes
    c.in-Err.ensures.stops)

pub loop-first-preserved : goal.loop-first-preserved
loop-first-preserved g c =
    let l = c.loop-first in
    let r = c.args.opened.now.reader in
    let n = sound_bytes r.shape in
    let channels = c.args.opened.now.channels.channels in
    let group = c.count-group.result in
    let pairs = c.args.pairs.now in
    let i = l.first-index in
    let first = (get_or pairs i (0, 0)).0 in
    let count = (get_or pairs i (0, 0)).1 in
    let below : i < length pairs = omega (arith, c.loop-first-test.true, l.auto.first-index-end) in
    let long : length c.deref_mut.result.now ≡ n = ap length c.deref_mut.ensures.value ∙ l.invariant.buffer ∙ c.requires.ready.buffer_is in
    let same = pair_parts n channels pairs i (0, 0) _ _ _ _ long c.from.ensures c.from-in-loop-first.ensures c.count-group.ensures.count in
    let more = asked_more pairs i (0, 0) below in
    let all : groups_asked (take (i + 1) pairs) * channels ≡ groups_asked (take i pairs) * channels + count * channels = ap (λ m. m * channels) more
    ∙ omega arith in
    let counted : c.from-in-loop-first.result * group ≡ count * channels =
    ap₂ {A = ℕ} {B = ℕ} (λ a b. a * b) c.from-in-loop-first.ensures c.count-group.ensures.count in
    let inside = get_all (λ (p : ℕ × ℕ). (p.0 + p.1) * channels ≤ r.size) pairs i (0, 0) c.requires.ready.inside below in
    let both : (first + count) * channels ≡ first * channels + count * channels = omega arith in
    record {
      bytes = c.in-Ok.ensures.bytes ∙ l.invariant.bytes;
      known = c.in-Ok.ensures.stays ∙ l.invariant.known;
      later = omega (arith, c.in-Ok.ensures.source_later, l.invariant.later);
      sink_later = omega (arith, c.in-Ok.ensures.sink_later, l.invariant.sink_later);
      buffer = length-written l.opened.buffer _ c.write_between.new.buffer _ c.deref_mut.ensures.value c.deref_mut.ensures.len c.write_between.auto.buffer
          l.invariant.buffer;
      count = omega (arith, l.invariant.count, all, counted);
      most = omega (arith, l.invariant.most, counted, inside, both, c.requires.ready.size_most);
      unchanged = λ none.
          let zero : count ≡ 0 = omega (arith, more, none) in
          let no_bytes : count * channels ≡ 0 * channels = ap (λ m. m * channels) zero in
          c.in-Ok.ensures.no_call (omega (arith, counted, no_bytes)) ∙ l.invariant.unchanged (omega (arith, more, none));
      wrote = one_pair_more r l.opened.reader c.write_between.new.reader n channels i pairs (0, 0) _ _ _ _ _ _ _ _ _ _ below l.invariant.wrote
          (wrote_as l.opened.reader c.write_between.new.reader _ (parts_at n channels pairs i (0, 0)) _ _ _ _ _ _ _ _ same l.invariant.bytes
          c.in-Ok.ensures.wrote);
    }

pub returns-clause-wrote : goal.returns-clause-wrote
returns-clause-wrote g c =
    let l = c.loop-first in
    let pairs = c.args.pairs.now in
    let all : take l.first-index pairs ≡ pairs = take_all l.first-index pairs (omega (arith, c.loop-first-test.false, l.auto.first-index-end)) in
    wrote_as c.args.opened.now.reader l.opened.reader
    (parts_of (sound_bytes c.args.opened.now.reader.shape) c.args.opened.now.channels.channels (take l.first-index pairs)) _ _ _ _ _ _ _ _ _
    (ap (parts_of (sound_bytes c.args.opened.now.reader.shape) c.args.opened.now.channels.channels) all) refl l.invariant.wrote
