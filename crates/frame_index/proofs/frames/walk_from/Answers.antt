-- The loop keeps what was found up to its place.
use Rattle.std.proofs.Common.{◌≡◌, ℕ, ◌+◌, ◌*◌, ◌^◌, ◌%◌, ◌<◌, ◌≤◌, Ok, Err, refl, sym, ap, subst, ◌∙◌, arith}
use Rattle.dst_streams.proofs.Counts.{Rose-earlier}
use Rattle.dsdiff_spec.specs.Chunks.{body_end, next_place}
use Rattle.dsdiff_chunks.specs.Forms.{coded_seen}
use Rattle.dsdiff_chunks.specs.Seen.{head_seen}
use Rattle.dsdiff_chunks.specs.declared.form.CodedForm.{CodedForm}
use Rattle.dsdiff_chunks.specs.declared.lists.ChunkHead.{ChunkHead}
use Rattle.dsdiff_chunks.proofs.LawfulForms.{sound_inside}
use Rattle.frame_index.specs.Entries.{Gathered}
use Rattle.frame_index.specs.Fitting.{IsIndexOf}
use Rattle.frame_index.proofs.Passing.{listed_are_few, walk_begins, walk_goes_on, same_error, same_fault, stops_at_limit, stops_at_misfit, stops_at_bad_frame}
use Rattle.frame_index.proofs.Passing.{stops_at_other_count, walk_is, walk_fits}
use Rattle.frame_index.proofs.frames.walk_from.Goals as goal

-- the sound of a coded form ends no later than the longest form may
sound_low : (form : CodedForm) → form.sound.place + 12 + form.sound.size ≤ 2 ^ 50 + 12
sound_low form = omega (arith, sound_inside (coded_seen form) form.lawful, form.lawful.end)

-- one chunk more may pass where the most that may haven't passed
more_chunks : {passed : ℕ} → passed ≤ 4000000 → (passed ≡ 4000000 → ⊥) → passed < 4000000
more_chunks most differ = omega (arith, most, differ)

-- a chunk whose head stands at the place has its body before the end
chunk_within : {place end : ℕ} (head : ChunkHead) → head.place ≡ place → place + 12 + head.size ≤ end → body_end (head_seen head) ≤ end
chunk_within head at within = omega (arith, at, within)

-- what is given of so many heads, and of one more
given_next : (before mid passed now : ℕ) → mid ≤ before + 12 * passed → now ≤ mid + 12 → now ≤ before + 12 * (passed + 1)
given_next before mid passed now all next = omega arith

given_in_all : (before mid passed now : ℕ) → mid ≤ before + 12 * passed → passed < 4000000 → now ≤ mid + 12 → now ≤ before + 48000000
given_in_all before mid passed now all few next = omega arith

pub overflow_add-end : goal.overflow_add-end
overflow_add-end g c = omega (arith, sound_low c.args.form.now)

pub overflow_add-end-2 : goal.overflow_add-end-2
overflow_add-end-2 g c = omega (arith, sound_low c.args.form.now)

pub overflow_add-place : goal.overflow_add-place
overflow_add-place g c = omega (arith, sound_low c.args.form.now)

pub overflow_add-place-2 : goal.overflow_add-place-2
overflow_add-place-2 g c = omega (arith, sound_low c.args.form.now)

pub loop-place-init : goal.loop-place-init
loop-place-init g c =
    record {
      bytes = refl;
      known = refl;
      loan = refl;
      faults = omega arith;
      given = omega arith;
      few = omega arith;
      behind = omega arith;
      before = omega (arith, c.args.form.now.lawful.of_kind.least);
      walked = walk_begins (coded_seen c.args.form.now) (g.S.Source.bytes c.args.source.now) c.in_room-entries.result.entries
          (ap (λ (g : Gathered). g.entries) c.in_room-entries.ensures);
      room = ap (λ (g : Gathered). g.room) c.in_room-entries.ensures;
    }

pub returns-then-passed-eq-MOST_CHUNKS-clause-fault : goal.returns-then-passed-eq-MOST_CHUNKS-clause-fault
returns-then-passed-eq-MOST_CHUNKS-clause-fault g c fault e xs told =
    stops_at_limit (coded_seen c.args.form.now) (g.S.Source.bytes c.args.source.now) c.loop-place.passed c.loop-place.place c.loop-place.frames
    c.loop-place.entries.entries xs c.loop-place.invariant.walked told
    c.if-passed-eq-MOST_CHUNKS.true c.loop-place-test.true
    ∙ ap Err (same_fault _ _ e)

pub next_head-requires-clause-size : goal.next_head-requires-clause-size
next_head-requires-clause-size g c = (
  c.requires.size.0,
  c.loop-place.invariant.known ∙ c.requires.size.1,
  omega (arith, sound_inside (coded_seen c.args.form.now) c.args.form.now.lawful, c.requires.size.2),
)

pub returns-in-Err-clause-fault : goal.returns-in-Err-clause-fault
returns-in-Err-clause-fault g c fault e xs told =
    stops_at_misfit (coded_seen c.args.form.now) (g.S.Source.bytes c.args.source.now) c.loop-place.passed c.loop-place.place c.loop-place.frames
    c.loop-place.entries.entries xs c.loop-place.invariant.walked told
    (more_chunks c.loop-place.invariant.few c.if-passed-eq-MOST_CHUNKS.false) c.loop-place-test.true
    (c.in-Err.ensures.passes fault (ap Err (same_error _ _ e)) xs (c.loop-place.invariant.bytes ∙ told))
    ∙ ap Err (sym (c.in-Err.ensures.overrun fault (ap Err (same_error _ _ e))))

pub pass_chunk-requires-clause-within : goal.pass_chunk-requires-clause-within
pass_chunk-requires-clause-within g c =
    omega (arith, sound_low c.args.form.now, c.in-Ok.ensures.place, c.in-Ok.ensures.within)

pub returns-in-Err-pass_chunk-clause-fault : goal.returns-in-Err-pass_chunk-clause-fault
returns-in-Err-pass_chunk-clause-fault g c fault e xs told =
    stops_at_bad_frame (coded_seen c.args.form.now) (g.S.Source.bytes c.args.source.now) c.loop-place.passed c.loop-place.place c.loop-place.frames
    c.loop-place.entries.entries xs (head_seen c.in-Ok.head) fault c.loop-place.invariant.walked told
    (more_chunks c.loop-place.invariant.few c.if-passed-eq-MOST_CHUNKS.false) c.loop-place-test.true
    (c.in-Ok.ensures.head xs (c.loop-place.invariant.bytes ∙ told)) (chunk_within c.in-Ok.head c.in-Ok.ensures.place c.in-Ok.ensures.within)
    (c.in-Err-pass_chunk.ensures.frame fault (ap Err (same_fault _ _ e))) (c.in-Err-pass_chunk.ensures.fault fault (ap Err (same_fault _ _ e)))

pub overflow_add-place-in-loop-place : goal.overflow_add-place-in-loop-place
overflow_add-place-in-loop-place g c = omega (arith, sound_low c.args.form.now, c.in-Ok.ensures.within)

pub overflow_add-place-in-loop-place-2 : goal.overflow_add-place-in-loop-place-2
overflow_add-place-in-loop-place-2 g c = omega (arith, sound_low c.args.form.now, c.in-Ok.ensures.within)

pub overflow_add-place-in-loop-place-3 : goal.overflow_add-place-in-loop-place-3
overflow_add-place-in-loop-place-3 g c = omega (arith, sound_low c.args.form.now, c.in-Ok.ensures.within)

pub loop-place-preserved : goal.loop-place-preserved
loop-place-preserved g c =
    let place = c.loop-place.place in
    let head = c.in-Ok.head in
    let few = more_chunks c.loop-place.invariant.few c.if-passed-eq-MOST_CHUNKS.false in
    let next : next_place (head_seen head) ≡ place + (12 + head.size + head.size % 2) = omega (arith, c.in-Ok.ensures.place) in
    record {
      bytes = c.in-Ok.ensures.bytes ∙ c.loop-place.invariant.bytes;
      known = c.in-Ok.ensures.size_stays ∙ c.loop-place.invariant.known;
      loan = c.in-Ok.ensures.loan ∙ c.loop-place.invariant.loan;
      faults = omega (arith, c.in-Ok.ensures.later, c.loop-place.invariant.faults);
      given = given_next _ _ c.loop-place.passed _ c.loop-place.invariant.given c.in-Ok.ensures.given;
      few = omega (arith, few);
      behind = omega (arith, c.loop-place.invariant.behind);
      before = omega (arith, c.in-Ok.ensures.within);
      walked =
          walk_goes_on (coded_seen c.args.form.now) (g.S.Source.bytes c.args.source.now) c.loop-place.passed place _ c.loop-place.frames _
          c.loop-place.entries.entries _ (head_seen head)
          c.loop-place.invariant.walked few c.loop-place-test.true c.loop-place.invariant.behind c.in-Ok.ensures.place
          (chunk_within head c.in-Ok.ensures.place c.in-Ok.ensures.within) next
          (λ xs told. c.in-Ok.ensures.head xs (c.loop-place.invariant.bytes ∙ told))
          c.in-Ok-pass_chunk.ensures.count c.in-Ok-pass_chunk.ensures.listed c.in-Ok-pass_chunk.ensures.faultless;
      room = c.in-Ok-pass_chunk.ensures.room ∙ c.loop-place.invariant.room;
    }

pub returns-then-frames-form-clause-fault : goal.returns-then-frames-form-clause-fault
returns-then-frames-form-clause-fault g c fault e xs told =
    stops_at_other_count (coded_seen c.args.form.now) (g.S.Source.bytes c.args.source.now) c.loop-place.passed c.loop-place.place c.loop-place.frames
    c.loop-place.entries.entries xs c.loop-place.invariant.walked told
    c.loop-place-test.false c.if-frames-form.true
    ∙ ap Err (same_fault _ _ e)

pub returns-clause-index : goal.returns-clause-index
returns-clause-index g c xs told =
    walk_is (coded_seen c.args.form.now) (g.S.Source.bytes c.args.source.now) c.loop-place.passed c.loop-place.place c.loop-place.frames
    c.loop-place.entries.entries
    xs c.loop-place.invariant.walked told c.loop-place-test.false c.if-frames-form.false
    ∙ ap Ok (sym c.into_index.ensures)

pub returns-clause-fits : goal.returns-clause-fits
returns-clause-fits g c =
    subst (IsIndexOf (coded_seen c.args.form.now)) (sym c.into_index.ensures)
    (walk_fits (coded_seen c.args.form.now) (g.S.Source.bytes c.args.source.now) c.loop-place.passed c.loop-place.place c.loop-place.frames
    c.loop-place.entries.entries c.loop-place.invariant.walked c.if-frames-form.false)

pub returns-in-Err-clause-given : goal.returns-in-Err-clause-given
returns-in-Err-clause-given g c =
    given_in_all _ _ c.loop-place.passed _ c.loop-place.invariant.given (more_chunks c.loop-place.invariant.few c.if-passed-eq-MOST_CHUNKS.false)
    c.in-Err.ensures.given

pub returns-in-Err-clause-read : goal.returns-in-Err-clause-read
returns-in-Err-clause-read g c e = Rose-earlier _ _ _ c.loop-place.invariant.faults (c.in-Err.ensures.read (ap Err (same_error _ _ e)))

pub returns-in-Err-clause-never_memory : goal.returns-in-Err-clause-never_memory
returns-in-Err-clause-never_memory g c refused e = c.in-Err.ensures.never_memory refused (ap Err (same_error _ _ e))

pub pass_chunk-requires-clause-few : goal.pass_chunk-requires-clause-few
pass_chunk-requires-clause-few g c = listed_are_few c.loop-place.invariant.walked

pub returns-in-Err-pass_chunk-clause-given : goal.returns-in-Err-pass_chunk-clause-given
returns-in-Err-pass_chunk-clause-given g c =
    given_in_all _ _ c.loop-place.passed _ c.loop-place.invariant.given (more_chunks c.loop-place.invariant.few c.if-passed-eq-MOST_CHUNKS.false)
    c.in-Ok.ensures.given
