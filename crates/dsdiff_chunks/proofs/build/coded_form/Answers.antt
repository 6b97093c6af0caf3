-- The rules on a coded form speak of its parts, and where none fails the form is as they tell.
use Rattle.std.proofs.Common.{◌≡◌, ℕ, ◌≤◌, List, map, Some, refl, sym, ap, ◌∙◌, subst, arith}
use Rattle.std.specs.Prelude.{option_map}
use Rattle.dst_spec.specs.Sample.{sound_bytes}
use Rattle.dsdiff_spec.specs.Chunks.{named, body_end}
use Rattle.dsdiff_spec.specs.Faults.{◌when◌}
use Rattle.dsdiff_spec.specs.Parts.{channel_count, multiple}
use Rattle.dsdiff_spec.specs.Rules.{form_fault, origin_in}
use Rattle.dsdiff_spec.specs.declared.faults.FileFault.TheVariants.{KeptBad}
use Rattle.dsdiff_chunks.specs.declared.lists.ChunkHead.{ChunkHead}
use Rattle.dsdiff_chunks.specs.Lawful.{IsOriginIfAny}
use Rattle.dsdiff_chunks.specs.Opening.{is_sound, are_bad_origins}
use Rattle.dsdiff_chunks.specs.Prepared.{heads_of}
use Rattle.dsdiff_chunks.specs.Seen.{head_seen, origin_seen}
use Rattle.dsdiff_chunks.proofs.Only.{only_within}
use Rattle.dsdiff_chunks.proofs.Stopping.{HasOpenCause-in}
use Rattle.dsdiff_chunks.proofs.Whole.{kind_left, coded_left, shape_back, coded_at_sound, count_by_parts, form_is, form_is_lawful}
use Rattle.dsdiff_chunks.proofs.build.coded_form.Given.{Over}
use Rattle.dsdiff_chunks.proofs.build.coded_form.Goals as goal
use Rattle.dsdiff_chunks.proofs.build.coded_form.Goals.{After-as_slice}

-- the sound ends where the form does, or before
sound_within : (g : Over) (c : goal.After-read_frte-arg-2-1 g) → body_end (head_seen c.args.parts.sound.head) ≤ c.args.parts.chunks.end
sound_within g c =
    let p = c.args.parts in
    only_within is_sound p.chunks.end (heads_of p) (head_seen p.sound.head) c.requires.parts.sound.found c.requires.parts.chunks.tiled

pub read_frte-requires-clause-known : goal.read_frte-requires-clause-known
read_frte-requires-clause-known g c =
    (c.args.parts.chunks.size, c.requires.parts.chunks.known_size, omega (arith, sound_within g c, c.requires.parts.chunks.within))

pub read_frte-requires-clause-most : goal.read_frte-requires-clause-most
read_frte-requires-clause-most g c =
    omega (arith, sound_within g c, c.requires.parts.chunks.most)

pub returns-in-Err-clause-stops : goal.returns-in-Err-clause-stops
returns-in-Err-clause-stops g c =
    HasOpenCause-in _ form_fault (g.S.Source.bytes c.args.source.now) (g.S.Source.bytes c.args.source.now) (g.S.Source.faults c.args.source.now)
    (g.S.Source.faults c.args.source.now) _
    c.in-Err.fault refl (omega arith)
    (λ xs f told e.
    (kind_left c.requires.parts c.requires.kind xs told).1
    ∙ coded_at_sound xs (head_seen c.args.parts.sound.head) f (c.requires.parts.told xs told).sound e)
    c.in-Err.ensures.stops

-- behind a sound that is accepted only the rule on the place in the original is left
origin_left : (g : Over) (c : After-as_slice g) (xs : List ℕ) → g.S.Source.bytes c.args.source.now ≡ Some xs →
    form_fault xs ≡ (KeptBad when are_bad_origins c.args.parts.prop.fields.channels.channels (sound_bytes c.args.parts.prop.fields.channels) c.in-Ok.frames xs
    (named "KEPT" (map head_seen c.as_slice.result.now)))
origin_left g c xs told =
    let shape = c.args.parts.prop.fields.channels in
    coded_left c.requires.parts c.requires.kind xs told c.in-Ok.frames (c.in-Ok.ensures.count xs told) (c.in-Ok.ensures.accepted xs told)
    ∙ ap (λ (hs : List ChunkHead). KeptBad when are_bad_origins shape.channels (sound_bytes shape) c.in-Ok.frames xs (named "KEPT" (map head_seen hs)))
    (sym c.as_slice.ensures.value)

pub returns-in-Err-read_any_origin-clause-stops : goal.returns-in-Err-read_any_origin-clause-stops
returns-in-Err-read_any_origin-clause-stops g c =
    HasOpenCause-in _ form_fault (g.S.Source.bytes c.args.source.now) (g.S.Source.bytes c.read_frte.new.source) (g.S.Source.faults c.args.source.now)
    (g.S.Source.faults c.read_frte.new.source) _
    c.in-Err-read_any_origin.fault c.in-Ok.ensures.source.same_bytes c.in-Ok.ensures.source.later
    (λ xs f told e. origin_left g c.before.before.before.before xs told ∙ e)
    c.in-Err-read_any_origin.ensures.stops

pub returns-clause-form : goal.returns-clause-form
returns-clause-form g c xs told =
    let has = c.requires.parts.told xs told in
    let kept = c.in-Ok-read_any_origin.ensures in
    let there = c.in-Ok.ensures.source.same_bytes ∙ told in
    form_is c.requires.parts c.requires.kind xs told
    (origin_left g c.before.before.before.before.before.before xs told ∙ ap (λ b. KeptBad when b) (kept.accepted xs there))
    (sym (ap (map head_seen) c.from_vec.ensures)) (sym c.from_vec-2.ensures)
    (count_by_parts xs (head_seen c.args.parts.sound.head) c.in-Ok.frames has.sound (c.in-Ok.ensures.count xs told))
    (ap (λ hs. origin_in xs (named "KEPT" hs)) has.chunks
    ∙ ap (λ (hs : List ChunkHead). origin_in xs (named "KEPT" (map head_seen hs))) (sym c.as_slice.ensures.value)
    ∙ sym (kept.origin xs there))
    refl refl

pub invariant_of-result : goal.invariant_of-result
invariant_of-result g c =
    let shape = c.args.parts.prop.fields.channels in
    let body = c.args.parts.prop.body.items in
    let back = shape_back shape (channel_count body) (multiple body) c.requires.parts.shape in
    record {
      lawful = form_is_lawful c.requires.parts (sym (ap (map head_seen) c.from_vec.ensures)) (sym c.from_vec-2.ensures) c.in-Ok.ensures.few
          (record {
            least = c.in-Ok.ensures.least;
            origin = subst (λ (n : ℕ). IsOriginIfAny shape.channels n c.in-Ok.frames (option_map origin_seen c.in-Ok-read_any_origin.origin))
                (sym (ap sound_bytes back)) c.in-Ok-read_any_origin.ensures.lawful;
            pad = refl;
            behind = refl;
          });
      shape = back;
    }
