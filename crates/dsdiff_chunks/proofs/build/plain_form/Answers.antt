-- The rules on a plain form speak of its parts, and where none fails the form is as they tell.
use Rattle.std.proofs.Common.{◌≡◌, ℕ, ◌%◌, ◌≤◌, List, length, map, get_or, refl, sym, ap, ◌∙◌, subst, arith}
use Rattle.std.specs.Prelude.{◌==◌, if◌then◌else◌}
use Rattle.dst_spec.specs.Sample.{sound_bytes}
use Rattle.dsdiff_spec.specs.Chunks.{Head, body_end}
use Rattle.dsdiff_spec.specs.Form.{frames_for}
use Rattle.dsdiff_spec.specs.Parts.{channel_count, multiple}
use Rattle.dsdiff_spec.specs.Rules.{form_fault}
use Rattle.dsdiff_chunks.specs.Seen.{head_seen}
use Rattle.dsdiff_chunks.proofs.Stopping.{HasOpenCause-in}
use Rattle.dsdiff_chunks.proofs.Whole.{shape_back, plain_left, plain_padded, plain_frames, behind_by_parts, form_is, form_is_lawful}
use Rattle.dsdiff_chunks.proofs.build.plain_form.Goals as goal

pub read_plain-requires-clause-padded : goal.read_plain-requires-clause-padded
read_plain-requires-clause-padded g c = plain_padded c.requires.parts c.requires.kind

pub returns-in-Err-clause-stops : goal.returns-in-Err-clause-stops
returns-in-Err-clause-stops g c =
    HasOpenCause-in _ form_fault (g.S.Source.bytes c.args.source.now) (g.S.Source.bytes c.args.source.now) (g.S.Source.faults c.args.source.now)
    (g.S.Source.faults c.args.source.now) _
    c.in-Err.fault refl (omega arith)
    (λ xs f told e. plain_left c.requires.parts c.requires.kind xs told ∙ e)
    c.in-Err.ensures.stops

pub returns-clause-form : goal.returns-clause-form
returns-clause-form g c xs told =
    let p = c.args.parts in
    let has = c.requires.parts.told xs told in
    let found = c.in-Ok.ensures in
    form_is c.requires.parts c.requires.kind xs told (plain_left c.requires.parts c.requires.kind xs told ∙ found.accepted)
    (sym (ap (map head_seen) c.from_vec.ensures)) (sym c.from_vec-2.ensures)
    (plain_frames xs p.prop.body.items (head_seen p.sound.head) p.prop.fields.channels has.body has.sound c.requires.parts.shape ∙ sym found.frames)
    refl
    (ap (λ (h : Head). if h.size % 2 == 1 then get_or xs (body_end h) 0 else 0) has.sound ∙ sym (found.pad xs told))
    (behind_by_parts xs p.chunks.size p.chunks.end has.long has.ends ∙ sym (found.behind xs told) ∙ sym c.from_vec-3.ensures)

pub invariant_of-result : goal.invariant_of-result
invariant_of-result g c =
    let p = c.args.parts in
    let found = c.in-Ok.ensures in
    let behind : c.in-Ok.plain.behind.items ≡ c.from_vec-3.result = sym c.from_vec-3.ensures in
    let back = shape_back p.prop.fields.channels (channel_count p.prop.body.items) (multiple p.prop.body.items) c.requires.parts.shape in
    record {
      lawful = form_is_lawful c.requires.parts (sym (ap (map head_seen) c.from_vec.ensures)) (sym c.from_vec-2.ensures) found.few
          (record {
            even = found.even;
            frames = found.frames ∙ sym (ap (λ s. frames_for (sound_bytes s) p.sound.head.size) back);
            origin = refl;
            padded = plain_padded c.requires.parts c.requires.kind;
            pad = found.pad_even;
            behind = subst (λ (b : List ℕ). length b ≤ 65536) behind found.behind_most;
          });
      shape = back;
    }
