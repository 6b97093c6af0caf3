-- What the parts keep to, the copies of them keep to.
use Rattle.std.proofs.Common.{◌≡◌, ◌∙◌, false}
use Rattle.dst_spec.specs.Sample.{sound_bytes}
use Rattle.dsdiff_chunks.specs.Parts.{is_bad_sound}
use Rattle.dsdiff_chunks.proofs.Refused.{is_plain_cmpr, sound_whole, sound_frames}
use Rattle.dsdiff_chunks.proofs.origin.read_origin.Goals as goal

pub returns-clause-lawful : goal.returns-clause-lawful
returns-clause-lawful c =
    let cmpr : c.from_vec-cmpr.result ≡ c.in-Some.parts.cmpr.now = c.from_vec-cmpr.ensures ∙ c.in_ok-from_slice.ensures.items in
    let kept : c.from_vec-kept.result ≡ c.in-Some.parts.kept.now = c.from_vec-kept.ensures ∙ c.in_ok-from_slice-2.ensures.items in
    let plain = is_plain_cmpr c.in-Some.parts.cmpr.now c.if-not-is_plain_cmpr.ensures in
    let good : is_bad_sound c.args.channels.channels (sound_bytes c.args.channels) c.args.frame_count c.in-Some.parts.sound ≡ false =
    c.if-not-is_sound_of.ensures in
    record {
      cmpr = rw cmpr plain.one;
      cmpr_long = rw cmpr plain.long;
      cmpr_type = rw cmpr plain.type;
      cmpr_most = rw cmpr c.in-Some.ensures.cmpr_most;
      kept_most = rw kept c.in-Some.ensures.kept_most;
      pad = c.in-Some.ensures.padded;
      whole = sound_whole _ _ _ _ good;
      count = sound_frames _ _ _ _ good;
    }
