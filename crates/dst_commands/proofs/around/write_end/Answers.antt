-- The pad byte, the chunks behind the sound, the kept bytes.
use Rattle.std.proofs.Common.{◌≡◌, ℕ, ◌%◌, ◌==◌, if◌then◌else◌, ◌++◌, ◌∷◌, [], ap, Some, refl}
use Rattle.std.specs.List.{concat}
use Rattle.dsdiff_spec.specs.Decoded.{kept_bytes}
use Rattle.dsdiff_spec.specs.Pieces.{decoded_behind, sound_pad}
use Rattle.dsdiff_chunks.specs.Forms.{coded_seen}
use Rattle.dsdiff_chunks.specs.declared.copy.CopyFault.{CopyFault}
use Rattle.dst_commands.proofs.Writing.{adds_same, adds_then, stops_same, stops_for, stops_first, stops_then}
use Rattle.dst_commands.specs.Passing.{chunks_on}
use Rattle.dst_commands.specs.declared.chunks.Side.TheVariants.{Behind}
use Rattle.dst_commands.proofs.PassedOn.{plain_cmpr_is_one}
use Rattle.dst_commands.proofs.around.write_end.Goals as goal

pub pass_chunks-requires-clause-cmpr : goal.pass_chunks-requires-clause-cmpr
pass_chunks-requires-clause-cmpr g c = plain_cmpr_is_one
    (coded_seen c.args.form.now) c.args.form.now.lawful refl c.cmpr_of-cmpr.result.now c.cmpr_of-cmpr.ensures

pub returns-in-Err-clause-written : goal.returns-in-Err-clause-written
returns-in-Err-clause-written g c file told =
    let form = coded_seen c.args.form.now in
    stops_first (c.in-Err.fault ≡ CopyFault.Write) (sound_pad c.args.sound form ++ concat (decoded_behind file form)) (kept_bytes form.origin) _ _ _
    (stops_then (c.in-Err.fault ≡ CopyFault.Write) (sound_pad c.args.sound form) (concat (decoded_behind file form)) _ _ _ _ _
    (adds_same _ (sound_pad c.args.sound form) _ _ _ _
    (ap (λ (pad : ℕ). if c.args.sound % 2 == 1 then pad ∷ [] else []) c.pad_of.ensures) c.in-Ok.ensures.written)
    (stops_same (c.in-Err.fault ≡ CopyFault.Write) _ (concat (decoded_behind file form)) _ _ _
    (ap (λ w. chunks_on Behind (Some w) file form) c.cmpr_of-cmpr.ensures) (c.in-Err.ensures.written file told)))

pub returns-in-Ok-write_any-clause-written : goal.returns-in-Ok-write_any-clause-written
returns-in-Ok-write_any-clause-written g c file told =
    let form = coded_seen c.args.form.now in
    adds_then (sound_pad c.args.sound form ++ concat (decoded_behind file form)) (kept_bytes form.origin) _ _ _ _ _ _
    (adds_then (sound_pad c.args.sound form) (concat (decoded_behind file form)) _ _ _ _ _ _
    (adds_same _ (sound_pad c.args.sound form) _ _ _ _
    (ap (λ (pad : ℕ). if c.args.sound % 2 == 1 then pad ∷ [] else []) c.pad_of.ensures) c.in-Ok.ensures.written)
    (adds_same _ (concat (decoded_behind file form)) _ _ _ _ (ap (λ w. chunks_on Behind (Some w) file form) c.cmpr_of-cmpr.ensures)
    (c.in_default-pass_chunks.ensures.written file told)))
    (adds_same _ (kept_bytes form.origin) _ _ _ _ c.kept_of.ensures c.in-Ok-write_any.ensures.written)

pub returns-in-Err-write_any-clause-written : goal.returns-in-Err-write_any-clause-written
returns-in-Err-write_any-clause-written g c file told =
    let form = coded_seen c.args.form.now in
    stops_then (CopyFault.Write ≡ CopyFault.Write) (sound_pad c.args.sound form ++ concat (decoded_behind file form)) (kept_bytes form.origin) _ _ _ _ _
    (adds_then (sound_pad c.args.sound form) (concat (decoded_behind file form)) _ _ _ _ _ _
    (adds_same _ (sound_pad c.args.sound form) _ _ _ _
    (ap (λ (pad : ℕ). if c.args.sound % 2 == 1 then pad ∷ [] else []) c.pad_of.ensures) c.in-Ok.ensures.written)
    (adds_same _ (concat (decoded_behind file form)) _ _ _ _ (ap (λ w. chunks_on Behind (Some w) file form) c.cmpr_of-cmpr.ensures)
    (c.in_default-pass_chunks.ensures.written file told)))
    (stops_for (Unit {0}) (CopyFault.Write ≡ CopyFault.Write) (kept_bytes form.origin) _ _ _ (λ e. tt {0})
    (stops_same (Unit {0}) _ (kept_bytes form.origin) _ _ _ c.kept_of.ensures c.in-Err-write_any.ensures.written))
