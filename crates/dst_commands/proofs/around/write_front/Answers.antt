-- The head of the form, the chunks before the sound, the head of the sound.
use Rattle.std.proofs.Common.{◌≡◌, ℕ, List, ◌++◌, ap, Option, Some, refl}
use Rattle.std.specs.List.{concat}
use Rattle.dsdiff_spec.specs.Decoded.{decoded_before}
use Rattle.dsdiff_spec.specs.Pieces.{opening, sound_opening}
use Rattle.dsdiff_chunks.specs.Forms.{coded_seen}
use Rattle.dsdiff_chunks.specs.declared.copy.CopyFault.{CopyFault}
use Rattle.dst_commands.proofs.Writing.{added, cut_off, adds_same, adds_then, stops_same, stops_for, stops_first, stops_then}
use Rattle.dst_commands.specs.Passing.{chunks_on}
use Rattle.dst_commands.specs.Writing.{Adds}
use Rattle.dst_commands.specs.declared.chunks.Side.TheVariants.{Before}
use Rattle.dst_commands.proofs.PassedOn.{opening_by, plain_cmpr_is_one}
use Rattle.dst_commands.proofs.around.write_front.Goals as goal

pub pass_chunks-requires-clause-cmpr : goal.pass_chunks-requires-clause-cmpr
pass_chunks-requires-clause-cmpr g c = plain_cmpr_is_one
    (coded_seen c.args.form.now) c.args.form.now.lawful refl c.cmpr_of-cmpr.result.now c.cmpr_of-cmpr.ensures

-- two pieces that are added one behind the other, each by another name
adds_both : {a b x y : List ℕ} {old mid new : Option (List ℕ)} {room half left : Option ℕ} → a ≡ x → Adds a old mid room half →
    b ≡ y → Adds b mid new half left → Adds (x ++ y) old new room left
adds_both e p f q = adds_then _ _ _ _ _ _ _ _ (adds_same _ _ _ _ _ _ e p) (adds_same _ _ _ _ _ _ f q)

pub returns-in_default-clause-written : goal.returns-in_default-clause-written
returns-in_default-clause-written g c file told =
    let form = coded_seen c.args.form.now in
    stops_first (CopyFault.Write ≡ CopyFault.Write) (opening c.args.sound file form ++ concat (decoded_before file form)) (sound_opening c.args.sound) _ _ _
    (stops_first (CopyFault.Write ≡ CopyFault.Write) (opening c.args.sound file form) (concat (decoded_before file form)) _ _ _
    (stops_for (Unit {0}) (CopyFault.Write ≡ CopyFault.Write) (opening c.args.sound file form) _ _ _ (λ e. tt {0})
    (stops_same (Unit {0}) _ (opening c.args.sound file form) _ _ _
    (opening_by c.args.sound file c.args.form.now (g.met.S.Source.size_is_length _ file _ told c.requires.size.1) c.requires.size.2
    c.form_size.ensures) c.in_default.ensures.written)))

pub returns-in-Err-clause-written : goal.returns-in-Err-clause-written
returns-in-Err-clause-written g c file told =
    let form = coded_seen c.args.form.now in
    stops_first (c.in-Err.fault ≡ CopyFault.Write) (opening c.args.sound file form ++ concat (decoded_before file form)) (sound_opening c.args.sound) _ _ _
    (stops_then (c.in-Err.fault ≡ CopyFault.Write) (opening c.args.sound file form) (concat (decoded_before file form)) _ _ _ _ _
    (adds_same _ (opening c.args.sound file form) _ _ _ _
    (opening_by c.args.sound file c.args.form.now (g.met.S.Source.size_is_length _ file _ told c.requires.size.1) c.requires.size.2
    c.form_size.ensures) c.in-Ok.ensures.written)
    (stops_same (c.in-Err.fault ≡ CopyFault.Write) _ (concat (decoded_before file form)) _ _ _
    (ap (λ w. chunks_on Before (Some w) file form) c.cmpr_of-cmpr.ensures) (c.in-Err.ensures.written file told)))

pub returns-in-Ok-write_head-clause-written : goal.returns-in-Ok-write_head-clause-written
returns-in-Ok-write_head-clause-written g c file told =
    let form = coded_seen c.args.form.now in
    adds_then (opening c.args.sound file form ++ concat (decoded_before file form)) (sound_opening c.args.sound) _ _ _ _ _ _
    (adds_both (opening_by c.args.sound file c.args.form.now (g.met.S.Source.size_is_length _ file _ told c.requires.size.1) c.requires.size.2
    c.form_size.ensures) c.in-Ok.ensures.written
    (ap (λ w. chunks_on Before (Some w) file form) c.cmpr_of-cmpr.ensures)
    (c.in_default-pass_chunks.ensures.written file told))
    (added _ (sound_opening c.args.sound) _ _ _ _ c.in-Ok-write_head.ensures.sure c.in-Ok-write_head.ensures.written)

pub returns-in-Err-write_head-clause-written : goal.returns-in-Err-write_head-clause-written
returns-in-Err-write_head-clause-written g c file told =
    let form = coded_seen c.args.form.now in
    stops_then (CopyFault.Write ≡ CopyFault.Write) (opening c.args.sound file form ++ concat (decoded_before file form)) (sound_opening c.args.sound) _ _ _ _ _
    (adds_both (opening_by c.args.sound file c.args.form.now (g.met.S.Source.size_is_length _ file _ told c.requires.size.1) c.requires.size.2
    c.form_size.ensures) c.in-Ok.ensures.written
    (ap (λ w. chunks_on Before (Some w) file form) c.cmpr_of-cmpr.ensures)
    (c.in_default-pass_chunks.ensures.written file told))
    (stops_for (Unit {0}) (CopyFault.Write ≡ CopyFault.Write) (sound_opening c.args.sound) _ _ _ (λ e. tt {0})
    (cut_off _ (sound_opening c.args.sound) _ _ _ _ c.in-Err-write_head.ensures.sure c.in-Err-write_head.ensures.written))
