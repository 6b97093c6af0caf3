-- The head of the form, `FVER`, `PROP`, the head of the sound.
use Rattle.std.proofs.Common.{◌≡◌, ℕ, List, ◌+◌, ◌++◌, length, ap, refl, ◌∙◌}
use Rattle.std.specs.Prelude.{codes}
use Rattle.byteorder.specs.Endian.{big_bytes}
use Rattle.dsdiff_spec.specs.Written.{prop_with, cmpr_plain}
use Rattle.dst_commands.proofs.Writing.{added, cut_off, adds_same, adds_then, stops_same, stops_first, stops_then, then_appended}
use Rattle.dst_pipes.specs.Fronts.{version_bytes, opening_bytes, plain_size}
use Rattle.dst_pipes.proofs.front.write_front.Goals as goal

-- the head of the form tells the size of what is written behind it
opening_is : (prop : List ℕ) {cmpr : List ℕ} (sound : ℕ) {size n : ℕ} → n ≡ length (prop_with prop cmpr) → cmpr ≡ cmpr_plain → size ≡ 4 + 16 + n + 12 + sound →
    opening_bytes size ≡ opening_bytes (plain_size prop sound)
opening_is prop sound e f g = ap opening_bytes (g ∙ ap (λ m. 4 + 16 + m + 12 + sound) (e ∙ ap (λ x. length (prop_with prop x)) f))

pub returns-in_default-clause-written : goal.returns-in_default-clause-written
returns-in_default-clause-written g c =
    stops_first (Unit {0}) _ (codes "DSD " ++ big_bytes 8 c.args.sound) _ _ _
    (stops_first (Unit {0}) _ (prop_with c.args.prop.now cmpr_plain) _ _ _
    (stops_first (Unit {0}) _ (version_bytes c.args.version.now) _ _ _
    (stops_same (Unit {0}) _ _ _ _ _ (opening_is _ _ c.prop_length.ensures.length c.plain_cmpr-cmpr.ensures refl) c.in_default.ensures.written)))

pub returns-in_default-write_version-clause-written : goal.returns-in_default-write_version-clause-written
returns-in_default-write_version-clause-written g c =
    stops_first (Unit {0}) _ (codes "DSD " ++ big_bytes 8 c.args.sound) _ _ _
    (stops_first (Unit {0}) _ (prop_with c.args.prop.now cmpr_plain) _ _ _
    (stops_then (Unit {0}) _ (version_bytes c.args.version.now) _ _ _ _ _
    (adds_same _ _ _ _ _ _ (opening_is _ _ c.prop_length.ensures.length c.plain_cmpr-cmpr.ensures refl) c.in-Ok.ensures.written)
    c.in_default-write_version.ensures.written))

pub returns-in_default-write_prop-clause-written : goal.returns-in_default-write_prop-clause-written
returns-in_default-write_prop-clause-written g c =
    stops_first (Unit {0}) _ (codes "DSD " ++ big_bytes 8 c.args.sound) _ _ _
    (stops_then (Unit {0}) _ (prop_with c.args.prop.now cmpr_plain) _ _ _ _ _
    (adds_then _ (version_bytes c.args.version.now) _ _ _ _ _ _
    (adds_same _ _ _ _ _ _ (opening_is _ _ c.prop_length.ensures.length c.plain_cmpr-cmpr.ensures refl) c.in-Ok.ensures.written)
    c.in-Ok-write_version.ensures.written)
    (stops_same (Unit {0}) _ _ _ _ _ (ap (prop_with c.args.prop.now) c.plain_cmpr-cmpr.ensures)
    (cut_off _ _ _ _ _ _ c.in_default-write_prop.ensures.sure c.in_default-write_prop.ensures.written)))

pub returns-clause-written : goal.returns-clause-written
returns-clause-written g c =
    then_appended c.write_head.result _ (codes "DSD " ++ big_bytes 8 c.args.sound) _ _ _ _ _ _
    (adds_then _ (prop_with c.args.prop.now cmpr_plain) _ _ _ _ _ _
    (adds_then _ (version_bytes c.args.version.now) _ _ _ _ _ _
    (adds_same _ _ _ _ _ _ (opening_is _ _ c.prop_length.ensures.length c.plain_cmpr-cmpr.ensures refl) c.in-Ok.ensures.written)
    c.in-Ok-write_version.ensures.written)
    (adds_same _ _ _ _ _ _ (ap (prop_with c.args.prop.now) c.plain_cmpr-cmpr.ensures)
    (added _ _ _ _ _ _ c.in-Ok-write_prop.ensures.sure c.in-Ok-write_prop.ensures.written)))
    c.write_head.ensures.written c.write_head.ensures.sure
