-- The spelling is written where it has room at all, and then its bytes are counted against the sound's.
use Rattle.std.proofs.Common.{◌≡◌, length, refl, ap, ◌∙◌, rules, arith}
use Rattle.std.proofs.lemmas.Bool.Decides.{nat_tests}
use Rattle.dst_spec.specs.Sample.{sound_bytes}
use Rattle.dst_spec.specs.Spell.{spell}
use Rattle.frame_store.proofs.Spelled.{spelled-bytes, spelled-length}
use Rattle.frame_store.proofs.spell.spell_shorter.Goals as goal

pub returns-then-not-write_into-clause-shorter : goal.returns-then-not-write_into-clause-shorter
returns-then-not-write_into-clause-shorter c =
    let long = spelled-length c.args.predictions.now.channels c.args.params.now c.args.predictions.now.sound c.lay_out.new.symbols c.lay_out.ensures.symbols in
    let bytes = ap sound_bytes c.channels-channels.ensures in
    (λ t. search rules, λ h. c.if-not-write_into.ensures.fits.1 (omega (arith, long, h, bytes)))

pub returns-clause-written : goal.returns-clause-written
returns-clause-written c = λ t.
    c.if-not-write_into.ensures.written refl
    ∙ spelled-bytes c.args.predictions.now.channels c.args.params.now c.args.predictions.now.sound c.lay_out.new.symbols c.lay_out.ensures.symbols

pub returns-clause-shorter : goal.returns-clause-shorter
returns-clause-shorter c =
    let f = c.args.predictions.now.channels in
    let P = c.args.params.now in
    let sound = c.args.predictions.now.sound in
    let spelled = spelled-bytes f P sound c.lay_out.new.symbols c.lay_out.ensures.symbols in
    let long : c.bytes_in.result ≡ length (spell f P sound) = c.bytes_in.ensures ∙ ap length (c.if-not-write_into.ensures.written refl ∙ spelled) in
    let bytes = c.sound_bytes.ensures.bytes ∙ ap sound_bytes c.channels-channels.ensures in
    (λ t. grind (arith, nat_tests, t, long, bytes), λ h. grind (arith, nat_tests, h, long, bytes))
