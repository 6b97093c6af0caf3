-- What is laid out are the symbols of the sound, so what is written is its spelling by these parameters.
use Rattle.std.proofs.Common.{◌≡◌, ap, ap₂, ◌∙◌, false, arith}
use Rattle.dst_spec.specs.Symbols.{symbols}
use Rattle.dst_spec.specs.Sample.{sound_bytes}
use Rattle.frame_store.specs.Pairs.{all_pairs}
use Rattle.frame_store.proofs.Spelled.{spelled-bytes, spelled-length}
use Rattle.frame_store.proofs.spell.spell_frame.Goals as goal

-- what is laid out are the symbols of the sound
laid : (c : goal.After-scratch-2-1) → all_pairs c.args.params.now c.lay_out.new.symbols
    ≡ symbols c.args.scratch.now.channels c.args.params.now c.args.sound.now false
laid c =
    let own = c.begin.ensures.channels ∙ c.scratch.invariant.predicts ∙ ap (λ v. v.channels) c.scratch.view_is in
    c.lay_out.ensures.symbols ∙ ap₂ (λ g s. symbols g c.args.params.now s false) own c.begin.ensures.sound

pub returns-clause-fits : goal.returns-clause-fits
returns-clause-fits c =
    let long = spelled-length c.args.scratch.now.channels c.args.params.now c.args.sound.now c.lay_out.new.symbols (laid c) in
    let bytes = ap sound_bytes (ap (λ v. v.channels) c.scratch.view_is) in
    let fits = c.write_into.ensures.fits in
    (λ t. omega (arith, long, fits.0 t, bytes), λ h. fits.1 (omega (arith, long, h, bytes)))

pub returns-clause-spelled : goal.returns-clause-spelled
returns-clause-spelled c = λ t.
    c.write_into.ensures.written t ∙ spelled-bytes c.args.scratch.now.channels c.args.params.now c.args.sound.now c.lay_out.new.symbols (laid c)
