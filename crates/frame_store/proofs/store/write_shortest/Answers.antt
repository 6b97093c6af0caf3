-- The choice is laid out and written, and fits since it isn't longer than the plain form.
use Rattle.std.proofs.Common.{◌≡◌, ◌+◌, ◌*◌, ◌≤◌, false, length, ap, ap₂, sym, ◌∙◌, arith, IsTrue}
use Rattle.dst_spec.specs.Sample.{sound_bytes}
use Rattle.dst_spec.specs.Symbols.{symbols}
use Rattle.dst_spec.specs.Spell.{spell, header_spelling, code_spelling}
use Rattle.frame_store.specs.Pairs.{all_pairs}
use Rattle.frame_store.proofs.Spelled.{spelled-bytes, spelled-length}
use Rattle.frame_store.proofs.store.write_shortest.Goals as goal

-- what is laid out are the symbols of the choice
laid : (c : goal.After-write_into) → all_pairs c.index-found-place.result c.lay_out.new.symbols
    ≡ symbols c.args.predictions.now.channels c.index-found-place.result c.args.predictions.now.sound false
laid c =
    c.lay_out.ensures.symbols
    ∙ ap₂ (λ f s. symbols f c.index-found-place.result s false) c.shortest.ensures.channels c.shortest.ensures.sound

pub returns-in-Some-clause-written : goal.returns-in-Some-clause-written
returns-in-Some-clause-written c = λ t.
    let f = c.args.predictions.now.channels in
    let sound = c.args.predictions.now.sound in
    let P = c.index-found-place.result in
    c.write_into.ensures.written t ∙ spelled-bytes f P sound c.lay_out.new.symbols (laid c)
    ∙ ap (λ Q. spell f Q sound) c.index-found-place.is ∙ sym (c.in-Some.ensures.some P)

pub returns-in-Some-clause-none : goal.returns-in-Some-clause-none
returns-in-Some-clause-none c = λ t.
    let f = c.args.predictions.now.channels in
    let sound = c.args.predictions.now.sound in
    let P = c.index-found-place.result in
    let xs = c.lay_out.new.symbols in
    let few = c.in-Some.ensures.fits P in
    let same = ap (λ Q. length (spell f Q sound)) c.index-found-place.is in
    let long = spelled-length f P sound xs (laid c) in
    let bytes = c.sound_bytes.ensures.bytes ∙ ap sound_bytes c.channels-channels.ensures in
    let fits : length (header_spelling P) + length (code_spelling (all_pairs P xs)) ≤ 8 * (1 + sound_bytes c.channels-channels.result) =
    omega (arith, long, few, same, bytes) in
    let h : IsTrue c.write_into.result = c.write_into.ensures.fits.1 fits in
    absurd cc
