-- What a plain frame and a coded one decode to, or where they offend.
use Rattle.std.proofs.Common.{◌≡◌, ◌-◌, length, get_or, sym, subst, ◌∙◌, refl}
use Rattle.dst_spec.specs.Bits.{bits}
use Rattle.dst_spec.proofs.Meaning.{meaning_is_no_fault}
use Rattle.dst_spec.proofs.Unique.{meaning_of_tail}
use Rattle.arith_decoder.specs.Decoding.{IsCodeFault}
use Rattle.dst_frames.specs.Coded.{IsCodeOfSound}
use Rattle.dst_frames.proofs.Frames.{is_sound, plain_means, coded_means, code_offends}
use Rattle.dst_frames.proofs.frame.decode_with.Goals as goal

pub returns-in-Err-clause-no_sound : goal.returns-in-Err-clause-no_sound
returns-in-Err-clause-no_sound c = λ sound means.
    meaning_is_no_fault c.args.channels c.args.frame.now sound c.in-Err.fault c.multiple-octets.ensures.shape means c.in-Err.ensures.fault

pub returns-in-Ok-Plain-clause-sound : goal.returns-in-Ok-Plain-clause-sound
returns-in-Ok-Plain-clause-sound c =
    let f = c.args.channels in
    let out = c.copy_from_slice.new.self in
    let plain = rw c.in-Ok-Plain.field-0-is at c.in-Ok-Plain.ensures.plain in
    let s = is_sound f out (c.copy_from_slice.ensures.len ∙ c.requires.out) c.type_inv.out in
    plain_means f c.args.frame.now c.in-Ok-Plain.sound.now out
    (length c.args.frame.now - 1 - length c.in-Ok-Plain.sound.now) plain c.copy_from_slice.ensures.after s refl

-- what a coded frame decodes to
pub returns-in-Ok-clause-sound : goal.returns-in-Ok-clause-sound
returns-in-Ok-clause-sound c =
    let f = c.args.channels in
    let frame = c.args.frame.now in
    let out = c.decode_code.new.out in
    let P = c.in-Ok-Coded.params in
    let place = c.in-Ok-Coded.code.first in
    let bytes = rw c.in-Ok-Coded.field-0-is at c.in-Ok-Coded.ensures.bytes in
    let inside = rw c.in-Ok-Coded.field-0-is at c.in-Ok-Coded.ensures.inside in
    let header = rw c.in-Ok-Coded.field-0-is at c.in-Ok-Coded.ensures.header in
    let s = is_sound f out (c.decode_code.auto.out ∙ c.requires.out) c.type_inv.out in
    let code = subst (λ bs. IsCodeOfSound f P (bits bs) place out c.in-Ok.used) bytes
    (c.in-Ok.ensures.sound f (sym c.requires.tables) c.multiple-octets.ensures.multiple) in
    let first : get_or (bits frame) place 0 ≡ 0 = subst (λ bs. get_or (bits bs) place 0 ≡ 0) bytes c.in-Ok.ensures.first_bit in
    coded_means f P frame out place c.in-Ok.used c.unread.result inside header first s code c.unread.ensures

pub returns-in-Ok-clause-whole : goal.returns-in-Ok-clause-whole
returns-in-Ok-clause-whole c = λ fault o.
    let means = meaning_of_tail c.args.channels c.args.frame.now c.decode_code.new.out c.unread.result (returns-in-Ok-clause-sound c) in
    meaning_is_no_fault c.args.channels c.args.frame.now c.decode_code.new.out fault c.multiple-octets.ensures.shape means o

pub returns-in-Err-decode_code-clause-fault : goal.returns-in-Err-decode_code-clause-fault
returns-in-Err-decode_code-clause-fault c =
    let place = c.in-Ok-Coded.code.first in
    let bytes = rw c.in-Ok-Coded.field-0-is at c.in-Ok-Coded.ensures.bytes in
    let first = rw c.in-Ok-Coded.field-0-is at c.in-Ok-Coded.ensures.first_bit in
    let range = rw c.in-Ok-Coded.field-0-is at c.in-Ok-Coded.ensures.range in
    let fault = subst (λ bs. IsCodeFault (bits bs) place c.in-Err-decode_code.fault) bytes c.in-Err-decode_code.ensures.fault in
    code_offends c.args.channels c.args.frame.now place c.in-Err-decode_code.fault first range fault

pub returns-in-Err-decode_code-clause-no_sound : goal.returns-in-Err-decode_code-clause-no_sound
returns-in-Err-decode_code-clause-no_sound c = λ sound means.
    meaning_is_no_fault c.args.channels c.args.frame.now sound c.in-Err-decode_code.fault c.multiple-octets.ensures.shape means
    (returns-in-Err-decode_code-clause-fault c)
