-- A plain frame and a coded one, from their first bit, or the first field that fails.
use Rattle.std.proofs.Common.{◌≡◌, ◌≤◌, ◌<◌, ◌+◌, length, drop, get_or, ap, sym, ◌∙◌, arith, length-drop, Ok}
use Rattle.dst_spec.specs.Bits.{bits, number_from}
use Rattle.dst_spec.specs.Reasons.{reason_number}
use Rattle.dst_spec.specs.Fields.{number, read}
use Rattle.dst_spec.specs.Offends.{header_fields, plain_frame_fields}
use Rattle.dst_spec.specs.declared.faults.FrameFault.{FrameFault}
use Rattle.dst_spec.proofs.Numbers.{length-bits}
use Rattle.dst_spec.proofs.Meaning.{first_number}
use Rattle.bit_io.specs.Reading.{left}
use Rattle.frame_header.proofs.Stepping.{handed_on}
use Rattle.frame_header.proofs.Early.{early_reason, early_number, early_header, early_plain_frame}
use Rattle.frame_header.proofs.Frames.{first_cut, plain_fails, plain_nowhere, header_fails, IsCodedFrom, coded_from}
use Rattle.frame_header.proofs.view.view_frame.Goals as goal

abbrev Is8 : FrameFault → Type 0
Is8 fault = reason_number fault.reason ≤ 8

pub returns-in_err-coded-clause-fault : goal.returns-in_err-coded-clause-fault
returns-in_err-coded-clause-fault c =
    handed_on _ _ _ c.from_residual.ensures.1
    (first_cut _ _ _ _ (record { bytes = c.new-reader.ensures.bytes; place = c.new-reader.ensures.place }) c.in_err-coded.ensures.fault)

pub returns-in_err-coded-clause-reason : goal.returns-in_err-coded-clause-reason
returns-in_err-coded-clause-reason c =
    handed_on _ _ Is8 c.from_residual.ensures.1 (early_reason (number 1) _ _ _ (early_number 1) c.in_err-coded.ensures.fault)

pub lend_sound-requires-clause-plain : goal.lend_sound-requires-clause-plain
lend_sound-requires-clause-plain c =
    let a = c.new-reader.result in
    let first : c.in_ok-coded.coded ≡ number_from (left a) 0 1 = c.in_ok-coded.ensures.first in
    let all : left a ≡ bits c.args.frame.now = ap (λ i. drop i (bits a.bytes)) c.new-reader.ensures.place ∙ ap bits c.new-reader.ensures.bytes in
    sym (ap (λ xs. get_or xs 0 0) all) ∙ sym (first_number (left a)) ∙ sym first ∙ c.if-coded-eq0.true

pub returns-in_err-sound-clause-fault : goal.returns-in_err-sound-clause-fault
returns-in_err-sound-clause-fault c =
    handed_on _ _ _ c.from_residual-in_err-sound.ensures.1
    (plain_fails _ _ _ _ _ _ (record { bytes = c.new-reader.ensures.bytes; place = c.new-reader.ensures.place })
    c.in_ok-coded.ensures.read c.if-coded-eq0.true c.in_err-sound.ensures.fault)

pub returns-in_err-sound-clause-reason : goal.returns-in_err-sound-clause-reason
returns-in_err-sound-clause-reason c =
    handed_on _ _ Is8 c.from_residual-in_err-sound.ensures.1
    (early_reason (plain_frame_fields c.args.channels) _ _ _ (early_plain_frame c.args.channels) c.in_err-sound.ensures.fault)

pub returns-then-coded-eq0-clause-plain_whole : goal.returns-then-coded-eq0-clause-plain_whole
returns-then-coded-eq0-clause-plain_whole c =
    plain_nowhere _ _ _ _ _ (record { bytes = c.new-reader.ensures.bytes; place = c.new-reader.ensures.place })
    c.in_ok-coded.ensures.read c.if-coded-eq0.true c.in_ok-sound.ensures.whole

pub read_header-requires-clause-few : goal.read_header-requires-clause-few
read_header-requires-clause-few c =
    let b = c.read_number.new.reader in
    let bytes : length b.bytes ≡ length c.args.frame.now = ap length (c.in_ok-coded.ensures.bytes ∙ c.new-reader.ensures.bytes) in
    omega (arith, length-drop b.place (bits b.bytes), length-bits b.bytes, bytes, c.requires, c.check_bits.ensures)

pub read_header-requires-clause-coded : goal.read_header-requires-clause-coded
read_header-requires-clause-coded c =
    let a = c.new-reader.result in
    let b = c.read_number.new.reader in
    let first : c.in_ok-coded.coded ≡ number_from (left a) 0 1 = c.in_ok-coded.ensures.first in
    let fits : c.in_ok-coded.coded < 2 = c.in_ok-coded.ensures.fits in
    let one : c.in_ok-coded.coded ≡ 1 = omega (arith, fits, c.if-coded-eq0.false) in
    let all : left a ≡ bits b.bytes = ap (λ i. drop i (bits a.bytes)) c.new-reader.ensures.place ∙ ap bits (sym c.in_ok-coded.ensures.bytes) in
    sym (ap (λ xs. get_or xs 0 0) all) ∙ sym (first_number (left a)) ∙ sym first ∙ one

pub returns-in_err-header-clause-fault : goal.returns-in_err-header-clause-fault
returns-in_err-header-clause-fault c =
    let b = c.read_number.new.reader in
    let place : b.place ≡ 1 = c.in_ok-coded.ensures.place ∙ ap (λ i. i + 1) c.new-reader.ensures.place in
    let failed = ap (λ i. read (header_fields c.args.channels.channels) (left b) i) place ∙ c.in_err-header.ensures.fault in
    handed_on _ _ _ c.from_residual-in_err-header.ensures.1
    (header_fails _ _ _ _ _ _ (record { bytes = c.new-reader.ensures.bytes; place = c.new-reader.ensures.place })
    c.in_ok-coded.ensures.read c.if-coded-eq0.false failed)

pub returns-in_err-header-clause-reason : goal.returns-in_err-header-clause-reason
returns-in_err-header-clause-reason c =
    handed_on _ _ Is8 c.from_residual-in_err-header.ensures.1
    (early_reason (header_fields c.args.channels.channels) _ _ _ (early_header c.args.channels.channels) c.in_err-header.ensures.fault)

-- what is read of a coded frame, up to its code
coded : (c : goal.After-rest) → IsCodedFrom c.args.channels c.args.frame.now c.read_header.new.reader
coded c =
    let b = c.read_number.new.reader in
    let h = c.in_ok-header in
    let place : b.place ≡ 1 = c.in_ok-coded.ensures.place ∙ ap (λ i. i + 1) c.new-reader.ensures.place in
    let gave = ap (λ i. read (header_fields c.args.channels.channels) (left b) i) place ∙ h.ensures.fields
    ∙ ap (λ i. Ok (h.header.params, left c.read_header.new.reader, i)) (sym h.ensures.place) in
    coded_from _ _ _ _ _ _ _ (record { bytes = c.new-reader.ensures.bytes; place = c.new-reader.ensures.place })
    c.in_ok-coded.ensures.read c.if-coded-eq0.false gave (h.ensures.bytes ∙ c.in_ok-coded.ensures.bytes ∙ c.new-reader.ensures.bytes)

pub returns-clause-first_bit : goal.returns-clause-first_bit
returns-clause-first_bit c = rw c.rest.ensures.first (coded c).first_bit

pub returns-clause-range : goal.returns-clause-range
returns-clause-range c = rw c.rest.ensures.first (coded c).range

pub returns-clause-coded_whole : goal.returns-clause-coded_whole
returns-clause-coded_whole c = rw c.rest.ensures.first (coded c).whole
