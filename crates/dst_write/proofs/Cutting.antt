-- Pieces of a sound: where they lie, and what is read of them.
use Rattle.std.proofs.Common.{◌≡◌, ℕ, zero, suc, ◌+◌, ◌*◌, ◌-◌, ◌^◌, ◌<◌, ◌≤◌, List, ◌++◌, length, take, drop, replicate, min, refl, ap, sym, ◌∙◌}
use Rattle.std.proofs.Common.{arith, length-drop}
use Rattle.std.proofs.lemmas.List.{length-take, take-take, take_min, drop-drop, drop-take}
use Rattle.dst_spec.specs.Sample.{sound_bytes}
use Rattle.dsdiff_spec.specs.Bytes.{bytes_at}
use Rattle.dsdiff_spec.specs.Form.{sound_bytes_of, frames_for}
use Rattle.dsdiff_chunks.specs.declared.form.PlainForm.{PlainForm}
use Rattle.dsdiff_chunks.specs.Forms.{plain_seen}
use Rattle.dsdiff_chunks.proofs.LawfulForms.{sound_inside}
use Rattle.dst_commands.proofs.PassedOn.{needed}
use Rattle.dst_write.specs.Feeding.{piece_of}

-- ---- a piece that is needed begins in the sound
pub begins_in : (n size k : ℕ) → k < frames_for n size → k * n < size
begins_in zero size k h = absurd (omega arith)
begins_in (suc n) size k h = (needed (suc n) size (frames_for (suc n) size) (omega arith) refl).1 k h

-- a piece of a plain form's sound, and the sound in the file
pub record LiesIn (f : PlainForm) (n k : ℕ) : Type 0 where
  pub begins : k * n < f.sound.size
  pub ends : f.sound.place + 12 + f.sound.size ≤ f.end
  pub small : f.end ≤ 2 ^ 50 + 12

pub lies_in : (f : PlainForm) (n k : ℕ) → n ≡ sound_bytes f.channels → k < f.frames → LiesIn f n k
lies_in f n k is h =
    let bytes : sound_bytes_of (plain_seen f) ≡ n = ap sound_bytes f.shape ∙ sym is in
    let count : f.frames ≡ frames_for n f.sound.size = f.lawful.of_kind.frames ∙ ap (λ n. frames_for n f.sound.size) bytes in
    record {
      begins = begins_in n f.sound.size k (omega (arith, h, count));
      ends = sound_inside (plain_seen f) f.lawful;
      small = f.lawful.end;
    }

-- ---- what is read, and filled up, is the piece
pub piece_read : (n size place k count : ℕ) (file : List ℕ) → k * n ≤ size → place + size ≤ length file → count ≡ min (size - k * n) n →
    bytes_at file (place + k * n) count ++ replicate (n - count) 0x69 ≡ piece_of n (bytes_at file place size) k
piece_read n size place k count file inside within is =
    let a = k * n in
    let m = size - a in
    let rest = drop (place + a) file in
    let split : a + m ≡ size = omega arith in
    let part : drop a (take size (drop place file)) ≡ take m rest =
    ap (λ s. drop a (take s (drop place file))) (sym split) ∙ drop-take a m (drop place file) ∙ ap (take m) (drop-drop a place file) in
    let long : length (take m rest) ≡ m = omega (arith, length-take m rest, length-drop (place + a) file) in
    let least : min n (length (take m rest)) ≡ count = omega (arith, long, is) in
    let read : bytes_at (bytes_at file place size) a n ≡ take count rest =
    ap (take n) part ∙ sym (take_min n (take m rest)) ∙ ap (λ c. take c (take m rest)) least ∙ take-take count m rest (omega (arith, is)) in
    let whole : length (take count rest) ≡ count = omega (arith, length-take count rest, length-drop (place + a) file, is) in
    sym (ap (λ p. p ++ replicate (n - length p) 0x69) read ∙ ap (λ l. take count rest ++ replicate (n - l) 0x69) whole)
