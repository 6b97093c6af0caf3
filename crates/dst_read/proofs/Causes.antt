-- Of calls one behind the other: no count falls, and a fault has its cause among all of them.
use Rattle.std.proofs.Common.{◌≡◌, ℕ, ◌+◌, ◌≤◌, Result, Err, refl, sym, subst, arith}
use Rattle.std.specs.Prelude.{IfErr}
use Rattle.std.specs.declared.alloc.AllocError.{AllocError}
use Rattle.dst_spec.specs.declared.faults.FrameFault.{FrameFault}
use Rattle.dst_streams.proofs.Counts.{Rose-earlier}
use Rattle.dsdiff_spec.specs.declared.faults.FileFault.{FileFault}
use Rattle.dsdiff_chunks.specs.declared.copy.CopyFault.{CopyFault}
use Rattle.dsdiff_chunks.specs.declared.copy.CopyFault.TheVariants as copying
use Rattle.dsdiff_chunks.specs.declared.open.OpenFault.{OpenFault}
use Rattle.dsdiff_chunks.specs.declared.open.OpenFault.TheVariants.{Read, Memory, File}
use Rattle.dst_commands.specs.Passing.{FailedBy}
use Rattle.dst_read.specs.declared.faults.DecodeFault.{DecodeFault}
use Rattle.dst_read.specs.declared.faults.DecodeFault.TheVariants.{Source, Write, Frame}
use Rattle.dst_read.specs.declared.faults.Decoded.{Decoded}
use Rattle.dst_read.specs.Decoding.{of_device, HasItsCause}

-- what opening gives is within any bound that has room for a form besides
pub given_by_opening : (before now more : ℕ) → now ≤ before + (208948 + 48000000) → now ≤ before + 208948 + 48000000 + more
given_by_opening before now more h = omega arith

-- ---- causes
pub caused_by_device : (answered : DecodeFault) (fault : CopyFault) (a b c d : ℕ) → answered ≡ of_device fault →
    FailedBy fault a b c d → HasItsCause answered a b c d
caused_by_device answered copying.Read a b c d is h = subst (λ f. HasItsCause f a b c d) (sym is) h
caused_by_device answered copying.Write a b c d is h = subst (λ f. HasItsCause f a b c d) (sym is) h

pub caused_later : (fault : DecodeFault) (a b c d e f : ℕ) → a ≤ b → d ≤ e → HasItsCause fault b c e f → HasItsCause fault a c d f
caused_later (Source Read) a b c d e f p q h = Rose-earlier a b c p h
caused_later (Source (Memory refused)) a b c d e f p q h = h
caused_later (Source (File fault)) a b c d e f p q h = h
caused_later Write a b c d e f p q h = Rose-earlier d e f q h
caused_later (Frame k fault) a b c d e f p q h = h

pub its_cause : (r : Result Decoded DecodeFault) (fault : DecodeFault) (a b c d : ℕ) → IfErr r (λ f. HasItsCause f a b c d) → r ≡ Err fault →
    HasItsCause fault a b c d
its_cause r fault a b c d h e = subst (λ r. IfErr r (λ f. HasItsCause f a b c d)) e h

-- ---- one fault isn't another
abbrev pub failed : DecodeFault → Result Decoded DecodeFault
failed fault = Err fault

pub not_frame : (f : OpenFault) (k : ℕ) (fault : FrameFault) → failed (Source f) ≡ failed (Frame k fault) → ⊥
not_frame f k fault e = cc

pub not_write : (f : OpenFault) → failed (Source f) ≡ failed Write → ⊥
not_write f e = cc

pub not_read : (refused : AllocError) → failed (Source (Memory refused)) ≡ failed (Source Read) → ⊥
not_read refused e = cc

pub not_file : (refused : AllocError) (fault : FileFault) → failed (Source (Memory refused)) ≡ failed (Source (File fault)) → ⊥
not_file refused fault e = cc

-- ---- what is answered, by a number that is the size of the sound
pub decoded_alike : (frames m n : ℕ) → m ≡ n → ◌≡◌ {A = Decoded} (record { frames = frames; bytes = m }) (record { frames = frames; bytes = n })
decoded_alike frames m n e = subst (λ k. ◌≡◌ {A = Decoded} (record { frames = frames; bytes = m }) (record { frames = frames; bytes = k })) e refl
