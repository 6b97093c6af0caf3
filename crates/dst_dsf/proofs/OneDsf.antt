-- Decoding a file to a DSF file has one outcome.
use Rattle.std.proofs.Common.{◌≡◌, ℕ, suc, List, [], take, drop, get_or, refl, sym, ◌∙◌, Option, Some, None}
use Rattle.std.specs.List.{enumerate_from}
use Rattle.dst_spec.specs.Bits.{AreBytes}
use Rattle.dsdiff_spec.specs.Dsf.{dsfk_fault, DsfBefore}
use Rattle.dsdiff_spec.specs.Form.{Form}
use Rattle.dsdiff_spec.specs.Parts.{kind}
use Rattle.dsdiff_spec.specs.Rules.{form_fault, form_of_kind}
use Rattle.dsdiff_spec.specs.Decoded.{frames_of}
use Rattle.dsdiff_spec.specs.Words.{decode, decode_dsf}
use Rattle.dsdiff_spec.specs.Refusal.{form_refusal, not_walked, refusal}
use Rattle.dsdiff_spec.specs.Outcome.{Answer, IsStopped, OfCommand}
use Rattle.dsdiff_spec.specs.declared.faults.FileFault.{FileFault}
use Rattle.dsdiff_spec.proofs.CodedFiles.{form_by, refused_by}
use Rattle.dsdiff_spec.proofs.Lawful.{first_gives_none}
use Rattle.dsdiff_spec.proofs.OneOutcome.{One, IsStoppedAt, stopped_at, split_at_stop}
use Rattle.dsdiff_spec.proofs.OneAnswer.{command_has_one_outcome}

-- what decoding to a DSF file writes in front of the first frame that is refused
abbrev pub IsStoppedDsf : List ℕ → Form → Answer → Type 0
IsStoppedDsf file form o = IsStoppedAt (DsfBefore file form) file form o

pub to_number : (file : List ℕ) (form : Form) (o : Answer) → IsStopped decode_dsf file form o → IsStoppedDsf file form o
to_number file form o s =
    stopped_at (DsfBefore file form) file form o s.before s.stop s.behind s.fault s.out s.is_run s.refuses s.first s.written s.answer

pub by_number : (file : List ℕ) (form : Form) (o : Answer) → IsStoppedDsf file form o → IsStopped decode_dsf file form o
by_number file form o s =
    let frames = frames_of file form in
    let split = split_at_stop form frames s.k s.fault s.stops in
    record {
      before = take s.k (enumerate_from 0 frames);
      stop = (s.k, get_or frames s.k []);
      behind = drop (suc s.k) (enumerate_from 0 frames);
      is_run = split.0;
      fault = s.fault;
      refuses = s.stops.refuses;
      first = split.1;
      out = s.out;
      written = s.written;
      answer = s.answer;
    }

-- ---- of an accepted file
pub rules_of_decode_dsf : (file : List ℕ) → refusal decode_dsf file ≡ form_refusal decode_dsf file
unfolding refusal
rules_of_decode_dsf file = refl

rules_of_decode : (file : List ℕ) → refusal decode file ≡ form_refusal decode file
unfolding refusal
rules_of_decode file = refl

pub decodable : (file : List ℕ) → refusal decode_dsf file ≡ None → refusal decode file ≡ None
decodable file none = rules_of_decode file ∙ go (form_fault file) (sym (rules_of_decode_dsf file) ∙ none)
  where
    go : (o : Option FileFault) → refused_by (form_by o file) decode_dsf file ≡ None → refused_by (form_by o file) decode file ≡ None
    go (Some fault) e = absurd cc
    go None e = first_gives_none (not_walked file (form_of_kind (kind file) file)) (dsfk_fault file (form_of_kind (kind file) file)) e

pub one_outcome : (file : List ℕ) → AreBytes file → One (OfCommand decode_dsf file (refusal decode_dsf file))
one_outcome file bytes = command_has_one_outcome decode_dsf file tt bytes
