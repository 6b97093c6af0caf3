-- What cutting writes is accepted, its frames are those that were asked for, its index is its walk, and it is decoded to their sounds.
use Rattle.std.proofs.Common.{ℕ, ◌≤◌, List, length, take, ap, sym, subst, arith}
use Rattle.std.specs.List.{AllZip, concat}
use Rattle.dst_spec.specs.Sample.{Shape}
use Rattle.dst_spec.specs.Means.{Means}
use Rattle.dsdiff_spec.specs.Form.{shape}
use Rattle.dsdiff_spec.specs.Rules.{accepted}
use Rattle.dsdiff_spec.specs.Decoded.{Plain, frames_of, decoded_with}
use Rattle.dsdiff_spec.specs.Laws.{CuttingLaw, cut_file, cut_size, those_from_to}
use Rattle.dsdiff_laws.proofs.Answered.{decodes, checks, lists, writes}
use Rattle.dsdiff_laws.proofs.CutRules.{CutParts, cut_parts}
use Rattle.dsdiff_laws.proofs.CutForm.{same_shape, frames_is, size_is, pad_is, cmpr_is, nothing_is_kept}
use Rattle.dsdiff_laws.proofs.CutWalk.{frames_are, is_answered, is_bytes}

decoded_to : (file : List ℕ) (first last : ℕ) (le : first ≤ last) (c : CutParts file first last) (sounds : List (List ℕ)) →
    AllZip (Means (shape (accepted file))) (those_from_to first last (frames_of file (accepted file))) sounds →
    Plain (cut_file file first last) (accepted (cut_file file first last))
    (decoded_with (take (cut_size (accepted file) first last) (concat sounds)) (cut_file file first last) (accepted (cut_file file first last)))
decoded_to file first last le c sounds meant =
    let g = cut_file file first last in
    record {
      sounds = sounds;
      each = subst (λ (f : Shape). AllZip (Means f) (frames_of g (accepted g)) sounds) (sym (same_shape file first last le c))
          (subst (λ ws. AllZip (Means (shape (accepted file))) ws sounds) (sym (frames_are file first last le c)) meant);
      written = ap (λ n. decoded_with (take n (concat sounds)) g (accepted g)) (sym (size_is file first last le c));
    }

pub cutting : CuttingLaw
cutting file first last le accepts =
    let c = cut_parts file first last accepts.0 accepts.1 in
    let g = cut_file file first last in
    let bytes = is_bytes file first last le c in
    let a = is_answered file first last le c in
    record {
      decoded = (bytes, decodes g a);
      checked = (bytes, checks g a);
      listed = (bytes, lists g a);
      each_written = λ k l b. (bytes, writes g a k (omega (arith, l, frames_is file first last le c)) b);
      frames = frames_are file first last le c;
      index_of_walk = (ap length a.one, a.compared);
      size = size_is file first last le c;
      pad = pad_is file first last le c;
      cmpr = cmpr_is file first last le c;
      nothing_kept = nothing_is_kept file first last le c;
      sound = decoded_to file first last le c;
    }
