-- What the rules on a body of `PROP` say where none of them is broken.
use Rattle.std.proofs.Common.{◌≡◌, ℕ, ◌≤◌, List, length, None}
use Rattle.std.specs.Prelude.{◌==◌, codes}
use Rattle.std.proofs.lemmas.Bool.{eqb-true, ltb-false, not-false, or_parts}
use Rattle.std.proofs.lemmas.Slice.Eq.{bytes_eq-Decides}
use Rattle.dsdiff_spec.proofs.Lawful.{first_gives_none, later_gives_none, when_not, moved_none}
use Rattle.dsdiff_spec.specs.Bytes.{bytes_at, ◌is◌}
use Rattle.dsdiff_spec.specs.Faults.{◌otherwise◌}
use Rattle.dsdiff_spec.specs.Parts.{in_prop, local}
use Rattle.dsdiff_spec.specs.Rules.{local_fault, moved, type_fault, rate_fault, channels_fault, compression_fault}

pub record IsWhole (body : List ℕ) : Type 0 where
  pub short : 4 ≤ length body
  pub type : bytes_at body 0 4 ≡ codes "SND "
  pub found : (in_prop body).fault ≡ None
  pub one : length (local "CMPR" body) ≡ 1

pub is_whole : (start : ℕ) (body : List ℕ) → local_fault start body ≡ None → IsWhole body
is_whole start body e =
    let behind_channels = compression_fault body in
    let behind_rate = channels_fault body otherwise behind_channels in
    let behind_found = rate_fault body otherwise behind_rate in
    let behind_type = moved start (in_prop body).fault otherwise behind_found in
    let type = or_parts _ _ (when_not _ _ (first_gives_none (type_fault body) behind_type e)) in
    let found = later_gives_none (type_fault body) behind_type e in
    let fields = later_gives_none (moved start (in_prop body).fault) behind_found found in
    let last = later_gives_none (channels_fault body) behind_channels (later_gives_none (rate_fault body) behind_rate fields) in
    let one = or_parts _ _ ((or_parts _ _ (when_not _ _ last)).0) in
    record {
      short = ltb-false (length body) 4 type.0;
      type = (bytes_eq-Decides (bytes_at body 0 4) (codes "SND ")).0 (not-false (bytes_at body 0 4 is "SND ") type.1);
      found = moved_none start (in_prop body).fault (first_gives_none (moved start (in_prop body).fault) behind_found found);
      one = eqb-true (length (local "CMPR" body)) 1 (not-false (length (local "CMPR" body) == 1) one.0);
    }
