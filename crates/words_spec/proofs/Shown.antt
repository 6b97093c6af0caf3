-- The header of a coded frame, shown also where the frame offends behind it.
use Rattle.std.proofs.Common.{[], ◌∷◌, take, replicate, refl, inl, inr, false, pos, arith, ◌≡◌, List, ap, sym, subst, ◌++◌}
use Rattle.std.specs.Int.Signed.{le_z_yes}
use Rattle.dst_spec.specs.Bits.{low_bits, bits}
use Rattle.dst_spec.specs.Table.{filter_kind, prob_kind, HasTable, plain, plain_values, table_bits}
use Rattle.dst_spec.specs.Map.{Numbers, map_numbers}
use Rattle.dst_spec.specs.Header.{Params, IsParams, HasHeader, HasTables}
use Rattle.dst_spec.specs.Offends.{Offends}
use Rattle.dst_spec.specs.declared.faults.FrameFault.{FrameFault}
use Rattle.dst_spec.specs.declared.faults.Reason.TheVariants.{FirstCodeBit}
use Rattle.dst_spec.proofs.Frames.{frame_with_code_of_zeros}
use Rattle.dst_spec.proofs.Refusals.{fields_open}
use Rattle.dsdiff_spec.specs.Form.{shape_of}
use Rattle.dsdiff_spec.specs.Rules.{accepted}
use Rattle.dsdiff_spec.specs.Words.{show_frame}
use Rattle.dsdiff_spec.specs.Outcome.{Answer, Refuses, IsStopped}
use Rattle.words_spec.specs.Outcome.{Outcome}
use Rattle.dsdiff_spec.proofs.Files.{example}
use Rattle.dsdiff_spec.proofs.Forms.{but}
use Rattle.words_spec.proofs.Commands.{words}
use Rattle.words_spec.proofs.Outcomes.{outcome_open, says, meaning_is_not_refused, mono_shape, frame_of_ones_is_bytes}

-- the filter 0 and the probabilities 128 and 128 for one channel
abbrev params : Params
params = record { filter_map = 0 ∷ []; prob_map = 0 ∷ []; half_prob = false ∷ []; filters = (pos 0 ∷ []) ∷ []; probs = (128 ∷ 128 ∷ []) ∷ [] }

filter_table : HasTable filter_kind (pos 0 ∷ []) (replicate 17 0)
unfolding low_bits plain_values table_bits
filter_table = record {
  table = record { least = omega arith; most = omega arith; each = ((le_z_yes tt, le_z_yes tt), tt); alone = λ e. absurd cc };
  spelling = plain;
  suits = tt;
  spelled = refl;
}

prob_table : HasTable prob_kind (pos 128 ∷ pos 128 ∷ []) (0 ∷ 0 ∷ 0 ∷ 0 ∷ 0 ∷ 1 ∷ 0 ∷ replicate 14 1)
unfolding low_bits plain_values table_bits
prob_table = record {
  table = record {
    least = omega arith;
    most = omega arith;
    each = ((le_z_yes tt, le_z_yes tt), ((le_z_yes tt, le_z_yes tt), tt));
    alone =
        λ e f. absurd (omega arith);
  };
  spelling = plain;
  suits = tt;
  spelled = refl;
}

lawful : IsParams 1 params
unfolding Numbers
lawful = record {
  filter_map = (refl, (omega arith, tt));
  prob_map = (refl, (omega arith, tt));
  half_prob = refl;
  filter_count = refl;
  prob_count = refl;
  filters = (filter_table.table, tt);
  probs = (prob_table.table, tt);
}

-- the bits in front of the code, which is at bit 45
header : HasHeader 1 params (take 45 (bits (252 ∷ 0 ∷ 0 ∷ 5 ∷ 255 ∷ 248 ∷ [])))
unfolding low_bits bits map_numbers HasTables
header = record {
  params = lawful;
  segments = 1 ∷ 1 ∷ 1 ∷ [];
  maps = 1 ∷ 1 ∷ [];
  filters = _;
  probs = _;
  has_segments = inl (1 ∷ 1 ∷ [], inl refl, refl);
  has_maps = inl (1 ∷ [], inl (refl, refl), refl, refl);
  has_filters = (_, [], filter_table, refl, refl);
  has_probs = (_, [], prob_table, refl, refl);
  spelled = refl;
}

pub header_of_a_coded_frame_is_shown : Outcome (words ("show" ∷ "a" ∷ "0" ∷ [])) example
    (says 0 [] ("frame 0 coded length 6 filters 1 tables 1 code 45" ∷ []))
unfolding outcome_open bits low_bits
header_of_a_coded_frame_is_shown = inr (
  (λ fault r. meaning_is_not_refused _ _ _ mono_shape frame_of_ones_is_bytes (frame_with_code_of_zeros 4704) fault r.0, tt),
  (_, inr (params, 45, omega arith, header, refl), refl),
)

-- it isn't refused, since it offends at its code alone
alone : {A : Type 0} (x y : A) (before behind : List A) → x ∷ [] ≡ before ++ y ∷ behind → y ≡ x
alone x y [] behind e = cc
alone x y (b ∷ []) behind e = absurd cc
alone x y (b ∷ c ∷ bs) behind e = absurd cc

offends_at_its_code : (fault : FrameFault) → Offends (shape_of 1 1) (252 ∷ 0 ∷ 0 ∷ 5 ∷ 255 ∷ 252 ∷ []) fault → fault.reason ≡ FirstCodeBit
unfolding fields_open
offends_at_its_code fault e = let same : record { reason = FirstCodeBit; bit = 45 } ≡ fault = cc in ap (λ f. f.reason) (sym same)

pub header_of_an_offending_frame_is_shown : Outcome (words ("show" ∷ "a" ∷ "0" ∷ [])) (but 157 252 example)
    (says 0 [] ("frame 0 coded length 6 filters 1 tables 1 code 45" ∷ []))
unfolding outcome_open bits low_bits
header_of_an_offending_frame_is_shown = inr ((λ fault r. r.1 (offends_at_its_code fault r.0), tt), (_, inr (params, 45, omega arith, header, refl), refl))

pub offending_frame_is_not_refused_by_show : (o : Answer) → IsStopped (show_frame 0) (but 157 252 example) (accepted (but 157 252 example)) o → ⊥
unfolding outcome_open
offending_frame_is_not_refused_by_show o s =
    let is_stop = alone (0, 252 ∷ 0 ∷ 0 ∷ 5 ∷ 255 ∷ 252 ∷ []) s.stop s.before s.behind s.is_run in
    let refuses = subst (λ f. Refuses (show_frame 0) (shape_of 1 1) f.1 s.fault) is_stop s.refuses in
    refuses.1 (offends_at_its_code s.fault refuses.0)
