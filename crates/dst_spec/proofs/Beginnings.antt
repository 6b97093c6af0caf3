-- The headers that frames begin with.
use Rattle.std.proofs.Common.{◌≡◌, ℕ, inl, inr, ℤ, pos, negsuc, List, [], ◌∷◌, ◌++◌, map, replicate, take, refl, arith}
use Rattle.std.specs.Int.Signed.{le_z_yes}
use Rattle.dst_spec.specs.Bits.{low_bits, bits}
use Rattle.dst_spec.specs.Table.{filter_kind, prob_kind, IsTable, HasTable, plain, coded}
use Rattle.dst_spec.specs.Map.{Numbers}
use Rattle.dst_spec.specs.Header.{IsParams, HasSegments, HasMaps, HasTables, HasHeader}
use Rattle.dst_spec.proofs.Examples.{params_of, shared_filter, spelling_open}
use Rattle.dst_spec.proofs.HeaderBits.{shared_filter_bits}

-- ---- tables
pub filter_0 : HasTable filter_kind (pos 0 ∷ []) (replicate 17 0)
unfolding spelling_open
filter_0 = record {
  table = record { least = omega arith; most = omega arith; each = ((le_z_yes tt, le_z_yes tt), tt); alone = λ e. absurd cc };
  spelling = plain;
  suits = tt;
  spelled = refl;
}

pub filter_1 : HasTable filter_kind (pos 1 ∷ []) (replicate 16 0 ++ 1 ∷ [])
unfolding spelling_open
filter_1 = record {
  table = record { least = omega arith; most = omega arith; each = ((le_z_yes tt, le_z_yes tt), tt); alone = λ e. absurd cc };
  spelling = plain;
  suits = tt;
  spelled = refl;
}

pub filter_minus_1 : HasTable filter_kind (negsuc 0 ∷ []) (replicate 8 0 ++ replicate 9 1)
unfolding spelling_open
filter_minus_1 = record {
  table = record { least = omega arith; most = omega arith; each = ((le_z_yes tt, le_z_yes tt), tt); alone = λ e. absurd cc };
  spelling = plain;
  suits = tt;
  spelled = refl;
}

pub filter_of_three_by_method_2 : HasTable filter_kind (pos 0 ∷ pos 0 ∷ pos 0 ∷ []) (0 ∷ 0 ∷ 0 ∷ 0 ∷ 0 ∷ 1 ∷ 0 ∷ 1 ∷ 1 ∷ 0 ∷ replicate 30 0)
unfolding spelling_open
filter_of_three_by_method_2 = record {
  table = record {
    least = omega arith;
    most = omega arith;
    each = ((le_z_yes tt, le_z_yes tt), ((le_z_yes tt, le_z_yes tt), ((le_z_yes tt, le_z_yes tt), tt)));
    alone = λ e. absurd cc;
  };
  spelling = coded 2 0;
  suits = (refl, omega arith, omega arith, omega arith);
  spelled = refl;
}

pub probs_128_128 : HasTable prob_kind (pos 128 ∷ pos 128 ∷ []) (0 ∷ 0 ∷ 0 ∷ 0 ∷ 0 ∷ 1 ∷ 0 ∷ replicate 14 1)
unfolding spelling_open
probs_128_128 = record {
  table = record {
    least = omega arith;
    most = omega arith;
    each = ((le_z_yes tt, le_z_yes tt), ((le_z_yes tt, le_z_yes tt), tt));
    alone = λ e f. absurd (omega arith);
  };
  spelling = plain;
  suits = tt;
  spelled = refl;
}

pub prob_128_alone : HasTable prob_kind (pos 128 ∷ []) (replicate 6 0)
unfolding spelling_open
prob_128_alone = record {
  table = record { least = omega arith; most = omega arith; each = ((le_z_yes tt, le_z_yes tt), tt); alone = λ e f. refl };
  spelling = plain;
  suits = tt;
  spelled = refl;
}

-- ---- headers of one channel without a half bit, from their parts
pub mono_params : (filter : List ℤ) (probs : List ℕ) → IsTable filter_kind filter → IsTable prob_kind (map pos probs) → IsParams 1 (params_of filter probs)
unfolding Numbers
mono_params filter probs f p = record {
  filter_map = (refl, (omega arith, tt));
  prob_map = (refl, (omega arith, tt));
  half_prob = refl;
  filter_count = refl;
  prob_count = refl;
  filters = (f, tt);
  probs = (p, tt);
}

pub mono_header : (filter : List ℤ) (probs segments maps front behind w : List ℕ) → HasSegments 1 segments → HasMaps (0 ∷ []) (0 ∷ []) maps →
    HasTable filter_kind filter front → HasTable prob_kind (map pos probs) behind →
    w ≡ 1 ∷ segments ++ maps ++ (0 ∷ []) ++ (front ++ []) ++ (behind ++ []) → HasHeader 1 (params_of filter probs) w
unfolding HasTables
mono_header filter probs segments maps front behind w s m f p e = record {
  params = mono_params filter probs f.table p.table;
  segments = segments;
  maps = maps;
  filters = front ++ [];
  probs = behind ++ [];
  has_segments = s;
  has_maps = m;
  has_filters = (front, [], f, refl, refl);
  has_probs = (behind, [], p, refl, refl);
  spelled = e;
}

-- one segmentation and one map, each given for all channels at once
abbrev at_once : List ℕ
at_once = 1 ∷ 1 ∷ 1 ∷ []

segments_at_once : HasSegments 1 at_once
segments_at_once = inl (1 ∷ 1 ∷ [], inl refl, refl)

maps_at_once : HasMaps (0 ∷ []) (0 ∷ []) (1 ∷ 1 ∷ [])
maps_at_once = inl (1 ∷ [], inl (refl, refl), refl, refl)

-- ---- the headers of frames, up to their first code bit
pub header_to_45 : HasHeader 1 (params_of (pos 0 ∷ []) (128 ∷ 128 ∷ [])) (take 45 (bits (252 ∷ 0 ∷ 0 ∷ 5 ∷ 255 ∷ 248 ∷ [])))
unfolding bits low_bits
header_to_45 = mono_header (pos 0 ∷ []) (128 ∷ 128 ∷ []) at_once (1 ∷ 1 ∷ []) (replicate 17 0) (0 ∷ 0 ∷ 0 ∷ 0 ∷ 0 ∷ 1 ∷ 0 ∷ replicate 14 1)
    (take 45 (bits (252 ∷ 0 ∷ 0 ∷ 5 ∷ 255 ∷ 248 ∷ []))) segments_at_once maps_at_once filter_0 probs_128_128 refl

pub header_of_coefficient_1 : HasHeader 1 (params_of (pos 1 ∷ []) (128 ∷ 128 ∷ [])) (take 45 (bits (252 ∷ 0 ∷ 1 ∷ 5 ∷ 255 ∷ 248 ∷ [])))
unfolding bits low_bits
header_of_coefficient_1 = mono_header (pos 1 ∷ []) (128 ∷ 128 ∷ []) at_once (1 ∷ 1 ∷ []) (replicate 16 0 ++ 1 ∷ [])
    (0 ∷ 0 ∷ 0 ∷ 0 ∷ 0 ∷ 1 ∷ 0 ∷ replicate 14 1) (take 45 (bits (252 ∷ 0 ∷ 1 ∷ 5 ∷ 255 ∷ 248 ∷ []))) segments_at_once maps_at_once filter_1 probs_128_128 refl

pub header_of_coefficient_minus_1 : HasHeader 1 (params_of (negsuc 0 ∷ []) (128 ∷ 128 ∷ [])) (take 45 (bits (252 ∷ 1 ∷ 255 ∷ 5 ∷ 255 ∷ 248 ∷ [])))
unfolding bits low_bits
header_of_coefficient_minus_1 = mono_header (negsuc 0 ∷ []) (128 ∷ 128 ∷ []) at_once (1 ∷ 1 ∷ []) (replicate 8 0 ++ replicate 9 1)
    (0 ∷ 0 ∷ 0 ∷ 0 ∷ 0 ∷ 1 ∷ 0 ∷ replicate 14 1) (take 45 (bits (252 ∷ 1 ∷ 255 ∷ 5 ∷ 255 ∷ 248 ∷ []))) segments_at_once maps_at_once filter_minus_1
    probs_128_128 refl

-- two segmentations, each given for all channels at once
pub header_of_two_segmentations : HasHeader 1 (params_of (pos 0 ∷ []) (128 ∷ 128 ∷ [])) (take 47 (bits (191 ∷ 0 ∷ 0 ∷ 1 ∷ 127 ∷ 254 ∷ [])))
unfolding bits low_bits
header_of_two_segmentations = mono_header (pos 0 ∷ []) (128 ∷ 128 ∷ []) (0 ∷ 1 ∷ 1 ∷ 1 ∷ 1 ∷ []) (1 ∷ 1 ∷ []) (replicate 17 0)
    (0 ∷ 0 ∷ 0 ∷ 0 ∷ 0 ∷ 1 ∷ 0 ∷ replicate 14 1) (take 47 (bits (191 ∷ 0 ∷ 0 ∷ 1 ∷ 127 ∷ 254 ∷ [])))
    (inr (1 ∷ 1 ∷ [], 1 ∷ 1 ∷ [], inl refl, inl refl, refl)) maps_at_once filter_0 probs_128_128 refl

-- two segmentations and two maps, each given for each channel
pub header_of_two_maps : HasHeader 1 (params_of (pos 0 ∷ []) (128 ∷ 128 ∷ [])) (take 48 (bits (148 ∷ 0 ∷ 0 ∷ 0 ∷ 191 ∷ 255 ∷ [])))
unfolding bits spelling_open
header_of_two_maps = mono_header (pos 0 ∷ []) (128 ∷ 128 ∷ []) (0 ∷ 0 ∷ 1 ∷ 0 ∷ 1 ∷ []) (0 ∷ 0 ∷ 0 ∷ []) (replicate 17 0)
    (0 ∷ 0 ∷ 0 ∷ 0 ∷ 0 ∷ 1 ∷ 0 ∷ replicate 14 1) (take 48 (bits (148 ∷ 0 ∷ 0 ∷ 0 ∷ 191 ∷ 255 ∷ [])))
    (inr (0 ∷ 1 ∷ [], 0 ∷ 1 ∷ [], inr refl, inr refl, refl)) two_maps filter_0 probs_128_128 refl
  where
    two_maps : HasMaps (0 ∷ []) (0 ∷ []) (0 ∷ 0 ∷ 0 ∷ [])
    two_maps = inr (0 ∷ [], 0 ∷ [], inr ([], refl, refl), inr ([], refl, refl), refl)

-- a filter of three coefficients by method 2, without a residual
pub header_of_method_2 : HasHeader 1 (params_of (pos 0 ∷ pos 0 ∷ pos 0 ∷ []) (128 ∷ 128 ∷ [])) (take 68 (bits (252 ∷ 11 ∷ 0 ∷ 0 ∷ 0 ∷ 0 ∷ 11 ∷ 255 ∷ 240 ∷ [])))
unfolding bits low_bits
header_of_method_2 = mono_header (pos 0 ∷ pos 0 ∷ pos 0 ∷ []) (128 ∷ 128 ∷ []) at_once (1 ∷ 1 ∷ []) (0 ∷ 0 ∷ 0 ∷ 0 ∷ 0 ∷ 1 ∷ 0 ∷ 1 ∷ 1 ∷ 0 ∷ replicate 30 0)
    (0 ∷ 0 ∷ 0 ∷ 0 ∷ 0 ∷ 1 ∷ 0 ∷ replicate 14 1) (take 68 (bits (252 ∷ 11 ∷ 0 ∷ 0 ∷ 0 ∷ 0 ∷ 11 ∷ 255 ∷ 240 ∷ [])))
    segments_at_once maps_at_once filter_of_three_by_method_2 probs_128_128 refl

-- a table of one probability, which is its length field alone
pub header_of_one_probability : HasHeader 1 (params_of (pos 0 ∷ []) (128 ∷ [])) (take 30 (bits (252 ∷ 0 ∷ 0 ∷ 0 ∷ [])))
unfolding bits low_bits
header_of_one_probability = mono_header (pos 0 ∷ []) (128 ∷ []) at_once (1 ∷ 1 ∷ []) (replicate 17 0) (replicate 6 0)
    (take 30 (bits (252 ∷ 0 ∷ 0 ∷ 0 ∷ []))) segments_at_once maps_at_once filter_0 prob_128_alone refl

-- ---- a header of two channels: the maps differ, and the second channel has a half bit
filter_20_minus_8 : HasTable filter_kind (pos 20 ∷ negsuc 7 ∷ [])
    ((0 ∷ 0 ∷ 0 ∷ 0 ∷ 0 ∷ 0 ∷ 1 ∷ 0 ∷ []) ++ (0 ∷ 0 ∷ 0 ∷ 0 ∷ 1 ∷ 0 ∷ 1 ∷ 0 ∷ 0 ∷ []) ++ (1 ∷ 1 ∷ 1 ∷ 1 ∷ 1 ∷ 1 ∷ 0 ∷ 0 ∷ 0 ∷ []))
unfolding spelling_open
filter_20_minus_8 = record {
  table = record { least = omega arith; most = omega arith; each = ((le_z_yes tt, le_z_yes tt), ((le_z_yes tt, le_z_yes tt), tt)); alone = λ e. absurd cc };
  spelling = plain;
  suits = tt;
  spelled = refl;
}

-- 5, 6, 7 by method 0, with the residuals 1 and 1
probs_5_6_7 : HasTable prob_kind (pos 5 ∷ pos 6 ∷ pos 7 ∷ [])
    ((0 ∷ 0 ∷ 0 ∷ 0 ∷ 1 ∷ 0 ∷ 1 ∷ 0 ∷ 0 ∷ []) ++ (0 ∷ 0 ∷ 0 ∷ 0 ∷ 1 ∷ 0 ∷ 0 ∷ []) ++ (0 ∷ 0 ∷ 0 ∷ []) ++ (0 ∷ 1 ∷ 0 ∷ []) ++ (0 ∷ 1 ∷ 0 ∷ []))
unfolding spelling_open
probs_5_6_7 = record {
  table = record {
    least = omega arith;
    most = omega arith;
    each = ((le_z_yes tt, le_z_yes tt), ((le_z_yes tt, le_z_yes tt), ((le_z_yes tt, le_z_yes tt), tt)));
    alone = λ e f. absurd (omega (arith, f));
  };
  spelling = coded 0 0;
  suits = (refl, omega arith, omega arith, omega arith);
  spelled = refl;
}

pub shared_filter_is_lawful : IsParams 2 shared_filter
unfolding Numbers
shared_filter_is_lawful = record {
  filter_map = (refl, (omega arith, (omega arith, tt)));
  prob_map = (refl, (omega arith, (omega arith, tt)));
  half_prob = refl;
  filter_count = refl;
  prob_count = refl;
  filters = (filter_20_minus_8.table, tt);
  probs = (probs_5_6_7.table, (prob_128_alone.table, tt));
}

pub header_of_two_channels : HasHeader 2 shared_filter (1 ∷ shared_filter_bits)
unfolding spelling_open HasTables
header_of_two_channels = record {
  params = shared_filter_is_lawful;
  segments = at_once;
  maps = 0 ∷ 1 ∷ 0 ∷ 1 ∷ [];
  filters = _;
  probs = _;
  has_segments = inl (1 ∷ 1 ∷ [], inl refl, refl);
  has_maps = inr (1 ∷ [], 0 ∷ 1 ∷ [], inl (refl, refl), inr (1 ∷ [], refl, refl), refl);
  has_filters = (_, [], filter_20_minus_8, refl, refl);
  has_probs = (_, _, probs_5_6_7, (_, [], prob_128_alone, refl, refl), refl);
  spelled = refl;
}
