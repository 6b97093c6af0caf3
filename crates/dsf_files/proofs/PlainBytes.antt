-- The form that stands for a DSF file is bytes.
use Rattle.std.proofs.Common.{◌≡◌, ℕ, zero, suc, ◌+◌, ◌*◌, ◌/◌, ◌%◌, ◌^◌, ◌<◌, ◌≤◌, ◌==◌, if◌then◌else◌, Bool, true, false, List, [], ◌∷◌, ◌++◌}
use Rattle.std.proofs.Common.{length, get_or, refl, arith}
use Rattle.std.specs.Prelude.{codes, nat_lt, flat_map}
use Rattle.std.specs.Fmt.{digits}
use Rattle.std.specs.List.{list_all, range_with_len}
use Rattle.std.specs.Int.{byte_at}
use Rattle.std.proofs.lemmas.Bool.{ltb-true}
use Rattle.std.proofs.Math.Nat.{mod-lt}
use Rattle.byteorder.specs.Endian.{big_bytes}
use Rattle.dst_spec.specs.Bits.{AreBytes}
use Rattle.dst_spec.proofs.Lists.{both_true}
use Rattle.dsdiff_spec.specs.Dsf.{dsf_of, octets, dsf_bit, dsf_sample, dsfk, dsdiff}
use Rattle.dsdiff_spec.specs.Made.{channel_id, fver, prop_of, plain_form}
use Rattle.dsdiff_spec.specs.Samples.{sound_of}
use Rattle.dsdiff_spec.specs.Written.{chunk, cmpr_plain}
use Rattle.dsdiff_spec.proofs.ByteLists.{bytes_joined}
use Rattle.dsf_files.proofs.SoundSamples.{sound_is_bytes}
use Prim.Native.String.{String}

by_test : (xs : List ℕ) → list_all (λ b. nat_lt b 256) xs ≡ true → AreBytes xs
by_test [] h = tt
by_test (x ∷ xs) h =
    let both = both_true (nat_lt x 256) (list_all (λ b. nat_lt b 256) xs) h in
    (ltb-true x 256 both.0, by_test xs both.1)

byte_is_small : (n x : ℕ) → byte_at n x < 256
byte_is_small zero x = let some : 0 < 256 = omega arith in mod-lt x some
byte_is_small (suc n) x = let some : 0 < 256 = omega arith in mod-lt (x / 256 ^ suc n) some

number_is_bytes : (n x : ℕ) → AreBytes (big_bytes n x)
number_is_bytes zero x = tt
number_is_bytes (suc n) x = (byte_is_small n x, number_is_bytes n x)

pad_is_bytes : (b : Bool) → AreBytes (if b then 0 ∷ [] else [])
pad_is_bytes true = (omega arith, tt)
pad_is_bytes false = tt

chunk_is_bytes : (name : String) (body : List ℕ) → AreBytes (codes name) → AreBytes body → AreBytes (chunk name body)
chunk_is_bytes name body a b =
    bytes_joined (codes name ++ big_bytes 8 (length body) ++ body) (if length body % 2 == 1 then 0 ∷ [] else [])
    (bytes_joined (codes name ++ big_bytes 8 (length body)) body (bytes_joined (codes name) (big_bytes 8 (length body)) a (number_is_bytes 8 (length body))) b)
    (pad_is_bytes (length body % 2 == 1))

ids_are_bytes : (c : ℕ) → 1 ≤ c → c ≤ 6 → AreBytes (flat_map channel_id (range_with_len 0 c))
unfolding digits
ids_are_bytes zero least most = absurd (omega (arith, least))
ids_are_bytes (suc zero) least most = by_test (flat_map channel_id (range_with_len 0 1)) refl
ids_are_bytes (suc (suc zero)) least most = by_test (flat_map channel_id (range_with_len 0 2)) refl
ids_are_bytes (suc (suc (suc zero))) least most = by_test (flat_map channel_id (range_with_len 0 3)) refl
ids_are_bytes (suc (suc (suc (suc zero)))) least most = by_test (flat_map channel_id (range_with_len 0 4)) refl
ids_are_bytes (suc (suc (suc (suc (suc zero))))) least most = by_test (flat_map channel_id (range_with_len 0 5)) refl
ids_are_bytes (suc (suc (suc (suc (suc (suc zero)))))) least most = by_test (flat_map channel_id (range_with_len 0 6)) refl
ids_are_bytes (suc (suc (suc (suc (suc (suc (suc c))))))) least most = absurd (omega (arith, most))

prop_is_bytes : (c m : ℕ) → 1 ≤ c → c ≤ 6 → AreBytes (prop_of c m)
prop_is_bytes c m least most =
    let ids = flat_map channel_id (range_with_len 0 c) in
    let fs = chunk "FS  " (big_bytes 4 (2822400 * m)) in
    let chnl = chunk "CHNL" (big_bytes 2 c ++ ids) in
    chunk_is_bytes "PROP" (codes "SND " ++ fs ++ chnl ++ cmpr_plain) (by_test (codes "PROP") refl)
    (bytes_joined (codes "SND " ++ fs ++ chnl) cmpr_plain
    (bytes_joined (codes "SND " ++ fs) chnl
    (bytes_joined (codes "SND ") fs (by_test (codes "SND ") refl)
    (chunk_is_bytes "FS  " (big_bytes 4 (2822400 * m)) (by_test (codes "FS  ") refl) (number_is_bytes 4 (2822400 * m))))
    (chunk_is_bytes "CHNL" (big_bytes 2 c ++ ids) (by_test (codes "CHNL") refl)
    (bytes_joined (big_bytes 2 c) ids (number_is_bytes 2 c) (ids_are_bytes c least most))))
    (by_test cmpr_plain refl))

pub samples_are_bits : (f : List ℕ) (c t : ℕ) → dsf_sample f c t < 2
samples_are_bits f c t = go (nat_lt t (dsf_of f).samples)
  where
    go : (b : Bool) → (if b then get_or f (92 + (t / 32768 * (dsf_of f).channels + c) * 4096 + t % 32768 / 8) 0 / 2 ^ dsf_bit (dsf_of f).bits t % 2 else 0) < 2
    go true = omega arith
    go false = omega arith

pub form_is_bytes : (f : List ℕ) → 1 ≤ (dsf_of f).channels → (dsf_of f).channels ≤ 6 → (dsf_of f).bits < 256 → AreBytes (dsdiff f)
unfolding plain_form
form_is_bytes f least most order =
    let d = dsf_of f in
    let prop = prop_of d.channels d.multiple in
    let sound = sound_of (dsf_sample f) d.channels (octets d) in
    let dsd = chunk "DSD " sound in
    let all = fver ++ (prop ++ (dsd ++ (dsfk d ++ []))) in
    let body = 1 ∷ big_bytes 8 d.samples ++ big_bytes 4 d.type ++ d.bits ∷ [] in
    let last = chunk_is_bytes "DSFK" body (by_test (codes "DSFK") refl)
    (bytes_joined (1 ∷ big_bytes 8 d.samples ++ big_bytes 4 d.type) (d.bits ∷ [])
    (bytes_joined (1 ∷ big_bytes 8 d.samples) (big_bytes 4 d.type) (omega arith, number_is_bytes 8 d.samples) (number_is_bytes 4 d.type)) (order, tt)) in
    bytes_joined (codes "FRM8" ++ big_bytes 8 (4 + length all) ++ codes "DSD ") all
    (bytes_joined (codes "FRM8" ++ big_bytes 8 (4 + length all)) (codes "DSD ")
    (bytes_joined (codes "FRM8") (big_bytes 8 (4 + length all)) (by_test (codes "FRM8") refl) (number_is_bytes 8 (4 + length all)))
    (by_test (codes "DSD ") refl))
    (bytes_joined fver (prop ++ (dsd ++ (dsfk d ++ []))) (by_test fver refl)
    (bytes_joined prop (dsd ++ (dsfk d ++ [])) (prop_is_bytes d.channels d.multiple least most)
    (bytes_joined dsd (dsfk d ++ [])
    (chunk_is_bytes "DSD " sound (by_test (codes "DSD ") refl) (sound_is_bytes (dsf_sample f) d.channels (octets d) (samples_are_bits f)))
    (bytes_joined (dsfk d) [] last tt))))
