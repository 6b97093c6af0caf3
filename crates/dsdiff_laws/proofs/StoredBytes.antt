-- The frames that encoding stores: how many, each no longer than a plain frame, each of them bytes, each meaning its piece of the sound.
use Rattle.std.proofs.Common.{◌≡◌, ℕ, ◌+◌, ◌-◌, ◌*◌, ◌<◌, ◌≤◌, nat_lt, Bool, true, false, cond, List, [], ◌∷◌, length, drop, map, fold}
use Rattle.std.proofs.Common.{replicate, refl, arith, length-append}
use Rattle.std.specs.List.{AllByRecursion, AllZip, range_with_len}
use Rattle.std.proofs.lemmas.List.{length-take, length-replicate}
use Rattle.dst_spec.specs.Bits.{AreBits, AreBytes, number_from, octets}
use Rattle.dst_spec.specs.Sample.{Shape, IsShape, IsSound, sound_bytes}
use Rattle.dst_spec.specs.Header.{Params, IsParams}
use Rattle.dst_spec.specs.Means.{Means}
use Rattle.dst_spec.specs.Symbols.{symbols}
use Rattle.dst_spec.specs.Spell.{header_spelling, code_spelling, spell, shorter, stored}
use Rattle.dst_spec.proofs.Lists.{all_append, AreBytes-take, AreBytes-drop, AreBytes-same}
use Rattle.dst_spec.proofs.Numbers.{AreBits-append, number_from-below}
use Rattle.dst_spec.proofs.SpelledBits.{AreBits-header}
use Rattle.dst_spec.proofs.Spelling.{storing_law, AreBits-code}
use Rattle.dsdiff_spec.specs.Bytes.{bytes_at}
use Rattle.dsdiff_spec.specs.Form.{frames_for}
use Rattle.dsdiff_spec.specs.Coded.{Picks, filled, pieces}
use Rattle.dsdiff_laws.proofs.CodedFile.{AreShort}

-- ---- a stored frame is bytes
octets_are : (xs ys : List ℕ) → AreBits xs → AreBytes (map (λ j. number_from xs (8 * j) 8) ys)
octets_are xs [] all = tt
octets_are xs (y ∷ ys) all = (number_from-below xs (8 * y) 8 all, octets_are xs ys all)

spelling_is_bytes : (f : Shape) (P : Params) (sound : List ℕ) → AreBytes (spell f P sound)
unfolding spell octets
spelling_is_bytes f P sound =
    octets_are _ _ (AreBits-append (header_spelling P) (code_spelling (symbols f P sound false)) (AreBits-header P) (AreBits-code (symbols f P sound false)))

stored_from : (f : Shape) (sound a : List ℕ) (list : List Params) → AreBytes a → AreBytes (fold shorter a (map (λ P. spell f P sound) list))
stored_from f sound a [] h = h
stored_from f sound a (P ∷ list) h = stored_from f sound (shorter a (spell f P sound)) list (go (nat_lt (length (spell f P sound)) (length a)))
  where
    go : (b : Bool) → AreBytes (cond b (spell f P sound) a)
    go true = spelling_is_bytes f P sound
    go false = h

pub stored_is_bytes : (f : Shape) (sound : List ℕ) (list : List Params) → AreBytes sound → AreBytes (stored f sound list)
stored_is_bytes f sound list h = stored_from f sound (0 ∷ sound) list (omega arith, h)

-- ---- the pieces of a sound
pub ArePieces : ℕ → List (List ℕ) → Type 0
ArePieces n list = AllByRecursion (λ w. (length w ≡ n) × AreBytes w) list

filled_is : (n : ℕ) (w : List ℕ) → length w ≤ n → AreBytes w → (length (filled n w) ≡ n) × AreBytes (filled n w)
filled_is n w le bytes = (
  omega (arith, le, length-append w (replicate (n - length w) 0x69), length-replicate {A = ℕ} (n - length w) 0x69),
  all_append (λ b. b < 256) w (replicate (n - length w) 0x69) bytes (AreBytes-same (n - length w) 0x69 (omega arith)),
)

pieces_from : (n : ℕ) (sound ks : List ℕ) → AreBytes sound →
    AllByRecursion (λ w. (length w ≡ n) × AreBytes w) (map (λ k. filled n (bytes_at sound (k * n) n)) ks)
pieces_from n sound [] bytes = tt
pieces_from n sound (k ∷ ks) bytes = (
  filled_is n (bytes_at sound (k * n) n) (omega (arith, length-take n (drop (k * n) sound)))
      (AreBytes-take n (drop (k * n) sound) (AreBytes-drop (k * n) sound bytes)),
  pieces_from n sound ks bytes,
)

pub pieces_are : (n : ℕ) (sound : List ℕ) → AreBytes sound → AllByRecursion (λ w. (length w ≡ n) × AreBytes w) (pieces n sound)
unfolding pieces
pieces_are n sound bytes = pieces_from n sound (range_with_len 0 (frames_for n (length sound))) bytes

-- ---- the frames that are stored for pieces
pub record AreStored (f : Shape) (list : List (List ℕ)) (frames : List (List ℕ)) : Type 0 where
  pub count : length frames ≡ length list
  pub short : AreShort (1 + sound_bytes f) frames
  pub bytes : AllByRecursion AreBytes frames
  pub meant : AllZip (Means f) frames list

pub stored_are : (f : Shape) (picks : Picks) (list : List (List ℕ)) → IsShape f →
    ((sound : List ℕ) → IsSound f sound → AllByRecursion (IsParams f.channels) (picks sound f)) →
    AllByRecursion (λ w. (length w ≡ sound_bytes f) × AreBytes w) list →
    AreStored f list (map (λ piece. stored f piece (picks piece f)) list)
stored_are f picks [] shape lawful all = record { count = refl; short = tt; bytes = tt; meant = tt }
stored_are f picks (w ∷ ws) shape lawful all =
    let later = stored_are f picks ws shape lawful all.1 in
    let law = storing_law f (picks w f) w shape (lawful w (record { long = all.0.0; bytes = all.0.1 })) (record { long = all.0.0; bytes = all.0.1 }) in
    record {
      count = omega (arith, later.count);
      short = (law.1, later.short);
      bytes = (stored_is_bytes f w (picks w f) all.0.1, later.bytes);
      meant = (law.0, later.meant);
    }
