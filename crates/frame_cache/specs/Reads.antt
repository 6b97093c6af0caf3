-- How a read ends.
use Rattle.std.specs.Prelude.{◌≡◌, ℕ, ◌^◌, ◌<◌, false, List, ◌∷◌, ◌++◌, length, Option, Some}
use Rattle.std.specs.List.{AllByRecursion}
use Rattle.dst_spec.specs.Means.{Means}
use Rattle.dst_spec.specs.Offends.{Offends}
use Rattle.dst_spec.specs.declared.faults.FrameFault.{FrameFault}
use Rattle.dst_streams.specs.Told.{counted}
use Rattle.dsdiff_spec.specs.Ranges.{is_held, keys_after, decoded_of}
use Rattle.frame_cache.specs.Reader.{Reader, order, stored_bytes, frame_in, IsSame, HoldsSounds}

-- some frames mean a sound
abbrev pub MeanSounds : List ℕ → Reader → List ℕ → Type 0
MeanSounds file r ks = AllByRecursion (λ k. (sound : List ℕ) × Means r.shape (frame_in file r k) sound) ks

-- Frames were wanted in turn, n of them were decoded, and the source gave their bytes. Where what was held is their sounds in a file,
-- all that were wanted mean sounds, and what is held then is their sounds.
pub record HasWanted (r r' : Reader) (ks : List ℕ) (n : ℕ) (bytes : Option (List ℕ)) (given given' : ℕ) : Type 0 where
  pub same : IsSame r r'
  pub order_is : order r' ≡ keys_after (order r) ks r.capacity
  pub decoded_is : n ≡ length (decoded_of (order r) ks r.capacity)
  pub given_is : given < 2 ^ 64 → given' ≡ counted given (stored_bytes r (decoded_of (order r) ks r.capacity))
  pub holds_sounds : (file : List ℕ) → bytes ≡ Some file → HoldsSounds file r → HoldsSounds file r'
  pub means : (file : List ℕ) → bytes ≡ Some file → HoldsSounds file r → MeanSounds file r ks

-- the order is the one after some of the first frames that were wanted
pub record IsPartWay (r : Reader) (wants new : List ℕ) : Type 0 where
  pub before : List ℕ
  pub behind : List ℕ
  pub parts : wants ≡ before ++ behind
  pub order_is : new ≡ keys_after (order r) before r.capacity

-- frame k isn't held and offends, and the frames that were wanted before it mean sounds
pub record IsRefusedAt (r : Reader) (wants new : List ℕ) (bytes : Option (List ℕ)) (k : ℕ) (fault : FrameFault) : Type 0 where
  pub before : List ℕ
  pub behind : List ℕ
  pub parts : wants ≡ before ++ k ∷ behind
  pub order_is : new ≡ keys_after (order r) before r.capacity
  pub not_held : is_held new k ≡ false
  pub offends : (file : List ℕ) → bytes ≡ Some file → Offends r.shape (frame_in file r k) fault
  pub first : (file : List ℕ) → bytes ≡ Some file → HoldsSounds file r → MeanSounds file r before
