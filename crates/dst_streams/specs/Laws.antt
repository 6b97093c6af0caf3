-- The laws of devices that tell their bytes, and of those that tell nothing.
use Rattle.std.specs.Prelude.{ℕ, ◌≡◌, ◌<◌, ◌≤◌, List, length, drop, Some, None}
use Rattle.std.specs.List.{All, AllByRecursion}
use Rattle.std.proofs.lemmas.List.Elements.{recursion_from_All, All-drop}

-- the number of bytes that are told
pub size_of_both : (bytes xs : List ℕ) (n : ℕ) → Some bytes ≡ Some xs → Some (length bytes) ≡ Some n → n ≡ length xs
size_of_both bytes xs n told known = cc

-- a bound on the length of what is told
pub le_of_both : (n : ℕ) (bytes xs : List ℕ) → n ≤ length bytes → Some bytes ≡ Some xs → n ≤ length xs
le_of_both n bytes xs le told =
    let e : bytes ≡ xs = cc in
    rw e at le

-- what is told of bytes is bytes
pub bytes_of_both : (bytes xs : List ℕ) → All (λ b. b < 256) bytes → Some bytes ≡ Some xs → AllByRecursion (λ b. b < 256) xs
bytes_of_both bytes xs are told =
    let e : bytes ≡ xs = cc in
    recursion_from_All (λ b. b < 256) xs (rw e at are)

-- so is what is told of the end of bytes
pub bytes_of_rest : (place : ℕ) (bytes xs : List ℕ) → All (λ b. b < 256) bytes → Some (drop place bytes) ≡ Some xs → AllByRecursion (λ b. b < 256) xs
bytes_of_rest place bytes xs are told = bytes_of_both (drop place bytes) xs (All-drop (λ b. b < 256) place bytes are) told

-- of a device that tells nothing anything holds of what it tells
pub size_of_untold : (xs : List ℕ) (n : ℕ) → None ≡ Some xs → n ≡ length xs
size_of_untold xs n told = cc

pub le_of_untold : (n : ℕ) (xs : List ℕ) → None ≡ Some xs → n ≤ length xs
le_of_untold n xs told = absurd cc

pub bytes_of_untold : (xs : List ℕ) → None ≡ Some xs → AllByRecursion (λ b. b < 256) xs
bytes_of_untold xs told = absurd cc
