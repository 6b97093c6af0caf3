-- What one call of a sink does, as a piece that is added or cut short.
use Rattle.std.proofs.Common.{◌≡◌, ℕ, ◌+◌, ◌≤◌, List, ◌++◌, length, replicate, Option, Result, Ok, Err, arith}
use Rattle.std.specs.Prelude.{MatchResult, OnOk}
use Rattle.std.proofs.lemmas.List.{length-replicate}
use Rattle.dst_streams.specs.Told.{and_then, IsCutShort, IsSure}
use Rattle.dsdiff_chunks.specs.declared.copy.CopyFault.{CopyFault}
use Rattle.dst_commands.specs.Writing.{Adds, Stops}
use Rattle.dst_commands.proofs.Writing.{added, adds_same, adds_then, cut_off, stops_same, stops_then}

pub one_call : {T E : Type 0} (result : Result T E) (piece : List ℕ) (old new : Option (List ℕ)) (room left : Option ℕ) →
    MatchResult result (λ _. new ≡ and_then old piece) (λ _. IsCutShort old piece new) → IsSure room left (length piece) result →
    MatchResult result (λ _. Adds piece old new room left) (λ _. Stops (Unit {0}) piece old new room)
one_call (Ok u) piece old new room left w s = added (Ok u) piece old new room left s w
one_call (Err fault) piece old new room left w s = cut_off fault piece old new room left s w

-- a piece by another name
pub call_same : {T E : Type 0} (result : Result T E) (a b : List ℕ) (old new : Option (List ℕ)) (room left : Option ℕ) → a ≡ b →
    MatchResult result (λ _. Adds a old new room left) (λ _. Stops (Unit {0}) a old new room) →
    MatchResult result (λ _. Adds b old new room left) (λ _. Stops (Unit {0}) b old new room)
call_same (Ok u) a b old new room left e h = adds_same a b old new room left e h
call_same (Err fault) a b old new room left e h = stops_same (Unit {0}) a b old new room e h

-- a piece behind another, by a call whose device is told
pub side_then : {T : Type 0} (result : Result T CopyFault) (a b : List ℕ) (old mid new : Option (List ℕ)) (room half left : Option ℕ) →
    Adds a old mid room half →
    MatchResult result (λ _. Adds b mid new half left) (λ fault. Stops (fault ≡ CopyFault.Write) b mid new half) →
    MatchResult result (λ _. Adds (a ++ b) old new room left) (λ fault. Stops (fault ≡ CopyFault.Write) (a ++ b) old new room)
side_then (Ok u) a b old mid new room half left p q = adds_then a b old mid new room half left p q
side_then (Err fault) a b old mid new room half left p q = stops_then (fault ≡ CopyFault.Write) a b old mid new room half p q

-- what holds of each file that is long enough holds of one
pub some_file : (n : ℕ) (P : Type 0) → ((file : List ℕ) → n ≤ length file → P) → P
some_file n P h = h (replicate n 0) (omega (arith, length-replicate {A = ℕ} n 0))

-- what grew by the length of a piece has grown
pub has_grown : {T E : Type 0} (result : Result T E) (n before now : ℕ) (piece : List ℕ → List ℕ) →
    OnOk result ((file : List ℕ) → n ≤ length file → now ≡ before + length (piece file)) → OnOk result (before ≤ now)
has_grown (Ok u) n before now piece h = some_file n (before ≤ now) (λ file fits. omega (arith, h file fits))
has_grown (Err fault) n before now piece h = h
