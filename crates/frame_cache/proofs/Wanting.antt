-- Frames that are wanted in turn, and others behind them.
use Rattle.std.proofs.Common.{◌≡◌, ℕ, ◌+◌, ◌^◌, ◌<◌, List, [], ◌++◌, length, Option, refl, sym, ap, subst, ◌∙◌, arith, length-append}
use Rattle.dst_spec.specs.Means.{Means}
use Rattle.dst_spec.proofs.Lists.{all_append}
use Rattle.dsdiff_spec.specs.Walk.{entry}
use Rattle.dsdiff_spec.specs.Ranges.{keys_after, decoded_of}
use Rattle.frame_cache.specs.Reader.{Reader, order, stored_bytes, frame_in, IsSame}
use Rattle.frame_cache.specs.Reads.{MeanSounds, HasWanted}
use Rattle.frame_cache.proofs.Orders.{keys_after-append, decoded_of-append, sum_of-append}

pub none_wanted : (r : Reader) (bytes : Option (List ℕ)) (given : ℕ) → HasWanted r r [] 0 bytes given given
none_wanted r bytes given =
    record {
      same = refl;
      order_is = refl;
      decoded_is = refl;
      given_is = λ small. omega arith;
      holds_sounds = λ file told held. held;
      means = λ file told held. tt;
    }

same_then : (r r' r'' : Reader) → IsSame r r' → IsSame r' r'' → IsSame r r''
same_then r r' r'' a b = b ∙ ap (λ (x : Reader). record x { held = r''.held }) a

keys_same : (o o' ks : List ℕ) (n n' : ℕ) → o ≡ o' → n ≡ n' → keys_after o ks n ≡ keys_after o' ks n'
keys_same o o' ks n n' e f = ap (λ l. keys_after l ks n) e ∙ ap (keys_after o' ks) f

decoded_same : (o o' ks : List ℕ) (n n' : ℕ) → o ≡ o' → n ≡ n' → decoded_of o ks n ≡ decoded_of o' ks n'
decoded_same o o' ks n n' e f = ap (λ l. decoded_of l ks n) e ∙ ap (decoded_of o' ks) f

pub bytes_same : (r r' : Reader) (ks : List ℕ) → IsSame r r' → stored_bytes r' ks ≡ stored_bytes r ks
bytes_same r r' ks same = ap (λ (x : Reader). stored_bytes x ks) same

pub mean_same : (file : List ℕ) (r r' : Reader) (ks : List ℕ) → IsSame r r' → MeanSounds file r' ks → MeanSounds file r ks
mean_same file r r' ks same h = subst (λ (x : Reader). MeanSounds file x ks) same h

pub wanted_then : (r r' r'' : Reader) (ks js : List ℕ) (n m : ℕ) (bytes : Option (List ℕ)) (g g' g'' : ℕ) →
    HasWanted r r' ks n bytes g g' → HasWanted r' r'' js m bytes g' g'' → HasWanted r r'' (ks ++ js) (n + m) bytes g g''
wanted_then r r' r'' ks js n m bytes g g' g'' a b =
    let o = order r in
    let cap = r.capacity in
    let cap_is : r'.capacity ≡ cap = ap (λ (x : Reader). x.capacity) a.same in
    let here = decoded_of o ks cap in
    let there = decoded_of (keys_after o ks cap) js cap in
    let there_is : decoded_of (order r') js r'.capacity ≡ there = decoded_same (order r') (keys_after o ks cap) js r'.capacity cap a.order_is cap_is in
    let all : decoded_of o (ks ++ js) cap ≡ here ++ there = decoded_of-append o ks js cap in
    record {
      same = same_then r r' r'' a.same b.same;
      order_is = b.order_is ∙ keys_same (order r') (keys_after o ks cap) js r'.capacity cap a.order_is cap_is ∙ sym (keys_after-append o ks js cap);
      decoded_is = omega (arith, a.decoded_is, b.decoded_is, ap length there_is, ap length all, length-append here there);
      given_is = λ small.
          let one = a.given_is small in
          let still : g' < 2 ^ 64 = omega (arith, one) in
          let two = b.given_is still in
          let others : stored_bytes r' (decoded_of (order r') js r'.capacity) ≡ stored_bytes r there =
          bytes_same r r' (decoded_of (order r') js r'.capacity) a.same ∙ ap (stored_bytes r) there_is in
          let whole : stored_bytes r (decoded_of o (ks ++ js) cap) ≡ stored_bytes r here + stored_bytes r there =
          ap (stored_bytes r) all ∙ sum_of-append (λ k. (entry r.index k).size) here there in
          omega (arith, one, two, others, whole);
      holds_sounds = λ file told held. b.holds_sounds file told (a.holds_sounds file told held);
      means = λ file told held.
          all_append (λ k. (sound : List ℕ) × Means r.shape (frame_in file r k) sound) ks js (a.means file told held)
          (mean_same file r r' js a.same (b.means file told (a.holds_sounds file told held)));
    }
