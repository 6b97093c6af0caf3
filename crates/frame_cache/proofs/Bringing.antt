-- One frame is wanted: it is held, or it is decoded.
use Rattle.std.proofs.Common.{◌≡◌, ℕ, ◌^◌, ◌<◌, true, false, List, [], ◌∷◌, length, take, is_some, Option, Some, None, refl, sym, ap, subst, ◌∙◌, arith}
use Rattle.std.specs.Global.{Vec}
use Rattle.std.specs.Vec.{with_items}
use Rattle.std.proofs.lemmas.List.{with_items_is}
use Rattle.dst_spec.specs.Means.{Means}
use Rattle.dst_spec.proofs.Lists.{all_take}
use Rattle.dst_streams.specs.Told.{counted}
use Rattle.dsdiff_spec.specs.Walk.{entry}
use Rattle.dsdiff_spec.specs.Ranges.{is_held, decoded_of}
use Rattle.frame_cache.specs.Slots.{HeldSound, held, found, moved}
use Rattle.frame_cache.specs.Reader.{Reader, order, stored_bytes, frame_in, IsSame, HoldsSounds, HoldsTogether}
use Rattle.frame_cache.specs.Reads.{MeanSounds, HasWanted}
use Rattle.frame_cache.proofs.Orders.{held_is_found, frame-found, order-moved, order-taken, all-found, all-moved}

-- a reader that holds something else
pub seen_with : (r : Reader) (n : ℕ) (ks js : List HeldSound) → n ≡ r.capacity → ks ≡ js → record r { capacity = n; held = ks } ≡ record r { held = js }
seen_with r n ks js e f = ap (λ m. record r { capacity = m; held = ks }) e ∙ ap (λ l. record r { held = l }) f

is_same : (r r' : Reader) (ks : List HeldSound) → r' ≡ record r { held = ks } → IsSame r r'
is_same r r' ks e = e ∙ ap (λ l. record r { held = l }) (sym (ap (λ (x : Reader). x.held) e))

-- a frame that is held means a sound
means_held : (file : List ℕ) (r : Reader) (k : ℕ) → is_some (found r.held k) ≡ true → HoldsSounds file r → MeanSounds file r (k ∷ [])
means_held file r k there holds_sounds = go (found r.held k) refl
  where
    go : (o : Option HeldSound) → found r.held k ≡ o → MeanSounds file r (k ∷ [])
    go None is = let none = rw is at there in absurd cc
    go (Some x) is =
        let here = (all-found (λ x. Means r.shape (frame_in file r x.frame) x.sound) r.held k x is holds_sounds).0 in
        ((x.sound, subst (λ j. Means r.shape (frame_in file r j) x.sound) (frame-found r.held k x is) here), tt)

pub wanted_of_held : (r r' : Reader) (k : ℕ) (bytes : Option (List ℕ)) (given : ℕ) → is_some (found r.held k) ≡ true → r' ≡ record r { held = moved r.held k } →
    HasWanted r r' (k ∷ []) 0 bytes given given
wanted_of_held r r' k bytes given there e =
    let one : is_held (order r) k ≡ true = held_is_found r.held k ∙ there in
    let none : decoded_of (order r) (k ∷ []) r.capacity ≡ [] = rw one refl in
    record {
      same = is_same r r' (moved r.held k) e;
      order_is = ap order e ∙ order-moved r.held k r.capacity there;
      decoded_is = sym (ap length none);
      given_is = λ small. let nothing = ap (stored_bytes r) none in omega (arith, nothing);
      holds_sounds = λ file told holds_sounds.
          subst (HoldsSounds file) (sym e) (all-moved (λ x. Means r.shape (frame_in file r x.frame) x.sound) r.held k holds_sounds);
      means = λ file told holds_sounds. means_held file r k there holds_sounds;
    }

pub wanted_of_decoded : (r r' : Reader) (k : ℕ) (sound : List ℕ) (bytes : Option (List ℕ)) (given given' : ℕ) → is_some (found r.held k) ≡ false →
    r' ≡ record r { held = take r.capacity (held k sound ∷ r.held) } → (given < 2 ^ 64 → given' ≡ counted given (entry r.index k).size) →
    ((file : List ℕ) → bytes ≡ Some file → Means r.shape (frame_in file r k) sound) → HasWanted r r' (k ∷ []) 1 bytes given given'
wanted_of_decoded r r' k sound bytes given given' none e gave means =
    let not_there : is_held (order r) k ≡ false = held_is_found r.held k ∙ none in
    let one : decoded_of (order r) (k ∷ []) r.capacity ≡ k ∷ [] = rw not_there refl in
    record {
      same = is_same r r' (take r.capacity (held k sound ∷ r.held)) e;
      order_is = ap order e ∙ order-taken r.held k r.capacity sound none;
      decoded_is = sym (ap length one);
      given_is = λ small. let size = ap (stored_bytes r) one in let more = gave small in omega (arith, size, more);
      holds_sounds = λ file told holds_sounds.
          subst (HoldsSounds file) (sym e)
          (all_take (λ x. Means r.shape (frame_in file r x.frame) x.sound) r.capacity (held k sound ∷ r.held) (means file told, holds_sounds));
      means = λ file told holds_sounds. ((sound, means file told), tt);
    }

-- a frame that isn't held leaves what is held as it is
pub moved_none : (ks : List HeldSound) (k : ℕ) → is_some (found ks k) ≡ false → moved ks k ≡ ks
moved_none ks k none = go (found ks k) refl
  where
    go : (o : Option HeldSound) → found ks k ≡ o → moved ks k ≡ ks
    go None is = rw is refl
    go (Some x) is = let some = rw is at none in absurd cc

-- what holds together still does
pub together_with : (r : Reader) (n : ℕ) (ks : List HeldSound) → n ≡ r.capacity → HoldsTogether r → HoldsTogether (record r { capacity = n; held = ks })
together_with r n ks e h =
    record {
      some = omega (arith, e, h.some);
      few = h.few;
      end_most = h.end_most;
      inside = h.inside;
      short = h.short;
      size_most = h.size_most;
    }

-- a list that is lent whole and comes back as long
pub length-written : (v : Vec ℕ) (lent new : List ℕ) (n : ℕ) → lent ≡ v.items → length lent ≡ v.len → length new ≡ length lent → length v.items ≡ n →
    length (with_items v new).items ≡ n
length-written v lent new n is whole long count =
    ap length (with_items_is v new (long ∙ whole)) ∙ long ∙ ap length is ∙ count
