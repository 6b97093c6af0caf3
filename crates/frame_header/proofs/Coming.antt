-- Fields that are read one after the other into a list: what is still to come.
use Rattle.std.proofs.Common.{◌≡◌, ℕ, suc, ◌+◌, ◌-◌, ◌<◌, ◌≤◌, max, List, [], ◌∷◌, ◌++◌, refl, ap, sym, ◌∙◌, arith, append_assoc, append-nil, Result, Ok, Err}
use Rattle.dst_spec.specs.Map.{map_bits}
use Rattle.dst_spec.specs.Fields.{Fields, gives, field, ◌>>=◌, read}
use Rattle.dst_spec.specs.Offends.{times, number_rule, map_number_fields}
use Rattle.dst_spec.specs.declared.faults.FrameFault.{FrameFault}
use Rattle.dst_spec.proofs.Reading.{onward, read-bind}
use Rattle.bit_io.specs.Reading.{Reading, left, HasRead, IsAtFault}
use Rattle.frame_header.specs.Steps.{element_fields}

-- the whole, read from its beginning, gives what was given so far and what the rest gives from here on
abbrev pub ToCome : {A : Type 0} → Fields (List A) → Reading → List A → Fields (List A) → Reading → Type 0
ToCome whole old given rest now = read whole (left old) old.place ≡ onward (λ xs. gives (given ++ xs)) (read rest (left now) now.place)

onward_same : {A : Type 0} (r : Result (List A × List ℕ × ℕ) FrameFault) → r ≡ onward (λ xs. gives ([] ++ xs)) r
unfolding read
onward_same (Ok r) = refl
onward_same (Err e) = refl

pub all_to_come : {A : Type 0} (whole : Fields (List A)) (old : Reading) → ToCome whole old [] whole old
all_to_come whole old = onward_same (read whole (left old) old.place)

pub rest_to_come : {A : Type 0} (given : List A) (rest : Fields (List A)) (old : Reading) → ToCome (rest >>= (λ xs. gives (given ++ xs))) old given rest old
rest_to_come given rest old = read-bind rest (λ xs. gives (given ++ xs)) (left old) old.place

onward_more : {A : Type 0} (given : List A) (x : A) (r : Result (List A × List ℕ × ℕ) FrameFault) →
    onward (λ xs. gives (given ++ xs)) (onward (λ xs. gives (x ∷ xs)) r) ≡ onward (λ xs. gives ((given ++ x ∷ []) ++ xs)) r
unfolding read
onward_more given x (Ok r) = ap (λ ys. Ok (ys, r.1, r.2)) (sym (append_assoc given (x ∷ []) r.0))
onward_more given x (Err e) = refl

pub one_less : {A : Type 0} (whole : Fields (List A)) (old now next : Reading) (given : List A) (m : Fields A) (x : A) (rest : A → Fields (List A)) →
    ToCome whole old given (m >>= (λ y. rest y >>= (λ xs. gives (y ∷ xs)))) now → HasRead m now x next → ToCome whole old (given ++ x ∷ []) (rest x) next
one_less whole old now next given m x rest h g =
    h
    ∙ ap (onward (λ xs. gives (given ++ xs))) (read-bind m (λ y. rest y >>= (λ xs. gives (y ∷ xs))) (left now) now.place
    ∙ ap (onward (λ y. rest y >>= (λ xs. gives (y ∷ xs)))) g ∙ read-bind (rest x) (λ xs. gives (x ∷ xs)) (left next) next.place)
    ∙ onward_more given x (read (rest x) (left next) next.place)

pub fails_here : {A : Type 0} (whole : Fields (List A)) (old now : Reading) (given : List A) (m : Fields A) (f : A → Fields (List A)) (fault : FrameFault) →
    ToCome whole old given (m >>= f) now → IsAtFault m now fault → IsAtFault whole old fault
fails_here whole old now given m f fault h g = h ∙ ap (onward (λ xs. gives (given ++ xs))) (read-bind m f (left now) now.place ∙ ap (onward f) g)

pub none_to_come : {A : Type 0} (whole : Fields (List A)) (old now : Reading) (given : List A) → ToCome whole old given (gives []) now →
    HasRead whole old given now
unfolding read
none_to_come whole old now given h = h ∙ ap (λ ys. Ok (ys, left now, now.place)) (append-nil given)

-- ---- the same part so many times
abbrev pub TimesToCome : {A : Type 0} → Fields A → ℕ → Reading → ℕ → List A → Reading → Type 0
TimesToCome m count old k given now = (n : ℕ) → k + n ≡ count → ToCome (times count m) old given (times n m) now

pub times_start : {A : Type 0} (m : Fields A) (count : ℕ) (old : Reading) → TimesToCome m count old 0 [] old
times_start m count old n e =
    let same : n ≡ count = omega arith in
    rw same (all_to_come (times count m) old)

pub times_more : {A : Type 0} (m : Fields A) (count : ℕ) (old now next : Reading) (k : ℕ) (given : List A) (x : A) →
    TimesToCome m count old k given now → HasRead m now x next → TimesToCome m count old (k + 1) (given ++ x ∷ []) next
unfolding times
times_more m count old now next k given x h g n e = one_less (times count m) old now next given m x (λ y. times n m) (h (suc n) (omega arith)) g

pub times_fail : {A : Type 0} (m : Fields A) (count : ℕ) (old now : Reading) (k : ℕ) (given : List A) (fault : FrameFault) →
    TimesToCome m count old k given now → k < count → IsAtFault m now fault → IsAtFault (times count m) old fault
unfolding times
times_fail m count old now k given fault h some g =
    let n = count - k - 1 in
    fails_here (times count m) old now given m (λ x. times n m >>= (λ xs. gives (x ∷ xs))) fault (h (suc n) (omega arith)) g

pub times_end : {A : Type 0} (m : Fields A) (count : ℕ) (old now : Reading) (k : ℕ) (given : List A) →
    TimesToCome m count old k given now → k ≤ count → count ≤ k → HasRead (times count m) old given now
unfolding times
times_end m count old now k given h most all = none_to_come (times count m) old now given (h 0 (omega arith))

-- ---- the numbers of a map behind its first element
abbrev pub NumbersToCome : ℕ → Reading → ℕ → ℕ → List ℕ → Reading → Type 0
NumbersToCome channels old k count given now = (n : ℕ) → k + n ≡ channels → ToCome (element_fields channels) old given (map_number_fields n count) now

pub numbers_start : (channels : ℕ) (old : Reading) → NumbersToCome channels old 1 1 (0 ∷ []) old
numbers_start channels old n e =
    let same : n ≡ channels - 1 = omega arith in
    rw same (rest_to_come (0 ∷ []) (map_number_fields (channels - 1) 1) old)

pub numbers_more : (channels : ℕ) (old now next : Reading) (k count : ℕ) (given : List ℕ) (x : ℕ) →
    NumbersToCome channels old k count given now → HasRead (field (map_bits count) (number_rule count) gives) now x next →
    NumbersToCome channels old (k + 1) (max count (x + 1)) (given ++ x ∷ []) next
unfolding map_number_fields
numbers_more channels old now next k count given x h g n e =
    one_less (element_fields channels) old now next given (field (map_bits count) (number_rule count) gives) x
    (λ y. map_number_fields n (max count (y + 1))) (h (suc n) (omega arith)) g

pub numbers_fail : (channels : ℕ) (old now : Reading) (k count : ℕ) (given : List ℕ) (fault : FrameFault) →
    NumbersToCome channels old k count given now → k < channels → IsAtFault (field (map_bits count) (number_rule count) gives) now fault →
    IsAtFault (element_fields channels) old fault
unfolding map_number_fields
numbers_fail channels old now k count given fault h some g =
    let n = channels - k - 1 in
    fails_here (element_fields channels) old now given (field (map_bits count) (number_rule count) gives)
    (λ y. map_number_fields n (max count (y + 1)) >>= (λ xs. gives (y ∷ xs))) fault (h (suc n) (omega arith)) g

pub numbers_end : (channels : ℕ) (old now : Reading) (k count : ℕ) (given : List ℕ) →
    NumbersToCome channels old k count given now → k ≤ channels → channels ≤ k → HasRead (element_fields channels) old given now
unfolding map_number_fields
numbers_end channels old now k count given h most all = none_to_come (element_fields channels) old now given (h 0 (omega arith))
